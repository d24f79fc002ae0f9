use Rattle.std.proofs.Common.{◌≡◌, ◌-◌, List, length, true, ◌∙◌, ap, subst, sym, arith}
use Rattle.std.specs.List.{AllByRecursion}
use Rattle.bc_bio.specs.declared.marked_bio.MarkedBio.{MarkedBio}
use Rattle.bc_bio.specs.Chunks.{joins_last}
use Rattle.bc_bio.specs.Conditions.{IsPlaced}
use Rattle.bc_bio.specs.Windows.{TaggedBio, joins}
use Rattle.bc_bio.specs.Requests.{RequestParts, tagged_bios, tagged_of}
use Rattle.bc_bio.proofs.RequestLaws.{placed_at, joined_at, fits_behind, length-tagged_bios, request_with}
use Rattle.bc_bio.proofs.request.Request.push_back.Goals as goal

pub back_runs_on-requires-clause-first : goal.back_runs_on-requires-clause-first
back_runs_on-requires-clause-first c =
    let same = ap (λ (p : RequestParts). p.bios) c.self.view_is in
    let some = ap length same in
    placed_at c.args.keys.now.keys c.self.inside.bios.items (c.len.result - 1) c.index-last.result.now
    (subst (λ (bs : List MarkedBio). AllByRecursion (λ (tagged : TaggedBio). IsPlaced c.args.keys.now.keys tagged.bio) (tagged_bios bs)) (sym same) c.requires.request.placed) (omega (arith, some)) c.index-last.ensures

pub returns-then-not-back_runs_on-clause-joins : goal.returns-then-not-back_runs_on-clause-joins
returns-then-not-back_runs_on-clause-joins c =
    let same = ap (λ (p : RequestParts). p.bios) c.self.view_is in
    let some = ap length same in
    sym c.if-not-back_runs_on.true ∙ c.back_runs_on.ensures.runs_on
    ∙ sym (joined_at c.args.keys.now.keys c.self.inside.bios.items c.args.bio (c.len.result - 1) c.index-last.result.now (omega (arith, some)) c.index-last.ensures)
    ∙ ap (λ (bs : List MarkedBio). joins_last (joins c.args.keys.now.keys) (tagged_bios bs) (tagged_of c.args.bio)) same

pub append-requires-clause-fits : goal.append-requires-clause-fits
append-requires-clause-fits c =
    let same = ap (λ (p : RequestParts). p.bios) c.self.view_is in
    let some = ap length same in
    let joined : joins_last (joins c.args.keys.now.keys) (tagged_bios c.args.self.now.bios) (tagged_of c.args.bio) ≡ true =
    sym (ap (λ (bs : List MarkedBio). joins_last (joins c.args.keys.now.keys) (tagged_bios bs) (tagged_of c.args.bio)) same)
    ∙ joined_at c.args.keys.now.keys c.self.inside.bios.items c.args.bio (c.len.result - 1) c.index-last.result.now (omega (arith, some)) c.index-last.ensures
    ∙ sym c.back_runs_on.ensures.runs_on ∙ c.if-not-back_runs_on.false in
    let len = length-tagged_bios c.args.self.now.bios in
    fits_behind c.args.keys.now.keys (tagged_bios c.args.self.now.bios) (tagged_of c.args.bio) (omega (arith, len)) c.requires.request.joined joined c.requires.placed

pub returns-clause-joins : goal.returns-clause-joins
returns-clause-joins c =
    let same = ap (λ (p : RequestParts). p.bios) c.self.view_is in
    let some = ap length same in
    sym c.if-not-back_runs_on.false ∙ c.back_runs_on.ensures.runs_on
    ∙ sym (joined_at c.args.keys.now.keys c.self.inside.bios.items c.args.bio (c.len.result - 1) c.index-last.result.now (omega (arith, some)) c.index-last.ensures)
    ∙ ap (λ (bs : List MarkedBio). joins_last (joins c.args.keys.now.keys) (tagged_bios bs) (tagged_of c.args.bio)) same

pub returns-clause-still : goal.returns-clause-still
returns-clause-still c =
    let same = ap (λ (p : RequestParts). p.bios) c.self.view_is in
    let some = ap length same in
    let joined : joins_last (joins c.args.keys.now.keys) (tagged_bios c.args.self.now.bios) (tagged_of c.args.bio) ≡ true =
    sym (ap (λ (bs : List MarkedBio). joins_last (joins c.args.keys.now.keys) (tagged_bios bs) (tagged_of c.args.bio)) same)
    ∙ joined_at c.args.keys.now.keys c.self.inside.bios.items c.args.bio (c.len.result - 1) c.index-last.result.now (omega (arith, some)) c.index-last.ensures
    ∙ sym c.back_runs_on.ensures.runs_on ∙ c.if-not-back_runs_on.false in
    rw c.append.ensures (request_with c.args.keys.now.keys c.args.self.now.bios c.args.bio c.requires.request joined c.requires.placed)
