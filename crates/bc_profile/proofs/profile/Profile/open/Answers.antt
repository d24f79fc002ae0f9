use Rattle.std.proofs.Common.{◌≡◌, ◌∙◌, length, map, sym, ap, subst, arith}
use Rattle.std.specs.List.{range_with_len}
use Rattle.std.proofs.lemmas.List.{length-map}
use Rattle.bc_base.specs.Lists.{Each}
use Rattle.bc_profile.specs.Passes.{HasOneAtRest, IsFree, ProfileData, new_pass, pass_of}
use Rattle.bc_profile.proofs.TableOpening.{range_length}
use Rattle.bc_profile.proofs.ProfileLemmas.{new_are_free, new_at_rest, new_passes, one_cell}
use Rattle.bc_profile.proofs.profile.Profile.open.Goals as goal

pub seat-requires-clause-rest : goal.seat-requires-clause-rest
seat-requires-clause-rest c =
    subst (Each HasOneAtRest) (sym c.in_ok-turns.ensures.passes)
    (new_at_rest c.in_ok-turns.turns.cells (one_cell c.in_ok-turns.turns.cells c.push.new.self.items c.new-values.result.items _ c.in_ok-turns.ensures.bases c.in_ok-push.ensures.items c.new-values.ensures.items) _)

pub seat-requires-clause-room : goal.seat-requires-clause-room
seat-requires-clause-room c =
    let many = ap length c.in_ok-turns.ensures.passes ∙ length-map _ _ ∙ range_length 0 _ in
    let callers : c.len-callers.result ≡ length c.args.quotas.items = c.len-callers.ensures ∙ c.args.quotas.ok.0 in
    let room = c.in_ok-passes.ensures.capacity in
    let len : c.len.result ≡ length c.args.quotas.items = c.len.ensures ∙ c.args.quotas.ok.0 in omega (arith, many, callers, room, len)

pub returns-clause-passes : goal.returns-clause-passes
returns-clause-passes c =
    let callers : c.len-callers.result ≡ length c.args.quotas.items = c.len-callers.ensures ∙ c.args.quotas.ok.0 in
    let t : ProfileData = record { turns = c.in_ok-turns.turns; rows = c.args.rows.items } in
    c.seat.ensures ∙ ap (map pass_of) c.in_ok-turns.ensures.passes ∙ new_passes t (range_with_len 0 c.len-callers.result) ∙ ap (λ n. map (new_pass t) (range_with_len 0 n)) callers

pub returns-clause-are_of : goal.returns-clause-are_of
returns-clause-are_of c =
    let callers : c.len-callers.result ≡ length c.args.quotas.items = c.len-callers.ensures ∙ c.args.quotas.ok.0 in
    let t : ProfileData = record { turns = c.in_ok-turns.turns; rows = c.args.rows.items } in
    subst (Each (IsFree t)) (sym (c.seat.ensures ∙ ap (map pass_of) c.in_ok-turns.ensures.passes ∙ new_passes t (range_with_len 0 c.len-callers.result)))
    (new_are_free t 0 c.len-callers.result (let n = c.in_ok-turns.ensures.callers in omega (arith, n)))
