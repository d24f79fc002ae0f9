use Rattle.std.proofs.Common.{◌∙◌, ℕ, ◌<◌, List, length, rules, sym, ap, subst, Option, Some}
use Rattle.bc_base.specs.Lists.{At}
use Rattle.bc_threads.specs.declared.outcome.Outcome.{Outcome}
use Rattle.bc_threads.specs.Jobs.{MayWork}
use Rattle.bc_threads.proofs.Outcomes.{all_there}
use Rattle.bc_threads.proofs.Worked.{can_carry_out, gives_back}
use Rattle.bc_threads.proofs.working.work.Goals as goal

pub carry_out_on-requires : goal.carry_out_on-requires
carry_out_on-requires g c =
    let s = c.section.inside in let is = c.section.invariant in
    let may = subst (MayWork g.S.Store.contents c.args.disk.now c.args.pass.now) (sym c.section.view_is) c.requires.may in
    record {
      may = may;
      within = is.within;
      afforded = can_carry_out g.S.Store.contents s.script.now s.thread c.args.disk.now c.args.pass.now may s.bios.items s.plug s.replies.items _ s.noted.items s.outcomes.items _ is;
      long = ap length c.as_mut_slice-answers.ensures.value ∙ is.long;
    }

pub take_out-requires-clause-told : goal.take_out-requires-clause-told
take_out-requires-clause-told g c =
    let d = c.carry_out_on.ensures.worked in
    subst (λ (l : List (Option Outcome)). (k : ℕ) → k < length l → (x : Outcome) × At l k (Some x)) (sym d.1) (all_there d.0)

pub returns : goal.returns
returns g c =
    let s = c.section.inside in let d = c.carry_out_on.ensures.worked in
    let may = subst (MayWork g.S.Store.contents c.args.disk.now c.args.pass.now) (sym c.section.view_is) c.requires.may in
    record {
      worked = gives_back g.S.Store.contents s.script.now s.thread c.args.disk.now c.args.pass.now may c.args.section (sym c.section.view_is) c.carry_out_on.new.device.pass.now _ d.0 c.take_out.new.outcomes.items c.carry_out_on.new.answers
          d.1 c.take_out.ensures (search rules) d.2;
    }
