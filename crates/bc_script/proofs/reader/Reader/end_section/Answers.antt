use Rattle.std.proofs.Common.{◌≡◌, ◌∙◌, ◌++◌, Bool, true, subst, sym, ap, arith}
use Rattle.bc_script.specs.Order.{may_follow}
use Rattle.bc_script.specs.Progress.{Progress, with_section}
use Rattle.bc_script.specs.Statements.{PlugsAreClosed, CoverDisk, HasRoomFor}
use Rattle.bc_script.specs.Reading.{left_section}
use Rattle.bc_script.proofs.Readings.{few_lines, reading_ended, none_left}
use Rattle.bc_script.proofs.reader.Reader.end_section.Goals as goal

pub overflow_add-self : goal.overflow_add-self
overflow_add-self c = omega (arith, few_lines _ c.self.inside.lines c.self.inside.ops c.self.inside.units c.self.inside.plugged c.self.invariant)

pub invariant_of-self-2 : goal.invariant_of-self-2
invariant_of-self-2 c =
    let here = c.self.inside in
    let back = sym c.self.view_is in
    let follows = subst (λ (p : Progress). may_follow p.last c.args.sort ≡ true) back c.requires.follows in
    let closed = subst (λ (p : Progress). PlugsAreClosed p) back c.requires.closed in
    let whole = subst (λ (p : Progress). CoverDisk p) back c.requires.whole in
    let room = subst (λ (p : Progress). HasRoomFor p c.args.sort) back c.requires.room in
    rw (
      c.in_ok-put_section.ensures.ended ∙ ap (λ (b : Bool). here.threads.items ++ with_section b here.section.items) c.is_in_section-inside.ensures,
      c.in_ok-put_section.ensures.begun ∙ ap (λ (b : Bool). left_section b here.section.items) c.is_in_section-inside.ensures ∙ none_left _ c.self.invariant.rules,
    )
    (reading_ended _ here.lines here.ops here.units here.plugged c.self.invariant c.args.sort c.requires.sort follows closed whole room)
