use Rattle.std.proofs.Common.{List, [], ◌∷◌, ◌++◌, ap, ◌∙◌}
use Rattle.bc_script.specs.declared.named_key.NamedKey.{NamedKey}
use Rattle.bc_script.specs.NamedKeys.{IsNoName}
use Rattle.bc_script.proofs.NamedKeys.{index_kept, index_more}
use Rattle.bc_script.proofs.named_keys.NamedKeys.add.Goals as goal

pub invariant_of-self-in_err-insert : goal.invariant_of-self-in_err-insert
invariant_of-self-in_err-insert c =
    index_kept c.self.inside.keys.items c.reserve.new.self.items c.self.inside.numbers c.insert.new.self c.self.invariant c.reserve.ensures.items c.in_err-insert.ensures.err

pub invariant_of-self-2 : goal.invariant_of-self-2
invariant_of-self-2 c =
    let keys = c.self.inside.keys.items in
    let named = c.args.named in
    let copied = c.in_ok-name.ensures.items_if_clones_equal (λ x y e. e) ∙ c.as_bytes.ensures.value in
    let fresh : IsNoName keys named.name = rw c.self.view_is c.requires.fresh in
    rw (c.in-Ok.ensures.items ∙ ap (λ (l : List NamedKey). l ++ named ∷ []) c.reserve.ensures.items)
    (index_more keys named _ c.self.inside.numbers c.insert.new.self c.self.invariant (c.len.ensures ∙ c.self.inside.keys.ok.0) fresh c.in_ok-name.name.items copied c.in_ok-insert.ensures.updates)
