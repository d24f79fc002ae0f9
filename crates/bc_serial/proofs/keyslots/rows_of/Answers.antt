use Rattle.std.proofs.Common.{◌∙◌, map, sym, ap, arith}
use Rattle.std.proofs.lemmas.List.{take_all}
use Rattle.bc_script.specs.declared.named_key.NamedKey.{NamedKey}
use Rattle.bc_serial.specs.Keyslots.{row_of_key}
use Rattle.bc_serial.proofs.keyslots.rows_of.Goals as goal
use Rattle.bc_base.proofs.Members.{map-map}

pub returns : goal.returns
returns c =
    c.loop-one.invariant
    ∙ ap (map (λ (one : NamedKey). row_of_key c.args.caps.now one.key)) (take_all c.loop-one.one-index c.args.named.now (omega (arith, c.loop-one-test.false, c.loop-one.auto.one-index-end)))
    ∙ sym (map-map (λ (one : NamedKey). one.key) (row_of_key c.args.caps.now) c.args.named.now)
