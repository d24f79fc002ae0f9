use Rattle.std.proofs.Common.{rules, ◌≡◌, ℕ, ◌+◌, ◌<◌, List, refl, subst, sym, ap, ◌∙◌, arith}
use Rattle.bc_key.specs.KeyData.{KeyData}
use Rattle.bc_queue.specs.Carrying.{IsPerformableUnit}
use Rattle.bc_queue.specs.OrderOnly.{ArePlain}
use Rattle.bc_queue.proofs.OrderOnly.{performable, spare_for_all}
use Rattle.bc_queue.proofs.carry_out_tests.carried_out.Goals as goal

pub carry_out-requires-clause-units : goal.carry_out-requires-clause-units
carry_out-requires-clause-units c n from below =
    let plain : ArePlain c.join-2.new.request.bios = search rules in
    subst (λ (ks : List KeyData). IsPerformableUnit ks (λ sector context. context ≡ Rattle.std.proofs.Common.None) c.join-2.new.request.bios n) (sym c.new-keys.ensures) (performable c.join-2.new.request.bios n plain (omega (arith, below, c.units-units.ensures)))

pub carry_out-requires-clause-spare : goal.carry_out-requires-clause-spare
carry_out-requires-clause-spare c shard =
    let room : c.units-units.result ≡ c.in_ok-disk.disk.spare = sym c.in_ok-disk.ensures in
    spare_for_all c.join-2.new.request.bios c.units-units.result c.in_ok-disk.disk.spare shard (omega (arith, room)) c.units-units.type_inv
