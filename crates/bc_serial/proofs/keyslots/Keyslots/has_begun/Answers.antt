use Rattle.std.proofs.Common.{◌∙◌, sym, subst}
use Rattle.std.proofs.lemmas.List.{length-map}
use Rattle.bc_serial.specs.Keyslots.{KeyslotsData, journal_in}
use Rattle.bc_serial.specs.Standing.{HasBegun}
use Rattle.bc_serial.proofs.keyslots.Keyslots.has_begun.Goals as goal

pub returns : goal.returns
returns c =
    let s = c.self.inside in
    subst (λ (k : KeyslotsData). HasBegun k.begun k.journals) c.self.view_is (record {
      count = length-map s.begun.value.items journal_in ∙ c.self.invariant.begun_count ∙ sym (length-map s.devices.items journal_in);
      each = c.self.invariant.begins;
    })
