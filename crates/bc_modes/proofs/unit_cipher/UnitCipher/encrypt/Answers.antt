use Rattle.std.proofs.Common.{◌≡◌, length, ◌∙◌, sym, ap, subst}
use Rattle.bc_key.specs.KeyData.{key_size}
use Rattle.bc_modes.specs.declared.unit_cipher.Schedules.{Schedules}
use Rattle.bc_modes.specs.Schedules.{mode_of_schedules, raw_of}
use Rattle.bc_modes.specs.UnitCipher.{CipherParts, encipher_unit}
use Rattle.bc_modes.proofs.unit_cipher.UnitCipher.encrypt.Goals as goal

pub returns-in-Xts : goal.returns-in-Xts
unfolding encipher_unit
returns-in-Xts c =
    let dun = c.args.dun.now in
    let text = c.args.text.now in
    record {
      size = subst (λ (parts : CipherParts). length parts.raw ≡ key_size parts.mode) c.self.view_is c.self.invariant;
      enciphers =
          c.encrypt.ensures ∙ ap (λ (s : Schedules). encipher_unit (mode_of_schedules s) (raw_of s) dun text) (sym c.in-Xts.is)
          ∙ ap (λ (parts : CipherParts). encipher_unit parts.mode parts.raw dun text) c.self.view_is;
    }

pub returns-in-Essiv : goal.returns-in-Essiv
unfolding encipher_unit
returns-in-Essiv c =
    let dun = c.args.dun.now in
    let text = c.args.text.now in
    record {
      size = subst (λ (parts : CipherParts). length parts.raw ≡ key_size parts.mode) c.self.view_is c.self.invariant;
      enciphers =
          c.encrypt-in-Essiv.ensures ∙ ap (λ (s : Schedules). encipher_unit (mode_of_schedules s) (raw_of s) dun text) (sym c.in-Essiv.is)
          ∙ ap (λ (parts : CipherParts). encipher_unit parts.mode parts.raw dun text) c.self.view_is;
    }
