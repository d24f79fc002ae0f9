use Rattle.std.proofs.Common.{List, sym, ap, ◌∙◌}
use Rattle.bc_modes.specs.declared.ufs_caps.Capability.{Capability}
use Rattle.bc_modes.specs.Entries.{read_words}
use Rattle.bc_ufs.specs.Controllers.{with_list}
use Rattle.bc_ufs.proofs.Loaded.{by_list}
use Rattle.bc_ufs.proofs.last_cipher.LastCipher.of_words.Goals as goal

pub invariant_of-result : goal.invariant_of-result
invariant_of-result c =
    ap (λ (l : List Capability). read_words c.args.words (with_list l)) (c.listed.ensures ∙ c.capabilities.ensures.list) ∙ by_list c.args.caps.now c.args.words ∙ sym c.cipher_of_words.ensures.reads ∙ c.in-Ok.is
