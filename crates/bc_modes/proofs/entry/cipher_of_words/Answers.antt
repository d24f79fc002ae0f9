use Rattle.std.proofs.Common.{ℕ, List, ap, ◌∙◌}
use Rattle.bc_modes.specs.Entries.{read_bytes, read_words}
use Rattle.bc_modes.proofs.entry.cipher_of_words.Goals as goal

pub returns-clause-reads : goal.returns-clause-reads
unfolding read_words
returns-clause-reads c =
    c.cipher_of_bytes.ensures ∙ ap (λ (bytes : List ℕ). read_bytes bytes c.args.caps.now) c.bytes_of_words.ensures
