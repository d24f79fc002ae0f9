use Rattle.std.proofs.Common.{◌≡◌, ℕ, ◌≤◌, List, length, Option, Some, None, refl, sym, ap, subst, ◌∙◌, arith}
use Rattle.std.specs.Option.{option_map}
use Rattle.std.proofs.lemmas.Option.{none-some, same_Some}
use Rattle.std.proofs.lemmas.List.Quantifiers.{position-Some}
use Rattle.bc_key.specs.declared.config.Mode.TheVariants.{Aes256Xts}
use Rattle.bc_key.specs.KeyData.{KeyData, IsValid}
use Rattle.bc_modes.specs.Capabilities.{Capabilities, index_for, serves}
use Rattle.bc_modes.specs.Entries.{words_of_bytes, entry_bytes, entry_words}
use Rattle.bc_modes.specs.Laws.{IsEntryOfKey}
use Rattle.bc_modes.proofs.EntryLaws.{reads_back}
use Rattle.bc_modes.proofs.laws.entry_laws.Goals as goal

read_back : (key : KeyData) (caps : Capabilities) (words : List ℕ) → IsValid key.config key.raw → length caps.list ≤ 2
    → entry_words key caps ≡ Some words → IsEntryOfKey key caps words
unfolding entry_words
read_back key caps words valid few is = of_index (index_for caps key.config.mode key.config.unit) refl is
  where
    of_index : (index : Option ℕ) → index_for caps key.config.mode key.config.unit ≡ index
        → option_map (λ i. words_of_bytes (entry_bytes key i)) index ≡ Some words → IsEntryOfKey key caps words
    of_index None at none = absurd (none-some words none)
    of_index (Some index) at some =
        let first = position-Some (serves key.config.mode key.config.unit) caps.list index (record { mode = Aes256Xts; units = 0 }) at in
        let words_are : words_of_bytes (entry_bytes key index) ≡ words = same_Some (words_of_bytes (entry_bytes key index)) words some in
        subst (IsEntryOfKey key caps) words_are (record { count = refl; read = reads_back key caps index valid (omega (arith, first.0)) at })

pub returns : goal.returns
returns c = record { read_back = read_back }
