-- What the words that were loaded mean.
use Rattle.std.proofs.Common.{◌≡◌, ℕ, ◌≤◌, List, length, Option, Some, None, Result, Ok, refl, sym, ap, ◌∙◌}
use Rattle.std.specs.Prelude.{IsSomeAnd}
use Rattle.std.specs.Result.{result_ok}
use Rattle.std.proofs.lemmas.Option.{same_Some}
use Rattle.bc_key.specs.KeyData.{KeyData, IsValid}
use Rattle.bc_modes.specs.declared.ufs_caps.Capability.{Capability}
use Rattle.bc_modes.specs.Capabilities.{Capabilities}
use Rattle.bc_modes.specs.Entries.{entry_words, read_words}
use Rattle.bc_modes.specs.UnitCipher.{CipherParts, parts_of}
use Rattle.bc_modes.specs.Laws.{EntriesReadBack}
use Rattle.bc_ufs.specs.Controllers.{with_list}

-- two results that are Ok of one value
pub same_Ok : {E : Type 0} (x y : CipherParts) → (one other : Result CipherParts E) → one ≡ Ok x → other ≡ Ok y → one ≡ other → x ≡ y
same_Ok {E} x y one other first second same = same_Some x y (sym (ap (λ (r : Result CipherParts E). result_ok r) first) ∙ ap (λ (r : Result CipherParts E). result_ok r) (same ∙ second))

-- what words mean depends on the list of the capabilities alone
pub by_list : (caps : Capabilities) (words : List ℕ) → read_words words (with_list caps.list) ≡ read_words words caps
unfolding read_words
by_list caps words = refl

-- a cipher that is what the words of the key's entry mean is the key's
pub known : (caps : Capabilities) (key : KeyData) (row words : List ℕ) (last : Option CipherParts) → EntriesReadBack → IsValid key.config key.raw → length caps.list ≤ 2
    → entry_words key caps ≡ Some row → words ≡ row → IsSomeAnd last (λ parts. read_words words caps ≡ Ok parts) → IsSomeAnd last (λ parts. parts ≡ parts_of key)
known caps key row words None laws valid few entry is means = absurd means
known caps key row words (Some parts) laws valid few entry is means =
    same_Ok parts (parts_of key) (read_words words caps) (read_words row caps) means (laws key caps row valid few entry).read (ap (λ (w : List ℕ). read_words w caps) is)

-- words that are still those mean the same to a controller with the same capabilities
pub still_means : (caps : Capabilities) (list : List Capability) (kept words : List ℕ) (parts : CipherParts) → read_words kept (with_list list) ≡ Ok parts → kept ≡ words → list ≡ caps.list → read_words words caps ≡ Ok parts
still_means caps list kept words parts means same same_list =
    sym (by_list caps words) ∙ ap (λ (l : List Capability). read_words words (with_list l)) (sym same_list) ∙ ap (λ (w : List ℕ). read_words w (with_list list)) (sym same) ∙ means
