-- Registers that are written slot by slot.
use Rattle.std.proofs.Common.{◌≡◌, ℕ, ◌<◌, ◌≤◌, List, length, map, get_or, sym, ◌∙◌, None, Option}
use Rattle.std.proofs.Math.Logic.{⊎_elim}
use Rattle.std.proofs.lemmas.Bool.{cases_lt}
use Rattle.std.proofs.lemmas.List.{same_lists, get_or-map, get_or_past, get_or_default, length-map}
use Rattle.bc_profile.specs.Rows.{cleared, row_of}

-- registers that are clear throughout
pub all_clear : (registers : List (List ℕ)) → ((k : ℕ) → k < length registers → get_or registers k cleared ≡ cleared) → (k : ℕ) → get_or registers k cleared ≡ cleared
all_clear registers each k =
    ⊎_elim
    (λ (inside : k < length registers). each k inside)
    (λ (past : length registers ≤ k). get_or_past registers k cleared past)
    (cases_lt k (length registers))

-- registers that have each slot's row have all of them
pub all_written : (rows registers : List (List ℕ)) (keys : List (Option ℕ)) → length registers ≡ length keys
    → ((k : ℕ) → k < length keys → get_or registers k cleared ≡ row_of rows (get_or keys k None))
    → registers ≡ map (row_of rows) keys
all_written rows registers keys many each =
    same_lists registers (map (row_of rows) keys) (many ∙ sym (length-map keys (row_of rows)))
    (λ k d inside.
    let within : k < length keys = rw (sym many) inside in
    get_or_default registers k d cleared inside ∙ each k within ∙ sym (get_or-map (row_of rows) keys k None d within))
