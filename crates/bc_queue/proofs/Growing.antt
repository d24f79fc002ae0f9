-- Accesses one after the other: how the orders grow, and what stays known.
use Rattle.std.proofs.Common.{◌≡◌, ◌≢◌, ℕ, ◌+◌, Bool, cond, List, [], ◌∷◌, ◌++◌, append-nil, sym, ap, subst, ◌∙◌, Option}
use Rattle.std.specs.Prelude.{◌==◌, filter}
use Rattle.std.proofs.Math.Logic.{⊎_elim}
use Rattle.std.proofs.lemmas.Bool.{eq-eqb, ne_eqb, cases_eq}
use Rattle.std.proofs.lemmas.List.Elements.{filter-append}
use Rattle.bc_base.specs.Lists.{list_at}
use Rattle.bc_base.specs.Story.{own, StartsWith}
use Rattle.bc_key.specs.KeyData.{KeyData}
use Rattle.bc_medium.specs.declared.entry.Entry.{Entry}
use Rattle.bc_medium.specs.declared.unit_name.UnitName.{UnitName}
use Rattle.bc_medium.specs.KeyedDisk.{Sectors, UnitAnswer}
use Rattle.bc_medium.specs.Layout.{shard_of}
use Rattle.bc_medium.specs.Entries.{caller_of, IsToldAt}
use Rattle.bc_medium.specs.Growth.{Appended, lies_in, Grows}
use Rattle.bc_medium.specs.Laws.{AnswersStay}
use Rattle.bc_medium.proofs.Growing.{begins_itself, begins_trans}

module _ (shards caller : ℕ) where
  -- one access
  pub grows_one : (shard : ℕ) (old new : List (List Entry)) (before : List Entry) (e : Entry) → Appended caller shard old new before e → caller_of e ≡ caller → shard_of shards e.at.sector ≡ shard
      → Grows shards caller old new (e ∷ [])
  grows_one shard old new before e is by lies = record {
    fronts = λ other. ⊎_elim
        (λ (same : other ≡ shard). subst (λ n. StartsWith (list_at new n) (list_at old n)) (sym same)
        (begins_trans (list_at old shard) before (list_at new shard) is.begins (e ∷ [], is.ends)))
        (λ (ne : other ≢ shard). subst (λ l. StartsWith l (list_at old other)) (sym (is.elsewhere other ne)) (begins_itself (list_at old other)))
        (cases_eq other shard);
    own_entries = λ other within. ⊎_elim
        (λ (same : other ≡ shard). subst (λ n. own caller_of caller (list_at new n) ≡ own caller_of caller (list_at old n) ++ filter (lies_in shards n) (e ∷ [])) (sym same)
        (ap (own caller_of caller) is.ends
        ∙ filter-append (λ x. caller_of x == caller) before (e ∷ [])
        ∙ ap (λ l. l ++ filter (λ x. caller_of x == caller) (e ∷ [])) is.own_before
        ∙ ap (λ (b : Bool). own caller_of caller (list_at old shard) ++ cond b (e ∷ []) []) (eq-eqb (caller_of e) caller by ∙ sym (eq-eqb (shard_of shards e.at.sector) shard lies))))
        (λ (ne : other ≢ shard).
        ap (own caller_of caller) (is.elsewhere other ne)
        ∙ sym (append-nil (own caller_of caller (list_at old other)))
        ∙ ap (λ (b : Bool). own caller_of caller (list_at old other) ++ cond b (e ∷ []) []) (sym (ne_eqb (shard_of shards e.at.sector) other (λ same. ne (sym same ∙ lies)))))
        (cases_eq other shard);
  }

-- what was answered at a place is answered there along each longer order
pub told_more : AnswersStay → (keys : List KeyData) (contents : Option Sectors) (order longer : List Entry) (place : ℕ) (name : UnitName) (answer : UnitAnswer) → StartsWith longer order → IsToldAt keys contents order place name answer → IsToldAt keys contents longer place name answer
told_more stay keys contents order longer place name answer begins told =
    subst (λ l. IsToldAt keys contents l place name answer) (sym begins.1) (stay keys contents order begins.0 place name answer told)
