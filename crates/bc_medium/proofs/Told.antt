-- What is reported along an order, and that it stays.
use Rattle.std.proofs.Common.{◌≡◌, ℕ, ◌/◌, ◌*◌, zero, suc, List, [], ◌∷◌, ◌++◌, length, set, Option, Some, None, refl, sym, ap, ◌∙◌, subst, arith}
use Rattle.std.specs.Prelude.{IfSome, slice_get}
use Rattle.std.proofs.lemmas.Option.{none-some}
use Rattle.bc_base.specs.declared.place.Place.{Place}
use Rattle.bc_base.specs.Lists.{Each, At, list_at}
use Rattle.bc_base.specs.Story.{StartsWith}
use Rattle.bc_base.proofs.Lists.{each_at, all_at, each_both}
use Rattle.bc_key.specs.KeyData.{KeyData}
use Rattle.bc_bio.specs.Extent.{unit_sectors}
use Rattle.bc_bio.specs.PlannedUnit.{PlannedUnit}
use Rattle.bc_medium.specs.declared.via.Via.{Via}
use Rattle.bc_medium.specs.declared.entry.Entry.{Entry}
use Rattle.bc_medium.specs.declared.unit_at.UnitAt.{UnitAt}
use Rattle.bc_medium.specs.declared.unit_name.UnitName.{UnitName}
use Rattle.bc_medium.specs.Layout.{shard_of}
use Rattle.bc_medium.specs.KeyedDisk.{Sectors, UnitAnswer, Text, deciphered, bytes_at}
use Rattle.bc_medium.specs.LawfulOrders.{unit_name_of}
use Rattle.bc_medium.specs.Entries.{name_of_entry, read_entry, performed_by, left_by, told_by, IsToldAt, Stand}
use Rattle.bc_medium.specs.Growth.{Knows}
use Rattle.bc_medium.specs.ShardOrder.{ShardData, Appends, HasKeys, Leaves, IsOrder}
use Rattle.bc_medium.specs.Shards.{HaveKeys, Answers, AllLeft}
use Rattle.bc_medium.proofs.Orders.{known_leaves}
use Rattle.bc_base.proofs.Members.{at_set}

pub told_append : (keys : List KeyData) (disk : Sectors) (es more : List Entry) → told_by keys disk (es ++ more) ≡ told_by keys disk es ++ told_by keys (left_by keys disk es) more
told_append keys disk [] more = refl
told_append keys disk (e ∷ es) more =
    ap (λ (l : List (UnitName × UnitAnswer)). (name_of_entry e, (performed_by keys disk e).answer) ∷ l) (told_append keys (performed_by keys disk e).disk es more)

get_append : {A : Type 0} (xs ys : List A) (place : ℕ) (x : A) → At xs place x → At (xs ++ ys) place x
get_append [] ys place x at = absurd (none-some x at)
get_append (z ∷ xs) ys zero x at = at
get_append (z ∷ xs) ys (suc place) x at = get_append xs ys place x at

told_last : (keys : List KeyData) (disk : Sectors) (before : List Entry) (e : Entry) → slice_get (told_by keys disk (before ++ e ∷ [])) (length before) ≡ Some (name_of_entry e, (performed_by keys (left_by keys disk before) e).answer)
told_last keys disk [] e = refl
told_last keys disk (x ∷ before) e = told_last keys (performed_by keys disk x).disk before e

-- ---- what is reported stays reported

pub answers_stay : (keys : List KeyData) (contents : Option Sectors) (order more : List Entry) (place : ℕ) (name : UnitName) (answer : UnitAnswer) → IsToldAt keys contents order place name answer → IsToldAt keys contents (order ++ more) place name answer
answers_stay keys None order more place name answer told = tt
answers_stay keys (Some disk) order more place name answer told =
    subst (λ l. slice_get l place ≡ Some (name, answer)) (sym (told_append keys disk order more))
    (get_append (told_by keys disk order) (told_by keys (left_by keys disk order) more) place (name, answer) told)

pub known_stays : (keys : List KeyData) (shards : ℕ) (base : ℕ → Sectors) (thread : ℕ) (old new : List (List Entry)) (u : PlannedUnit) (answer : UnitAnswer)
    → ((shard : ℕ) → StartsWith (list_at new shard) (list_at old shard)) → Knows keys shards base thread old u answer → Knows keys shards base thread new u answer
known_stays keys shards base thread old new u answer fronts knows =
    let s = shard_of shards u.sector in let begins = fronts s in (
      knows.0,
      subst (λ order. IsToldAt keys (Some (base s)) order knows.0 (unit_name_of thread u) answer) (sym begins.1)
          (answers_stay keys (Some (base s)) (list_at old s) begins.0 knows.0 (unit_name_of thread u) answer knows.1),
    )

-- ---- what one entry is answered

pub told_one : (keys : List KeyData) (contents : Option Sectors) (before after : List Entry) (e : Entry) (place : ℕ) (answer : UnitAnswer) → after ≡ before ++ e ∷ [] → place ≡ length before → ((disk : Sectors) → contents ≡ Some disk → (performed_by keys (left_by keys disk before) e).answer ≡ answer)
    → IsToldAt keys contents after place (name_of_entry e) answer
told_one keys None before after e place answer is index gives = tt
told_one keys (Some disk) before after e place answer is index gives =
    subst (λ n. slice_get (told_by keys disk after) n ≡ Some (name_of_entry e, answer)) (sym index)
    (ap (λ l. slice_get (told_by keys disk l) (length before)) is ∙ told_last keys disk before e ∙ ap (λ (a : UnitAnswer). Some (name_of_entry e, a)) (gives disk refl))

-- a read without a fault: the raw bytes that stood there, deciphered
pub read_answer : (keys : List KeyData) (contents : Option Sectors) (before : List Entry) (at : UnitAt) (via : Via) (raw : List ℕ) → Stand keys contents before at.sector raw → length raw ≡ 512 * unit_sectors keys at.context
    → (disk : Sectors) → contents ≡ Some disk → (performed_by keys (left_by keys disk before) (read_entry at via)).answer ≡ Text (deciphered keys at.context raw)
read_answer keys contents before at via raw stand long disk is =
    let count : length raw / 512 ≡ unit_sectors keys at.context = omega arith in
    let here : raw ≡ bytes_at (left_by keys disk before) at.sector (length raw / 512) = subst (λ o. IfSome o (λ d. raw ≡ bytes_at (left_by keys d before) at.sector (length raw / 512))) is stand in
    ap (λ (l : List ℕ). Text (deciphered keys at.context l)) (sym (here ∙ ap (λ (n : ℕ). bytes_at (left_by keys disk before) at.sector n) count))

-- ---- of the shards of a disk

module _ {S : Type 0} (contents : S → Option Sectors) where
  -- the answer of the entry that was appended to a shard
  pub answers_one : (keys : List KeyData) (given : Option (List KeyData)) (old new : List (ShardData S)) (place : Place) (e : Entry) (answer : UnitAnswer) (s s' : ShardData S) → At old place.shard s → new ≡ set old place.shard s' → place.index ≡ length s.entries
      → Appends given s s' e → ((disk : Sectors) → contents s.start ≡ Some disk → (performed_by keys (left_by keys disk s.entries) e).answer ≡ answer) → Answers contents keys new place (name_of_entry e) answer
  answers_one keys given old new place e answer s s' at sets index more gives =
      all_at new place.shard s' (λ z. IsToldAt keys (contents z.start) z.entries place.index (name_of_entry e) answer)
      (subst (λ l. At l place.shard s') (sym sets) (at_set old place.shard s s' at))
      (told_one keys (contents s'.start) s.entries s'.entries e place.index answer more.2 index (λ disk is. gives disk (sym (ap contents more.0) ∙ is)))

  pub has_keys : (keys : List KeyData) (shards : List (ShardData S)) (place : ℕ) (s : ShardData S) → HaveKeys keys shards → At shards place s → HasKeys keys s
  has_keys keys shards place s have at = each_at (HasKeys keys) shards place s have at

  pub all_left : (owns : S → ℕ → Rattle.std.specs.Prelude.Bool) (told : S → Option Rattle.bc_base.specs.Stores.StoreCalls) (faults : S → ℕ) (shards : List (ShardData S)) → Each (λ s. IsOrder owns contents told faults s.start s.keys s.store s.entries) shards → AllLeft contents shards
  all_left owns told faults shards orders keys have =
      each_both (λ s. IsOrder owns contents told faults s.start s.keys s.store s.entries) (HasKeys keys) (λ s. Leaves keys (contents s.start) s.entries (contents s.store))
      (λ s order has. known_leaves keys (contents s.start) (contents s.store) s.entries s.keys has order.leaves order.quiet) shards orders have
