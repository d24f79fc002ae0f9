-- One entry more at the end of a shard's order.
use Rattle.std.proofs.Common.{◌≡◌, ◌↔◌, inl, inr, ℕ, ◌+◌, ◌-◌, ◌/◌, ◌^◌, ◌<◌, ◌≤◌, Bool, true, false, List, [], ◌∷◌, ◌++◌, length, Option, Some, None, refl, sym, ap, ◌∙◌, subst, arith, length-append}
use Rattle.std.specs.Prelude.{IfSome, Contains, cond, OnOk, Result, Ok, Err}
use Rattle.bc_key.specs.KeyData.{KeyData}
use Rattle.bc_bio.specs.declared.access.Access.{Access}
use Rattle.bc_bio.specs.declared.access.Access.TheVariants.{Read, Write}
use Rattle.bc_base.specs.Outside.{HasCause}
use Rattle.bc_base.specs.Lists.{Each}
use Rattle.bc_base.proofs.Lists.{each_append}
use Rattle.bc_medium.specs.declared.via.Via.{Via}
use Rattle.bc_medium.specs.declared.unit_at.UnitAt.{UnitAt}
use Rattle.bc_medium.specs.declared.entry.Entry.{Entry}
use Rattle.bc_base.specs.Sectors.{Sectors, with_bytes, bytes_at}
use Rattle.bc_medium.specs.KeyedDisk.{Performed, Faulted, accessed, enciphered}
use Rattle.bc_base.specs.Stores.{StoreCalls, HoldsSame, Sets, MakesCall, ReadsSectors}
use Rattle.bc_medium.specs.Entries.{entry_unit, written_entry, failed_entry, performed_by, left_by, Stand}
use Rattle.bc_medium.specs.ShardOrder.{Leaves, FailAsPlanned, CallsAre, failures, IsQuiet}
use Rattle.bc_medium.specs.ShardOrder.{IsOrder, keys_or_none}

pub left_by_push : (keys : List KeyData) (disk : Sectors) (es : List Entry) (e : Entry) → left_by keys disk (es ++ e ∷ []) ≡ (performed_by keys (left_by keys disk es) e).disk
left_by_push keys disk [] e = refl
left_by_push keys disk (x ∷ es) e = left_by_push keys (performed_by keys disk x).disk es e

abbrev faulted : Sectors → Performed
faulted disk = record { disk = disk; answer = Faulted }

-- what leaves the disk as it was, whatever the keys
pub quiet_stays : (keys : List KeyData) (disk : Sectors) (e : Entry) → IsQuiet e → (performed_by keys disk e).disk ≡ disk
quiet_stays keys disk e (inl failed) = ap (λ (b : Bool). (cond b (faulted disk) (accessed e.access keys disk (entry_unit e))).disk) failed
quiet_stays keys disk e (inr read) = ap (λ (a : Access). (cond e.failed (faulted disk) (accessed a keys disk (entry_unit e))).disk) read ∙ either_way e.failed
  where
    either_way : (b : Bool) → (cond b (faulted disk) (accessed Read keys disk (entry_unit e))).disk ≡ disk
    either_way true = refl
    either_way false = refl

pub quiet_all : (keys : List KeyData) (disk : Sectors) (es : List Entry) → Each IsQuiet es → left_by keys disk es ≡ disk
quiet_all keys disk [] q = refl
quiet_all keys disk (e ∷ es) q = quiet_all keys (performed_by keys disk e).disk es q.1 ∙ quiet_stays keys disk e q.0

-- before the first write, any keys will do
pub other_keys : (keys keys' : List KeyData) (start now : Option Sectors) (es : List Entry) → Each IsQuiet es → Leaves keys start es now → Leaves keys' start es now
other_keys keys keys' None now es q l = l
other_keys keys keys' (Some disk) None es q l = l
other_keys keys keys' (Some disk) (Some b) es q l = λ s. l s ∙ ap (λ (d : Sectors). d s) (quiet_all keys disk es q ∙ sym (quiet_all keys' disk es q))

pub known_leaves : (keys : List KeyData) (start now : Option Sectors) (es : List Entry) (known : Option (List KeyData)) → IfSome known (λ k. k ≡ keys) → Leaves (keys_or_none known) start es now → (known ≡ None → Each IsQuiet es) → Leaves keys start es now
known_leaves keys start now es None same l q = other_keys [] keys start now es (q refl) l
known_leaves keys start now es (Some k) same l q = subst (λ z. Leaves z start es now) same l

pub leaves_wrote : (keys : List KeyData) (start now now' : Option Sectors) (es : List Entry) (at : UnitAt) (via : Via) (plain cipher : List ℕ) → Leaves keys start es now → Sets now now' at.sector cipher → cipher ≡ enciphered keys at.context plain
    → Leaves keys start (es ++ written_entry at via plain ∷ []) now'
leaves_wrote keys None None now' es at via plain cipher l s is = s
leaves_wrote keys None (Some b) now' es at via plain cipher l s is = cc
leaves_wrote keys (Some disk) None now' es at via plain cipher l s is = absurd l
leaves_wrote keys (Some disk) (Some b) None es at via plain cipher l s is = absurd s
leaves_wrote keys (Some disk) (Some b) (Some b') es at via plain cipher l s is = λ x.
    s x ∙ ap (λ (v : List ℕ). with_bytes (λ _. v) at.sector cipher x) (l x) ∙ ap (λ (c : List ℕ). with_bytes (left_by keys disk es) at.sector c x) is
    ∙ ap (λ (d : Sectors). d x) (sym (left_by_push keys disk es (written_entry at via plain)))

pub leaves_quiet : (keys : List KeyData) (start now now' : Option Sectors) (es : List Entry) (e : Entry) → IsQuiet e → Leaves keys start es now → HoldsSame now now' → Leaves keys start (es ++ e ∷ []) now'
leaves_quiet keys None None now' es e q l s = s
leaves_quiet keys None (Some b) now' es e q l s = cc
leaves_quiet keys (Some disk) None now' es e q l s = absurd l
leaves_quiet keys (Some disk) (Some b) None es e q l s = absurd s
leaves_quiet keys (Some disk) (Some b) (Some b') es e q l s = λ x. s x ∙ l x ∙ ap (λ (d : Sectors). d x) (sym (left_by_push keys disk es e ∙ quiet_stays keys (left_by keys disk es) e q))

planned_push : (plan : List ℕ) (place : ℕ) (es : List Entry) (e : Entry) → FailAsPlanned plan place es → ((e.failed ≡ true) ↔ Contains plan (place + length es)) → FailAsPlanned plan place (es ++ e ∷ [])
planned_push plan place [] e f i = (subst (λ n. (e.failed ≡ true) ↔ Contains plan n) (let z : place + 0 ≡ place = omega arith in z) i, tt)
planned_push plan place (x ∷ es) e f i = (f.0, planned_push plan (place + 1) es e f.1 (subst (λ n. (e.failed ≡ true) ↔ Contains plan n) (let z : place + length (x ∷ es) ≡ place + 1 + length es = omega arith in z) i))

pub calls_push : (start now now' : Option StoreCalls) (es : List Entry) (e : Entry) (Fails : Type 0) → length es < 2 ^ 32 → (e.failed ≡ true → Fails) → (Fails → e.failed ≡ true) → CallsAre start es now → MakesCall now now' Fails → CallsAre start (es ++ e ∷ []) now'
calls_push None None now' es e F small to from c k = k
calls_push None (Some u) now' es e F small to from c k = cc
calls_push (Some t) None now' es e F small to from c k = absurd c.1
calls_push (Some t) (Some u) None es e F small to from c k = absurd k
calls_push (Some t) (Some u) (Some u') es e F small to from c k =
    let n : u.calls ≡ length es = c.1.1 in
    let place : Contains u.plan u.calls → Contains t.plan (0 + length es) = λ h. let z : u.calls ≡ 0 + length es = omega arith in subst (λ m. Contains t.plan m) z (subst (λ p. Contains p u.calls) c.1.0 h) in
    let back : Contains t.plan (0 + length es) → Contains u.plan u.calls = λ h. let z : 0 + length es ≡ u.calls = omega arith in subst (λ p. Contains p u.calls) (sym c.1.0) (subst (λ m. Contains t.plan m) z h) in (
      planned_push t.plan 0 es e c.0 ((λ f. place (k.2.0 (to f))), (λ h. from (k.2.1 (back h)))),
      (k.0 ∙ c.1.0, let l = length-append es (e ∷ []) in let m = k.1 in omega arith),
    )

failures_push : (es : List Entry) (e : Entry) → failures (es ++ e ∷ []) ≡ failures es + cond e.failed 1 0
failures_push [] e = omega arith
failures_push (x ∷ es) e = let i = failures_push es e in omega arith

failed_once : (b : Bool) (a n n' f f' : ℕ) (F : Type 0) → (b ≡ true → F) → HasCause n n' F → n' < 2 ^ 64 - 1 → f' ≡ f + cond b 1 0 → a + f ≤ n → a + f' ≤ n'
failed_once true a n n' f f' F to cause small is le = let r = cause.rose (to refl) in omega arith
failed_once false a n n' f f' F to cause small is le = let l = cause.later in omega arith

pub faults_push : (start now now' : ℕ) (es : List Entry) (e : Entry) (Fails : Type 0) → (e.failed ≡ true → Fails) → (now < 2 ^ 64 - 1 → start + failures es ≤ now) → HasCause now now' Fails → now' < 2 ^ 64 - 1 → start + failures (es ++ e ∷ []) ≤ now'
faults_push start now now' es e F to known cause small =
    failed_once e.failed start now now' (failures es) (failures (es ++ e ∷ [])) F to cause small (failures_push es e) (known (let later = cause.later in omega arith))

module _ {S : Type 0} (owns : S → ℕ → Bool) (contents : S → Option Sectors) (told : S → Option StoreCalls) (faults : S → ℕ) where
  -- a write that reached the store
  pub order_wrote : (start : S) (known : Option (List KeyData)) (keys : List KeyData) (store store' : S) (es es' : List Entry) (at : UnitAt) (via : Via) (plain cipher : List ℕ) (Fails : Type 0) → IsOrder owns contents told faults start known store es → length es < 2 ^ 32
      → IfSome known (λ k. k ≡ keys) → cipher ≡ enciphered keys at.context plain → es' ≡ es ++ written_entry at via plain ∷ [] → ((s : ℕ) → owns store' s ≡ owns store s) → Sets (contents store) (contents store') at.sector cipher → (Fails → ⊥)
      → MakesCall (told store) (told store') Fails → HasCause (faults store) (faults store') Fails → IsOrder owns contents told faults start (Some keys) store' es'
  order_wrote start known keys store store' es es' at via plain cipher F o small same is new own sets none calls cause = subst (IsOrder owns contents told faults start (Some keys) store') (sym new) record {
    owned = λ s. own s ∙ o.owned s;
    leaves = leaves_wrote keys (contents start) (contents store) (contents store') es at via plain cipher (known_leaves keys (contents start) (contents store) es known same o.leaves o.quiet) sets is;
    calls = calls_push (told start) (told store) (told store') es (written_entry at via plain) F small (λ e. cc) (λ f. absurd (none f)) o.calls calls;
    counted = faults_push (faults start) (faults store) (faults store') es (written_entry at via plain) F (λ e. cc) o.counted cause;
    quiet = λ e. cc;
  }

  -- a write that failed
  pub order_failed : (start : S) (known : Option (List KeyData)) (keys : List KeyData) (store store' : S) (es es' : List Entry) (at : UnitAt) (via : Via) (Fails : Type 0) → IsOrder owns contents told faults start known store es → length es < 2 ^ 32
      → IfSome known (λ k. k ≡ keys) → es' ≡ es ++ failed_entry Write at via ∷ [] → ((s : ℕ) → owns store' s ≡ owns store s) → HoldsSame (contents store) (contents store') → Fails
      → MakesCall (told store) (told store') Fails → HasCause (faults store) (faults store') Fails → IsOrder owns contents told faults start (Some keys) store' es'
  order_failed start known keys store store' es es' at via F o small same new own stays fails calls cause = subst (IsOrder owns contents told faults start (Some keys) store') (sym new) record {
    owned = λ s. own s ∙ o.owned s;
    leaves = leaves_quiet keys (contents start) (contents store) (contents store') es (failed_entry Write at via) (inl refl) (known_leaves keys (contents start) (contents store) es known same o.leaves o.quiet) stays;
    calls = calls_push (told start) (told store) (told store') es (failed_entry Write at via) F small (λ e. fails) (λ f. refl) o.calls calls;
    counted = faults_push (faults start) (faults store) (faults store') es (failed_entry Write at via) F (λ e. fails) o.counted cause;
    quiet = λ e. cc;
  }

  -- a read
  pub order_read : (start : S) (known : Option (List KeyData)) (store store' : S) (es es' : List Entry) (at : UnitAt) (via : Via) (failed : Bool) (Fails : Type 0) → IsOrder owns contents told faults start known store es → length es < 2 ^ 32
      → es' ≡ es ++ record { at = at; access = Read; via = via; plain = None; failed = failed } ∷ [] → ((s : ℕ) → owns store' s ≡ owns store s) → HoldsSame (contents store) (contents store') → (failed ≡ true → Fails) → (Fails → failed ≡ true)
      → MakesCall (told store) (told store') Fails → HasCause (faults store) (faults store') Fails → IsOrder owns contents told faults start known store' es'
  order_read start known store store' es es' at via failed F o small new own stays to from calls cause = let e : Entry = record { at = at; access = Read; via = via; plain = None; failed = failed } in subst (IsOrder owns contents told faults start known store') (sym new) record {
    owned = λ s. own s ∙ o.owned s;
    leaves = leaves_quiet (keys_or_none known) (contents start) (contents store) (contents store') es e (inr refl) o.leaves stays;
    calls = calls_push (told start) (told store) (told store') es e F small to from o.calls calls;
    counted = faults_push (faults start) (faults store) (faults store') es e F to o.counted cause;
    quiet = λ none. each_append IsQuiet es (e ∷ []) (o.quiet none) (inr refl, tt);
  }

  -- before the first write, the keys become known
  pub order_known : (start : S) (known : Option (List KeyData)) (keys : List KeyData) (store : S) (es : List Entry) → known ≡ None → IsOrder owns contents told faults start known store es → IsOrder owns contents told faults start (Some keys) store es
  order_known start known keys store es none o = record {
    owned = o.owned;
    leaves = other_keys (keys_or_none known) keys (contents start) (contents store) es (o.quiet none) o.leaves;
    calls = o.calls;
    counted = o.counted;
    quiet = λ e. cc;
  }

-- what the store reads stands on the keyed disk
pub stands : (keys : List KeyData) (start now : Option Sectors) (es : List Entry) (first : ℕ) (raw : List ℕ) → Leaves keys start es now → ReadsSectors now first raw → Stand keys start es first raw
stands keys None now es first raw l r = tt
stands keys (Some disk) None es first raw l r = absurd l
stands keys (Some disk) (Some held) es first raw l r = r ∙ ap (λ (d : Sectors). bytes_at d first (length raw / 512)) (λ i s. l s i)

module _ {S : Type 0} (owns : S → ℕ → Bool) (contents : S → Option Sectors) (told : S → Option StoreCalls) (faults : S → ℕ) where
  -- whatever the store was at opening, and with whatever keys the writes were given
  pub stands_in_order : (store : S) (es : List Entry) (first : ℕ) (raw : List ℕ) → ReadsSectors (contents store) first raw
      → (start : S) (given : Option (List KeyData)) (keys : List KeyData) → IfSome given (λ k. k ≡ keys) → IsOrder owns contents told faults start given store es → Stand keys (contents start) es first raw
  stands_in_order store es first raw r start given keys same o = stands keys (contents start) (contents store) es first raw (known_leaves keys (contents start) (contents store) es given same o.leaves o.quiet) r

  -- with no keys given, none will do
  pub any_keys : (given : Option (List KeyData)) → IfSome given (λ k. k ≡ keys_or_none given)
  any_keys None = tt
  any_keys (Some k) = refl

pub on_ok : {X Y : Type 0} (r : Result X Y) (P Q : Type 0) → (P → Q) → OnOk r P → OnOk r Q
on_ok (Ok x) P Q f p = f p
on_ok (Err y) P Q f p = p

leaves_none : (keys : List KeyData) (o : Option Sectors) → Leaves keys o [] o
leaves_none keys None = refl
leaves_none keys (Some disk) = λ s. refl

calls_none : (o : Option StoreCalls) → IfSome o (λ t. t.calls ≡ 0) → CallsAre o [] o
calls_none None none = refl
calls_none (Some t) none = (tt, (refl, none))

-- a store at opening
pub order_new : {S : Type 0} (owns : S → ℕ → Bool) (contents : S → Option Sectors) (told : S → Option StoreCalls) (faults : S → ℕ) (store : S) (given : Option (List KeyData)) → IfSome (told store) (λ t. t.calls ≡ 0) → IsOrder owns contents told faults store given store []
order_new owns contents told faults store given none = record {
  owned = λ s. refl;
  leaves = leaves_none (keys_or_none given) (contents store);
  calls = calls_none (told store) none;
  counted = λ small. omega arith;
  quiet = λ e. tt;
}
