-- Bios of a window are plugged, and its replies are noted, one after the other.
use Rattle.std.proofs.Common.{◌≡◌, ℕ, zero, suc, ◌+◌, ◌<◌, Bool, true, false, List, [], ◌∷◌, ◌++◌, length, map, take, drop, reverse, get_or, refl, sym, ap, subst, ◌∙◌, arith, Option, Some}
use Rattle.std.specs.Prelude.{◌==◌, ◌||◌, slice_get, slice_set}
use Rattle.std.specs.List.{AllByRecursion, AllZip, list_any}
use Rattle.std.proofs.lemmas.Bool.{true≢false, eq-eqb, ne_eqb}
use Rattle.std.proofs.lemmas.List.{length-append, length-map, map-append, reverse-append, reverse-reverse}
use Rattle.std.proofs.lemmas.List.Folds.{list_any-append}
use Rattle.std.proofs.lemmas.List.Sums.{sum_by-cons}
use Rattle.bc_base.specs.Lists.{At}
use Rattle.bc_key.specs.KeyData.{KeyData}
use Rattle.bc_bio.specs.declared.bio.Bio.{Bio}
use Rattle.bc_bio.specs.declared.marked_bio.MarkedBio.{MarkedBio}
use Rattle.bc_bio.specs.declared.reply.Reply.{Reply}
use Rattle.bc_bio.specs.Requests.{RequestParts, tagged_of, unmarked}
use Rattle.bc_bio.specs.Windows.{TaggedBio}
use Rattle.bc_queue.specs.Plugs.{AreRequests, IsOfWindow, IsPlug, PlugParts, bios_in, count_bios, no_bios}
use Rattle.bc_compose.specs.OrderedHolds.{Pairs}
use Rattle.bc_section.proofs.Lists.{all_read}
use Rattle.bc_threads.specs.declared.outcome.Outcome.{Outcome}
use Rattle.bc_threads.specs.declared.outcome.Outcome.TheVariants as outcomes
use Rattle.bc_threads.specs.Plugging.{AreNoted, HasBioAt, IsPlugged, SameBeside}
use Rattle.bc_base.proofs.Members.{zip_append}
use Rattle.bc_section.proofs.Reaching.{get_set_other}

-- ---- places

pub get_set_same : {X : Type 0} (xs : List X) (i : ℕ) (x : X) → i < length xs → slice_get (slice_set xs i x) i ≡ Some x
get_set_same [] i x lt = absurd (omega (arith, lt))
get_set_same (y ∷ ys) zero x lt = refl
get_set_same (y ∷ ys) (suc i) x lt = get_set_same ys i x (omega (arith, lt))

pub read_within : (xs : List ℕ) (i d e : ℕ) → i < length xs → get_or xs i d ≡ get_or xs i e
read_within [] i d e lt = absurd (omega (arith, lt))
read_within (x ∷ xs) zero d e lt = refl
read_within (x ∷ xs) (suc i) d e lt = read_within xs i d e (omega (arith, lt))

-- the next number of an ascending list isn't among those before it
pub not_before : (window : List ℕ) (i : ℕ) → i < length window → Pairs (λ first second. first < second) window → list_any (λ w. w == get_or window i 0) (take i window) ≡ false
not_before window zero lt order = refl
not_before [] (suc i) lt order = absurd (omega (arith, lt))
not_before (w ∷ ws) (suc i) lt order =
    let read : get_or ws i 0 ≡ get_or ws i (get_or ws i 0) = read_within ws i 0 (get_or ws i 0) (omega (arith, lt)) in
    let less = all_read (λ second. w < second) ws i (get_or ws i 0) order.0 (omega (arith, lt)) read in
    ap (λ (b : Bool). b || list_any (λ w. w == get_or ws i 0) (take i ws)) (ne_eqb w (get_or ws i 0) (λ e. omega (arith, e, less)))
    ∙ not_before ws i (omega (arith, lt)) order.1

-- a number that isn't among those, with one more, is neither among them nor this one
pub beside_next : (xs : List ℕ) (x o : ℕ) → list_any (λ w. w == o) (xs ++ x ∷ []) ≡ false → (list_any (λ w. w == o) xs ≡ false) × (x ≡ o → ⊥)
beside_next xs x o none = split (list_any (λ w. w == o) xs) (x == o) refl (sym (list_any-append (λ w. w == o) xs (x ∷ [])) ∙ none)
  where
    split : (a b : Bool) → (x == o) ≡ b → (a || (b || false)) ≡ false → (a ≡ false) × (x ≡ o → ⊥)
    split false false is e = (refl, λ same. true≢false (sym (eq-eqb x o same) ∙ is))
    split false true is e = absurd (true≢false e)
    split true b is e = absurd (true≢false e)

-- one more place changes
pub beside_more : {A : Type 0} (xs : List ℕ) (x : ℕ) (old now : List A) (a : A) → SameBeside xs old now → SameBeside (xs ++ x ∷ []) old (slice_set now x a)
beside_more xs x old now a same o none = let r = beside_next xs x o none in get_set_other now x o a r.1 ∙ same o r.0

-- ---- plugging

pub zip_length : {A B : Type 0} (R : A → B → Type 0) (xs : List A) (ys : List B) → AllZip R xs ys → length xs ≡ length ys
zip_length R [] [] all = refl
zip_length R [] (y ∷ ys) all = absurd all
zip_length R (x ∷ xs) [] all = absurd all
zip_length R (x ∷ xs) (y ∷ ys) all = ap suc (zip_length R xs ys all.1)

count_is : (requests : List RequestParts) → count_bios requests ≡ length (bios_in requests)
count_is [] = refl
count_is (r ∷ rs) =
    let one = sum_by-cons (λ (request : RequestParts). length request.bios) r rs in
    let both = length-append r.bios (bios_in rs) in let rest = count_is rs in omega (arith, one, both, rest)

module _ (keys : List KeyData) (bios : List (Option Bio)) (window : List ℕ) where
  pub plugged_none : (plug : PlugParts) → plug ≡ no_bios → IsPlugged keys bios [] plug
  plugged_none plug is = subst (IsPlugged keys bios []) (sym is)
      (record { taken = []; each = tt; plugged = refl; plug_is = record { waiting = tt; count = refl; most = omega arith }; requests = tt; window_is = refl })

  pub plugged_count : (os : List ℕ) (plug : PlugParts) → IsPlugged keys bios os plug → count_bios plug.requests ≡ length os
  plugged_count os plug is =
      let a = count_is plug.requests in let b = ap (λ (l : List MarkedBio). length l) is.plugged in let c = length-map is.taken unmarked in let d = zip_length (λ o bio. At bios o (Some bio)) os is.taken is.each in
      omega (arith, a, b, c, d)

  pub plugged_more : (os : List ℕ) (o : ℕ) (bio : Bio) (old new : PlugParts) → IsPlugged keys bios os old → At bios o (Some bio)
      → bios_in new.requests ≡ bios_in old.requests ++ unmarked bio ∷ []
      → ((tagged : List TaggedBio) → IsOfWindow keys old.requests tagged → IsOfWindow keys new.requests (tagged ++ tagged_of bio ∷ []))
      → IsPlug new → AreRequests keys new.requests → IsPlugged keys bios (os ++ o ∷ []) new
  plugged_more os o bio old new was stands bios_are window_is plug_is requests = record {
    taken = was.taken ++ bio ∷ [];
    each = zip_append (λ o bio. At bios o (Some bio)) os (o ∷ []) was.taken (bio ∷ []) was.each (stands, tt);
    plugged = bios_are ∙ ap (λ (l : List MarkedBio). l ++ unmarked bio ∷ []) was.plugged ∙ sym (map-append unmarked was.taken (bio ∷ []));
    plug_is = plug_is;
    requests = requests;
    window_is = subst (IsOfWindow keys new.requests) (sym (map-append tagged_of was.taken (bio ∷ []))) (window_is (map tagged_of was.taken) was.window_is);
  }

  pub still_there : (now : List (Option Bio)) (i : ℕ) → i < length window → Pairs (λ first second. first < second) window → AllByRecursion (HasBioAt keys bios) window
      → SameBeside (take i window) bios now → HasBioAt keys now (get_or window i 0)
  still_there now i lt order there same =
      let has = all_read (HasBioAt keys bios) window i (get_or window i 0) there lt (read_within window i 0 (get_or window i 0) lt) in
      (has.0, same (get_or window i 0) (not_before window i lt order) ∙ has.1, has.2)

-- ---- noting

-- the last of the replies that are left is the next one
pub next_reply : {X : Type 0} (all rest : List X) (i : ℕ) (x : X) → reverse (drop i all) ≡ rest ++ x ∷ [] → (rest ≡ reverse (drop (i + 1) all)) × (take (i + 1) all ≡ take i all ++ x ∷ [])
next_reply {X} all rest i x is = go all i (sym (reverse-reverse (drop i all)) ∙ ap reverse is ∙ reverse-append rest (x ∷ []))
  where
    go : (all : List X) (i : ℕ) → drop i all ≡ x ∷ reverse rest → (rest ≡ reverse (drop (i + 1) all)) × (take (i + 1) all ≡ take i all ++ x ∷ [])
    go [] zero e = absurd (let l : 0 ≡ suc (length (reverse rest)) = ap length e in omega (arith, l))
    go [] (suc i) e = absurd (let l : 0 ≡ suc (length (reverse rest)) = ap length e in omega (arith, l))
    go (y ∷ ys) zero e = (sym (reverse-reverse rest) ∙ ap reverse (sym (tail_is e)), ap (λ (z : X). z ∷ []) (head_is e))
      where
        head_is : y ∷ ys ≡ x ∷ reverse rest → y ≡ x
        head_is e = ap (λ (l : List X). get_or l 0 x) e

        tail_is : y ∷ ys ≡ x ∷ reverse rest → ys ≡ reverse rest
        tail_is e = ap (λ (l : List X). drop 1 l) e
    go (y ∷ ys) (suc i) e =
        let r = go ys i e in
        subst (λ (n : ℕ). (rest ≡ reverse (drop n (y ∷ ys))) × (take n (y ∷ ys) ≡ take (suc i) (y ∷ ys) ++ x ∷ [])) (let n : suc (i + 1) ≡ suc i + 1 = omega arith in n)
        (r.0, ap (λ (l : List X). y ∷ l) r.1)

pub noted_more : (window : List ℕ) (replies : List Reply) (now : List (Option Outcome)) (o : ℕ) (reply : Reply) → o < length now → list_any (λ w. w == o) window ≡ false
    → AreNoted now window replies → AreNoted (slice_set now o (Some (outcomes.Replied reply))) (window ++ o ∷ []) (replies ++ reply ∷ [])
noted_more window replies now o reply within none noted =
    zip_append (λ w r. slice_get set w ≡ Some (Some (outcomes.Replied r))) window (o ∷ []) replies (reply ∷ []) (go window replies none noted) (get_set_same now o (Some (outcomes.Replied reply)) within, tt)
  where
    set : List (Option Outcome)
    set = slice_set now o (Some (outcomes.Replied reply))

    go : (ws : List ℕ) (rs : List Reply) → list_any (λ w. w == o) ws ≡ false → AreNoted now ws rs → AreNoted set ws rs
    go [] [] none all = tt
    go [] (r ∷ rs) none all = absurd all
    go (w ∷ ws) [] none all = absurd all
    go (w ∷ ws) (r ∷ rs) none all =
        let parts = split (w == o) (list_any (λ w. w == o) ws) none in
        (get_set_other now o w (Some (outcomes.Replied reply)) (λ e. true≢false (sym (eq-eqb w o (sym e)) ∙ parts.0)) ∙ all.0, go ws rs parts.1 all.1)
      where
        split : (a b : Bool) → (a || b) ≡ false → (a ≡ false) × (b ≡ false)
        split false b e = (refl, e)
        split true b e = absurd (true≢false e)
