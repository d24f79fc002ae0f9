-- A plug's requests with a bio more.
use Rattle.std.proofs.Common.{◌≡◌, ℕ, ◌+◌, ◌-◌, ◌<◌, ◌≤◌, true, false, List, [], ◌∷◌, ◌++◌, length, map, reverse, refl, sym, ap, subst, ◌∙◌, arith, append_assoc, append-nil}
use Rattle.std.specs.Prelude.{flat_map, Result, Ok, Err, OnOk, OnErr, is_ok}
use Rattle.std.specs.List.Sorted.{IsPermutation}
use Rattle.std.proofs.lemmas.List.Sorted.{sum_by-IsPermutation}
use Rattle.bc_bio.specs.declared.reply.Reply.{Reply}
use Rattle.std.specs.List.{AllByRecursion}
use Rattle.std.proofs.lemmas.List.{map-append, length-append, reverse-append}
use Rattle.std.proofs.lemmas.List.Concat.{flat_map-append}
use Rattle.std.proofs.lemmas.List.Sums.{sum_by-append, sum_by-cons}
use Rattle.bc_key.specs.KeyData.{KeyData}
use Rattle.bc_bio.specs.declared.bio.Bio.{Bio}
use Rattle.bc_bio.specs.declared.marked_bio.MarkedBio.{MarkedBio}
use Rattle.bc_bio.specs.BioUnits.{extent_of}
use Rattle.bc_bio.specs.Chunks.{chunks_and, joins_last}
use Rattle.bc_bio.specs.Conditions.{IsPlaced}
use Rattle.bc_bio.specs.Windows.{TaggedBio, IsRequest, joins, requests_of}
use Rattle.bc_bio.specs.Requests.{RequestParts, tagged_bios, tagged_of, unmarked, with_bio, reply_of}
use Rattle.bc_bio.proofs.ChunkLaws.{chunks_and-joined, chunks_and-apart, chunk_by-more}
use Rattle.bc_bio.proofs.RequestLaws.{tagged_bios-append}
use Rattle.bc_queue.specs.declared.plug.TheConstants.{MAX_PLUGGED}
use Rattle.bc_queue.specs.Plugs.{Added, AreRequests, IsOfWindow, IsReady, IsWaiting, StandsApart, bios_in, count_bios, tagged_requests}

-- ---- all elements

pub all_but_last : {X : Type 0} (P : X → Type 0) (xs : List X) (x : X) → AllByRecursion P (xs ++ x ∷ []) → AllByRecursion P xs
all_but_last P [] x all = tt
all_but_last P (y ∷ ys) x all = (all.0, all_but_last P ys x all.1)

pub last_of_all : {X : Type 0} (P : X → Type 0) (xs : List X) (x : X) → AllByRecursion P (xs ++ x ∷ []) → P x
last_of_all P [] x all = all.0
last_of_all P (y ∷ ys) x all = last_of_all P ys x all.1

pub all_and : {X : Type 0} (P : X → Type 0) (xs : List X) (x : X) → AllByRecursion P xs → P x → AllByRecursion P (xs ++ x ∷ [])
all_and P [] x all one = (one, tt)
all_and P (y ∷ ys) x all one = (all.0, all_and P ys x all.1 one)

pub all_reversed : {X : Type 0} (P : X → Type 0) (xs : List X) → AllByRecursion P xs → AllByRecursion P (reverse xs)
all_reversed P [] all = tt
all_reversed {X} P (x ∷ xs) all =
    let turned : reverse (x ∷ xs) ≡ reverse xs ++ x ∷ [] = reverse-append (x ∷ []) xs in
    subst (λ (ys : List X). AllByRecursion P ys) (sym turned) (all_and P (reverse xs) x (all_reversed P xs all.1) all.0)

-- ---- counts

pub count_bios-more : (requests : List RequestParts) (request : RequestParts) → count_bios (requests ++ request ∷ []) ≡ count_bios requests + length request.bios
count_bios-more requests request =
    let both = sum_by-append (λ (r : RequestParts). length r.bios) requests (request ∷ []) in
    let one = sum_by-cons (λ (r : RequestParts). length r.bios) request [] in
    omega (arith, both, one)

-- each request that waits has a bio at least
pub few_requests : (requests : List RequestParts) → AllByRecursion IsWaiting requests → length requests ≤ count_bios requests
few_requests [] all = omega arith
few_requests (request ∷ requests) all =
    let some = all.0.some in
    let others = few_requests requests all.1 in
    let sum = sum_by-cons (λ (r : RequestParts). length r.bios) request requests in
    omega (arith, some, others, sum)

-- ---- the bios

bios_of-more : (requests : List RequestParts) (request : RequestParts) → bios_in (requests ++ request ∷ []) ≡ bios_in requests ++ request.bios
bios_of-more requests request =
    flat_map-append (λ (r : RequestParts). r.bios) requests (request ∷ []) ∙ ap (λ (bs : List MarkedBio). bios_in requests ++ bs) (append-nil request.bios)

tagged-more : (requests : List RequestParts) (request : RequestParts) → tagged_requests (requests ++ request ∷ []) ≡ tagged_requests requests ++ tagged_bios request.bios ∷ []
tagged-more requests request = map-append (λ (r : RequestParts). tagged_bios r.bios) requests (request ∷ [])

-- a bio joins the last request
pub joined : (keys : List KeyData) (old new others : List RequestParts) (last last' : RequestParts) (bio : Bio) → old ≡ others ++ last ∷ [] → new ≡ others ++ last' ∷ []
    → last' ≡ with_bio bio last → joins_last (joins keys) (tagged_bios last.bios) (tagged_of bio) ≡ true → 1 ≤ last.spare
    → AllByRecursion IsWaiting old → AreRequests keys old → IsRequest keys (tagged_bios last'.bios) → Added keys old new bio
joined keys old new others last last' bio old_is new_is last_is runs_on spare waiting requests still =
    let waits = last_of_all IsWaiting others last (subst (λ (rs : List RequestParts). AllByRecursion IsWaiting rs) old_is waiting) in
    let bios_is : last'.bios ≡ last.bios ++ unmarked bio ∷ [] = ap (λ (r : RequestParts). r.bios) last_is in
    let spare_is : last'.spare ≡ last.spare - 1 = ap (λ (r : RequestParts). r.spare) last_is in
    let len : length last'.bios ≡ length last.bios + 1 = ap length bios_is ∙ length-append last.bios (unmarked bio ∷ []) in
    let some = waits.some in
    let room = waits.room in
    let many = ap count_bios new_is ∙ count_bios-more others last' in
    let before = ap count_bios old_is ∙ count_bios-more others last in
    let here : IsWaiting last' = record { some = omega arith; room = omega arith } in
    record {
      bios = ap bios_in new_is ∙ bios_of-more others last' ∙ ap (λ (bs : List MarkedBio). bios_in others ++ bs) bios_is
          ∙ sym (append_assoc (bios_in others) last.bios (unmarked bio ∷ []))
          ∙ ap (λ (bs : List MarkedBio). bs ++ unmarked bio ∷ []) (sym (ap bios_in old_is ∙ bios_of-more others last));
      merges = ap tagged_requests new_is ∙ tagged-more others last'
          ∙ ap (λ (ts : List TaggedBio). tagged_requests others ++ ts ∷ []) (ap tagged_bios bios_is ∙ tagged_bios-append last.bios (unmarked bio))
          ∙ sym (chunks_and-joined (joins keys) (tagged_requests others) (tagged_bios last.bios) (tagged_of bio) runs_on)
          ∙ ap (λ (cs : List (List TaggedBio)). chunks_and (joins keys) cs (tagged_of bio)) (sym (ap tagged_requests old_is ∙ tagged-more others last));
      waiting = subst (λ (rs : List RequestParts). AllByRecursion IsWaiting rs) (sym new_is)
          (all_and IsWaiting others last' (all_but_last IsWaiting others last (subst (λ (rs : List RequestParts). AllByRecursion IsWaiting rs) old_is waiting)) here);
      requests = subst (λ (rs : List RequestParts). AreRequests keys rs) (sym new_is)
          (all_and (λ (r : RequestParts). IsRequest keys (tagged_bios r.bios)) others last' (all_but_last (λ (r : RequestParts). IsRequest keys (tagged_bios r.bios)) others last (subst (λ (rs : List RequestParts). AreRequests keys rs) old_is requests)) still);
      count = omega (arith, many, before, len);
    }

-- a bio doesn't join the last request
pub apart : (keys : List KeyData) (old others : List RequestParts) (last : RequestParts) (bio : Bio) → old ≡ others ++ last ∷ []
    → joins_last (joins keys) (tagged_bios last.bios) (tagged_of bio) ≡ false → StandsApart keys old bio
apart keys old others last bio old_is stops =
    subst (λ (rs : List RequestParts). StandsApart keys rs bio) (sym old_is)
    (subst (λ (cs : List (List TaggedBio)). chunks_and (joins keys) cs (tagged_of bio) ≡ cs ++ (tagged_of bio ∷ []) ∷ []) (sym (tagged-more others last))
    (chunks_and-apart (joins keys) (tagged_requests others) (tagged_bios last.bios) (tagged_of bio) stops))

-- a bio starts a request of its own
pub started : (keys : List KeyData) (old new : List RequestParts) (ready request : RequestParts) (bio : Bio) → new ≡ old ++ request ∷ [] → request ≡ with_bio bio ready
    → IsReady ready → StandsApart keys old bio → IsPlaced keys (extent_of bio) → AllByRecursion IsWaiting old → AreRequests keys old → Added keys old new bio
started keys old new ready request bio new_is request_is is_ready stands placed waiting requests =
    let bios_is : request.bios ≡ unmarked bio ∷ [] = ap (λ (r : RequestParts). r.bios) request_is ∙ ap (λ (bs : List MarkedBio). bs ++ unmarked bio ∷ []) is_ready.empty in
    let spare_is : request.spare ≡ ready.spare - 1 = ap (λ (r : RequestParts). r.spare) request_is in
    let len : length request.bios ≡ 1 = ap length bios_is in
    let room = is_ready.room in
    let many = ap count_bios new_is ∙ count_bios-more old request in
    let here : IsWaiting request = record { some = omega arith; room = omega arith } in
    let alone : IsRequest keys (tagged_bios (unmarked bio ∷ [])) = record { placed = (placed, tt); joined = tt } in
    record {
      bios = ap bios_in new_is ∙ bios_of-more old request ∙ ap (λ (bs : List MarkedBio). bios_in old ++ bs) bios_is;
      merges = ap tagged_requests new_is ∙ tagged-more old request ∙ ap (λ (bs : List MarkedBio). tagged_requests old ++ tagged_bios bs ∷ []) bios_is ∙ sym stands;
      waiting = subst (λ (rs : List RequestParts). AllByRecursion IsWaiting rs) (sym new_is) (all_and IsWaiting old request waiting here);
      requests = subst (λ (rs : List RequestParts). AreRequests keys rs) (sym new_is)
          (all_and (λ (r : RequestParts). IsRequest keys (tagged_bios r.bios)) old request requests (subst (λ (bs : List MarkedBio). IsRequest keys (tagged_bios bs)) (sym bios_is) alone));
      count = omega (arith, many, len);
    }

-- so a plug's requests are those of its window
pub window_more : (keys : List KeyData) (old new : List RequestParts) (bio : Bio) → tagged_requests new ≡ chunks_and (joins keys) (tagged_requests old) (tagged_of bio)
    → (window : List TaggedBio) → IsOfWindow keys old window → IsOfWindow keys new (window ++ tagged_of bio ∷ [])
window_more keys old new bio merges window is =
    merges ∙ ap (λ (cs : List (List TaggedBio)). chunks_and (joins keys) cs (tagged_of bio)) is ∙ sym (chunk_by-more (joins keys) window (tagged_of bio))

-- ---- the last request

-- where fewer bios are plugged than a plug takes, there is room in the last request
pub spare_of_last : (old others : List RequestParts) (last : RequestParts) → old ≡ others ++ last ∷ [] → AllByRecursion IsWaiting old → count_bios old < MAX_PLUGGED → 1 ≤ last.spare
spare_of_last old others last old_is waiting few =
    let waits = last_of_all IsWaiting others last (subst (λ (rs : List RequestParts). AllByRecursion IsWaiting rs) old_is waiting) in
    let room = waits.room in
    let many = ap count_bios old_is ∙ count_bios-more others last in
    omega arith

pub joined_if : {T : Type 0} (r : Result T Bio) (keys : List KeyData) (old new others : List RequestParts) (last last' : RequestParts) (bio : Bio) → old ≡ others ++ last ∷ [] → new ≡ others ++ last' ∷ []
    → OnOk r (last' ≡ with_bio bio last) → is_ok r ≡ joins_last (joins keys) (tagged_bios last.bios) (tagged_of bio) → 1 ≤ last.spare
    → AllByRecursion IsWaiting old → AreRequests keys old → OnOk r (IsRequest keys (tagged_bios last'.bios)) → OnOk r (Added keys old new bio)
joined_if (Ok x) keys old new others last last' bio old_is new_is last_is runs_on spare waiting requests still =
    joined keys old new others last last' bio old_is new_is last_is (sym runs_on) spare waiting requests still
joined_if (Err e) keys old new others last last' bio old_is new_is last_is runs_on spare waiting requests still = tt

pub apart_if : {T : Type 0} (r : Result T Bio) (keys : List KeyData) (old others : List RequestParts) (last : RequestParts) (bio : Bio) → old ≡ others ++ last ∷ []
    → is_ok r ≡ joins_last (joins keys) (tagged_bios last.bios) (tagged_of bio) → OnErr r (StandsApart keys old bio)
apart_if (Ok x) keys old others last bio old_is runs_on = tt
apart_if (Err e) keys old others last bio old_is runs_on = apart keys old others last bio old_is (sym runs_on)

-- ---- replies

pub ready_and : (ready : List RequestParts) (request : RequestParts) → AllByRecursion IsReady ready → IsReady request → AllByRecursion IsReady (ready ++ request ∷ [])
ready_and ready request all one = all_and IsReady ready request all one

-- the replies of the last request come first where the requests are turned round
pub replies_more : (out : List Reply) (requests : List RequestParts) (request : RequestParts)
    → (out ++ map reply_of request.bios) ++ map reply_of (bios_in (reverse requests)) ≡ out ++ map reply_of (bios_in (reverse (requests ++ request ∷ [])))
replies_more out requests request =
    let turned : reverse (requests ++ request ∷ []) ≡ request ∷ reverse requests = reverse-append requests (request ∷ []) in
    append_assoc out (map reply_of request.bios) (map reply_of (bios_in (reverse requests)))
    ∙ ap (λ (rs : List Reply). out ++ rs) (sym (map-append reply_of request.bios (bios_in (reverse requests))))
    ∙ ap (λ (rs : List RequestParts). out ++ map reply_of (bios_in rs)) (sym turned)

-- a request that was emptied is ready
pub ready_again : (waits new : RequestParts) → IsWaiting waits → new ≡ record { bios = []; spare = waits.spare + length waits.bios } → IsReady new
ready_again waits new is new_is =
    let room = is.room in
    let spare : new.spare ≡ waits.spare + length waits.bios = ap (λ (r : RequestParts). r.spare) new_is in
    record { empty = ap (λ (r : RequestParts). r.bios) new_is; room = omega arith }

pub count_reversed : (requests requests' : List RequestParts) → IsPermutation requests requests' → count_bios requests' ≡ count_bios requests
count_reversed requests requests' turned = sum_by-IsPermutation (λ (r : RequestParts). length r.bios) requests requests' turned
