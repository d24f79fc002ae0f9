-- The bios of a window, performed one after the other.
use Rattle.std.proofs.Common.{◌≡◌, ℕ, zero, suc, ◌+◌, ◌<◌, ◌≤◌, inl, inr, Bool, true, false, cond, List, [], ◌∷◌, ◌++◌, length, map, drop, take, get_or, refl, sym, ap, subst, ◌∙◌, arith, Option, Some, None}
use Rattle.std.specs.Prelude.{slice_get, slice_set, IfSome, IsSomeAnd, unwrap_or, option_map}
use Rattle.std.specs.Option.{option_map_or}
use Rattle.std.specs.List.{AllByRecursion, AllZip, cons_option, enumerate_from, last_or}
use Rattle.std.proofs.Math.Logic.{⊎_elim}
use Rattle.std.proofs.lemmas.Bool.{true≢false}
use Rattle.std.proofs.lemmas.Option.{none-some, same_Some}
use Rattle.std.proofs.lemmas.List.Elements.{filter_map-append}
use Rattle.std.proofs.lemmas.List.Sums.{sum_by-cons, sum_by-append}
use Rattle.bc_bio.specs.declared.extent.Extent.{Extent}
use Rattle.bc_bio.specs.BackRuns.{back_runs_on}
use Rattle.bc_bio.specs.Chunks.{chunk_by, chunks_with, joins_last}
use Rattle.bc_bio.specs.Conditions.{IsPlaced}
use Rattle.bc_bio.specs.Windows.{TaggedBio, joins}
use Rattle.bc_medium.specs.declared.entry.Entry.{Entry}
use Rattle.bc_medium.specs.Laws.{KnownStays}
use Rattle.bc_script.specs.declared.op.Op.{Op}
use Rattle.bc_script.specs.declared.op.Op.TheVariants as ops
use Rattle.bc_script.specs.Script.{Script, keys_of, unit_count}
use Rattle.bc_script.specs.Bios.{bio_of}
use Rattle.bc_report.specs.declared.answer.Answer.{Answer}
use Rattle.bc_compose.specs.SectionDone.{IsReply}
use Rattle.bc_compose.specs.OrderedHolds.{Pairs}
use Rattle.bc_section.specs.Sections.{DeviceData, cost, cost_in}
use Rattle.bc_serial.specs.Standing.{CourseData, own_device}
use Rattle.bc_section.specs.Uses.{tagged_bio, op_bios}
use Rattle.bc_section.specs.SectionProgress.{numbered, IsAcceptedBio, MayBePlugged, Settled}
use Rattle.bc_serial.specs.InTurn.{InTurn, InWindow, MayFollow, SubmitsBio, last_request, first_units_of}
use Rattle.bc_section.proofs.Lists.{all_read, in_is, take_next}
use Rattle.bc_section.proofs.Carrying.{CarriesBy, carries_none_by, carries_append_by, reply_more}
use Rattle.bc_section.proofs.Reaching.{numbered_push, numbered_all, get_set_same, get_set_other, length_set}
use Rattle.bc_base.proofs.Members.{In, all_at, all_from_in, all_append}

-- ---- the bio before

-- Of the bios that were performed, `last` is the last one: whether another one joins it, `last` tells.
pub record Follows (script : Script) (done : List TaggedBio) (last : Option Extent) : Type 0 where
  pub placed : IfSome last (IsPlaced (keys_of script))
  pub joined : (next : TaggedBio) → joins_last (joins (keys_of script)) (last_request script done) next
      ≡ option_map_or (λ first. back_runs_on (keys_of script) first next.bio) last false

module _ {X : Type 0} (together : X → X → Bool) where
  abbrev last_chunk : List (List X) → List X
  last_chunk chunks = unwrap_or (last_or None chunks) []

  -- what stands before doesn't change what is last
  same_last : (o p : Option (List X)) (c : List X) (cs : List (List X)) → last_or o (c ∷ cs) ≡ last_or p (c ∷ cs)
  same_last o p c cs = refl

  keeps_last : (z y : X) (c : List X) (cs : List (List X)) → joins_last together (last_chunk (chunks_with together z (c ∷ cs))) y ≡ joins_last together (last_chunk (c ∷ cs)) y
  keeps_last z y [] cs = refl
  keeps_last z y (x ∷ xs) cs =
      elim (together z x) as (λ (b : Bool). joins_last together (last_chunk (cond b ((z ∷ x ∷ xs) ∷ cs) ((z ∷ []) ∷ (x ∷ xs) ∷ cs))) y ≡ joins_last together (last_chunk ((x ∷ xs) ∷ cs)) y) [
        | true ↦ longer cs
        | false ↦ refl
      ]
    where
      longer : (cs : List (List X)) → joins_last together (last_chunk ((z ∷ x ∷ xs) ∷ cs)) y ≡ joins_last together (last_chunk ((x ∷ xs) ∷ cs)) y
      longer [] = refl
      longer (c ∷ cs) = refl

  -- there is a chunk
  some_chunk : (z : X) (chunks : List (List X)) → (c : List X) × (cs : List (List X)) × (chunks_with together z chunks ≡ c ∷ cs)
  some_chunk z [] = (z ∷ [], [], refl)
  some_chunk z ([] ∷ cs) = (z ∷ [], [] ∷ cs, refl)
  some_chunk z ((x ∷ xs) ∷ cs) =
      elim (together z x) as (λ (b : Bool). (c : List X) × (ds : List (List X)) × (cond b ((z ∷ x ∷ xs) ∷ cs) ((z ∷ []) ∷ (x ∷ xs) ∷ cs) ≡ c ∷ ds)) [
        | true ↦ (z ∷ x ∷ xs, cs, refl)
        | false ↦ (z ∷ [], (x ∷ xs) ∷ cs, refl)
      ]

  -- the last chunk ends with the last element
  pub ends_last : (xs : List X) (x y : X) → joins_last together (last_chunk (chunk_by together (xs ++ x ∷ []))) y ≡ together x y
  ends_last [] x y = refl
  ends_last (z ∷ []) x y = keeps_last z y (x ∷ []) []
  ends_last (z ∷ w ∷ zs) x y =
      let some = some_chunk w (chunk_by together (zs ++ x ∷ [])) in
      ap (λ chunks. joins_last together (last_chunk (chunks_with together z chunks)) y) some.2
      ∙ keeps_last z y some.0 some.1
      ∙ ap (λ chunks. joins_last together (last_chunk chunks) y) (sym some.2)
      ∙ ends_last (w ∷ zs) x y

pub follows_none : (script : Script) → Follows script [] None
follows_none script = record { placed = tt; joined = λ next. refl }

pub follows_next : (script : Script) (done : List TaggedBio) (op : ℕ) (bio : Extent) (last : Option Extent) → last ≡ Some bio → IsPlaced (keys_of script) bio
    → Follows script (done ++ first_units_of op bio bio.units ∷ []) last
follows_next script done op bio last is placed = record {
  placed = subst (λ (o : Option Extent). IfSome o (IsPlaced (keys_of script))) (sym is) placed;
  joined = λ next. ends_last (joins (keys_of script)) done (first_units_of op bio bio.units) next
      ∙ ap (λ (o : Option Extent). option_map_or (λ first. back_runs_on (keys_of script) first next.bio) o false) (sym is);
}

-- ---- the bios of operations

pub bios_push : (operations : List (ℕ × Op)) (op : ℕ) (operation : Op) (bio : Extent) → bio_of operation ≡ Some bio
    → op_bios (operations ++ (op, operation) ∷ []) ≡ op_bios operations ++ first_units_of op bio bio.units ∷ []
bios_push operations op operation bio is =
    filter_map-append tagged_bio operations ((op, operation) ∷ [])
    ∙ ap (λ (o : Option Extent). op_bios operations ++ cons_option (option_map (λ b. record { tag = op; bio = b }) o) []) is

pub bios_all : (P : ℕ → Type 0) (operations : List (ℕ × Op)) → AllByRecursion (λ (x : ℕ × Op). P x.0) operations → AllByRecursion (λ (tagged : TaggedBio). P tagged.tag) (op_bios operations)
bios_all P [] all = tt
bios_all P ((op, operation) ∷ operations) all =
    elim (bio_of operation) as (λ (o : Option Extent). AllByRecursion (λ (tagged : TaggedBio). P tagged.tag) (cons_option (option_map (λ b. record { tag = op; bio = b }) o) (op_bios operations))) [
      | None ↦ bios_all P operations all.1
      | Some bio ↦ (all.0, bios_all P operations all.1)
    ]

-- a bio costs its data units
units_cost : (operation : Op) → unit_count operation ≤ cost operation
units_cost (ops.Evict key) = omega arith
units_cost (ops.Reset device) = omega arith
units_cost (ops.Write c s n x) = omega arith
units_cost (ops.Read c s n) = omega arith
units_cost ops.Plug = omega arith
units_cost ops.Unplug = omega arith

-- ---- one bio after the other

pub window_none : (start : CourseData) (section : List Op) (window : List ℕ) (old : List (Option Answer)) → InTurn start start [] [] → InWindow start start section window 0 old old
window_none start section window old turn =
    let none = carries_none_by (own_device start) in
    record { told = []; carried = none.0; turn = subst (InTurn start start []) (sym none.1) turn; settled = tt; long = refl; others = λ o out. refl }

-- those before one are in R to it
pairs_take : {X : Type 0} (R : X → X → Type 0) (xs : List X) (i : ℕ) (x : X) → Pairs R xs → i < length xs → x ≡ get_or xs i x → AllByRecursion (λ y. R y x) (take i xs)
pairs_take R [] i x ps lt read = absurd (omega arith)
pairs_take R (y ∷ ys) zero x ps lt read = tt
pairs_take R (y ∷ ys) (suc i) x ps lt read = (all_read (R y) ys i x ps.0 (omega arith) read, pairs_take R ys i x ps.1 (omega arith) read)

in_read : (xs : List ℕ) (i x : ℕ) → i < length xs → x ≡ get_or xs i x → In x xs
in_read [] i x lt read = absurd (omega arith)
in_read (y ∷ ys) zero x lt read = inl (sym read)
in_read (y ∷ ys) (suc i) x lt read = inr (in_read ys i x (omega arith) read)

cost_take : (section : List Op) (window : List ℕ) (n : ℕ) → cost_in (numbered section (take n window)) ≤ cost_in (numbered section window)
cost_take section window zero = omega arith
cost_take section [] (suc n) = omega arith
cost_take section (o ∷ window) (suc n) =
    let more = cost_take section window n in
    elim (slice_get section o) as (λ (p : Option Op). cost_in (option_map_or (λ x. (o, x) ∷ numbered section (take n window)) p (numbered section (take n window))) ≤ cost_in (option_map_or (λ x. (o, x) ∷ numbered section window) p (numbered section window))) [
      | None ↦ more
      | Some x ↦ omega (arith, sum_by-cons (λ (y : ℕ × Op). cost y.1) (o, x) (numbered section (take n window)), sum_by-cons (λ (y : ℕ × Op). cost y.1) (o, x) (numbered section window))
    ]

module _ (a b : CourseData) (section : List Op) (window : List ℕ) (i op : ℕ) (operation : Op) (old answers : List (Option Answer)) (lt : i < length window) (read : op ≡ get_or window i op) (is : slice_get section op ≡ Some operation)
    (p : InWindow a b section window i old answers) where
  next : take (i + 1) window ≡ take i window ++ op ∷ []
  next = take_next window i op lt read

  abbrev before : List (ℕ × Op)
  before = numbered section (take i window)

  numbered_next : numbered section (take (i + 1) window) ≡ before ++ (op, operation) ∷ []
  numbered_next = ap (numbered section) next ∙ numbered_push section (take i window) op operation is

  -- its units fit
  pub spare_in_window : cost_in (numbered section window) ≤ a.left → unit_count operation ≤ b.left
  spare_in_window all =
      let here : a.left ≤ b.left + cost_in before = p.carried.spare in
      let most = cost_take section window (i + 1) in
      let units = units_cost operation in
      omega (arith, ap cost_in numbered_next, sum_by-append (λ (y : ℕ × Op). cost y.1) before ((op, operation) ∷ []))

  pub script_in_window : b.script ≡ a.script
  script_in_window = p.turn.script_is

  -- what it follows in the window
  module _ (c : CourseData) (last : Option Extent) (answer : Answer) (follows : Follows a.script (op_bios before) last) (q : SubmitsBio b c op operation last answer) where
    abbrev runs_on : Bool
    runs_on = option_map_or (λ first. back_runs_on (keys_of b.script) first q.bio) last false

    mid_is : q.mid ≡ record b { opened = q.mid.opened }
    mid_is = (elim runs_on as (λ (t : Bool). runs_on ≡ t → q.mid ≡ record b { opened = q.mid.opened }) [
      | true ↦ λ on. let e : q.mid ≡ b = q.goes_on on in e ∙ ap (λ (m : CourseData). record b { opened = m.opened }) (sym e)
      | false ↦ λ off. let e : q.mid ≡ record b { opened = None } = q.starts off in e ∙ ap (λ (m : CourseData). record b { opened = m.opened }) (sym e)
    ]) refl

    same_device : own_device q.mid ≡ own_device b
    same_device = ap own_device mid_is

    joined_as : joins_last (joins (keys_of a.script)) (last_request a.script (op_bios before)) (first_units_of op q.bio q.bio.units) ≡ runs_on
    joined_as = follows.joined (first_units_of op q.bio q.bio.units)
        ∙ ap (λ (s : Script). option_map_or (λ first. back_runs_on (keys_of s) first q.bio) last false) (sym script_in_window)

    follow : MayFollow a.script (op_bios before) (first_units_of op q.bio q.bio.units) b.opened q.mid.opened
    follow = record {
      goes_on = λ on. ap (λ (m : CourseData). m.opened) (q.goes_on (sym joined_as ∙ on));
      starts = λ off. ap (λ (m : CourseData). m.opened) (q.starts (sym joined_as ∙ off));
    }

    abbrev made : List Entry
    made = p.carried.made ++ q.performs.carries.made

    below : Pairs (λ first second. first < second) window → AllByRecursion (λ (o : ℕ). o < op) (take i window)
    below order = pairs_take (λ first second. first < second) window i op order lt read

    turned : Pairs (λ first second. first < second) window → InTurn a c (op_bios before ++ first_units_of op q.bio q.bio.units ∷ []) made
    turned order = q.performs.turn a (op_bios before) b.opened p.carried.made
        (bios_all (λ o. o < op) before (numbered_all section (λ o. o < op) (take i window) (below order)))
        follow
        (subst (λ (m : CourseData). InTurn a m (op_bios before) p.carried.made) (sym (ap (λ (m : CourseData). record m { opened = b.opened }) mid_is)) p.turn)

    one : CarriesBy (own_device b) (own_device c) ((op, operation) ∷ []) (answer ∷ []) q.performs.carries.made
    one = subst (λ (d : DeviceData). CarriesBy d (own_device c) ((op, operation) ∷ []) (answer ∷ []) q.performs.carries.made) same_device (q.performs.carries, refl)

    carried_on : KnownStays → Pairs (λ first second. first < second) window
        → CarriesBy (own_device a) (own_device c) (before ++ (op, operation) ∷ []) (p.told ++ answer ∷ []) made
    carried_on known_stays order =
        carries_append_by known_stays (own_device a) (own_device b) (own_device c) before ((op, operation) ∷ []) p.told (answer ∷ []) p.carried.made q.performs.carries.made
        (λ x y at at' same. let less : x.0 < op = all_at (λ (z : ℕ × Op). z.0 < op) before x (numbered_all section (λ o. o < op) (take i window) (below order)) at in
        ⊎_elim (λ (e : (op, operation) ≡ y). let k : op ≡ y.0 = ap (λ (z : ℕ × Op). z.0) e in absurd (omega arith)) (λ (no' : ⊥). absurd no') at')
        (p.carried, refl) one

    go_on : KnownStays → (o : ℕ) → slice_get (slice_set answers op (Some answer)) o ≡ slice_get answers o → Settled (own_device b) section answers o → Settled (own_device c) section (slice_set answers op (Some answer)) o
    go_on known_stays o same s =
        let e : own_device c ≡ record (own_device b) { seen = (own_device c).seen; noted = (own_device c).noted; spare = (own_device c).spare } = one.0.same in record {
          operation = s.operation;
          answer = s.answer;
          asked = s.asked;
          told = same ∙ s.told;
          range = s.range;
          replied = subst (λ (d : DeviceData). IsReply d.script d.shards d.base d.thread (own_device c).seen (o, s.operation) s.answer) (sym e)
              (reply_more known_stays b.script (own_device b).shards (own_device b).base b.thread (own_device b).seen (own_device c).seen one.0.grows.fronts (o, s.operation) s.answer s.replied);
        }

    over : IsReply b.script (own_device b).shards (own_device b).base b.thread (own_device c).seen (op, operation) answer
        → IsReply c.script (own_device c).shards (own_device c).base c.thread (own_device c).seen (op, operation) answer
    over is' = subst (λ (d : DeviceData). IsReply d.script d.shards d.base d.thread (own_device c).seen (op, operation) answer) (sym one.0.same) is'

    pub window_more : KnownStays → Pairs (λ first second. first < second) window → op < length answers
        → InWindow a c section window (i + 1) old (slice_set answers op (Some answer))
    window_more known_stays order fits =
        let r = subst (λ l. CarriesBy (own_device a) (own_device c) l (p.told ++ answer ∷ []) made) (sym numbered_next) (carried_on known_stays order) in
        let now = slice_set answers op (Some answer) in
        record {
          told = p.told ++ answer ∷ [];
          carried = r.0;
          turn = subst (InTurn a c (op_bios (numbered section (take (i + 1) window)))) (sym r.1)
              (subst (λ l. InTurn a c l made) (sym (ap op_bios numbered_next ∙ bios_push before op operation q.bio q.is_bio)) (turned order));
          settled = subst (AllByRecursion (Settled (own_device c) section now)) (sym next)
              (all_append (Settled (own_device c) section now) (take i window) (op ∷ [])
              (all_from_in (Settled (own_device c) section now) (take i window)
              (λ o at. let less = all_at (λ n. n < op) (take i window) o (below order) at in
              go_on known_stays o (get_set_other answers op o (Some answer) (λ e. omega arith)) (all_at (Settled (own_device b) section answers) (take i window) o p.settled at)))
              (record { operation = operation; answer = answer; asked = is; told = get_set_same answers op (Some answer) fits; replied = over one.0.replies.0; range = one.0.ranges.0 }, tt));
          long = length_set answers op (Some answer) ∙ p.long;
          others = λ o out. get_set_other answers op o (Some answer)
              (λ e. true≢false (sym (in_is o window (subst (λ n. In n window) e (in_read window i op lt read))) ∙ out)) ∙ p.others o out;
        }

    -- and the next one follows it
    pub follows_more : (last' : Option Extent) → last' ≡ bio_of operation → IsPlaced (keys_of a.script) q.bio
        → Follows a.script (op_bios (numbered section (take (i + 1) window))) last'
    follows_more last' same placed =
        subst (λ l. Follows a.script l last') (sym (ap op_bios numbered_next ∙ bios_push before op operation q.bio q.is_bio))
        (follows_next a.script (op_bios before) op q.bio last' (same ∙ q.is_bio) placed)

-- an element within, whatever stands for one after the end
pub read_within : (xs : List ℕ) (i d e : ℕ) → i < length xs → get_or xs i d ≡ get_or xs i e
read_within [] i d e lt = absurd (omega arith)
read_within (x ∷ xs) zero d e lt = refl
read_within (x ∷ xs) (suc i) d e lt = read_within xs i d e (omega arith)

pub plugged_within : (script : Script) (section : List Op) (o : ℕ) → MayBePlugged script section o → o < length section
plugged_within script [] o may = absurd may
plugged_within script (x ∷ xs) zero may = omega arith
plugged_within script (x ∷ xs) (suc o) may = let r = plugged_within script xs o may in omega arith

-- an operation that may be plugged
pub plugged_at : (script : Script) (section : List Op) (o : ℕ) (operation : Op) → slice_get section o ≡ Some operation → MayBePlugged script section o → IsAcceptedBio script operation
plugged_at script section o operation is may = subst (λ (p : Option Op). IsSomeAnd p (IsAcceptedBio script)) is may

-- ---- noted answers

pub none_noted : (replies : List Answer) (i : ℕ) → i < length (map (λ a. Some a) replies) → get_or (map (λ a. Some a) replies) i None ≡ None → ⊥
none_noted [] i lt is = absurd (omega arith)
none_noted (r ∷ replies) zero lt is = none-some r (sym is)
none_noted (r ∷ replies) (suc i) lt is = none_noted replies i (omega arith) is

pub same_replies : (one other : List Answer) → map (λ a. Some a) one ≡ map (λ a. Some a) other → one ≡ other
same_replies [] [] e = refl
same_replies [] (y ∷ ys) e = let n : 0 ≡ suc (length (map (λ (a : Answer). Some a) ys)) = ap length e in absurd (omega arith)
same_replies (x ∷ xs) [] e = let n : suc (length (map (λ (a : Answer). Some a) xs)) ≡ 0 = ap length e in absurd (omega arith)
same_replies (x ∷ xs) (y ∷ ys) e =
    ap (λ a. a ∷ xs) (same_Some x y (ap (λ l. get_or l 0 None) e)) ∙ ap (λ l. y ∷ l) (same_replies xs ys (ap (drop 1) e))

pub replied_all : (R : ℕ × Op → Answer → Type 0) (n : ℕ) (section : List Op) (replies : List Answer) → AllZip R (enumerate_from n section) replies → length replies ≡ length section
replied_all R n [] [] all = refl
replied_all R n [] (y ∷ ys) all = absurd all
replied_all R n (x ∷ xs) [] all = absurd all
replied_all R n (x ∷ xs) (y ∷ ys) all = ap suc (replied_all R (n + 1) xs ys all.1)

pub taken : {X : Type 0} (xs ys : List X) (n : ℕ) → n ≡ length xs → take n (xs ++ ys) ≡ xs
taken xs ys n is = ap (λ k. take k (xs ++ ys)) is ∙ first xs ys
  where
    first : {X : Type 0} (xs ys : List X) → take (length xs) (xs ++ ys) ≡ xs
    first [] ys = refl
    first (x ∷ xs) ys = ap (λ l. x ∷ l) (first xs ys)
