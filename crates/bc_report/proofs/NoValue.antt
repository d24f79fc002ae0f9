-- Lines that no value has.
use Rattle.std.proofs.Common.{◌≡◌, ◌≢◌, ℕ, ◌<◌, ◌≤◌, ◌^◌, false, true, List, [], ◌∷◌, ◌++◌, length, map, Option, Some, None, bytes_eq, refl, sym, ap, ◌∙◌, arith, length-append}
use Rattle.std.specs.Prelude.{codes}
use Rattle.std.specs.List.{AllByRecursion}
use Rattle.std.specs.Fmt.{decimal}
use Rattle.std.specs.Str.Parse.{AllDigits}
use Rattle.std.proofs.lemmas.Fmt.{decimal_is_IsNumeral}
use Rattle.std.proofs.lemmas.Str.Parse.{digit_from_value}
use Rattle.std.proofs.lemmas.Bool.{ne_eqb}
use Rattle.std.proofs.lemmas.List.{length-map}
use Rattle.std.proofs.lemmas.List.Splits.{join_with_byte-slice_split}
use Rattle.std.proofs.lemmas.Slice.Eq.{bytes_eq-Decides}
use Rattle.std.specs.List.{join_with_byte}
use Rattle.bc_text.specs.Lines.{TextLine, parts_at}
use Rattle.bc_text.specs.Fields.{Reads, byte_text}
use Rattle.bc_text.proofs.LineLaws.{IsWithout, parts_at-cons, parts_at-one}
use Rattle.bc_medium.specs.declared.via.Via.{Via}
use Rattle.bc_medium.specs.declared.via.Via.TheVariants as vias
use Rattle.bc_profile.specs.declared.limits.TheConstants.{MAX_SLOTS}
use Rattle.bc_profile.specs.declared.skips.Skip.{Skip}
use Rattle.bc_profile.specs.declared.event.Event.{Event}
use Rattle.bc_profile.specs.declared.event.Event.TheVariants as events
use Rattle.bc_report.specs.declared.answer.Answer.{Answer}
use Rattle.bc_report.specs.declared.answer.Answer.TheVariants as answers
use Rattle.bc_report.specs.Report.{IsAnswer, IsVia, IsSkip, AreSkips, IsEvent}
use Rattle.bc_report.specs.ReportText.{answer_line, via_fields, skip_field, skip_fields, event_line}

-- ---- different words

pub differ : (x y : List ℕ) → bytes_eq x y ≡ false → x ≡ y → ⊥
differ x y unlike e = no (sym unlike ∙ (bytes_eq-Decides x y).1 e)
  where
    no : false ≡ true → ⊥
    no e = absurd cc

pub clash : (x y : List ℕ) (a b : TextLine) → bytes_eq x y ≡ false → x ∷ a ≡ y ∷ b → ⊥
clash x y a b unlike e = let words : x ≡ y = cc in differ x y unlike words

-- the first field of an answer's line, and of an event's
abbrev pub answer_word : Answer → List ℕ
answer_word answers.Wrote = codes "done"
answer_word (answers.ReadFill byte) = codes "done"
answer_word (answers.ReadSum digest) = codes "done"
answer_word (answers.Fault unit) = codes "fault"
answer_word (answers.Refused refusal) = codes "refused"
answer_word answers.Evicted = codes "evicted"
answer_word (answers.Busy device slot refs) = codes "busy"
answer_word answers.Reset = codes "reset"
answer_word answers.Plug = codes "plug"
answer_word answers.Unplug = codes "unplug"

-- ---- numbers of which there is none

pub no_evict : (fields : TextLine) → ((n : ℕ × ℕ) → (n.0 ≤ 65535) × (n.1 ≤ 65535) → fields ≡ decimal n.0 ∷ decimal n.1 ∷ [] → ⊥) → (event : Event) → IsEvent event → codes "evict" ∷ fields ≡ event_line event → ⊥
no_evict fields none (events.Evict slot key) valid e = none (slot, key) (omega arith, omega arith) cc
no_evict fields none (events.Program slot key skipped) valid e = clash (codes "evict") (codes "program") _ _ refl e
no_evict fields none (events.Idle slot) valid e = clash (codes "evict") (codes "idle") _ _ refl e
no_evict fields none (events.Busy slot key refs) valid e = clash (codes "evict") (codes "busy") _ _ refl e
no_evict fields none events.Reset valid e = clash (codes "evict") (codes "reset") _ _ refl e

pub no_found_busy : (fields : TextLine) → ((n : ℕ × ℕ × ℕ) → (n.0 ≤ 65535) × (n.1 ≤ 65535) × (n.2 ≤ 65535) → fields ≡ decimal n.0 ∷ decimal n.1 ∷ decimal n.2 ∷ [] → ⊥) → (event : Event) → IsEvent event → codes "busy" ∷ fields ≡ event_line event → ⊥
no_found_busy fields none (events.Busy slot key refs) valid e = none (slot, key, refs) (omega arith, omega arith, omega arith) cc
no_found_busy fields none (events.Program slot key skipped) valid e = clash (codes "busy") (codes "program") _ _ refl e
no_found_busy fields none (events.Idle slot) valid e = clash (codes "busy") (codes "idle") _ _ refl e
no_found_busy fields none (events.Evict slot key) valid e = clash (codes "busy") (codes "evict") _ _ refl e
no_found_busy fields none events.Reset valid e = clash (codes "busy") (codes "reset") _ _ refl e

pub no_busy : (fields : TextLine) → ((n : ℕ × ℕ × ℕ) → (n.0 ≤ 255) × (n.1 ≤ 65535) × (n.2 ≤ 65535) → fields ≡ decimal n.0 ∷ decimal n.1 ∷ decimal n.2 ∷ [] → ⊥) → (answer : Answer) → IsAnswer answer → codes "busy" ∷ fields ≡ answer_line answer → ⊥
no_busy fields none (answers.Busy device slot refs) valid e = none (device, slot, refs) (omega arith, omega arith, omega arith) cc
no_busy fields none answers.Wrote valid e = clash (codes "busy") (codes "done") _ _ refl e
no_busy fields none (answers.ReadFill byte) valid e = clash (codes "busy") (codes "done") _ _ refl e
no_busy fields none (answers.ReadSum digest) valid e = clash (codes "busy") (codes "done") _ _ refl e
no_busy fields none (answers.Fault unit) valid e = clash (codes "busy") (codes "fault") _ _ refl e
no_busy fields none (answers.Refused refusal) valid e = clash (codes "busy") (codes "refused") _ _ refl e
no_busy fields none answers.Evicted valid e = clash (codes "busy") (codes "evicted") _ _ refl e
no_busy fields none answers.Reset valid e = clash (codes "busy") (codes "reset") _ _ refl e
no_busy fields none answers.Plug valid e = clash (codes "busy") (codes "plug") _ _ refl e
no_busy fields none answers.Unplug valid e = clash (codes "busy") (codes "unplug") _ _ refl e

pub no_inline : (fields : TextLine) → ((n : ℕ × ℕ × ℕ) → (n.0 ≤ 255) × (n.1 ≤ 65535) × (n.2 ≤ 4294967295) → fields ≡ decimal n.0 ∷ decimal n.1 ∷ decimal n.2 ∷ [] → ⊥) → (via : Via) → IsVia via → codes "inline" ∷ fields ≡ via_fields via → ⊥
no_inline fields none (vias.Inline device slot event) valid e = none (device, slot, event) (omega arith, omega arith, omega arith) cc
no_inline fields none vias.Plain valid e = clash (codes "inline") (codes "plain") _ _ refl e
no_inline fields none vias.Soft valid e = clash (codes "inline") (codes "soft") _ _ refl e

-- ---- a read whose byte is none

pub no_fill : (fields : TextLine) (form digits : List ℕ) → fields ≡ form ∷ digits ∷ [] → form ≡ codes "fill" → ((b : ℕ) → b < 256 → digits ≡ byte_text b → ⊥) → (answer : Answer) → IsAnswer answer → codes "done" ∷ fields ≡ answer_line answer → ⊥
no_fill fields form digits are fill none answers.Wrote valid e = cc
no_fill fields form digits are fill none (answers.ReadFill byte) valid e = none byte valid cc
no_fill fields form digits are fill none (answers.ReadSum digest) valid e =
    let f : form ≡ codes "sha256" = cc in
    differ (codes "fill") (codes "sha256") refl (sym fill ∙ f)
no_fill fields form digits are fill none (answers.Fault unit) valid e = clash (codes "done") (codes "fault") _ _ refl e
no_fill fields form digits are fill none (answers.Refused refusal) valid e = clash (codes "done") (codes "refused") _ _ refl e
no_fill fields form digits are fill none answers.Evicted valid e = clash (codes "done") (codes "evicted") _ _ refl e
no_fill fields form digits are fill none (answers.Busy device slot refs) valid e = clash (codes "done") (codes "busy") _ _ refl e
no_fill fields form digits are fill none answers.Reset valid e = clash (codes "done") (codes "reset") _ _ refl e
no_fill fields form digits are fill none answers.Plug valid e = clash (codes "done") (codes "plug") _ _ refl e
no_fill fields form digits are fill none answers.Unplug valid e = clash (codes "done") (codes "unplug") _ _ refl e

-- ---- slots that were passed over

without_digits : (ds : List ℕ) → AllDigits 10 ds → IsWithout 58 ds
without_digits [] h = tt
without_digits (d ∷ ds) h = let r = digit_from_value d h.0 in (ne_eqb d 58 (λ e. omega arith), without_digits ds h.1)

pub without_colon : (n : ℕ) → n < 2 ^ 16 → IsWithout 58 (decimal n)
without_colon n h = without_digits (decimal n) (decimal_is_IsNumeral n (omega arith)).0.1

-- what the two sides of a colon say is what the field says
pub skip_read : (field : List ℕ) (r : Option Skip) → Reads IsSkip (λ skip. decimal skip.slot ∷ decimal skip.refs ∷ []) (parts_at 58 field) r → Reads IsSkip skip_field field r
skip_read field (Some skip) h = (h.0, sym (join_with_byte-slice_split 58 field) ∙ ap (join_with_byte 58) h.1)
skip_read field None h = λ skip valid e.
    h skip valid (
    ap (parts_at 58) e ∙ parts_at-cons 58 (decimal skip.slot) (decimal skip.refs) (without_colon skip.slot valid.0)
    ∙ ap (λ (ps : List (List ℕ)). decimal skip.slot ∷ ps) (parts_at-one 58 (decimal skip.refs) (without_colon skip.refs valid.1))
    )

-- the skips that have been read are a prefix of all
pub record SkipsSoFar (all : TextLine) (skips : List Skip) (left : TextLine) : Type 0 where
  pub fields_are : all ≡ codes "skip" ∷ (map skip_field skips ++ left)
  pub valid : AreSkips skips

skips_are : (xs : List Skip) (fields : TextLine) → codes "skip" ∷ fields ≡ skip_fields xs → (fields ≡ map skip_field xs) × (1 ≤ length xs)
skips_are [] fields e = absurd cc
skips_are (x ∷ xs) fields e = (cc, omega arith)

pub too_many_skips : (all : TextLine) (skips : List Skip) (left rest : TextLine) (field : List ℕ) → SkipsSoFar all skips left → left ≡ field ∷ rest → length skips ≡ MAX_SLOTS → (xs : List Skip) → AreSkips xs → all ≡ skip_fields xs → ⊥
too_many_skips all skips left rest field so_far more full xs valid e =
    let same = skips_are xs _ (sym so_far.fields_are ∙ e) in
    let count = ap length same.0 in
    omega (arith, valid.0, count, length-append (map skip_field skips) left, length-map skips skip_field, length-map xs skip_field, ap length more)

-- the element that follows a prefix is one of all
element : (done : TextLine) (field : List ℕ) (rest : TextLine) (xs : List Skip) → AllByRecursion IsSkip xs → done ++ field ∷ rest ≡ map skip_field xs → (x : Skip) × IsSkip x × (field ≡ skip_field x)
element [] field rest [] valid e = absurd cc
element [] field rest (x ∷ xs) valid e = (x, valid.0, cc)
element (d ∷ ds) field rest [] valid e = absurd cc
element (d ∷ ds) field rest (x ∷ xs) valid e = let f : ds ++ field ∷ rest ≡ map skip_field xs = cc in element ds field rest xs valid.1 f

pub no_such_skip : (all : TextLine) (skips : List Skip) (left rest : TextLine) (field : List ℕ) → SkipsSoFar all skips left → left ≡ field ∷ rest → ((x : Skip) → IsSkip x → field ≡ skip_field x → ⊥) → (xs : List Skip) → AreSkips xs → all ≡ skip_fields xs → ⊥
no_such_skip all skips left rest field so_far more none xs valid e =
    let same = skips_are xs _ (sym so_far.fields_are ∙ e) in
    let x = element (map skip_field skips) field rest xs valid.1 (ap (λ (l : TextLine). map skip_field skips ++ l) (sym more) ∙ same.0) in
    none x.0 x.1 x.2

pub skip_alone : (all : TextLine) (skips : List Skip) (left : TextLine) → SkipsSoFar all skips left → left ≡ [] → length skips ≡ 0 → (xs : List Skip) → AreSkips xs → all ≡ skip_fields xs → ⊥
skip_alone all skips left so_far none empty xs valid e =
    let same = skips_are xs _ (sym so_far.fields_are ∙ e) in
    omega (arith, same.1, ap length same.0, length-append (map skip_field skips) left, length-map skips skip_field, length-map xs skip_field, ap length none)

pub no_skip_word : (all : TextLine) → all ≢ [] → ((rest : TextLine) → all ≡ codes "skip" ∷ rest → ⊥) → (xs : List Skip) → AreSkips xs → all ≡ skip_fields xs → ⊥
no_skip_word all some none [] valid e = some e
no_skip_word all some none (x ∷ xs) valid e = none (map skip_field (x ∷ xs)) e

all_skips : (all : TextLine) (skips : List Skip) (left : TextLine) → SkipsSoFar all skips left → left ≡ [] → 0 < length skips → all ≡ skip_fields skips
all_skips all [] left so_far none some = absurd (omega arith)
all_skips all (x ∷ xs) left so_far none some = so_far.fields_are ∙ ap (λ (l : TextLine). codes "skip" ∷ (map skip_field (x ∷ xs) ++ l)) none ∙ ap (λ (l : TextLine). codes "skip" ∷ l) (append-nil' (map skip_field (x ∷ xs)))
  where
    append-nil' : (l : TextLine) → l ++ [] ≡ l
    append-nil' [] = refl
    append-nil' (y ∷ ys) = ap (λ (t : TextLine). y ∷ t) (append-nil' ys)

pub skips_whole : (all : TextLine) (skips : List Skip) (left : TextLine) → SkipsSoFar all skips left → left ≡ [] → 0 < length skips → AreSkips skips × (all ≡ skip_fields skips)
skips_whole all skips left so_far none some = (so_far.valid, all_skips all skips left so_far none some)

-- one more
all_push : (skips : List Skip) (skip : Skip) → AllByRecursion IsSkip skips → IsSkip skip → AllByRecursion IsSkip (skips ++ skip ∷ [])
all_push [] skip h s = (s, tt)
all_push (x ∷ xs) skip h s = (h.0, all_push xs skip h.1 s)

fields_push : (skips : List Skip) (skip : Skip) (rest : TextLine) → map skip_field (skips ++ skip ∷ []) ++ rest ≡ map skip_field skips ++ skip_field skip ∷ rest
fields_push [] skip rest = refl
fields_push (x ∷ xs) skip rest = ap (λ (t : TextLine). skip_field x ∷ t) (fields_push xs skip rest)

pub one_more_skip : (all : TextLine) (skips new : List Skip) (left rest : TextLine) (field : List ℕ) (skip : Skip) → SkipsSoFar all skips left → left ≡ field ∷ rest → length skips < MAX_SLOTS → IsSkip skip → field ≡ skip_field skip → new ≡ skips ++ skip ∷ [] → SkipsSoFar all new rest
one_more_skip all skips new left rest field skip so_far more room valid says is =
    let line : map skip_field skips ++ left ≡ map skip_field (skips ++ skip ∷ []) ++ rest =
    ap (λ (l : TextLine). map skip_field skips ++ l) more ∙ ap (λ (f : List ℕ). map skip_field skips ++ f ∷ rest) says ∙ sym (fields_push skips skip rest) in
    rw is (record {
      fields_are = so_far.fields_are ∙ ap (λ (l : TextLine). codes "skip" ∷ l) line;
      valid = (omega (arith, length-append skips (skip ∷ [])), all_push skips skip so_far.valid.1 valid);
    })
