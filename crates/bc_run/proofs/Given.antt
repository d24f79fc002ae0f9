-- What a parse of the command's words gives: the first word, and the value of an option that has a parser.
use Rattle.std.proofs.Common.{◌≡◌, ◌∙◌, ◌<◌, ◌++◌, ap, ℕ, Bool, true, false, List, [], ◌∷◌, length, map, codes, Option, Some, None, IfSome, refl, sym, subst, inl, inr, zero, suc, arith}
use Rattle.std.specs.List.{All, slice_index_or}
use Rattle.std.specs.Str.{bytes_eq}
use Rattle.std.specs.Prelude.{option_map, slice_get}
use Rattle.std.specs.Option.{option_map_or}
use Rattle.std.specs.Borrow.{Bor}
use Rattle.std.proofs.lemmas.Slice.Eq.{bytes_eq-Decides}
use Rattle.std.proofs.lemmas.List.Elements.{All-get_or, All-nil}
use Rattle.clap.specs.Facts.{args_of, groups_of, Entry, EntryPasses, ValuesPass, PassesArg, parser_of, parser_of_value}
use Rattle.clap.specs.Built.{IsPlain, IsPlainArg, IsParsedFrom, IsAuto, AddsArg, SameRules}
use Rattle.clap.specs.Matches.{matched_of, first_value, found_of}
use Rattle.clap.specs.Values.{Accepts}
use Rattle.clap.specs.declared.builder.value_parser.ValueParser.{ValueParser}
use Rattle.clap.specs.declared.builder.value_parser.ValueParser.TheVariants.{Unsigned}
use Rattle.clap.specs.declared.builder.arg.Arg.{Arg}
use Rattle.clap.specs.declared.builder.command.Command.{Command}
use Rattle.clap.specs.declared.builder.command.Command.TheViews.{out-Command}
use Rattle.clap.specs.declared.parser.matches.ArgMatches.{ArgMatches}
use Rattle.clap.specs.declared.parser.matches.Found.{Found}
use Rattle.clap.specs.declared.parser.matches.MatchedArg.{MatchedArg}
use Rattle.clap.proofs.CallerLemmas.{entry_by_id, same_rules_by_id, added_plain}
use Rattle.bc_run.specs.Words.{FirstWordIs, IsNumberIn, NamesScript, names_threads}

-- the first word, as text
pub first_mapped : {X : Type 0} (f : X → List ℕ) (ws : List X) (w : X) (v : List ℕ) → slice_get ws 0 ≡ Some w → f w ≡ v → slice_get (map f ws) 0 ≡ Some v
first_mapped f [] w v at is = cc
first_mapped f (x ∷ xs) w v at is =
    let same : Some x ≡ Some w = at in
    let e : x ≡ w = cc in
    ap Some (ap f e ∙ is)

-- it is no other text than it is
pub first_is : {X : Type 0} (f : X → List ℕ) (ws : List X) (w : X) (v : List ℕ) → slice_get ws 0 ≡ Some w → slice_get (map f ws) 0 ≡ Some v → f w ≡ v
first_is f ws w v at named =
    let same : Some (f w) ≡ Some v = sym (first_mapped f ws w (f w) at refl) ∙ named in
    cc

-- whether it is `threads`
pub serial_named : (words : List (List ℕ)) → FirstWordIs (codes "serial") words → false ≡ names_threads words
serial_named words named = sym (ap (λ o. option_map_or (λ word. bytes_eq word (codes "threads")) o false) named)

pub threads_named : (words : List (List ℕ)) → FirstWordIs (codes "threads") words → true ≡ names_threads words
threads_named words named = sym (ap (λ o. option_map_or (λ word. bytes_eq word (codes "threads")) o false) named)

pub none_named : (words : List (List ℕ)) → (FirstWordIs (codes "serial") words → ⊥) → (FirstWordIs (codes "threads") words → ⊥)
    → NamesScript words → ⊥
none_named words serial threads (inl named) = serial named
none_named words serial threads (inr named) = threads named

accepts_of : (a y : Arg) (q : ValueParser) (t : List ℕ) → SameRules a y → a.value_parser ≡ Some q
    → Accepts y.ignore_case (parser_of y) t → Accepts a.ignore_case q t
accepts_of a y q t s parser read =
    let is_q : parser_of y ≡ q = ap parser_of_value (s.parser q parser) in
    let as_q : Accepts y.ignore_case q t = subst (λ (w : ValueParser). Accepts y.ignore_case w t) is_q read in
    subst (λ (b : Bool). Accepts b q t) s.ignore_case as_q

-- the entry of an id that is no group's has values that passed a parser of an argument of this id
entry_values : (c : Command) (id : List ℕ) (e : Entry) → groups_of c ≡ [] → (id ≡ [] → ⊥) → e.0.now ≡ id → EntryPasses c e
    → All (λ v. PassesArg c id v.now) e.1.vals.items
entry_values c id e no_groups named key pass =
    let no_group : e.1.is_group ≡ true → ⊥ = λ g. elim (pass.3 g) [
      | inl empty ↦ named (sym key ∙ empty)
      | inr lots ↦
          let bad : 0 < 0 = rw no_groups at lots in
          absurd (omega arith)
    ] in
    elim pass.0 [
      | inl g ↦ absurd (no_group g)
      | inr vals ↦ subst (λ (w : List ℕ). All (λ v. PassesArg c w v.now) e.1.vals.items) key vals
    ]

head_holds : (P : List ℕ → Type 0) (vs : List (Bor (List ℕ))) → All (λ v. P v.now) vs → IfSome (option_map (λ s. s.now) (slice_get vs 0)) P
head_holds P [] all = tt
head_holds P (v ∷ vs) all = All-get_or (λ w. P w.now) (v ∷ vs) 0 v (omega arith) all

-- so the first value of the id passed
first_passes : (c : Command) (f : Found) (id : List ℕ) → ValuesPass c f → groups_of c ≡ [] → (id ≡ [] → ⊥) → IfSome (first_value f id) (PassesArg c id)
first_passes c f id values no_groups named = go (matched_of f id) refl
  where
    step : (x : MatchedArg) → ((e : Entry) × (e.1 ≡ x) × (bytes_eq e.0.now id ≡ true) × EntryPasses c e)
        → IfSome (option_map (λ s. s.now) (slice_get x.vals.items 0)) (PassesArg c id)
    step x got =
        let key : got.0.0.now ≡ id = (bytes_eq-Decides got.0.0.now id).0 got.2 in
        subst (λ (y : MatchedArg). IfSome (option_map (λ s. s.now) (slice_get y.vals.items 0)) (PassesArg c id)) got.1
        (head_holds (PassesArg c id) got.0.1.vals.items (entry_values c id got.0 no_groups named key got.3))

    go : (o : Option MatchedArg) → matched_of f id ≡ o → IfSome (first_value f id) (PassesArg c id)
    go None e = rw e tt
    go (Some x) e = rw e (step x (entry_by_id (EntryPasses c) f.entries.items id x values e))

some_weaker : {X : Type 0} {P Q : X → Type 0} (o : Option X) → ((x : X) → P x → Q x) → IfSome o P → IfSome o Q
some_weaker None f h = tt
some_weaker (Some x) f h = f x h

-- the first value of an option passed the parser that the caller gave it
pub first_value_accepted : (old : Command) (m : ArgMatches) (p : IsParsedFrom old m) → IsPlain old
    → (out-Command old).has_globals ≡ false
    → (k : ℕ) (d : Arg) → k < length (args_of old)
    → ((j : ℕ) (e : Arg) → j < length (args_of old)
    → bytes_eq (slice_index_or (args_of old) j e).id.now (slice_index_or (args_of old) k d).id.now ≡ true → j ≡ k)
    → ((slice_index_or (args_of old) k d).id.now ≡ [] → ⊥)
    → (IsAuto (slice_index_or (args_of old) k d) → ⊥)
    → (q : ValueParser) → (slice_index_or (args_of old) k d).value_parser ≡ Some q
    → IfSome (first_value (found_of m) (slice_index_or (args_of old) k d).id.now) (Accepts (slice_index_or (args_of old) k d).ignore_case q)
first_value_accepted old m p plain globals k d lt unique named own q parser =
    let parsed = p.parsed (p.from.globals ∙ globals) in
    some_weaker (first_value (found_of m) (slice_index_or (args_of old) k d).id.now)
    (λ v pass. accepts_of _ pass.1 q v (same_rules_by_id old m p k d lt unique own pass.0 pass.1 pass.2 pass.3 pass.4.0) parser pass.4.1)
    (first_passes p.built (found_of m) (slice_index_or (args_of old) k d).id.now parsed.values (p.from.plain plain).1 named)

only : (x y z : Arg) → x.id.now ≡ codes "shards" → y.id.now ≡ codes "image" → z.id.now ≡ codes "out"
    → (j : ℕ) (e : Arg) → j < 3 → bytes_eq (slice_index_or (x ∷ y ∷ z ∷ []) j e).id.now x.id.now ≡ true → j ≡ 0
only x y z is_x is_y is_z zero e lt same = refl
only x y z is_x is_y is_z (suc zero) e lt same =
    let bad : false ≡ true = rw (is_x, is_y) at same in
    cc
only x y z is_x is_y is_z (suc (suc zero)) e lt same =
    let bad : false ≡ true = rw (is_x, is_z) at same in
    cc
only x y z is_x is_y is_z (suc (suc (suc j))) e lt same = absurd (omega arith)

-- the value of the first of three options, which has a range
pub number_given : (start one two cmd : Command) (a b c : Arg) (m : ArgMatches) (least most : ℕ)
    → AddsArg start a one → AddsArg one b two → AddsArg two c cmd
    → args_of start ≡ [] → groups_of start ≡ [] → (out-Command start).has_globals ≡ false
    → IsPlainArg a → IsPlainArg b → IsPlainArg c → a.global ≡ false → b.global ≡ false → c.global ≡ false
    → a.id.now ≡ codes "shards" → b.id.now ≡ codes "image" → c.id.now ≡ codes "out"
    → a.value_parser ≡ Some (Unsigned least most) → IsParsedFrom cmd m
    → IfSome (first_value (found_of m) (codes "shards")) (IsNumberIn least most)
number_given start one two cmd a b c m least most first second third args groups globals pa pb pc ga gb gc ia ib ic parser p =
    let list : args_of cmd ≡ first.arg ∷ second.arg ∷ third.arg ∷ [] =
    third.args ∙ ap (λ l. l ++ third.arg ∷ []) (second.args ∙ ap (λ l. l ++ second.arg ∷ []) (first.args ∙ ap (λ l. l ++ first.arg ∷ []) args)) in
    let start-plain : IsPlain start = (subst (All IsPlainArg) (sym args) (All-nil IsPlainArg), groups) in
    let plain : IsPlain cmd = added_plain two cmd c third (added_plain one two b second (added_plain start one a first start-plain pa) pb) pc in
    let none : (out-Command cmd).has_globals ≡ false = rw (third.globals, second.globals, first.globals, globals, ga, gb, gc) refl in
    let elem : slice_index_or (args_of cmd) 0 a ≡ first.arg = ap (λ l. slice_index_or l 0 a) list in
    let lt : 0 < length (args_of cmd) = subst (λ l. 0 < length l) (sym list) (omega arith) in
    let ix : first.arg.id.now ≡ codes "shards" = ap (λ r. r.now) first.rules.id ∙ ia in
    let iy : second.arg.id.now ≡ codes "image" = ap (λ r. r.now) second.rules.id ∙ ib in
    let iz : third.arg.id.now ≡ codes "out" = ap (λ r. r.now) third.rules.id ∙ ic in
    let id : (slice_index_or (args_of cmd) 0 a).id.now ≡ codes "shards" = ap (λ (x : Arg). x.id.now) elem ∙ ix in
    let has : (slice_index_or (args_of cmd) 0 a).value_parser ≡ Some (Unsigned least most) = ap (λ (x : Arg). x.value_parser) elem ∙ first.rules.parser _ parser in
    let unique : (j : ℕ) (e : Arg) → j < length (args_of cmd) → bytes_eq (slice_index_or (args_of cmd) j e).id.now (slice_index_or (args_of cmd) 0 a).id.now ≡ true → j ≡ 0 =
    λ j e low same.
    only first.arg second.arg third.arg ix iy iz j e (subst (λ l. j < length l) list low)
    (subst (λ l. bytes_eq (slice_index_or l j e).id.now (slice_index_or l 0 a).id.now ≡ true) list same) in
    let read = first_value_accepted cmd m p plain none 0 a lt unique
    (λ empty. let bad : codes "shards" ≡ [] = sym id ∙ empty in cc)
    (λ auto. elim auto [
      | inl h ↦ let bad : codes "shards" ≡ codes "help" = sym id ∙ h in cc
      | inr h ↦ let bad : codes "shards" ≡ codes "version" = sym id ∙ h in cc
    ])
    (Unsigned least most) has in
    within (first_value (found_of m) (codes "shards")) (slice_index_or (args_of cmd) 0 a).ignore_case (rw id at read)
  where
    within : (o : Option (List ℕ)) (b : Bool) → IfSome o (Accepts b (Unsigned least most)) → IfSome o (IsNumberIn least most)
    within None b h = tt
    within (Some t) b h = (h.0, h.2, h.3)
