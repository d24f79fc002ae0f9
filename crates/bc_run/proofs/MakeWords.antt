-- What a parse of the words of `make` gives: the value of each argument that has a range is in it.
use Rattle.std.proofs.Common.{◌≡◌, ◌∙◌, ◌<◌, ◌++◌, ap, ℕ, Bool, true, false, List, [], ◌∷◌, length, codes, Option, Some, None, IfSome, refl, sym, subst, inl, inr, zero, suc, arith}
use Rattle.std.specs.List.{All, slice_index_or}
use Rattle.std.specs.Str.{bytes_eq}
use Rattle.std.proofs.lemmas.List.Elements.{All-nil}
use Rattle.clap.specs.Facts.{args_of, groups_of}
use Rattle.clap.specs.Built.{IsPlain, IsPlainArg, IsParsedFrom, AddsArg}
use Rattle.clap.specs.Matches.{first_value, found_of}
use Rattle.clap.specs.Values.{Accepts}
use Rattle.clap.specs.declared.builder.value_parser.ValueParser.TheVariants.{Unsigned}
use Rattle.clap.specs.declared.builder.arg.Arg.{Arg}
use Rattle.clap.specs.declared.builder.command.Command.{Command}
use Rattle.clap.specs.declared.builder.command.Command.TheViews.{out-Command}
use Rattle.clap.specs.declared.parser.matches.ArgMatches.{ArgMatches}
use Rattle.clap.proofs.CallerLemmas.{added_plain}
use Rattle.bc_run.specs.Words.{IsNumberIn}
use Rattle.bc_run.proofs.Given.{first_value_accepted}

-- the ids of the four arguments
pub record HasIds (x y z w : Arg) : Type 0 where
  pub first : x.id.now ≡ codes "n"
  pub second : y.id.now ≡ codes "slots"
  pub third : z.id.now ≡ codes "shards"
  pub fourth : w.id.now ≡ codes "threads"

abbrev pub nth : (x y z w : Arg) → ℕ → Arg → Arg
nth x y z w k d = slice_index_or (x ∷ y ∷ z ∷ w ∷ []) k d

differ : (a b : List ℕ) (x y : Arg) → x.id.now ≡ a → y.id.now ≡ b → bytes_eq a b ≡ false → bytes_eq x.id.now y.id.now ≡ true → ⊥
differ a b x y is_x is_y other same =
    let as_is : bytes_eq a b ≡ true = rw (is_x, is_y) at same in
    let bad : false ≡ true = sym other ∙ as_is in
    cc

-- no two of them have one id
distinct : (x y z w : Arg) → HasIds x y z w → (j k : ℕ) (e d : Arg) → j < 4 → k < 4
    → bytes_eq (nth x y z w j e).id.now (nth x y z w k d).id.now ≡ true → j ≡ k
distinct x y z w ids zero zero e d _ _ same = refl
distinct x y z w ids (suc zero) (suc zero) e d _ _ same = refl
distinct x y z w ids (suc (suc zero)) (suc (suc zero)) e d _ _ same = refl
distinct x y z w ids (suc (suc (suc zero))) (suc (suc (suc zero))) e d _ _ same = refl
distinct x y z w ids zero (suc zero) e d _ _ same = absurd (differ (codes "n") (codes "slots") x y ids.first ids.second refl same)
distinct x y z w ids zero (suc (suc zero)) e d _ _ same = absurd (differ (codes "n") (codes "shards") x z ids.first ids.third refl same)
distinct x y z w ids zero (suc (suc (suc zero))) e d _ _ same = absurd (differ (codes "n") (codes "threads") x w ids.first ids.fourth refl same)
distinct x y z w ids (suc zero) zero e d _ _ same = absurd (differ (codes "slots") (codes "n") y x ids.second ids.first refl same)
distinct x y z w ids (suc zero) (suc (suc zero)) e d _ _ same = absurd (differ (codes "slots") (codes "shards") y z ids.second ids.third refl same)
distinct x y z w ids (suc zero) (suc (suc (suc zero))) e d _ _ same = absurd (differ (codes "slots") (codes "threads") y w ids.second ids.fourth refl same)
distinct x y z w ids (suc (suc zero)) zero e d _ _ same = absurd (differ (codes "shards") (codes "n") z x ids.third ids.first refl same)
distinct x y z w ids (suc (suc zero)) (suc zero) e d _ _ same = absurd (differ (codes "shards") (codes "slots") z y ids.third ids.second refl same)
distinct x y z w ids (suc (suc zero)) (suc (suc (suc zero))) e d _ _ same = absurd (differ (codes "shards") (codes "threads") z w ids.third ids.fourth refl same)
distinct x y z w ids (suc (suc (suc zero))) zero e d _ _ same = absurd (differ (codes "threads") (codes "n") w x ids.fourth ids.first refl same)
distinct x y z w ids (suc (suc (suc zero))) (suc zero) e d _ _ same = absurd (differ (codes "threads") (codes "slots") w y ids.fourth ids.second refl same)
distinct x y z w ids (suc (suc (suc zero))) (suc (suc zero)) e d _ _ same = absurd (differ (codes "threads") (codes "shards") w z ids.fourth ids.third refl same)
distinct x y z w ids (suc (suc (suc (suc j)))) k e d low _ same = absurd (omega arith)
distinct x y z w ids j (suc (suc (suc (suc k)))) e d _ low same = absurd (omega arith)

within : (o : Option (List ℕ)) (b : Bool) (least most : ℕ) → IfSome o (Accepts b (Unsigned least most)) → IfSome o (IsNumberIn least most)
within None b least most h = tt
within (Some t) b least most h = (h.0, h.2, h.3)

-- the value of one of four arguments, where it has a range
nth_given : (cmd : Command) (m : ArgMatches) → IsParsedFrom cmd m → IsPlain cmd → (out-Command cmd).has_globals ≡ false
    → (x y z w : Arg) → HasIds x y z w → args_of cmd ≡ x ∷ y ∷ z ∷ w ∷ []
    → (k : ℕ) → k < 4 → (id : List ℕ) → (nth x y z w k x).id.now ≡ id
    → (id ≡ [] → ⊥) → (id ≡ codes "help" → ⊥) → (id ≡ codes "version" → ⊥)
    → (least most : ℕ) → (nth x y z w k x).value_parser ≡ Some (Unsigned least most)
    → IfSome (first_value (found_of m) id) (IsNumberIn least most)
nth_given cmd m p plain none x y z w ids list k low id is_id some no_help no_version least most parser =
    let elem : slice_index_or (args_of cmd) k x ≡ nth x y z w k x = ap (λ l. slice_index_or l k x) list in
    let lt : k < length (args_of cmd) = subst (λ l. k < length l) (sym list) low in
    let has_id : (slice_index_or (args_of cmd) k x).id.now ≡ id = ap (λ (a : Arg). a.id.now) elem ∙ is_id in
    let has : (slice_index_or (args_of cmd) k x).value_parser ≡ Some (Unsigned least most) = ap (λ (a : Arg). a.value_parser) elem ∙ parser in
    let unique : (j : ℕ) (e : Arg) → j < length (args_of cmd) → bytes_eq (slice_index_or (args_of cmd) j e).id.now (slice_index_or (args_of cmd) k x).id.now ≡ true → j ≡ k =
    λ j e under same.
    distinct x y z w ids j k e x (subst (λ l. j < length l) list under) low
    (subst (λ l. bytes_eq (slice_index_or l j e).id.now (slice_index_or l k x).id.now ≡ true) list same) in
    let read = first_value_accepted cmd m p plain none k x lt unique
    (λ empty. some (sym has_id ∙ empty))
    (λ auto. elim auto [
      | inl h ↦ no_help (sym has_id ∙ h)
      | inr h ↦ no_version (sym has_id ∙ h)
    ])
    (Unsigned least most) has in
    within (first_value (found_of m) id) (slice_index_or (args_of cmd) k x).ignore_case least most (rw has_id at read)

-- the values of the three arguments that have a range
pub record AreGiven (m : ArgMatches) (most_n most_slots most_shards : ℕ) : Type 0 where
  pub pairs : IfSome (first_value (found_of m) (codes "n")) (IsNumberIn 1 most_n)
  pub slots : IfSome (first_value (found_of m) (codes "slots")) (IsNumberIn 1 most_slots)
  pub shards : IfSome (first_value (found_of m) (codes "shards")) (IsNumberIn 1 most_shards)

pub numbers_given : (start one two three cmd : Command) (a b c d : Arg) (m : ArgMatches) (most_n most_slots most_shards : ℕ)
    → AddsArg start a one → AddsArg one b two → AddsArg two c three → AddsArg three d cmd
    → args_of start ≡ [] → groups_of start ≡ [] → (out-Command start).has_globals ≡ false
    → IsPlainArg a → IsPlainArg b → IsPlainArg c → IsPlainArg d
    → a.global ≡ false → b.global ≡ false → c.global ≡ false → d.global ≡ false
    → HasIds a b c d
    → a.value_parser ≡ Some (Unsigned 1 most_n) → b.value_parser ≡ Some (Unsigned 1 most_slots) → c.value_parser ≡ Some (Unsigned 1 most_shards)
    → IsParsedFrom cmd m → AreGiven m most_n most_slots most_shards
numbers_given start one two three cmd a b c d m most_n most_slots most_shards first second third fourth args groups globals pa pb pc pd ga gb gc gd ids parser_a parser_b parser_c p =
    let list : args_of cmd ≡ first.arg ∷ second.arg ∷ third.arg ∷ fourth.arg ∷ [] =
    fourth.args ∙ ap (λ l. l ++ fourth.arg ∷ [])
    (third.args ∙ ap (λ l. l ++ third.arg ∷ []) (second.args ∙ ap (λ l. l ++ second.arg ∷ []) (first.args ∙ ap (λ l. l ++ first.arg ∷ []) args))) in
    let start-plain : IsPlain start = (subst (All IsPlainArg) (sym args) (All-nil IsPlainArg), groups) in
    let plain : IsPlain cmd = added_plain three cmd d fourth (added_plain two three c third (added_plain one two b second (added_plain start one a first start-plain pa) pb) pc) pd in
    let none : (out-Command cmd).has_globals ≡ false = rw (fourth.globals, third.globals, second.globals, first.globals, globals, ga, gb, gc, gd) refl in
    let ix : first.arg.id.now ≡ codes "n" = ap (λ r. r.now) first.rules.id ∙ ids.first in
    let iy : second.arg.id.now ≡ codes "slots" = ap (λ r. r.now) second.rules.id ∙ ids.second in
    let iz : third.arg.id.now ≡ codes "shards" = ap (λ r. r.now) third.rules.id ∙ ids.third in
    let iw : fourth.arg.id.now ≡ codes "threads" = ap (λ r. r.now) fourth.rules.id ∙ ids.fourth in
    let named : HasIds first.arg second.arg third.arg fourth.arg = record { first = ix; second = iy; third = iz; fourth = iw } in
    record {
      pairs = nth_given cmd m p plain none first.arg second.arg third.arg fourth.arg named list 0 (omega arith) (codes "n") ix
          (λ e. cc) (λ e. cc) (λ e. cc) 1 most_n (first.rules.parser _ parser_a);
      slots = nth_given cmd m p plain none first.arg second.arg third.arg fourth.arg named list 1 (omega arith) (codes "slots") iy
          (λ e. cc) (λ e. cc) (λ e. cc) 1 most_slots (second.rules.parser _ parser_b);
      shards = nth_given cmd m p plain none first.arg second.arg third.arg fourth.arg named list 2 (omega arith) (codes "shards") iz
          (λ e. cc) (λ e. cc) (λ e. cc) 1 most_shards (third.rules.parser _ parser_c);
    }
