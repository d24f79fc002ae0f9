-- The one key of a request, and the context of its first bio.
use Rattle.std.proofs.Common.{◌≡◌, ℕ, ◌<◌, ◌≤◌, true, List, [], ◌∷◌, map, refl, sym, ap, ◌∙◌, arith, Option, Some, None}
use Rattle.std.specs.Prelude.{◌&&◌, ◌==◌}
use Rattle.std.specs.Option.{unwrap_or}
use Rattle.std.specs.List.{range_with_len}
use Rattle.std.proofs.lemmas.Bool.{and_parts, eqb-true, false≢true}
use Rattle.std.proofs.lemmas.Option.{none-some, same_Some}
use Rattle.bc_base.specs.Lists.{Each}
use Rattle.bc_base.proofs.Lists.{each_at, each_append}
use Rattle.bc_key.specs.declared.keys.KeyNo.{KeyNo}
use Rattle.bc_key.specs.KeyData.{KeyData}
use Rattle.bc_bio.specs.declared.context.Context.{Context}
use Rattle.bc_bio.specs.declared.marked_bio.MarkedBio.{MarkedBio}
use Rattle.bc_bio.specs.BackRuns.{back_runs_on, context_runs_on, same_access}
use Rattle.bc_bio.specs.BioUnits.{context_wrapped}
use Rattle.bc_bio.specs.Chunks.{Linked}
use Rattle.bc_bio.specs.Extent.{end_of}
use Rattle.bc_bio.specs.Windows.{IsRequest, NamedUnit, TaggedBio, count_units, joins, named_unit, named_units, units_of_request}
use Rattle.bc_bio.specs.Requests.{tagged_bios, tagged_of}
use Rattle.bc_queue.specs.RequestUnits.{named_at, no_unit}
use Rattle.bc_pieces.proofs.Units.{at_within}
use Rattle.bc_stack.proofs.PieceLaws.{length-units_of_request}

pub key_of : Option Context → Option ℕ
key_of None = None
key_of (Some c) = Some c.key.0

same_key : (first : Option Context) (units : ℕ) (second : Option Context) → context_runs_on first units second ≡ true → key_of second ≡ key_of first
unfolding key_of
same_key None units None is = refl
same_key None units (Some second) is = absurd (false≢true is)
same_key (Some first) units None is = absurd (false≢true is)
same_key (Some first) units (Some second) is = ap (λ (k : ℕ). Some k) (sym (eqb-true first.key.0 second.key.0 (and_parts _ _ is).0))

linked_keys : (keys : List KeyData) (t : TaggedBio) (bios : List TaggedBio) → Linked (joins keys) (t ∷ bios) → Each (λ b. key_of b.bio.context ≡ key_of t.bio.context) bios
linked_keys keys t [] linked = tt
linked_keys keys t (b ∷ bios) linked =
    let runs : back_runs_on keys t.bio b.bio ≡ true = linked.0 in
    let first : key_of b.bio.context ≡ key_of t.bio.context = same_key t.bio.context t.bio.units b.bio.context (and_parts (same_access t.bio.access b.bio.access && (b.bio.sector == end_of keys t.bio)) (context_runs_on t.bio.context t.bio.units b.bio.context) runs).1 in
    (first, all_more bios (linked_keys keys b bios linked.1) first)
  where
    all_more : (bs : List TaggedBio) → Each (λ x. key_of x.bio.context ≡ key_of b.bio.context) bs → key_of b.bio.context ≡ key_of t.bio.context → Each (λ x. key_of x.bio.context ≡ key_of t.bio.context) bs
    all_more [] each same = tt
    all_more (x ∷ xs) each same = (each.0 ∙ same, all_more xs each.1 same)

wrapped_key : (i : ℕ) (context : Option Context) → key_of (context_wrapped i context) ≡ key_of context
unfolding key_of
wrapped_key i None = refl
wrapped_key i (Some c) = refl

units_key : (keys : List KeyData) (k : Option ℕ) (bios : List TaggedBio) → Each (λ b. key_of b.bio.context ≡ k) bios → Each (λ u. key_of u.context ≡ k) (units_of_request keys bios)
units_key keys k [] each = tt
units_key keys k (b ∷ bios) each =
    each_append (λ u. key_of u.context ≡ k) (named_units keys b) (units_of_request keys bios) (of_range (range_with_len 0 b.bio.units)) (units_key keys k bios each.1)
  where
    of_range : (ns : List ℕ) → Each (λ u. key_of u.context ≡ k) (map (named_unit keys b) ns)
    of_range [] = tt
    of_range (n ∷ ns) = (wrapped_key n b.bio.context ∙ each.0, of_range ns)

-- every unit of a request is under the key of its first bio
unit_key : (keys : List KeyData) (first : MarkedBio) (others : List MarkedBio) (n : ℕ) → IsRequest keys (tagged_bios (first ∷ others)) → n < count_units (tagged_bios (first ∷ others)) → key_of (named_at keys (first ∷ others) n).context ≡ key_of first.bio.context
unit_key keys first others n is below =
    let bios : List TaggedBio = tagged_bios (first ∷ others) in
    let len = length-units_of_request keys bios in
    let here = at_within (units_of_request keys bios) n (omega (arith, len, below)) in
    ap (λ (o : Option NamedUnit). key_of (unwrap_or o no_unit).context) here.1
    ∙ each_at (λ (u : NamedUnit). key_of u.context ≡ key_of first.bio.context) (units_of_request keys bios) n here.0
    (units_key keys (key_of first.bio.context) bios (refl, linked_keys keys (tagged_of first.bio) (tagged_bios others) is.joined)) here.1

no_key : (o : Option Context) → key_of o ≡ None → o ≡ None
unfolding key_of
no_key None is = refl
no_key (Some c) is = absurd (none-some c.key.0 (sym is))

-- a context under this key
pub record IsUnder (number : KeyNo) (o : Option Context) : Type 0 where
  pub context : Context
  pub is : o ≡ Some context
  pub same : context.key ≡ number

some_key : (o : Option Context) (number : KeyNo) → key_of o ≡ Some number.0 → IsUnder number o
unfolding key_of
some_key None number is = absurd (none-some number.0 is)
some_key (Some c) number is = record { context = c; is = refl; same = ap (λ (n : ℕ). let k : KeyNo = record { 0 = n } in k) (same_Some c.key.0 number.0 is) }

module _ (keys : List KeyData) (first : MarkedBio) (others : List MarkedBio) (request : IsRequest keys (tagged_bios (first ∷ others))) (some : 1 ≤ count_units (tagged_bios (first ∷ others))) where
  first_key : key_of (named_at keys (first ∷ others) 0).context ≡ key_of first.bio.context
  first_key = unit_key keys first others 0 request (omega (arith, some))

  pub plain_first : (named_at keys (first ∷ others) 0).context ≡ None → first.bio.context ≡ None
  unfolding key_of
  plain_first is = no_key first.bio.context (sym first_key ∙ ap key_of is)

  pub plain_all : (named_at keys (first ∷ others) 0).context ≡ None → (n : ℕ) → n < count_units (tagged_bios (first ∷ others)) → (named_at keys (first ∷ others) n).context ≡ None
  unfolding key_of
  plain_all is n below = no_key (named_at keys (first ∷ others) n).context (unit_key keys first others n request below ∙ sym first_key ∙ ap key_of is)

  pub under_first : (c : Context) → (named_at keys (first ∷ others) 0).context ≡ Some c → IsUnder c.key first.bio.context
  unfolding key_of
  under_first c is = some_key first.bio.context c.key (sym first_key ∙ ap key_of is)

  pub under_all : (c : Context) → (named_at keys (first ∷ others) 0).context ≡ Some c → (n : ℕ) → n < count_units (tagged_bios (first ∷ others)) → IsUnder c.key (named_at keys (first ∷ others) n).context
  unfolding key_of
  under_all c is n below = some_key (named_at keys (first ∷ others) n).context c.key (unit_key keys first others n request below ∙ sym first_key ∙ ap key_of is)
