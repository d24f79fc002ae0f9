-- Under one key on one device a thread's later entry names no earlier event.
use Rattle.std.proofs.Common.{◌≡◌, ◌∙◌, ℕ, List, [], ◌∷◌, refl, sym, ap, subst, Option, Some, None}
use Rattle.std.specs.Prelude.{filter_map, option_and_then, IsSomeAnd}
use Rattle.std.specs.List.{cons_option}
use Rattle.std.proofs.lemmas.Option.{none-some, same_Some}
use Rattle.bc_bio.specs.declared.context.Context.{Context}
use Rattle.bc_medium.specs.declared.entry.Entry.{Entry}
use Rattle.bc_medium.specs.declared.via.Via.{Via}
use Rattle.bc_medium.specs.declared.via.Via.TheVariants as vias
use Rattle.bc_report.specs.Programmings.{InlineEntry, entry_by}
use Rattle.bc_compose.specs.SectionDone.{inline_of}
use Rattle.bc_compose.specs.OrderedHolds.{Pairs, Rises}
use Rattle.bc_section.proofs.Lists.{in_of_filter_map}
use Rattle.bc_pieces.specs.PieceEffects.{NamesNoEarlier, Rise}
use Rattle.bc_base.proofs.Members.{all_at, all_from_in}

-- what an inline entry says of its unit and its way
pub inline_parts : (op : ℕ) (context : Option Context) (via : Via) (i : InlineEntry) → option_and_then (λ c. entry_by op c via) context ≡ Some i
    → (c : Context) × (slot : ℕ) × (context ≡ Some c) × (via ≡ vias.Inline i.device slot i.event) × (c.key.0 ≡ i.key)
inline_parts op None via i is = absurd (none-some i is)
inline_parts op (Some c) (vias.Inline device slot event) i is =
    let e = same_Some (record { op = op; key = c.key.0; device = device; event = event }) i is in
    (c, slot, refl, ap (λ (j : InlineEntry). vias.Inline j.device slot j.event) e, ap (λ (j : InlineEntry). j.key) e)
inline_parts op (Some c) vias.Soft i is = absurd (none-some i is)
inline_parts op (Some c) vias.Plain i is = absurd (none-some i is)

no_earlier : (e f : Entry) (i j : InlineEntry) → NamesNoEarlier e f → inline_of e ≡ Some i → inline_of f ≡ Some j → Rises i j
no_earlier e f i j names is_i is_j same_key same_device =
    let p = inline_parts e.at.tag e.at.context e.via i is_i in
    let q = inline_parts f.at.tag f.at.context f.via j is_j in
    names j.device p.1 i.event q.1 j.event j.key (subst (λ (d : ℕ). e.via ≡ vias.Inline d p.1 i.event) same_device p.3) q.3
    (subst (λ (o : Option Context). IsSomeAnd o (λ c. c.key.0 ≡ j.key)) (sym p.2) (p.4 ∙ same_key))
    (subst (λ (o : Option Context). IsSomeAnd o (λ c. c.key.0 ≡ j.key)) (sym q.2) q.4)

pub rises_are : (es : List Entry) → Rise es → Pairs Rises (filter_map inline_of es)
rises_are [] rise = tt
rises_are (e ∷ es) rise = go (inline_of e) refl (rises_are es rise.1)
  where
    go : (o : Option InlineEntry) → inline_of e ≡ o → Pairs Rises (filter_map inline_of es) → Pairs Rises (cons_option o (filter_map inline_of es))
    go None is rest = rest
    go (Some i) is rest = (
      all_from_in (Rises i) (filter_map inline_of es) (λ j at'.
          let r = in_of_filter_map inline_of es j at' in no_earlier e r.0 i j (all_at (NamesNoEarlier e) es r.0 rise.0 r.1) is r.2),
      rest,
    )
