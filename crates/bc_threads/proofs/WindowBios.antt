-- The bios of a window: each is that of an operation of the section, the disk takes it, and its units are those of the plan.
use Rattle.std.proofs.Common.{◌≡◌, ◌∙◌, ℕ, zero, suc, ◌+◌, ◌<◌, ◌≤◌, true, cond, List, [], ◌∷◌, ◌++◌, length, map, refl, sym, ap, subst, arith, Option, Some, None}
use Rattle.std.specs.Prelude.{flat_map, slice_get, is_none, IsSomeAnd, IsTrue}
use Rattle.std.specs.List.{AllByRecursion, AllZip, range_with_len}
use Rattle.std.specs.Option.{option_map_or}
use Rattle.std.proofs.lemmas.Option.{none-some, same_Some}
use Rattle.bc_base.specs.Lists.{At}
use Rattle.bc_base.specs.Sectors.{Sectors}
use Rattle.bc_key.specs.KeyData.{KeyData}
use Rattle.bc_key.specs.KeyList.{key_at}
use Rattle.bc_key.specs.DataUnitNumber.{fits}
use Rattle.bc_bio.specs.declared.bio.Bio.{Bio}
use Rattle.bc_bio.specs.declared.context.Context.{Context}
use Rattle.bc_bio.specs.declared.extent.Extent.{Extent}
use Rattle.bc_bio.specs.declared.refusal.Refusal.{Refusal}
use Rattle.bc_bio.specs.declared.refusal.Refusal.TheVariants as refusals
use Rattle.bc_bio.specs.declared.refusal.BioError.{BioError}
use Rattle.bc_bio.specs.BioUnits.{context_wrapped, extent_of}
use Rattle.bc_bio.specs.Check.{check_of, numbers_fit}
use Rattle.bc_bio.specs.Conditions.{AreFull, HasKey, IsAccepted, IsPlaced}
use Rattle.bc_bio.specs.Extent.{context_after}
use Rattle.bc_bio.specs.Laws.{UnrefusedIsAccepted}
use Rattle.bc_bio.specs.PlannedUnit.{PlannedUnit}
use Rattle.bc_bio.proofs.NumberLaws.{context_wrapped-fits}
use Rattle.bc_script.specs.declared.named_key.NamedKey.{NamedKey}
use Rattle.bc_script.specs.declared.op.Op.{Op}
use Rattle.bc_script.specs.declared.op.Op.TheVariants as ops
use Rattle.bc_script.specs.Script.{Script, IsContext, IsNamedKey, IsScript, IsScriptOp, keys_of, sectors_in}
use Rattle.bc_script.specs.Bios.{bio_of, refusal_of, unsupported_of}
use Rattle.bc_script.specs.Plan.{unit_at, units_of, units_of_bio}
use Rattle.bc_section.specs.SectionProgress.{IsAcceptedBio, MayBePlugged, numbered}
use Rattle.bc_section.proofs.Lists.{all_slice, at_of_map}
use Rattle.bc_pieces.specs.Becoming.{planned_in, planned_units}
use Rattle.bc_disk.specs.Disks.{DiskData}
use Rattle.bc_disk.specs.Submissions.{IsTaken}
use Rattle.bc_threads.specs.PreparedBios.{IsBioOf, IsPrepared}
use Rattle.bc_threads.specs.SharedDevice.{IsOpenFor}
use Rattle.bc_threads.proofs.Refusing.{bio_there}
use Rattle.bc_threads.proofs.Showing.{refusal_is}

-- the bio is that of operation number o of the section, which is accepted
pub record IsWindowBio (script : Script) (section : List Op) (o : ℕ) (bio : Bio) : Type 0 where
  pub operation : Op
  pub asked : slice_get section o ≡ Some operation
  pub of : IsBioOf script o operation bio
  pub accepted : refusal_of script (extent_of bio) ≡ None
  pub key : HasKey (keys_of script) bio.context

-- the key of an operation's bio is one of the script
has_key : (script : Script) (operation : Op) (bio : Bio) → IsScriptOp script operation → bio_of operation ≡ Some (extent_of bio) → HasKey (keys_of script) bio.context
has_key script (ops.Write context sector units text) bio rules is = key_of context (ap (λ (e : Extent). e.context) (same_Some _ _ is)) rules.0.context_is
  where
    key_of : (context : Option Context) → context ≡ bio.context → IsContext (keys_of script) context → HasKey (keys_of script) bio.context
    key_of None same is = subst (HasKey (keys_of script)) same tt
    key_of (Some c) same is = subst (HasKey (keys_of script)) same is.0
has_key script (ops.Read context sector units) bio rules is = key_of context (ap (λ (e : Extent). e.context) (same_Some _ _ is)) rules.context_is
  where
    key_of : (context : Option Context) → context ≡ bio.context → IsContext (keys_of script) context → HasKey (keys_of script) bio.context
    key_of None same is = subst (HasKey (keys_of script)) same tt
    key_of (Some c) same is = subst (HasKey (keys_of script)) same is.0
has_key script (ops.Evict key) bio rules is = absurd (none-some (extent_of bio) is)
has_key script (ops.Reset device) bio rules is = absurd (none-some (extent_of bio) is)
has_key script ops.Plug bio rules is = absurd (none-some (extent_of bio) is)
has_key script ops.Unplug bio rules is = absurd (none-some (extent_of bio) is)

module _ (script : Script) (section : List Op) (bios : List (Option Bio)) (rules : AllByRecursion (IsScriptOp script) section) where
  window_bio : (o : ℕ) (operation : Op) (bio : Bio) → slice_get section o ≡ Some operation → IsAcceptedBio script operation → IsPrepared script bios (o, operation) → At bios o (Some bio) → IsWindowBio script section o bio
  window_bio o operation bio asked accepted prepared stands =
      let there = bio_there script bios o operation (λ bio. refusal_of script bio ≡ None) accepted prepared in
      let of = subst (IsBioOf script o operation) (same_Some there.0 bio (same_Some (Some there.0) (Some bio) (sym there.1 ∙ stands))) there.2 in
      record {
        operation = operation;
        asked = asked;
        of = of;
        accepted = subst (λ (e : Option Extent). IsSomeAnd e (λ bio. refusal_of script bio ≡ None)) of.extent accepted;
        key = has_key script operation bio (all_slice (IsScriptOp script) section o operation rules asked) of.extent;
      }

  pub window_bios : (window : List ℕ) (taken : List Bio) (rest : List (ℕ × Op)) → AllByRecursion (MayBePlugged script section) window → AllByRecursion (IsPrepared script bios) (numbered section window ++ rest)
      → AllZip (λ o bio. At bios o (Some bio)) window taken → AllZip (IsWindowBio script section) window taken
  window_bios [] [] rest may prepared each = tt
  window_bios [] (bio ∷ taken) rest may prepared each = absurd each
  window_bios (o ∷ os) [] rest may prepared each = absurd each
  window_bios (o ∷ os) (bio ∷ taken) rest may prepared each = go (slice_get section o) refl (λ all. window_bios os taken rest may.1 all each.1)
    where
      go : (p : Option Op) → slice_get section o ≡ p → (AllByRecursion (IsPrepared script bios) (numbered section os ++ rest) → AllZip (IsWindowBio script section) os taken) → AllZip (IsWindowBio script section) (o ∷ os) (bio ∷ taken)
      go None is others = absurd (subst (λ (p : Option Op). IsSomeAnd p (IsAcceptedBio script)) is may.0)
      go (Some operation) is others =
          let all = subst (λ (p : Option Op). AllByRecursion (IsPrepared script bios) (option_map_or (λ operation. (o, operation) ∷ numbered section os) p (numbered section os) ++ rest)) is prepared in
          (window_bio o operation bio is (subst (λ (p : Option Op). IsSomeAnd p (IsAcceptedBio script)) is may.0) all.0 each.0, others all.1)

  -- each operation of a window that has its bio prepared
  pub bios_there : (window : List ℕ) (rest : List (ℕ × Op)) → AllByRecursion (MayBePlugged script section) window → AllByRecursion (IsPrepared script bios) (numbered section window ++ rest)
      → AllByRecursion (λ o. (bio : Bio) × At bios o (Some bio) × IsWindowBio script section o bio) window
  bios_there [] rest may prepared = tt
  bios_there (o ∷ os) rest may prepared = go (slice_get section o) refl (λ all. bios_there os rest may.1 all)
    where
      go : (p : Option Op) → slice_get section o ≡ p → (AllByRecursion (IsPrepared script bios) (numbered section os ++ rest) → AllByRecursion (λ o. (bio : Bio) × At bios o (Some bio) × IsWindowBio script section o bio) os) → AllByRecursion (λ o. (bio : Bio) × At bios o (Some bio) × IsWindowBio script section o bio) (o ∷ os)
      go None is others = absurd (subst (λ (p : Option Op). IsSomeAnd p (IsAcceptedBio script)) is may.0)
      go (Some operation) is others =
          let all = subst (λ (p : Option Op). AllByRecursion (IsPrepared script bios) (option_map_or (λ operation. (o, operation) ∷ numbered section os) p (numbered section os) ++ rest)) is prepared in
          let accepted = subst (λ (p : Option Op). IsSomeAnd p (IsAcceptedBio script)) is may.0 in
          let there = bio_there script bios o operation (λ bio. refusal_of script bio ≡ None) accepted all.0 in
          ((there.0, there.1, window_bio o operation there.0 is accepted all.0 there.1), others all.1)

module _ (script : Script) (section : List Op) (rules : IsScript script) (laws : UnrefusedIsAccepted) where
  unrefused_check : (o : Option BioError) (other : Option Refusal) → option_map_or (λ error. Some (refusals.Bio error)) o other ≡ None → o ≡ None
  unrefused_check None other is = refl
  unrefused_check (Some error) other is = absurd (none-some (refusals.Bio error) (sym is))

  pub is_accepted : (o : ℕ) (bio : Bio) → IsWindowBio script section o bio → IsAccepted (keys_of script) (sectors_in script) (extent_of bio)
  is_accepted o bio is =
      let few = rules.blocks.1 in
      laws (keys_of script) (sectors_in script) (extent_of bio) is.key (omega (arith, few))
      (unrefused_check (check_of (keys_of script) (sectors_in script) (extent_of bio)) (unsupported_of script bio.context) is.accepted)

  pub is_placed : (o : ℕ) (bio : Bio) → IsWindowBio script section o bio → IsPlaced (keys_of script) (extent_of bio)
  is_placed o bio is = (is_accepted o bio is).placed

  -- the numbers of its units don't wrap
  no_wrap : (context : Option Context) (units : ℕ) → HasKey (keys_of script) context → IsTrue (numbers_fit (keys_of script) context units) → (i : ℕ) → i ≤ units → context_wrapped i context ≡ context_after i context
  no_wrap None units key fit i le = refl
  no_wrap (Some context) units key fit i le = by_key (key_at (keys_of script) context.key) refl
    where
      by_key : (k : Option KeyData) → key_at (keys_of script) context.key ≡ k → context_wrapped i (Some context) ≡ context_after i (Some context)
      by_key None is = absurd (past (keys_of script) context.key.0 key is)
        where
          past : (keys : List KeyData) (n : ℕ) → n < length keys → slice_get keys n ≡ None → ⊥
          past [] n lt is = omega (arith, lt)
          past (k ∷ ks) zero lt is = none-some k (sym is)
          past (k ∷ ks) (suc n) lt is = past ks n (omega (arith, lt)) is
      by_key (Some k) is =
          let named = at_of_map (λ (named : NamedKey). named.key) script.keys context.key.0 k is in
          let valid = all_slice IsNamedKey script.keys context.key.0 named.0 rules.keys.each named.1 in
          let most = subst (λ (k : KeyData). k.config.dun_bytes ≤ 16) named.2 valid.valid.most in
          context_wrapped-fits context units k.config.dun_bytes most
          (subst (λ (o : Option KeyData). IsTrue (option_map_or (λ key. fits context.dun units key.config.dun_bytes) o true)) is fit) i le

  -- two maps that agree on the numbers below a bound
  map_range : {A : Type 0} (f g : ℕ → A) (first n : ℕ) → ((i : ℕ) → first ≤ i → i < first + n → f i ≡ g i) → map f (range_with_len first n) ≡ map g (range_with_len first n)
  map_range f g first zero same = refl
  map_range f g first (suc n) same =
      ap (λ (a : _). a ∷ map f (range_with_len (first + 1) n)) (same first (omega arith) (omega arith))
      ∙ ap (λ (l : List _). g first ∷ l) (map_range f g (first + 1) n (λ i le lt. same i (omega (arith, le)) (omega (arith, lt))))

  -- its units are those of its operation
  pub units_are : (o : ℕ) (bio : Bio) (is : IsWindowBio script section o bio) → planned_units (keys_of script) bio ≡ units_of script (o, is.operation)
  units_are o bio is =
      map_range (planned_in (keys_of script) bio) (unit_at (keys_of script) o is.operation (extent_of bio)) 0 (length bio.units)
      (λ i le lt. same i (omega (arith, lt)))
      ∙ sym
      (ap (λ (e : Option Extent). option_map_or (units_of_bio script o is.operation) e []) is.of.extent
      ∙ ap (λ (r : Option Refusal). cond {A = List PlannedUnit} (is_none r) (map (unit_at (keys_of script) o is.operation (extent_of bio)) (range_with_len 0 (length bio.units))) []) is.accepted)
    where
      same : (i : ℕ) → i < length bio.units → planned_in (keys_of script) bio i ≡ unit_at (keys_of script) o is.operation (extent_of bio) i
      same i lt =
          ap (λ (tag : ℕ). record (planned_in (keys_of script) bio i) { tag = tag }) is.of.tag
          ∙ ap (λ (context : Option Context). record (planned_in (keys_of script) bio i) { tag = o; context = context }) (no_wrap bio.context (length bio.units) is.key (is_accepted o bio is).fits i (omega (arith, lt)))
          ∙ ap (λ (bytes : List ℕ). record (planned_in (keys_of script) bio i) { tag = o; context = context_after i bio.context; bytes = bytes }) (is.of.bytes i lt)

  -- and so are those of all bios of a window
  pub all_units_are : (window : List ℕ) (taken : List Bio) → AllZip (IsWindowBio script section) window taken → flat_map (planned_units (keys_of script)) taken ≡ flat_map (units_of script) (numbered section window)
  all_units_are [] [] all = refl
  all_units_are [] (bio ∷ taken) all = absurd all
  all_units_are (o ∷ os) [] all = absurd all
  all_units_are (o ∷ os) (bio ∷ taken) all =
      ap (λ (l : List PlannedUnit). l ++ flat_map (planned_units (keys_of script)) taken) (units_are o bio all.0)
      ∙ ap (λ (l : List PlannedUnit). units_of script (o, all.0.operation) ++ l) (all_units_are os taken all.1)
      ∙ sym (ap (λ (p : Option Op). flat_map (units_of script) (option_map_or (λ operation. (o, operation) ∷ numbered section os) p (numbered section os))) all.0.asked)

  -- the disk takes them
  pub is_taken : {S : Type 0} (contents : S → Option Sectors) (disk : DiskData S) → IsOpenFor contents script disk → (o : ℕ) (bio : Bio) → IsWindowBio script section o bio → IsTaken disk bio
  is_taken contents disk opened o bio is = record {
    key = subst (λ (keys : List KeyData). HasKey keys bio.context) (sym opened.keys) is.key;
    unrefused = refusal_is contents script disk opened (extent_of bio) ∙ is.accepted;
    full = subst (λ (keys : List KeyData). AreFull keys bio) (sym opened.keys) is.of.full;
  }
