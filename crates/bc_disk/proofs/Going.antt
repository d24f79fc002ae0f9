-- The units of a request of bios that a disk takes, by the way that they go.
use Rattle.std.proofs.Common.{◌≡◌, ℕ, ◌+◌, ◌*◌, ◌<◌, ◌≤◌, Bool, true, false, List, [], ◌∷◌, length, sym, ap, subst, ◌∙◌, arith, Option, Some, None}
use Rattle.std.specs.Prelude.{slice_get, IsSomeAnd}
use Rattle.std.specs.Option.{option_map_or, unwrap_or}
use Rattle.std.proofs.lemmas.List.Sums.{sum_by-cons}
use Rattle.bc_key.specs.declared.keys.KeyNo.{KeyNo}
use Rattle.bc_key.specs.KeyData.{KeyData}
use Rattle.bc_key.specs.KeyList.{key_at}
use Rattle.bc_bio.specs.declared.context.Context.{Context}
use Rattle.bc_bio.specs.declared.marked_bio.MarkedBio.{MarkedBio}
use Rattle.bc_bio.specs.Conditions.{HasKey}
use Rattle.bc_bio.specs.Extent.{unit_sectors}
use Rattle.bc_bio.specs.Laws.{UnitsHaveSizes, UnitsLieInBlocks, UnrefusedIsAccepted}
use Rattle.bc_bio.specs.Requests.{tagged_bios, tagged_of}
use Rattle.bc_bio.specs.Windows.{IsRequest, NamedUnit, TaggedBio, count_units, units_of_request}
use Rattle.bc_medium.specs.Medium.{OwnsSectors}
use Rattle.bc_modes.specs.Capabilities.{Capabilities, capabilities_of, is_supported}
use Rattle.bc_stack.specs.declared.target.Target.{Target}
use Rattle.bc_stack.specs.Devices.{all_support}
use Rattle.bc_stack.specs.Pieces.{device_of}
use Rattle.bc_stack.specs.Targets.{CoverAll}
use Rattle.bc_queue.specs.RequestUnits.{named_at, no_unit}
use Rattle.bc_queue.specs.Carrying.{ArePerformable}
use Rattle.bc_queue.specs.Queues.{TakesPlain}
use Rattle.bc_pieces.specs.ManyCallers.{TakesOn}
use Rattle.bc_pieces.specs.Pieces.{GoesByDevices}
use Rattle.bc_pieces.proofs.Units.{at_within}
use Rattle.bc_pieces.proofs.Walk.{is_device}
use Rattle.bc_disk.specs.Disks.{DiskData, IsDisk, goes_inline, keys_in}
use Rattle.bc_disk.specs.Soft.{GoesSoft}
use Rattle.bc_disk.specs.Submissions.{AreTaken}
use Rattle.bc_disk.proofs.OneKey.{IsUnder, plain_all, under_all}
use Rattle.bc_disk.proofs.Supporting.{lies_on, supports_same, target_supports}
use Rattle.bc_disk.proofs.Taking.{UnitTaken, accepted_is, unit_taken}

-- every unit without a context, or under this key
pub plain_each : (keys : List KeyData) (bios : List MarkedBio) → IsRequest keys (tagged_bios bios) → 1 ≤ count_units (tagged_bios bios) → (named_at keys bios 0).context ≡ None → (n : ℕ) → n < count_units (tagged_bios bios) → (named_at keys bios n).context ≡ None
plain_each keys [] request some is n below = absurd (omega (arith, some))
plain_each keys (first ∷ others) request some is n below = plain_all keys first others request some is n below

pub under_each : (keys : List KeyData) (bios : List MarkedBio) → IsRequest keys (tagged_bios bios) → 1 ≤ count_units (tagged_bios bios) → (c : Context) → (named_at keys bios 0).context ≡ Some c → (n : ℕ) → n < count_units (tagged_bios bios) → IsUnder c.key (named_at keys bios n).context
under_each keys [] request some c is n below = absurd (omega (arith, some))
under_each keys (first ∷ others) request some c is n below = under_all keys first others request some c is n below

-- what a key's number says of the key
key_goes : (targets : List Target) (keys : List KeyData) (number : KeyNo) (b : Bool) → number.0 < length keys → goes_inline targets keys number ≡ b → IsSomeAnd (key_at keys number) (λ key. all_support targets key.config ≡ b)
key_goes targets keys number b within is =
    let here = at_within keys number.0 within in
    let goes : all_support targets here.0.config ≡ b = sym (ap (λ (o : Option KeyData). option_map_or (λ key. all_support targets key.config) o false) here.1) ∙ is in
    subst (λ (o : Option KeyData). IsSomeAnd o (λ key. all_support targets key.config ≡ b)) (sym here.1) goes

-- a unit under such a key
goes_under : (targets : List Target) (keys : List KeyData) (number : KeyNo) (b : Bool) (o : Option Context) → IsUnder number o → HasKey keys o → goes_inline targets keys number ≡ b → IsSomeAnd o (λ c. IsSomeAnd (key_at keys c.key) (λ key. all_support targets key.config ≡ b))
goes_under targets keys number b o under has is =
    let within : HasKey keys (Some under.context) = subst (HasKey keys) under.is has in
    subst (λ (x : Option Context). IsSomeAnd x (λ c. IsSomeAnd (key_at keys c.key) (λ key. all_support targets key.config ≡ b))) (sym under.is)
    (key_goes targets keys under.context.key b within (ap (goes_inline targets keys) under.same ∙ is))

and_more : {X : Type 0} (P Q : X → Type 0) → ((x : X) → P x → Q x) → (o : Option X) → IsSomeAnd o P → IsSomeAnd o Q
and_more P Q f None is = absurd is
and_more P Q f (Some x) is = f x is

-- a bio that a disk takes has a unit
pub some_units : {S : Type 0} (owns : S → ℕ → Bool) (inside disk : DiskData S) → inside ≡ disk → IsDisk owns inside → UnitsHaveSizes → UnitsLieInBlocks → UnrefusedIsAccepted → (bios : List MarkedBio) → 1 ≤ length bios → AreTaken disk bios → 1 ≤ count_units (tagged_bios bios)
some_units owns inside disk is_disk keeps sizes in_blocks accepted [] some taken = absurd (omega (arith, some))
some_units {S} owns inside disk is_disk keeps sizes in_blocks accepted (m ∷ bios) some taken =
    let kept : IsDisk owns disk = subst (IsDisk owns) is_disk keeps in
    let one = (accepted_is owns disk sizes in_blocks accepted kept.small kept.owned m.bio taken.0.1).some in
    let sum : count_units (tagged_bios (m ∷ bios)) ≡ length m.bio.units + count_units (tagged_bios bios) = sum_by-cons (λ (x : TaggedBio). x.bio.units) (tagged_of m.bio) (tagged_bios bios) in
    omega (arith, one, sum)

module _ {S : Type 0} (owns : S → ℕ → Bool) (inside disk : DiskData S) (is_disk : inside ≡ disk) (keeps : IsDisk owns inside) (sizes : UnitsHaveSizes) (in_blocks : UnitsLieInBlocks) (accepted : UnrefusedIsAccepted)
    (bios : List MarkedBio) (request : IsRequest (keys_in disk) (tagged_bios bios)) (some : 1 ≤ count_units (tagged_bios bios)) (taken : AreTaken disk bios) where
  kept : IsDisk owns disk
  kept = subst (IsDisk owns) is_disk keeps

  unit_is : (n : ℕ) → n < count_units (tagged_bios bios) → UnitTaken owns disk sizes in_blocks accepted kept.small kept.owned bios n
  unit_is n below = unit_taken owns disk sizes in_blocks accepted kept.small kept.owned bios taken n below

  pub first_has_key : HasKey (keys_in disk) (named_at (keys_in disk) bios 0).context
  first_has_key = (unit_is 0 (omega (arith, some))).key

  plain_taken : (named_at (keys_in disk) bios 0).context ≡ None → ArePerformable (keys_in disk) (TakesPlain owns disk.queue.medium) bios 0 (count_units (tagged_bios bios))
  plain_taken is n from below =
      let u = unit_is n (omega (arith, below)) in
      let none = plain_each (keys_in disk) bios request some is n (omega (arith, below)) in record {
        full = u.full;
        taken = (none, subst (λ (o : Option Context). OwnsSectors owns disk.queue.medium (named_at (keys_in disk) bios n).sector (unit_sectors (keys_in disk) o)) none u.sectors);
      }

  pub plain_units : (named_at (keys_in disk) bios 0).context ≡ None → ArePerformable (keys_in inside) (TakesPlain owns inside.queue.medium) bios 0 (count_units (tagged_bios bios))
  plain_units is = subst (λ (d : DiskData S). ArePerformable (keys_in d) (TakesPlain owns d.queue.medium) bios 0 (count_units (tagged_bios bios))) (sym is_disk) (plain_taken is)

  pub soft_units_of : (c : Context) → (named_at (keys_in disk) bios 0).context ≡ Some c → goes_inline disk.targets (keys_in disk) c.key ≡ false → ArePerformable (keys_in disk) (GoesSoft owns disk) bios 0 (count_units (tagged_bios bios))
  soft_units_of c is soft n from below =
      let u = unit_is n (omega (arith, below)) in
      let under = under_each (keys_in disk) bios request some c is n (omega (arith, below)) in record {
        full = u.full;
        taken = record { sectors = u.sectors; key = goes_under disk.targets (keys_in disk) c.key false (named_at (keys_in disk) bios n).context under u.key soft };
      }

  module _ (c : Context) (is : (named_at (keys_in disk) bios 0).context ≡ Some c) (inline : goes_inline disk.targets (keys_in disk) c.key ≡ true) (covers : CoverAll inside.blocks inside.targets) where
    cover : CoverAll disk.blocks disk.targets
    cover = subst (λ (d : DiskData S). CoverAll d.blocks d.targets) is_disk covers

    -- some key is supported by all devices
    supported : (n : ℕ) → n < count_units (tagged_bios bios) → IsSomeAnd (named_at (keys_in disk) bios n).context (λ d. IsSomeAnd (key_at (keys_in disk) d.key) (λ key. all_support disk.targets key.config ≡ true))
    supported n below = goes_under disk.targets (keys_in disk) c.key true (named_at (keys_in disk) bios n).context (under_each (keys_in disk) bios request some c is n below) (unit_is n below).key inline

    lies : (n : ℕ) (unit : NamedUnit) → n < count_units (tagged_bios bios) → slice_get (units_of_request (keys_in disk) (tagged_bios bios)) n ≡ Some unit → device_of disk.targets unit < length disk.targets
    lies n unit below at =
        let named : named_at (keys_in disk) bios n ≡ unit = ap (λ (o : Option NamedUnit). unwrap_or o no_unit) at in
        let inside : unit.sector < 8 * disk.blocks = subst (λ (u : NamedUnit). u.sector < 8 * disk.blocks) named (unit_is n below).inside in
        of_context (named_at (keys_in disk) bios n).context (supported n below) inside
      where
        of_key : (o : Option KeyData) → IsSomeAnd o (λ key. all_support disk.targets key.config ≡ true) → unit.sector < 8 * disk.blocks → device_of disk.targets unit < length disk.targets
        of_key None does inside = absurd does
        of_key (Some key) does inside = lies_on disk.blocks unit.sector disk.targets key.config cover does inside

        of_context : (o : Option Context) → IsSomeAnd o (λ d. IsSomeAnd (key_at (keys_in disk) d.key) (λ key. all_support disk.targets key.config ≡ true)) → unit.sector < 8 * disk.blocks → device_of disk.targets unit < length disk.targets
        of_context None does inside = absurd does
        of_context (Some d) does inside = of_key (key_at (keys_in disk) d.key) does inside

    pub inline_units : (room : ℕ) → GoesByDevices (keys_in disk) disk.targets (TakesOn owns disk.queue) (record { bios = bios; spare = room })
    inline_units room = record {
      located = λ n below unit at. lies n unit below at;
      taken = λ n device below on.
          let there : device < length disk.targets = is_device disk.targets (units_of_request (keys_in disk) (tagged_bios bios)) n device on (λ unit at. lies n unit below at) in
          let target = at_within disk.targets device there in
          let u = unit_is n below in record {
            full = u.full;
            taken = λ controller at. record {
              sectors = u.sectors;
              supported =
                  let caps : controller.caps ≡ capabilities_of target.0.caps = kept.supports device target.0 target.1 controller at in
                  subst (λ (x : Capabilities). IsSomeAnd (named_at (keys_in disk) bios n).context (λ d. IsSomeAnd (key_at (keys_in disk) d.key) (λ key. is_supported x key.config ≡ true))) (sym caps)
                  (and_more (λ (d : Context). IsSomeAnd (key_at (keys_in disk) d.key) (λ key. all_support disk.targets key.config ≡ true)) (λ (d : Context). IsSomeAnd (key_at (keys_in disk) d.key) (λ key. is_supported (capabilities_of target.0.caps) key.config ≡ true))
                  (λ d does. and_more (λ (key : KeyData). all_support disk.targets key.config ≡ true) (λ (key : KeyData). is_supported (capabilities_of target.0.caps) key.config ≡ true)
                  (λ key all. supports_same target.0.caps key.config (target_supports disk.targets key.config device target.0 all target.1)) (key_at (keys_in disk) d.key) does)
                  (named_at (keys_in disk) bios n).context (supported n below));
            };
          };
    }

    pub inline_units_in : (room : ℕ) → GoesByDevices (keys_in inside) inside.targets (TakesOn owns inside.queue) (record { bios = bios; spare = room })
    inline_units_in room = subst (λ (d : DiskData S). GoesByDevices (keys_in d) d.targets (TakesOn owns d.queue) (record { bios = bios; spare = room })) (sym is_disk) (inline_units room)
