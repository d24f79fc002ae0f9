-- The pieces and the entries of one request.
use Rattle.std.proofs.Common.{◌≡◌, ℕ, ◌+◌, ◌≤◌, Bool, true, false, cond, List, [], ◌∷◌, sym, ap, subst, ◌∙◌, Option, Some, None}
use Rattle.std.specs.Prelude.{flat_map}
use Rattle.std.specs.Option.{option_map_or}
use Rattle.std.proofs.lemmas.List.Folds.{flat_map-map}
use Rattle.bc_key.specs.declared.keys.KeyNo.{KeyNo}
use Rattle.bc_key.specs.KeyData.{KeyData}
use Rattle.bc_bio.specs.declared.context.Context.{Context}
use Rattle.bc_bio.specs.declared.marked_bio.MarkedBio.{MarkedBio}
use Rattle.bc_bio.specs.PlannedUnit.{PlannedUnit}
use Rattle.bc_bio.specs.Requests.{tagged_bios}
use Rattle.bc_bio.specs.Windows.{TaggedBio, count_units, units_of_request}
use Rattle.bc_stack.specs.declared.target.Target.{Target}
use Rattle.bc_stack.specs.Pieces.{pieces_of}
use Rattle.bc_queue.specs.RequestUnits.{planned_part, count_units_on}
use Rattle.bc_pieces.specs.Laws.{PlannedByBios}
use Rattle.bc_pieces.specs.Pieces.{DeviceFacts}
use Rattle.bc_pieces.specs.Becoming.{planned_units}
use Rattle.bc_disk.specs.Disks.{goes_inline}
use Rattle.bc_disk.specs.Submissions.{HasEntriesFor, LeavesEntries, bare_bios, inline_pieces}

module _ (targets : List Target) (keys : List KeyData) (first : TaggedBio) (others : List TaggedBio) where
  -- the pieces by the context of the first bio, and by whether its key goes inline
  by_context : Option Context → List (List Rattle.bc_bio.specs.Windows.NamedUnit)
  by_context o = option_map_or (λ (key : KeyNo). pieces_of targets (units_of_request keys (first ∷ others))) (option_map_or (λ (c : Context). cond (goes_inline targets keys c.key) (Some c.key) None) o None) []

  by_way : KeyNo → Bool → List (List Rattle.bc_bio.specs.Windows.NamedUnit)
  by_way key b = option_map_or (λ (k : KeyNo). pieces_of targets (units_of_request keys (first ∷ others))) (cond b (Some key) None) []

  pub none_plain : first.bio.context ≡ None → inline_pieces targets keys (first ∷ others) ≡ []
  unfolding by_context
  none_plain is = ap by_context is

  pub none_soft : (c : Context) → first.bio.context ≡ Some c → goes_inline targets keys c.key ≡ false → inline_pieces targets keys (first ∷ others) ≡ []
  unfolding by_context by_way
  none_soft c is soft = ap by_context is ∙ ap (by_way c.key) soft

  pub all_inline : (c : Context) → first.bio.context ≡ Some c → goes_inline targets keys c.key ≡ true → inline_pieces targets keys (first ∷ others) ≡ pieces_of targets (units_of_request keys (first ∷ others))
  unfolding by_context by_way
  all_inline c is inline = ap by_context is ∙ ap (by_way c.key) inline

module _ (by_bios : PlannedByBios) (bios : List MarkedBio) where
  pub planned_is : (keys : List KeyData) → planned_part keys bios 0 (count_units (tagged_bios bios)) ≡ flat_map (planned_units keys) (bare_bios bios)
  planned_is keys = by_bios keys bios ∙ sym (flat_map-map (planned_units keys) (λ (marked : MarkedBio). marked.bio) bios)

  -- the room for the bios is that for the units of the request
  pub entries_for : (facts : DeviceFacts) → HasEntriesFor facts (bare_bios bios) → (shard : ℕ) → count_units_on facts.access.shards shard (planned_part facts.access.keys bios 0 (count_units (tagged_bios bios))) ≤ facts.access.spare shard
  entries_for facts has shard = subst (λ (us : List PlannedUnit). count_units_on facts.access.shards shard us ≤ facts.access.spare shard) (sym (planned_is facts.access.keys)) (has shard)

  pub leaves_entries : (old new : DeviceFacts) → ((shard : ℕ) → old.access.spare shard ≤ new.access.spare shard + count_units_on old.access.shards shard (planned_part old.access.keys bios 0 (count_units (tagged_bios bios)))) → LeavesEntries old new (bare_bios bios)
  leaves_entries old new less shard = subst (λ (us : List PlannedUnit). old.access.spare shard ≤ new.access.spare shard + count_units_on old.access.shards shard us) (planned_is old.access.keys) (less shard)
