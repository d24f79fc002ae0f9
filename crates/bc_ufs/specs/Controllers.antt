-- What contracts see of the controller of a device with inline encryption, after UFSHCI; and which holds serve which
-- data units: those of the unit's own key, whose entry is in the registers.
use Rattle.std.specs.Prelude.{◌≡◌, ℕ, true, List, Option, Some, if◌then◌else◌}
use Rattle.std.specs.Option.{unwrap_or}
use Rattle.bc_key.specs.KeyData.{KeyData}
use Rattle.bc_key.specs.KeyList.{key_at}
use Rattle.bc_modes.specs.declared.ufs_caps.Capability.{Capability}
use Rattle.bc_modes.specs.Capabilities.{Capabilities, is_supported}
use Rattle.bc_modes.specs.Entries.{entry_words}
use Rattle.bc_bio.specs.declared.context.Context.{Context}
use Rattle.bc_medium.specs.declared.via.Via.{Via}
use Rattle.bc_medium.specs.declared.via.Via.TheVariants.{Inline}
use Rattle.bc_profile.specs.Rows.{cleared}
use Rattle.bc_profile.specs.Passes.{ProfileData, HoldFacts, row_at}

-- a controller: the number of its device, its keyslots, and what its crypto engine can do
pub record ControllerData : Type 0 where
  pub device : ℕ
  pub profile : ProfileData
  pub caps : Capabilities

-- a controller's register row of a key: the key's entry where the controller supports it, else zeros
abbrev pub row_for : Capabilities → KeyData → List ℕ
row_for caps key = if is_supported caps key.config then unwrap_or (entry_words key caps) cleared else cleared

-- a data unit under this context may be carried out under the hold: the hold is of the context's key, which the
-- controller supports, and the row of that key is its entry
pub record Serves (controller : ControllerData) (keys : List KeyData) (context : Option Context) (hold : HoldFacts)
    : Type 0 where
  pub under : Context
  pub has_context : context ≡ Some under
  pub same_key : under.key.0 ≡ hold.key
  pub key : KeyData
  pub is_key : key_at keys under.key ≡ Some key
  pub supported : is_supported controller.caps key.config ≡ true
  pub entry : entry_words key controller.caps ≡ Some (row_at controller.profile hold.key)

-- how a unit goes that is carried out under the hold: by this device, the hold's slot, and the event that programmed it
abbrev pub via_by_device : ControllerData → HoldFacts → Via
via_by_device controller hold = Inline controller.device hold.slot hold.epoch

-- Private: capabilities, of whose numbers nothing is reported.
abbrev pub with_list : List Capability → Capabilities
with_list list = record { list = list; max_dun_bytes = 0 }
