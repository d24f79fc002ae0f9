-- The ways of a thread's entries are those of the plan.
use Rattle.std.proofs.Common.{◌≡◌, ◌∙◌, ℕ, Bool, true, false, cond, List, sym, ap, Option, Some, None}
use Rattle.std.specs.Prelude.{unwrap_or}
use Rattle.bc_key.specs.KeyData.{KeyData}
use Rattle.bc_bio.specs.declared.context.Context.{Context}
use Rattle.bc_medium.specs.declared.entry.Entry.{Entry}
use Rattle.bc_medium.specs.declared.via.Via.{Via}
use Rattle.bc_medium.specs.declared.via.Via.TheVariants as vias
use Rattle.bc_stack.specs.declared.target.Target.{Target}
use Rattle.bc_stack.specs.Devices.{device_at}
use Rattle.bc_script.specs.Script.{Script, keys_of}
use Rattle.bc_script.specs.Bios.{is_inline}
use Rattle.bc_script.specs.Way.{Way, inline, soft, way_of}
use Rattle.bc_report.specs.Ways.{way_in}
use Rattle.bc_compose.specs.SectionDone.{SaysItsWay}
use Rattle.bc_disk.specs.Disks.{goes_inline}
use Rattle.bc_disk.specs.Submissions.{GoesItsWay, IsInlineAt, IsUnderWay, IsWayOf}
use Rattle.bc_threads.proofs.Showing.{inline_of_script}

module _ (targets : List Target) (keys : List KeyData) (script : Script) (same_targets : targets ≡ script.targets) (same_keys : keys ≡ keys_of script) where
  by_device : (sector : ℕ) (via : Via) → IsInlineAt targets sector via → way_in via ≡ inline (unwrap_or (device_at script.targets sector) 0)
  by_device sector (vias.Inline device slot event) is =
      ap inline (sym (ap (λ (o : Option ℕ). unwrap_or o 0) (ap (λ (ts : List Target). device_at ts sector) (sym same_targets) ∙ is)))
  by_device sector vias.Soft is = absurd is
  by_device sector vias.Plain is = absurd is

  way_is : (context : Option Context) (sector : ℕ) (via : Via) → IsWayOf targets keys context sector via → way_in via ≡ way_of script context sector
  way_is None sector via is = ap way_in is
  way_is (Some context) sector via is = under (goes_inline targets keys context.key) (inline_of_script targets keys script context.key same_targets same_keys) is
    where
      under : (b : Bool) → b ≡ is_inline script context.key → IsUnderWay b targets sector via → way_in via ≡ way_of script (Some context) sector
      under true same is = by_device sector via is ∙ ap (λ (b : Bool). cond {A = Way} b (inline (unwrap_or (device_at script.targets sector) 0)) soft) same
      under false same is = ap way_in is ∙ ap (λ (b : Bool). cond {A = Way} b (inline (unwrap_or (device_at script.targets sector) 0)) soft) same

  pub says_its_way : (e : Entry) → GoesItsWay targets keys e → SaysItsWay script e
  says_its_way e is = way_is e.at.context e.at.sector e.via is
