-- Every lawful run of a generated script over zeros leaves the image of its number of pairs.
use Rattle.std.proofs.Common.{◌≡◌, ℕ, ◌*◌, ◌/◌, ◌≤◌, List, [], ◌∷◌, length, true, refl, ap, ◌∙◌, subst, arith}
use Rattle.std.specs.Prelude.{flat_map}
use Rattle.std.proofs.Math.ListN.{length-replicate}
use Rattle.bc_base.specs.Lists.{list_at}
use Rattle.bc_bio.specs.Laws.{UnitsHaveSizes}
use Rattle.bc_bio.specs.PlannedUnit.{PlannedUnit}
use Rattle.bc_modes.specs.Laws.{EncipheringKeepsLength}
use Rattle.bc_medium.specs.KeyedDisk.{image_sectors, bytes_at, disk_along}
use Rattle.bc_medium.specs.LawfulOrders.{LawfulOrders}
use Rattle.bc_medium.specs.Outcome.{final_image}
use Rattle.bc_stack.specs.declared.target.Target.{Target}
use Rattle.bc_script.specs.GeneratedScript.{generated, generated_device}
use Rattle.bc_script.specs.Plan.{plan_of}
use Rattle.bc_script.specs.Script.{Script, keys_of, sectors_in}
use Rattle.bc_report.specs.LawfulRun.{LawfulButHolders}
use Rattle.bc_report.specs.Report.{Report}
use Rattle.bc_report.specs.RunOf.{orders_of}
use Rattle.bc_made.specs.Laws.{RunsLeaveTheMadeImage}
use Rattle.bc_made.specs.MadeImage.{zeros_for, image_in_turn, made_image}
use Rattle.bc_made.proofs.Generated.{home_of, own_plans, plan_for_any}
use Rattle.bc_made.proofs.OneImage.{IsOwnPlan, one_image}

-- a lawful run without faults leaves the image in turn, where each thread's plan is its own
left_in_turn : (script : Script) (shards : ℕ) (report : Report) (left : List ℕ) (home : ℕ → ℕ) → script.faults ≡ [] → 1 ≤ shards
    → ((t : ℕ) → IsOwnPlan (keys_of script) home t (list_at (plan_of script) t))
    → LawfulButHolders script (zeros_for script) shards report left
    → left ≡ image_in_turn script
unfolding image_in_turn
left_in_turn script shards report left home quiet some owned lawful =
    let image = zeros_for script in
    let keys = keys_of script in
    let plan = plan_of script in
    let orders = orders_of report in
    let long : length image ≡ 4096 * script.blocks = length-replicate (4096 * script.blocks) 0 in
    let sectors : length image / 512 ≡ sectors_in script = omega arith in
    lawful.image_left
    ∙ ap (λ (faults : List (ℕ × ℕ)). final_image (record { image = image; keys = keys; plan = plan; faults = faults; orders = orders })) quiet
    ∙ one_image keys image plan orders shards some (subst (λ (faults : List (ℕ × ℕ)). LawfulOrders shards plan faults orders) quiet lawful.orders) home owned
    ∙ ap (λ (m : ℕ). bytes_at (disk_along keys [] 0 0 (image_sectors image) (flat_map (λ units. units) plan)) 0 m) sectors

-- the devices play no part
in_turn_for_any : (script : Script) (targets : List Target) → script.fallback ≡ true → image_in_turn script ≡ image_in_turn (record script { targets = targets })
unfolding image_in_turn
in_turn_for_any script targets on =
    ap (λ (plan : List (List PlannedUnit)). bytes_at (disk_along (keys_of script) [] 0 0 (image_sectors (zeros_for script)) (flat_map (λ units. units) plan)) 0 (sectors_in script))
    (plan_for_any script targets on)

slots_play_no_part : (n slots : ℕ) → image_in_turn (generated n slots) ≡ made_image n
unfolding made_image
slots_play_no_part n slots = in_turn_for_any (generated n slots) (generated_device 1 ∷ []) refl

pub runs_leave_the_made_image : EncipheringKeepsLength → UnitsHaveSizes → RunsLeaveTheMadeImage
runs_leave_the_made_image law sizes n slots shards script report left is some lawful =
    left_in_turn script shards report left home_of (ap (λ (s : Script). s.faults) is) some
    (own_plans law sizes script n (ap (λ (s : Script). s.threads) is)) lawful
    ∙ ap image_in_turn is
    ∙ slots_play_no_part n slots
