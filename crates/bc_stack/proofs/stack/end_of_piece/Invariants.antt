use Rattle.std.proofs.Common.{◌≡◌, ℕ, ◌-◌, ◌<◌, ◌≤◌, Some}
use Rattle.std.specs.Prelude.{slice_get}
use Rattle.std.specs.Option.{option_map}
use Rattle.bc_bio.specs.Windows.{units_of_request}
use Rattle.bc_bio.specs.Requests.{tagged_bios}
use Rattle.bc_stack.specs.Pieces.{device_of}
use Rattle.bc_stack.proofs.stack.end_of_piece.Given as goal

-- the units so far lie on the device
abbrev pub invariant-loop-end : goal.invariant-loop-end
invariant-loop-end l =
    (l.first < l.end) × (l.end ≤ l.units)
    × ((n : ℕ) → l.first ≤ n → n < l.end → option_map (device_of l.targets) (slice_get (units_of_request l.keys.keys (tagged_bios l.request.bios)) n) ≡ Some l.device)

abbrev pub decreases-loop-end : goal.decreases-loop-end
decreases-loop-end l = l.units - l.end
