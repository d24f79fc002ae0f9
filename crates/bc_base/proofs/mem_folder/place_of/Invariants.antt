use Rattle.std.proofs.Common.{◌≡◌, ℕ, ◌<◌, false, get_or}
use Rattle.std.specs.Str.{bytes_eq}
use Rattle.bc_base.specs.Folders.{FileData}
use Rattle.bc_base.proofs.mem_folder.place_of.Given as goal

abbrev pub invariant-loop-place : goal.invariant-loop-place
invariant-loop-place l = (k : ℕ) (d : FileData) → k < l.place → bytes_eq (get_or l.files k d).name l.name ≡ false
