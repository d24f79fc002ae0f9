-- What the command `make` carries out and writes: the script that is generated for its numbers,
-- over zeros, and one line with the digest of the image that is left.
use Rattle.std.specs.Prelude.{◌≡◌, ℕ, false, ◌*◌, List, ◌++◌, codes}
use Rattle.std.specs.Fmt.{decimal}
use Rattle.hex.specs.Hex.{encode_lower}
use Rattle.sha2.specs.Sha256.{sha256}
use Rattle.bc_script.specs.Script.{Script}
use Rattle.bc_script.specs.GeneratedScript.{generated}
use Rattle.bc_report.specs.Report.{Report}
use Rattle.bc_report.specs.LawfulRun.{LawfulButHolders}
use Rattle.bc_report.specs.SerialRun.{IsSerialRun}
use Rattle.bc_made.specs.MadeImage.{made_image}
use Rattle.bc_run.specs.Words.{MakeOptions}
use Rattle.bc_run.specs.Command.{zeros_for}

-- a number after a word
abbrev pub with_number : List ℕ → ℕ → List ℕ
with_number word number = word ++ decimal number

-- the line of `make`: its number, how many bios there were, how many data units were attempted, how
-- many bios were done and how many met a fault, and the digest of the image that is left
abbrev pub make_line : ℕ → ℕ → ℕ → ℕ → ℕ → List ℕ → List ℕ
make_line n bios units done faults left =
    with_number (codes "make ") n ++ (with_number (codes ": bios ") bios ++ (with_number (codes " units ") units
    ++ (with_number (codes " done ") done ++ (with_number (codes " faults ") faults
    ++ (codes " image " ++ (encode_lower (sha256 left) ++ codes "\n"))))))

-- the line of a run that leaves this image: each of sixteen threads writes n data units and reads
-- them, each by a bio of its own, and all of them are done
abbrev pub make_line_of : ℕ → List ℕ → List ℕ
make_line_of n left = make_line n (32 * n) (32 * n) (32 * n) 0 left

-- the line of `make n`, which n alone decides
abbrev pub made_line : ℕ → List ℕ
made_line n = make_line_of n (made_image n)

-- the generated script was carried out over zeros, section after section or all sections at once,
-- and this was done with the line of its number
pub record IsMade (Done : List ℕ → Type 0) (options : MakeOptions) : Type 0 where
  pub script : Script
  pub script_is : script ≡ generated options.n options.slots
  pub report : Report
  pub left : List ℕ
  pub lawful : LawfulButHolders script (zeros_for script) options.shards report left
  pub one_caller : options.at_once ≡ false → IsSerialRun script (zeros_for script) options.shards report left
  pub left_is : left ≡ made_image options.n
  pub done : Done (made_line options.n)
