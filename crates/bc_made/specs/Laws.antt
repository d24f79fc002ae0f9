-- The law of generated scripts: whatever the slots, the shards and the order in which the threads'
-- data units met, every lawful run over zeros leaves one image, which the number of pairs decides.
use Rattle.std.specs.Prelude.{◌≡◌, ℕ, ◌≤◌, List}
use Rattle.bc_script.specs.Script.{Script}
use Rattle.bc_script.specs.GeneratedScript.{generated}
use Rattle.bc_report.specs.Report.{Report}
use Rattle.bc_report.specs.LawfulRun.{LawfulButHolders}
use Rattle.bc_made.specs.MadeImage.{zeros_for, made_image}

-- each lawful run of the script that is generated for n, over zeros, leaves the image of n
abbrev pub RunsLeaveTheMadeImage : Type 0
RunsLeaveTheMadeImage =
    (n slots shards : ℕ) (script : Script) (report : Report) (left : List ℕ)
    → script ≡ generated n slots → 1 ≤ shards
    → LawfulButHolders script (zeros_for script) shards report left
    → left ≡ made_image n
