use Rattle.std.proofs.Common.{◌∙◌, ap}
use Rattle.bc_script.specs.Progress.{Progress, blocks_of}
use Rattle.bc_script.proofs.Devices.{end_is}
use Rattle.bc_script.proofs.reader.Reader.end_of_devices.Goals as goal

pub returns-in-Some-clause-end : goal.returns-in-Some-clause-end
returns-in-Some-clause-end c =
    end_is _ c.deref.result.now c.in-Some.last.now c.deref.ensures.value c.self.invariant.rules.devices c.in-Some.ensures.value ∙ ap (λ (p : Progress). blocks_of p.targets) c.self.view_is
