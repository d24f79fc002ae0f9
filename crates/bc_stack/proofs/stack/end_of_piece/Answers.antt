use Rattle.std.proofs.Common.{arith}
use Rattle.bc_bio.specs.Requests.{tagged_bios}
use Rattle.bc_stack.proofs.PieceLaws.{length-units_of_request}
use Rattle.bc_stack.proofs.stack.end_of_piece.Goals as goal

pub returns-clause-end : goal.returns-clause-end
returns-clause-end c =
    let len = length-units_of_request c.args.keys.now.keys (tagged_bios c.args.request.now.bios) in
    let past = c.loop-end-test.false in
    let end = c.loop-end.invariant.1 in
    record {
      after_first = omega (arith, c.requires.within);
      within = omega (arith, len);
      on_device = λ n least below. c.loop-end.invariant.2 n least (omega (arith, past, end));
      changes = λ inside e. absurd (omega (arith, len));
    }
