use Rattle.std.proofs.Common.{◌≡◌, [], ◌∷◌}
use Rattle.std.specs.Fmt.{decimal}
use Rattle.bc_report.proofs.line_values.three_numbers.Goals as goal

pub returns-in_err-second : goal.returns-in_err-second
returns-in_err-second c =
    rw c.from_residual-in_err-second.ensures
    (λ n valid e. let rest : c.next.new.self ≡ decimal n.1 ∷ decimal n.2 ∷ [] = cc (c.in_ok-next.ensures) in c.in_err-second.ensures (n.1, n.2) (valid.1, valid.2) rest)
