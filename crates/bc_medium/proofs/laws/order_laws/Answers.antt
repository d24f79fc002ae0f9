use Rattle.bc_medium.proofs.Told.{answers_stay, known_stays}
use Rattle.bc_medium.proofs.laws.order_laws.Goals as goal

pub returns-clause-answers_stay : goal.returns-clause-answers_stay
returns-clause-answers_stay g = answers_stay

pub returns-clause-known_stays : goal.returns-clause-known_stays
returns-clause-known_stays g = known_stays
