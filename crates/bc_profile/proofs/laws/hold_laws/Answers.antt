use Rattle.bc_profile.proofs.Epochs.{held_programmed, stays, never_before, later_after_gone}
use Rattle.bc_profile.proofs.laws.hold_laws.Goals as goal

pub returns-clause-names : goal.returns-clause-names
returns-clause-names c = held_programmed

pub returns-clause-stays : goal.returns-clause-stays
returns-clause-stays c = stays

pub returns-clause-later : goal.returns-clause-later
returns-clause-later c = never_before

pub returns-clause-behind : goal.returns-clause-behind
returns-clause-behind c = later_after_gone
