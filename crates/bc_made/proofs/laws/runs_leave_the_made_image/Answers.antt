use Rattle.bc_made.proofs.Made as law
use Rattle.bc_made.proofs.laws.runs_leave_the_made_image.Goals as goal

pub returns : goal.returns
returns c = law.runs_leave_the_made_image c.unit_laws.ensures.enciphering_keeps_length c.bio_laws.ensures.sizes
