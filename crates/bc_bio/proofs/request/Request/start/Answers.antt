use Rattle.bc_bio.proofs.RequestLaws.{fits_alone}
use Rattle.bc_bio.proofs.request.Request.start.Goals as goal

pub append-requires-clause-fits : goal.append-requires-clause-fits
append-requires-clause-fits c = fits_alone _ c.args.bio c.requires.empty c.requires.placed
