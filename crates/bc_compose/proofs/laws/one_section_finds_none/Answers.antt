use Rattle.bc_compose.proofs.OneSection as law
use Rattle.bc_compose.proofs.laws.one_section_finds_none.Goals as goal

pub returns : goal.returns
returns c = law.one_section_finds_none
