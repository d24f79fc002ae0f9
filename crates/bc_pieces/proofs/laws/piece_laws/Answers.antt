use Rattle.bc_pieces.proofs.Whole.{one_way, units_append}
use Rattle.bc_pieces.proofs.ByBios.{by_bios}
use Rattle.bc_pieces.proofs.Staying.{becomes_stays}
use Rattle.bc_pieces.proofs.laws.piece_laws.Goals as goal

pub returns-clause-parts_append : goal.returns-clause-parts_append
returns-clause-parts_append c = units_append c.order_laws.ensures.answers_stay

pub returns-clause-by_bios : goal.returns-clause-by_bios
returns-clause-by_bios c = by_bios

pub returns-clause-becomes_stays : goal.returns-clause-becomes_stays
returns-clause-becomes_stays c facts old new was is fronts b = becomes_stays c.order_laws.ensures.answers_stay c.order_laws.ensures.known_stays facts old new fronts was is b

pub returns-clause-one_way : goal.returns-clause-one_way
returns-clause-one_way c = one_way c.request_laws.ensures.by_names
