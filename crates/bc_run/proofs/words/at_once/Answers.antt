use Rattle.std.proofs.Common.{inl, inr, refl}
use Rattle.bc_run.proofs.Given.{none_named, serial_named, threads_named}
use Rattle.bc_run.proofs.words.at_once.Goals as goal

pub returns-then-begins-clause-named : goal.returns-then-begins-clause-named
returns-then-begins-clause-named c = inl (c.begins.ensures.yes c.if-begins.true)

pub returns-then-begins-clause-at_once : goal.returns-then-begins-clause-at_once
returns-then-begins-clause-at_once c = serial_named _ (c.begins.ensures.yes c.if-begins.true)

pub returns-then-begins-2-clause-named : goal.returns-then-begins-2-clause-named
returns-then-begins-2-clause-named c = inr (c.begins-2.ensures.yes c.if-begins-2.true)

pub returns-then-begins-2-clause-at_once : goal.returns-then-begins-2-clause-at_once
returns-then-begins-2-clause-at_once c = threads_named _ (c.begins-2.ensures.yes c.if-begins-2.true)

pub returns-clause-usage : goal.returns-clause-usage
returns-clause-usage c = (refl, none_named _ (c.begins.ensures.no c.if-begins.false) (c.begins-2.ensures.no c.if-begins-2.false))
