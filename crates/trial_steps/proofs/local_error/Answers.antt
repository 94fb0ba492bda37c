-- `trial_steps::local_error` meets its contract. Assumes nothing.
use borrow.Author.Tests.{lt-ltb, le-ltb}
use Rattle.trial_steps.specs.Trials.{local_error}
use Rattle.trial_steps.proofs.local_error.Goals as goal

pub returns-then-phi1-phi2 : goal.returns-then-phi1-phi2
unfolding local_error
returns-then-phi1-phi2 c = rw (← c.abs-phi1.ensures, ← c.abs-phi2.ensures, c.if-phi1-phi2.true)

pub returns-then-phi1-phi2-2 : goal.returns-then-phi1-phi2-2
unfolding local_error
returns-then-phi1-phi2-2 c = rw (← c.abs-phi1.ensures, ← c.abs-phi2.ensures, c.if-phi1-phi2.false, c.if-phi1-phi2-2.true)

pub returns-then-m-gt2 : goal.returns-then-m-gt2
unfolding local_error
returns-then-m-gt2 c = rw (← c.abs-phi1.ensures, ← c.abs-phi2.ensures, c.if-phi1-phi2.false, c.if-phi1-phi2-2.false, lt-ltb _ _ c.if-m-gt2.true)

pub returns-else-m-gt2 : goal.returns-else-m-gt2
unfolding local_error
returns-else-m-gt2 c = rw (← c.abs-phi1.ensures, ← c.abs-phi2.ensures, c.if-phi1-phi2.false, c.if-phi1-phi2-2.false, le-ltb _ _ c.if-m-gt2.false)
