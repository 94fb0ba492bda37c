-- `paused_run::verdict` meets its contract. Assumes nothing.
use mathlib.Core.Path.{refl}
use borrow.Author.Tests.{lt-ltb, le-ltb}
use Rattle.paused_run.specs.Paused.{verdict}
use Rattle.paused_run.specs.Inner.{turned}
use Rattle.paused_run.proofs.verdict.Goals as goal

pub returns-then-r-run : goal.returns-then-r-run
unfolding verdict turned
returns-then-r-run c y = rw (c.in-On.is, lt-ltb _ _ c.if-r-run.true, c.moved.ensures c.in-On.r y) refl

pub returns-else-r-run : goal.returns-else-r-run
unfolding verdict turned
returns-else-r-run c y = rw (c.in-On.is, le-ltb _ _ c.if-r-run.false, c.moved-in-On.ensures c.in-On.r y) refl

pub returns-in-Finished : goal.returns-in-Finished
unfolding verdict turned
returns-in-Finished c y = rw (c.in-Finished.is, c.moved-in-Finished.ensures c.in-Finished.r y, c.relative_report-report.ensures) refl

pub returns-in-Refused : goal.returns-in-Refused
unfolding verdict turned
returns-in-Refused c y = rw (c.in-Refused.is, c.stopped.ensures) refl
