-- `general_operator::check_entries` meets its contract. Assumes nothing.
use borrow.Author.Tests.{lt-ltb, le-leb, lt-leb}
use Rattle.lists.specs.Find.{exists}
use Rattle.lists.proofs.Positions.{position_found, none_exists}
use Rattle.checks.proofs.First.{first_cons, first_none}
use Rattle.general_operator.specs.Checks.{entry_checks, bad_column}
use Rattle.general_operator.proofs.check_entries.Goals as goal

pub returns-in_default : goal.returns-in_default
unfolding entry_checks exists
returns-in_default c = simp (first_cons, first_none, ← none_exists _ _ c.in_default.ensures)

pub returns-then-n-c : goal.returns-then-n-c
unfolding entry_checks bad_column
returns-then-n-c c = simp (first_cons, ← position_found _ _ c.in-Some.ensures, lt-ltb _ _ c.in-Some.ensures.0, le-leb _ _ c.if-n-c.true, c.count.ensures)

pub returns : goal.returns
unfolding entry_checks bad_column
returns c = simp (first_cons, ← position_found _ _ c.in-Some.ensures, lt-ltb _ _ c.in-Some.ensures.0, lt-leb _ _ c.if-n-c.false)
