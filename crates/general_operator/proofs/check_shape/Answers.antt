-- `general_operator::check_shape` meets its contract. Assumes nothing.
use native.Mathlib.Omega.{arith}
use mathlib.Core.Path.{sym, ◌∙◌}
use Rattle.checks.proofs.First.{chain}
use Rattle.general_operator.specs.Checks.{shape_checks}
use Rattle.general_operator.proofs.Sound.{rows_right}
use Rattle.general_operator.proofs.check_shape.Goals as goal

pub returns-then-wrong_rows : goal.returns-then-wrong_rows
unfolding shape_checks
returns-then-wrong_rows c = search chain

pub wrong_entries-requires : goal.wrong_entries-requires
wrong_entries-requires c = omega (arith, rows_right _ _ (sym c.wrong_rows.ensures ∙ c.if-wrong_rows.false))

pub returns-then-wrong_entries : goal.returns-then-wrong_entries
unfolding shape_checks
returns-then-wrong_entries c = search chain

pub returns-then-too_large : goal.returns-then-too_large
unfolding shape_checks
returns-then-too_large c = search chain

pub returns : goal.returns
unfolding shape_checks
returns c = search chain
