-- `join_rows::check_values` meets its contract. Assumes nothing.
use borrow.Author.Rules.{rules}
use native.Mathlib.Omega.{arith}
use Prim.Native.Nat.{◌-◌}
use Rattle.join_rows.proofs.Passes.{fine_rows_start, fine_rows_next, fine_rows_stop, fine_rows_end}
use mathlib.Core.Path.{sym, ◌∙◌}
use Rattle.checks.proofs.First.{passed_on}
use Rattle.join_rows.proofs.check_values.Goals as goal

pub loop-i-init : goal.loop-i-init
loop-i-init c = fine_rows_start _ _

pub check_row_values-requires : goal.check_row_values-requires
check_row_values-requires c = record { joinable = c.requires; i_lt_n = omega arith }

pub returns-in_err-check_row_values : goal.returns-in_err-check_row_values
returns-in_err-check_row_values c =
    rw (passed_on c.from_residual.ensures.1)
    (sym c.in_err-check_row_values.was ∙ fine_rows_stop c.loop-i.invariant (omega arith) c.check_row_values.ensures c.in_err-check_row_values.was)

pub loop-i-preserved : goal.loop-i-preserved
loop-i-preserved c = fine_rows_next c.loop-i.invariant (omega arith) c.check_row_values.ensures c.in_ok-check_row_values.was

pub returns : goal.returns
returns c = fine_rows_end c.loop-i.invariant (omega arith)
