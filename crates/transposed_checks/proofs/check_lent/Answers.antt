-- `transposed_checks::check_lent` meets its contract. Assumes nothing.
use native.Mathlib.Omega.{arith}
use Rattle.transpose.proofs.Ways.{short_starts, short_columns, short_values, long_enough}
use Rattle.transposed_checks.proofs.check_lent.Goals as goal

pub returns-then-t_starts-n : goal.returns-then-t_starts-n
returns-then-t_starts-n c starts columns vals e = short_starts _ _ c.not_a_number.ensures (omega arith)

pub returns-then-t_cols-entries : goal.returns-then-t_cols-entries
returns-then-t_cols-entries c starts columns vals e = short_columns _ _ c.not_a_number-then-t_cols-entries.ensures (omega arith)

pub returns-then-t_vals-entries : goal.returns-then-t_vals-entries
returns-then-t_vals-entries c starts columns vals e = short_values _ _ c.not_a_number-then-t_vals-entries.ensures (omega arith)

pub returns : goal.returns
returns c starts columns vals e = long_enough _ _ (omega arith) (omega arith) (omega arith)
