-- `ambient_checks::check_log` meets its contract. Assumes nothing.
use Rattle.checks.proofs.First.{chain}
use Rattle.ambient_checks.specs.Log.{log_checks}
use Rattle.ambient_checks.proofs.check_log.Goals as goal

-- src/lib.rt:94:9
pub returns-then-wrong_window : goal.returns-then-wrong_window
unfolding log_checks
returns-then-wrong_window c = search chain

-- src/lib.rt:97:9
pub returns-then-wrong_records : goal.returns-then-wrong_records
unfolding log_checks
returns-then-wrong_records c = search chain depth 9

-- src/lib.rt:100:9
pub returns-then-short : goal.returns-then-short
unfolding log_checks
returns-then-short c = search chain depth 9

-- src/lib.rt:80:1
pub returns : goal.returns
unfolding log_checks
returns c = search chain depth 9
