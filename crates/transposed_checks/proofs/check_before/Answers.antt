-- `transposed_checks::check_before` meets its contract. Assumes nothing.
use borrow.Author.Rules.{rules}
use mathlib.Core.Path.{refl}
use Rattle.transpose.proofs.Ways.{forward_refused, forward_passed}
use Rattle.checks.proofs.First.{passed_on}
use Rattle.transposed_checks.proofs.check_before.Goals as goal

pub returns-in_err-check_forward : goal.returns-in_err-check_forward
returns-in_err-check_forward c =
    rw (passed_on c.from_residual.ensures.1)
    (forward_refused _ _ _ c.check_forward.ensures (c.in_err-check_forward.was))

pub returns : goal.returns
returns c = forward_passed _ _ _ c.check_forward.ensures c.in_ok-check_forward.was (c.check_lent.ensures _ _ _ refl)
