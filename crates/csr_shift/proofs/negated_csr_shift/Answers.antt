-- `csr_shift::negated_csr_shift` meets its contract. Assumes nothing.
use mathlib.Core.Bool.{Bool, true, false}
use mathlib.Core.Path.{◌≡◌, refl, ◌∙◌}
use Rattle.std.specs.Bool.{then_some}
use Rattle.std.specs.Prelude.{Some, None, if◌then◌else◌}
use Rattle.csr_shift.specs.declared.Shifted.{Shifted}
use Rattle.csr_shift.specs.Shift.{midpoint_shift, negated_csr_shift}
use Rattle.csr_shift.proofs.negated_csr_shift.Goals as goal

pub returns-then-has_bad_row : goal.returns-then-has_bad_row
unfolding negated_csr_shift midpoint_shift
returns-then-has_bad_row c = rw (← c.has_bad_row.ensures, c.if-has_bad_row.true)

-- `then_some` is a choice
chosen : (b : Bool) (x : Shifted) → then_some b x ≡ (if b then Some x else None)
chosen true x = refl
chosen false x = refl

pub returns : goal.returns
unfolding negated_csr_shift midpoint_shift
returns c =
    rw (← c.has_bad_row.ensures, c.if-has_bad_row.false, ← c.midpoint-mu.ensures, ← c.shifted_norm-norm.ensures, ← c.worth.ensures)
    (c.then_some.ensures ∙ chosen _ _)
