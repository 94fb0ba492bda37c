-- `general_operator::validate_csr` meets its contract. Assumes nothing.
use mathlib.Core.Path.{refl}
use Rattle.checks.proofs.First.{passed_on, refused_up, sound_on}
use Rattle.general_operator.specs.Checks.{matrix_checks}
use Rattle.general_operator.proofs.Sound.{shape_rows, shape_paired}
use Rattle.general_operator.proofs.validate_csr.Goals as goal

pub returns-in_err-check_shape : goal.returns-in_err-check_shape
unfolding matrix_checks
returns-in_err-check_shape c = rw (passed_on c.from_residual.ensures.1) (refused_up _ _ refl c.in_err-check_shape.ensures)

pub returns-in_err-check_rows : goal.returns-in_err-check_rows
unfolding matrix_checks
returns-in_err-check_rows c =
    let rows = rw (shape_rows _ _ _ _ refl c.in_ok-check_shape.ensures) at c.in_err-check_rows.ensures in
    rw (passed_on c.from_residual-in_err-check_rows.ensures.1)
    (sound_on _ _ refl c.in_ok-check_shape.ensures (refused_up _ _ refl rows))

pub check_entries-requires : goal.check_entries-requires
check_entries-requires c = search (shape_paired, c.in_ok-check_shape.ensures)

pub returns : goal.returns
unfolding matrix_checks
returns c =
    let rows = rw (shape_rows _ _ _ _ refl c.in_ok-check_shape.ensures) at c.in_ok-check_rows.ensures in
    sound_on _ _ refl c.in_ok-check_shape.ensures (sound_on _ _ refl rows c.check_entries.ensures)
