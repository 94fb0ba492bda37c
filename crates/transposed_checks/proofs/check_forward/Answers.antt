-- `transposed_checks::check_forward` meets its contract. Assumes nothing.
use borrow.Author.Rules.{rules}
use native.Mathlib.Omega.{arith}
use mathlib.Core.Path.{sym, ◌∙◌}
use Rattle.checks.proofs.First.{passed_on}
use Rattle.general_operator.proofs.Sound.{sound_valid, sound_finite}
use Rattle.generator_action.specs.Mass.{quotients}
use Rattle.generator_action.proofs.Ways.{answered_up, answered_on, mass_sound}
use Rattle.transpose.specs.Transpose.{forward_checks}
use Rattle.transposed_checks.proofs.check_forward.Goals as goal

pub returns-in_err-validate_csr : goal.returns-in_err-validate_csr
returns-in_err-validate_csr c =
    rw (passed_on c.from_residual.ensures.1)
    (answered_up _ _ (c.in_err-validate_csr.was) c.validate_csr.ensures)

pub check_mass-requires : goal.check_mass-requires
check_mass-requires c = omega (arith, (sound_valid _ (sym c.in_ok-validate_csr.was ∙ c.validate_csr.ensures)).rows)

pub returns-in_err-check_mass : goal.returns-in_err-check_mass
unfolding forward_checks quotients
returns-in_err-check_mass c =
    rw (passed_on c.from_residual-in_err-check_mass.ensures.1)
    (rw c.if-with_mass.true
    (answered_on _ c.in_ok-validate_csr.was c.validate_csr.ensures (answered_up _ _ (c.in_err-check_mass.was) (c.check_mass.ensures _ _))))

pub quotient_norm-requires : goal.quotient_norm-requires
quotient_norm-requires c =
    let e = sym c.in_ok-validate_csr.was ∙ c.validate_csr.ensures in
    record { valid = sound_valid _ e; finite = sound_finite _ e; dividing = mass_sound _ _ (sym c.in_ok-check_mass.was ∙ c.check_mass.ensures _ _) }

pub returns-then-with_mass : goal.returns-then-with_mass
unfolding forward_checks quotients
returns-then-with_mass c =
    rw c.if-with_mass.true
    (answered_on _ c.in_ok-validate_csr.was c.validate_csr.ensures (answered_on _ c.in_ok-check_mass.was (c.check_mass.ensures _ _) c.quotient_norm.ensures))

pub check_start-requires : goal.check_start-requires
check_start-requires c = omega (arith, (sound_valid _ (sym c.in_ok-validate_csr.was ∙ c.validate_csr.ensures)).rows)

pub returns-in_err-check_start : goal.returns-in_err-check_start
unfolding forward_checks quotients
returns-in_err-check_start c =
    rw (passed_on c.from_residual-in_err-check_start.ensures.1)
    (rw c.if-with_mass.false
    (answered_on _ c.in_ok-validate_csr.was c.validate_csr.ensures (answered_up _ _ (c.in_err-check_start.was) (c.check_start.ensures _ _))))

pub entry_norm-requires : goal.entry_norm-requires
entry_norm-requires c =
    let e = sym c.in_ok-validate_csr.was ∙ c.validate_csr.ensures in
    record { valid = sound_valid _ e; finite = sound_finite _ e }

pub returns : goal.returns
unfolding forward_checks quotients
returns c =
    rw c.if-with_mass.false
    (answered_on _ c.in_ok-validate_csr.was c.validate_csr.ensures (answered_on _ c.in_ok-check_start.was (c.check_start.ensures _ _) c.entry_norm.ensures))
