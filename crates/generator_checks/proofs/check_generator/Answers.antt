-- `generator_checks::check_generator` meets its contract. Assumes nothing.
use native.Mathlib.Omega.{arith}
use mathlib.Core.Path.{sym, ◌∙◌}
use Rattle.checks.proofs.First.{passed_on}
use Rattle.general_operator.proofs.Sound.{sound_valid, sound_finite}
use Rattle.generator_action.specs.Mass.{quotients, bound_checks, generator_checks}
use Rattle.generator_action.proofs.Ways.{answered_up, answered_on, answer_is, mass_sound}
use Rattle.generator_checks.proofs.check_generator.Goals as goal

pub returns-in_err-validate_csr : goal.returns-in_err-validate_csr
unfolding generator_checks
returns-in_err-validate_csr c =
    rw (passed_on c.from_residual.ensures.1)
    (answer_is _ _ (answered_up _ _ (c.in_err-validate_csr.was) c.validate_csr.ensures))

pub check_mass-requires : goal.check_mass-requires
check_mass-requires c = omega (arith, (sound_valid _ (sym c.in_ok-validate_csr.was ∙ c.validate_csr.ensures)).rows)

pub returns-in_err-check_mass : goal.returns-in_err-check_mass
unfolding generator_checks bound_checks quotients
returns-in_err-check_mass c =
    rw (passed_on c.from_residual-in_err-check_mass.ensures.1)
    (rw c.if-with_mass.true
    (answer_is _ _ (answered_on _ c.in_ok-validate_csr.was c.validate_csr.ensures (answered_up _ _ (c.in_err-check_mass.was) (c.check_mass.ensures _ _)))))

pub quotient_norm-requires : goal.quotient_norm-requires
quotient_norm-requires c =
    let e = sym c.in_ok-validate_csr.was ∙ c.validate_csr.ensures in
    record { valid = sound_valid _ e; finite = sound_finite _ e; dividing = mass_sound _ _ (sym c.in_ok-check_mass.was ∙ c.check_mass.ensures _ _) }

pub returns-then-with_mass : goal.returns-then-with_mass
unfolding generator_checks bound_checks quotients
returns-then-with_mass c =
    rw c.if-with_mass.true
    (answer_is _ _ (answered_on _ c.in_ok-validate_csr.was c.validate_csr.ensures (answered_on _ c.in_ok-check_mass.was (c.check_mass.ensures _ _) c.quotient_norm.ensures)))

pub entry_norm-requires : goal.entry_norm-requires
entry_norm-requires c =
    let e = sym c.in_ok-validate_csr.was ∙ c.validate_csr.ensures in
    record { valid = sound_valid _ e; finite = sound_finite _ e }

pub returns : goal.returns
unfolding generator_checks bound_checks quotients
returns c =
    rw c.if-with_mass.false
    (answer_is _ _ (answered_on _ c.in_ok-validate_csr.was c.validate_csr.ensures c.entry_norm.ensures))
