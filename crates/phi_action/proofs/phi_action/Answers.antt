-- `phi_action::phi_action` meets its contract. Assumes nothing.
use mathlib.Core.Path.{refl}
use Rattle.general_operator.specs.Csr.{csr}
use Rattle.generator_action.specs.Mass.{given, generator_checks}
use Rattle.generator_action.specs.Generator.{forward}
use Rattle.generator_action.proofs.Answered.{refusal_told, norm_told, passed}
use Rattle.phi_combination.proofs.Calls.{action_refused}
use Rattle.checks.proofs.First.{passed_on}
use Rattle.phi_action.proofs.phi_action.Goals as goal

pub returns-in_err-matrix : goal.returns-in_err-matrix
returns-in_err-matrix c =
    rw (passed_on c.from_residual.ensures.1)
    (let a = c.args in
    let matrix = csr a.n a.starts.now a.cols.now a.vals.now in
    let mass = given a.with_mass a.mass.now in
    let refusal = c.in_err-matrix.was in
    action_refused (forward matrix mass) a.tau a.cap a.out.now a.work.now (refusal_told matrix mass c.check_generator.ensures refusal) a.k a.v.now)

pub acted-requires : goal.acted-requires
acted-requires c =
    let a = c.args in
    let told = norm_told (csr a.n a.starts.now a.cols.now a.vals.now) (given a.with_mass a.mass.now) c.check_generator.ensures c.in_ok-matrix.was in
    rw (c.generator_shape-g.ensures a.starts.now a.cols.now a.vals.now a.mass.now refl) (passed _ a.with_mass a.mass.now told)

pub returns : goal.returns
returns c =
    let a = c.args in
    let told = norm_told (csr a.n a.starts.now a.cols.now a.vals.now) (given a.with_mass a.mass.now) c.check_generator.ensures c.in_ok-matrix.was in
    rw (c.generator_shape-g.ensures a.starts.now a.cols.now a.vals.now a.mass.now refl) at (c.acted.ensures (generator_checks (csr a.n a.starts.now a.cols.now a.vals.now) (given a.with_mass a.mass.now)) told.sound)
