-- `phi_krylov::phi_combination_krylov` meets its contract. Assumes nothing.
use mathlib.Core.Path.{refl}
use Rattle.general_operator.specs.Csr.{csr}
use Rattle.generator_action.specs.Mass.{given}
use Rattle.generator_action.proofs.Answered.{refusal_told, norm_told, passed}
use Rattle.krylov_job.proofs.Calls.{refused_generator}
use Rattle.checks.proofs.First.{passed_on}
use Rattle.phi_krylov.proofs.phi_combination_krylov.Goals as goal

pub returns-in_err-matrix : goal.returns-in_err-matrix
returns-in_err-matrix c =
    rw (passed_on c.from_residual.ensures.1)
    (let a = c.args in
    let refusal = c.in_err-matrix.was in
    refused_generator _ a.tau a.count a.w.now a.o a.out.now a.work.now (refusal_told (csr a.n a.starts.now a.cols.now a.vals.now) (given a.with_mass a.mass.now) c.check_generator.ensures refusal))

pub combined-requires : goal.combined-requires
combined-requires c =
    let a = c.args in
    let m = csr a.n a.starts.now a.cols.now a.vals.now in
    let norm = norm_told m (given a.with_mass a.mass.now) c.check_generator.ensures c.in_ok-matrix.was in
    rw (c.generator_shape-g.ensures a.starts.now a.cols.now a.vals.now a.mass.now refl) (passed m a.with_mass a.mass.now norm)

pub returns : goal.returns
returns c =
    let a = c.args in
    let m = csr a.n a.starts.now a.cols.now a.vals.now in
    let norm = norm_told m (given a.with_mass a.mass.now) c.check_generator.ensures c.in_ok-matrix.was in
    rw (c.generator_shape-g.ensures a.starts.now a.cols.now a.vals.now a.mass.now refl) at (c.combined.ensures _ norm.sound)
