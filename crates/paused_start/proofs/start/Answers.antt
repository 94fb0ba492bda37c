-- `paused_start::start` meets its contract. Assumes nothing.
use mathlib.Core.Path.{refl}
use Rattle.general_operator.specs.Csr.{csr}
use Rattle.generator_action.specs.Mass.{given}
use Rattle.generator_action.proofs.Answered.{refusal_told, norm_told, passed}
use Rattle.paused_start.proofs.Starts.{refused_generator}
use Rattle.checks.proofs.First.{passed_on}
use Rattle.paused_start.proofs.start.Goals as goal

pub returns-in_err-matrix : goal.returns-in_err-matrix
returns-in_err-matrix c =
    rw (passed_on c.from_residual.ensures.1)
    (let a = c.args in
    let refusal = c.in_err-matrix.was in
    refused_generator a.o _ a.out.now a.work.now a.field.now (refusal_told (csr a.n a.starts.now a.cols.now a.vals.now) (given a.with_mass a.mass.now) c.check_generator.ensures refusal))

pub started-requires : goal.started-requires
started-requires c =
    let a = c.args in
    let m = csr a.n a.starts.now a.cols.now a.vals.now in
    let norm = norm_told m (given a.with_mass a.mass.now) c.check_generator.ensures c.in_ok-matrix.was in
    let p = passed m a.with_mass a.mass.now norm in
    rw (c.generator_shape-g.ensures a.starts.now a.cols.now a.vals.now a.mass.now refl) (p.valid.few, p.light)

pub returns : goal.returns
returns c =
    let a = c.args in
    let m = csr a.n a.starts.now a.cols.now a.vals.now in
    let norm = norm_told m (given a.with_mass a.mass.now) c.check_generator.ensures c.in_ok-matrix.was in
    let e = c.generator_shape-g.ensures a.starts.now a.cols.now a.vals.now a.mass.now refl in
    (rw e at c.started.ensures) _ a.starts.now a.cols.now a.vals.now a.mass.now norm.sound (passed m a.with_mass a.mass.now norm)
