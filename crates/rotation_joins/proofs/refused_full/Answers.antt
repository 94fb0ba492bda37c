-- `rotation_joins::refused_full` meets its contract. Assumes nothing.
use mathlib.Core.Path.{refl, sym, ◌∙◌}
use Rattle.general_operator.specs.Csr.{csr}
use Rattle.generator_action.specs.Mass.{given}
use Rattle.generator_action.proofs.Answered.{refusal_told, norm_told, passed}
use Rattle.rotation_joins.proofs.Full.{else_full, full_generator}
use Rattle.checks.proofs.First.{passed_on}
use Rattle.rotation_joins.proofs.refused_full.Goals as goal

pub returns-then-room : goal.returns-then-room
returns-then-room c output memory lent eo ew ef = rw (sym c.room.ensures ∙ c.if-room.true) refl

pub returns-in_err-matrix : goal.returns-in_err-matrix
returns-in_err-matrix c output memory lent eo ew ef =
    let a = c.args in
    rw (passed_on c.from_residual.ensures.1)
    (else_full (sym c.room.ensures ∙ c.if-room.false) (full_generator a.o _ output memory lent (refusal_told (csr a.n a.starts.now a.cols.now a.vals.now) (given a.with_mass a.mass.now) c.check_generator.ensures c.in_err-matrix.was)))

pub refused_job-requires : goal.refused_job-requires
refused_job-requires c =
    let a = c.args in
    let m = csr a.n a.starts.now a.cols.now a.vals.now in
    let norm = norm_told m (given a.with_mass a.mass.now) c.check_generator.ensures c.in_ok-matrix.was in
    let p = passed m a.with_mass a.mass.now norm in
    rw (c.generator_shape-g.ensures a.starts.now a.cols.now a.vals.now a.mass.now refl) (p.valid.few, p.light)

pub returns : goal.returns
returns c output memory lent eo ew ef =
    let a = c.args in
    let m = csr a.n a.starts.now a.cols.now a.vals.now in
    let norm = norm_told m (given a.with_mass a.mass.now) c.check_generator.ensures c.in_ok-matrix.was in
    let e = c.generator_shape-g.ensures a.starts.now a.cols.now a.vals.now a.mass.now refl in
    else_full (sym c.room.ensures ∙ c.if-room.false) ((rw e at c.refused_job.ensures) _ a.starts.now a.cols.now a.vals.now a.mass.now output memory lent norm.sound (passed m a.with_mass a.mass.now norm) eo ew ef)
