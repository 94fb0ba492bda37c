-- `transposed_shape::transposed_shape` meets its contract. Assumes nothing.
use borrow.Author.Rules.{rules}
use mathlib.Core.Path.{refl, ◌∙◌, ap}
use Rattle.general_operator.specs.Csr.{Csr, csr}
use Rattle.generator_action.specs.Mass.{Mass, given}
use Rattle.generator_action.specs.declared.Shape.{Shape}
use Rattle.transpose.specs.Transpose.{Buffers, buffers, lengths}
use Rattle.checks.proofs.First.{passed_on}
use Rattle.transpose.proofs.Passed.{transposed_refusal_told, transposed_norm_told}
use Rattle.transposed_shape.proofs.Answers.{refused_shape, passed_shape}
use Rattle.transposed_shape.proofs.transposed_shape.Goals as goal

pub returns-in_err-matrix : goal.returns-in_err-matrix
returns-in_err-matrix c =
    let a : Csr = csr c.args.n c.args.starts.now c.args.cols.now c.args.vals.now in
    let m : Mass = given c.args.with_mass c.args.mass.now in
    let b : Buffers = buffers c.args.t_starts.now c.args.t_cols.now c.args.t_vals.now in
    let checked = c.check_transposed.ensures in
    record { value = passed_on c.from_residual.ensures.1 ∙ refused_shape a m (transposed_refusal_told a m (lengths b) checked.value c.in_err-matrix.was); t_vals_after = checked.t_vals_after }

pub returns : goal.returns
returns c =
    let a : Csr = csr c.args.n c.args.starts.now c.args.cols.now c.args.vals.now in
    let m : Mass = given c.args.with_mass c.args.mass.now in
    let b : Buffers = buffers c.args.t_starts.now c.args.t_cols.now c.args.t_vals.now in
    let checked = c.check_transposed.ensures in
    let told = transposed_norm_told a m (lengths b) checked.value c.in_ok-matrix.was in
    let forward = c.generator_shape-forward.ensures a.starts a.columns a.entries c.args.mass.now refl in
    record { value = passed_shape a m told.0 (ap (λ (g : Shape). g.stored) forward) told.1; t_vals_after = checked.t_vals_after }
