-- `paused_step::step` meets its contract. Assumes nothing.
use mathlib.Core.Path.{◌≡◌, refl, sym, ◌∙◌}
use borrow.Author.Rules.{rules}
use Rattle.general_operator.specs.Csr.{csr}
use Rattle.generator_action.specs.Mass.{given}
use Rattle.generator_action.proofs.Answered.{refusal_told, norm_told, passed}
use Rattle.paused_advance.proofs.Steps.{refusal_given, value_given, handed_on, refused_over, refused_generator}
use Rattle.paused_step.proofs.step.Goals as goal

pub returns-then-over : goal.returns-then-over
returns-then-over c =
    let a = c.args in
    refused_over a.run a.field.now _ (sym c.over.ensures ∙ c.if-over.true) c.not_a_number.ensures

pub returns-in_err-matrix : goal.returns-in_err-matrix
returns-in_err-matrix c =
    let a = c.args in
    let refusal = refusal_given _ _ _ c.in_err-matrix.was c.map_err.ensures.cases in
    let told : c.in_err-matrix.field-0.0 ≡ record { refusal = refusal.0; run = a.run } = search rules in
    rw (handed_on c.from_residual.ensures.1, told)
    (refused_generator a.run a.field.now _ (sym c.over.ensures ∙ c.if-over.false) (refusal_told (csr a.n a.starts.now a.cols.now a.vals.now) (given a.with_mass a.mass.now) c.check_generator.ensures refusal.1.0))

pub stepped-requires : goal.stepped-requires
stepped-requires c =
    let a = c.args in
    let m = csr a.n a.starts.now a.cols.now a.vals.now in
    let norm = norm_told m (given a.with_mass a.mass.now) c.check_generator.ensures (value_given _ _ _ c.in_ok-matrix.was c.map_err.ensures.cases) in
    record { passed = rw (c.generator_shape-g.ensures a.starts.now a.cols.now a.vals.now a.mass.now refl) (passed m a.with_mass a.mass.now norm); run_value = sym c.over.ensures ∙ c.if-over.false }

pub returns : goal.returns
returns c =
    let a = c.args in
    let m = csr a.n a.starts.now a.cols.now a.vals.now in
    let norm = norm_told m (given a.with_mass a.mass.now) c.check_generator.ensures (value_given _ _ _ c.in_ok-matrix.was c.map_err.ensures.cases) in
    rw (c.generator_shape-g.ensures a.starts.now a.cols.now a.vals.now a.mass.now refl) at (c.stepped.ensures _ norm.sound)
