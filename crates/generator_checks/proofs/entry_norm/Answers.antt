-- `generator_checks::entry_norm` meets its contract. Assumes nothing.
use native.Mathlib.Omega.{arith}
use Rattle.doubles.specs.F64.{abs}
use Rattle.doubles.proofs.Sum.{sum_range}
use Rattle.general_operator.specs.Csr.{size_sum, row_sum}
use Rattle.general_operator.proofs.Rows.{row_within}
use Rattle.generator_action.proofs.Leading.{leading_start, leading_turn, leading_end}
use Rattle.generator_action.proofs.Ways.{answered_refusal, answered_norm, refused_norm, sound_norm, entries_nonneg}
use mathlib.Core.Path.{ap, ◌∙◌}
use mathlib.Core.Bool.{not}
use Rattle.generator_checks.proofs.entry_norm.Goals as goal

pub loop-row-init : goal.loop-row-init
loop-row-init c = (omega arith, leading_start _)

pub slice_bounds-size_sum-end : goal.slice_bounds-size_sum-end
slice_bounds-size_sum-end c = omega (arith, row_within c.requires.valid c.loop-row.row (omega arith))

pub loop-row-preserved : goal.loop-row-preserved
unfolding row_sum size_sum
loop-row-preserved c =
    let p = c.requires in
    let within = row_within p.valid c.loop-row.row (omega arith) in
    let e = c.size_sum-s.ensures ∙ sum_range abs c.args.vals.now _ _ within.0 within.1 in
    (omega arith, leading_turn c.loop-row.invariant.1 (entries_nonneg p.valid p.finite c.loop-row.row (omega arith)) _ _ _ e c.larger-best.ensures)

pub returns-then-not-is_finite : goal.returns-then-not-is_finite
returns-then-not-is_finite c =
    let e = leading_end c.loop-row.invariant.1 (omega arith) c.requires.valid.some in
    answered_refusal (refused_norm _ e.0 c.is_finite.ensures (ap not c.if-not-is_finite.true))

pub returns : goal.returns
returns c =
    let e = leading_end c.loop-row.invariant.1 (omega arith) c.requires.valid.some in
    answered_norm (sound_norm _ e.0 c.is_finite.ensures (ap not c.if-not-is_finite.false)) e
