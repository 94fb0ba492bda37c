-- `transposed_byte_calls::run_check` meets its contract. Assumes nothing.
use native.Mathlib.Omega.{arith}
use mathlib.Core.Path.{ap}
use Rattle.general_operator.specs.Csr.{csr}
use Rattle.generator_action.specs.Mass.{given}
use Rattle.transpose.specs.Transpose.{buffers}
use Rattle.answers.specs.Told.{matrix_numbers}
use Rattle.transposed_told.proofs.Telling.{matrix_told_of}
use Rattle.transposed_byte_calls.specs.Replies.{lent}
use Rattle.transposed_byte_calls.specs.Inner.{checked_transposed}
use Rattle.transposed_byte_calls.proofs.Reply.{packing_matrix}
use Rattle.transposed_byte_calls.proofs.run_check.Goals as goal

pub pack-requires : goal.pack-requires
pack-requires c = omega (arith, c.requires.0, c.check_transposed-answer.auto.t_starts)

pub pack-requires-2 : goal.pack-requires-2
pack-requires-2 c = omega (arith, c.requires.1, c.check_transposed-answer.auto.t_cols)

pub pack-requires-3 : goal.pack-requires-3
pack-requires-3 c = omega (arith, c.requires.2, c.check_transposed-answer.auto.t_vals)

pub returns : goal.returns
unfolding checked_transposed
returns c =
    let a = c.args in
    packing_matrix (matrix_numbers c.check_transposed-answer.result) _ _ _ (lent a.t_starts.now a.t_cols.now a.t_vals.now)
    (checked_transposed (csr a.n a.starts.now a.cols.now a.vals.now) (given a.with_mass a.mass.now) (buffers a.starts_array.now a.cols_array.now a.vals_array.now))
    (matrix_told_of (ap matrix_numbers c.check_transposed-answer.ensures.value) c.check_transposed-answer.ensures.t_vals_after) c.pack.ensures c.pack-2.ensures c.pack-3.ensures
