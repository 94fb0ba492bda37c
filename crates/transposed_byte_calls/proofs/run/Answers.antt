-- `transposed_byte_calls::run` meets its contract. Assumes nothing.
use native.Mathlib.Omega.{arith}
use Rattle.general_operator.specs.Csr.{csr}
use Rattle.generator_action.specs.Mass.{given}
use Rattle.transpose.specs.Transpose.{buffers}
use Rattle.transposed_byte_calls.specs.Replies.{lent}
use Rattle.transposed_byte_calls.specs.Inner.{called_transposed}
use Rattle.transposed_byte_calls.proofs.Reply.{packing}
use Rattle.transposed_byte_calls.proofs.run.Goals as goal

pub pack-requires : goal.pack-requires
pack-requires c = omega (arith, c.requires.0, c.solve-t.auto.t_starts)

pub pack-requires-2 : goal.pack-requires-2
pack-requires-2 c = omega (arith, c.requires.1, c.solve-t.auto.t_cols)

pub pack-requires-3 : goal.pack-requires-3
pack-requires-3 c = omega (arith, c.requires.2, c.solve-t.auto.t_vals)

pub pack-requires-4 : goal.pack-requires-4
pack-requires-4 c = omega (arith, c.requires.3, c.solve-t.auto.out)

pub pack-requires-5 : goal.pack-requires-5
pack-requires-5 c = omega (arith, c.requires.4, c.solve-t.auto.work)

pub returns : goal.returns
returns c =
    let a = c.args in
    packing _ _ _ _ _ _ a.out.now a.work.now (lent a.t_starts.now a.t_cols.now a.t_vals.now)
    (called_transposed a.call (csr a.n a.starts.now a.cols.now a.vals.now) (given a.with_mass a.mass.now) (buffers a.starts_array.now a.cols_array.now a.vals_array.now) a.tau a.k a.v.now a.out_array.now a.work_array.now)
    c.solve-t.ensures c.pack-4.ensures c.pack-5.ensures c.pack.ensures c.pack-2.ensures c.pack-3.ensures
