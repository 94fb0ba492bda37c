-- `paused_byte_calls::run` meets its contract. Assumes nothing.
use native.Mathlib.Omega.{arith}
use Rattle.general_operator.specs.Csr.{csr}
use Rattle.generator_action.specs.Mass.{given}
use Rattle.paused_byte_calls.specs.Replies.{slices}
use Rattle.paused_byte_calls.specs.Inner.{job, called_run}
use Rattle.paused_byte_calls.proofs.Reply.{packing}
use Rattle.paused_byte_calls.proofs.run.Goals as goal

pub pack-requires : goal.pack-requires
pack-requires c = omega (arith, c.requires.0, c.solve-r.auto.out)

pub pack-requires-2 : goal.pack-requires-2
pack-requires-2 c = omega (arith, c.requires.1, c.solve-r.auto.work)

pub pack-requires-3 : goal.pack-requires-3
pack-requires-3 c = omega (arith, c.requires.2, c.solve-r.auto.field)

pub pack-requires-4 : goal.pack-requires-4
pack-requires-4 c = omega (arith, c.requires.3, c.solve-r.auto.numbers)

pub pack-requires-5 : goal.pack-requires-5
pack-requires-5 c = omega (arith, c.requires.4, c.solve-r.auto.counts)

pub returns : goal.returns
returns c =
    let a = c.args in
    packing c.solve-r.result.number c.solve-r.result.value _ _ _ _ _ (slices a.out.now a.work.now a.field.now a.numbers.now a.counts.now)
    (called_run a.call (job (csr a.n a.starts.now a.cols.now a.vals.now) (given a.with_mass a.mass.now) a.tau a.count a.w.now) a.out_array.now a.work_array.now a.field_array.now a.numbers_array.now a.counts_array.now)
    c.solve-r.ensures c.pack.ensures c.pack-2.ensures c.pack-3.ensures c.pack-4.ensures c.pack-5.ensures
