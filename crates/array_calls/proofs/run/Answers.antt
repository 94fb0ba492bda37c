-- `array_calls::run` meets its contract. Assumes nothing.
use Rattle.general_operator.specs.Csr.{csr}
use Rattle.generator_action.specs.Mass.{given}
use Rattle.generator_action.specs.Generator.{forward}
use Rattle.byte_calls.specs.Inner.{called}
use Rattle.array_calls.proofs.Reply.{packing}
use Rattle.array_calls.proofs.run.Goals as goal

pub returns : goal.returns
returns c =
    let a = c.args in
    packing a.out.now a.work.now (called a.call (forward (csr a.n a.starts.now a.cols.now a.vals.now) (given a.with_mass a.mass.now)) a.tau a.k a.v.now a.out_array.now a.work_array.now)
    c.solve-answer.ensures c.pack.ensures c.pack-2.ensures
