-- `taylor_job::run_job` meets its contract. Assumes nothing.
use native.Mathlib.Omega.{arith}
use Rattle.taylor_job.proofs.Jobs.{ready, lined, bounded, still_enough, done}
use Rattle.taylor_job.proofs.run_job.Goals as goal

pub swept_out-applied-requires : goal.swept_out-applied-requires
swept_out-applied-requires c =
    let el = c.layout-l.ensures in
    let e = c.prepare-p.ensures in
    record { ready = ready c.requires.allowed el e.work_after c.args.vectors.now c.requires.coupled.0; lined = (lined c.requires.allowed el, (bounded c.requires.allowed _ e.value).m_most, rw el (omega (arith, c.requires.coupled.1))) }

pub finish-requires : goal.finish-requires
finish-requires c = still_enough c.requires.allowed c.layout-l.ensures c.prepare-p.ensures.work_after c.swept_out-applied.ensures.kept

pub returns : goal.returns
returns c =
    let w = c.swept_out-applied.ensures in
    done c.requires.allowed c.layout-l.ensures c.prepare-p.ensures.work_after c.args.vectors.now c.requires.coupled.0 c.args.out.now c.requires.coupled.1 c.prepare-p.ensures.value w.value w.out_after w.kept c.finish.ensures.value c.finish.ensures.work_after
