-- `phi_batch::run_batch` meets its contract. Assumes nothing.
use Rattle.taylor_job.specs.Calls.{batched}
use Rattle.taylor_job.proofs.Jobs.{ready, lined, bounded, still_enough, finished}
use Rattle.phi_batch.proofs.run_batch.Goals as goal

pub sweep_batch-applied-requires : goal.sweep_batch-applied-requires
sweep_batch-applied-requires c =
    let p = c.requires in
    let el = c.layout-l.ensures in
    let e = c.prepare-p.ensures in
    let b = bounded p.allowed _ e.value in
    record { ready = ready p.allowed el e.work_after c.args.v.now p.coupled; lined = (lined p.allowed el, b.s_most, b.m_most, rw el p.d_value.0); v_len = rw el (p.d_value.1, p.d_value.2, p.d_value.3) }

pub finish-requires : goal.finish-requires
finish-requires c = still_enough c.requires.allowed c.layout-l.ensures c.prepare-p.ensures.work_after c.sweep_batch-applied.ensures.kept

pub returns : goal.returns
returns c =
    let a = c.args in
    let w = c.sweep_batch-applied.ensures in
    finished c.requires.allowed c.layout-l.ensures c.prepare-p.ensures.work_after a.v.now c.requires.coupled (λ b. batched b a.j.tau a.v.now a.j.inv a.count) c.prepare-p.ensures.value w.value w.out_after w.kept c.finish.ensures.value c.finish.ensures.work_after
