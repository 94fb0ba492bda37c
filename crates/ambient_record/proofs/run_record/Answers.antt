-- `ambient_record::run_record` meets its contract. Assumes nothing.
use native.Mathlib.Omega.{arith}
use Prim.Native.Nat.{◌+◌}
use mathlib.Core.Path.{refl, sym, ap, ◌∙◌}
use mathlib.Core.List.{List}
use lib.Ieee.{Float}
use Rattle.lists.specs.Window.{window, splice}
use Rattle.lists.proofs.Window.{window_window}
use Rattle.phi_action_helpers.specs.Sweeps.{Swept}
use Rattle.combination.specs.Checks.{taylor_need}
use Rattle.taylor_schedule.specs.Inner.{matrix_of}
use Rattle.taylor_job.specs.Calls.{swept_fields}
use Rattle.taylor_job.specs.Inner.{operator_by}
use Rattle.taylor_job.proofs.Jobs.{ready, lined, bounded, done}
use Rattle.ambient_record.proofs.OneRecord.{spliced_long, ended_wider}
use Rattle.ambient_record.proofs.run_record.Goals as goal

pub run_sweeps-applied-requires : goal.run_sweeps-applied-requires
run_sweeps-applied-requires c =
    let el = c.layout-l.ensures in
    let e = c.prepare-p.ensures in
    record { ready = ready c.requires.allowed el e.work_after c.args.out.now c.requires.coupled.0; lined = (lined c.requires.allowed el, (bounded c.requires.allowed _ e.value).m_most) }

pub copy_from-requires : goal.copy_from-requires
copy_from-requires c =
    let el = c.layout-l.ensures in
    let rd = ready c.requires.allowed el c.prepare-p.ensures.work_after c.args.out.now c.requires.coupled.0 in
    record { len_in_bounds = rw el (omega (arith, c.requires.coupled.1)); len_in_bounds_2 = omega (arith, rd.av_in, c.run_sweeps-applied.ensures.kept.long) }

pub overflow_add-j : goal.overflow_add-j
unfolding taylor_need
overflow_add-j c =
    let h = c.requires.allowed in
    omega (arith, h.needed, h.passed.valid.few, h.passed.light, h.short)

pub finish-requires : goal.finish-requires
finish-requires c = omega (arith, c.requires.coupled.2, c.run_sweeps-applied.ensures.kept.long, spliced_long _ _ _ c.prepare-p.ensures.work_after)

pub returns : goal.returns
unfolding swept_fields
returns c =
    let el = c.layout-l.ensures in
    let w = c.run_sweeps-applied.ensures in
    let n = c.layout-l.result.n in
    let field = sym (window_window 0 (n + c.layout-l.result.d) 0 n _ (omega arith)) ∙ ap (λ (x : Swept). window 0 n x.y) w.work_after in
    let made = c.copy_from.ensures ∙ ap (λ (vs : List Float). splice 0 vs c.args.out.now) field in
    let j = c.args.j in
    let q = matrix_of j.g c.args.starts.now c.args.cols.now c.args.vals.now c.args.mass.now in
    ended_wider j q (swept_fields (operator_by j q c.args.out.now) j.tau (window 0 (j.g.n + j.d) c.args.work.now)) c.args.work.now c.run_sweeps-applied.new.work
    (done c.requires.allowed el c.prepare-p.ensures.work_after c.args.out.now c.requires.coupled.0 c.args.out.now c.requires.coupled.1 c.prepare-p.ensures.value (ap (λ (x : Swept). x.applied) w.work_after) made w.kept c.finish.ensures.value refl)
    c.finish.ensures.work_after
