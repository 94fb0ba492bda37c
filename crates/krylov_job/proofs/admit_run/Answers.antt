-- `krylov_job::admit_run` meets its contract. Assumes nothing.
use mathlib.Core.Path.{sym, ap, ◌∙◌}
use Rattle.checks.proofs.First.{passed_on, stopped_or, told_or, ok_first}
use Rattle.pow2.specs.declared.Scaling.{Scaling}
use Rattle.weighted_columns.specs.declared.Powers.{Powers}
use Rattle.weighted_columns.specs.declared.Weights.{Weights}
use Rattle.krylov_job.specs.KrylovCall.{run_checks}
use Rattle.krylov_job.specs.Inner.{scaling_by, run_by}
use Rattle.krylov_job.proofs.admit_run.Goals as goal

pub returns-in_err-weights : goal.returns-in_err-weights
unfolding run_checks
returns-in_err-weights c =
    let a = c.args in
    let p = c.powers_of-p.ensures in
    let eta = c.scaling_by-eta.ensures ∙ ap (λ (x : Powers). scaling_by a.began x.sum) p in
    rw (passed_on c.from_residual.ensures.1)
    (stopped_or _ _ _ _ c.in_err-weights.was (c.weigh_by.ensures _ _ p) ∙ ap (λ (x : Scaling). run_by a.g a.tau a.d a.further.now x a.o a.m a.memory) eta)

pub returns : goal.returns
unfolding run_checks
returns c =
    let a = c.args in
    let p = c.powers_of-p.ensures in
    let eta = c.scaling_by-eta.ensures ∙ ap (λ (x : Powers). scaling_by a.began x.sum) p in
    let weighed = c.weigh_by.ensures _ _ p in
    let b = ap (λ (x : Weights). x.b) (sym (ok_first _ _ (sym weighed ∙ c.in_ok-weights.was)).1) in
    told_or _ _ _ _ c.in_ok-weights.was weighed (c.admit_weighed.ensures _ b) ∙ ap (λ (x : Scaling). run_by a.g a.tau a.d a.further.now x a.o a.m a.memory) eta
