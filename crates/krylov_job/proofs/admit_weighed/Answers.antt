-- `krylov_job::admit_weighed` meets its contract. Assumes nothing.
use mathlib.Core.Path.{sym, ap, ◌∙◌}
use Prim.Native.Nat.{ℕ}
use lib.Ieee.{Float}
use Rattle.checks.specs.First.{first}
use Rattle.checks.proofs.First.{passed_on, refused_or, sound_or, first_err, first_ok}
use Rattle.combination.specs.Checks.{memory_checks}
use Rattle.krylov_job.specs.KrylovCall.{bound_checks}
use Rattle.krylov_job.specs.Inner.{run_job_by}
use Rattle.krylov_job.proofs.admit_weighed.Goals as goal

pub returns-in_err-check_bound : goal.returns-in_err-check_bound
returns-in_err-check_bound c f e =
    let host = c.check_bound.ensures ∙ ap (λ (x : Float). first (bound_checks x)) c.bound-anorm.ensures in
    rw (passed_on c.from_residual.ensures.1) (refused_or _ _ _ c.in_err-check_bound.was host)

pub returns-in_err-check_memory : goal.returns-in_err-check_memory
returns-in_err-check_memory c f e =
    let a = c.args in
    let host = c.check_bound.ensures ∙ ap (λ (x : Float). first (bound_checks x)) c.bound-anorm.ensures in
    let room = c.check_memory.ensures ∙ ap (λ (k : ℕ). first (memory_checks a.memory k)) c.krylov_need-need.ensures in
    rw (passed_on c.from_residual-in_err-check_memory.ensures.1)
    (sound_or _ _ (run_job_by a.g a.tau a.d f a.eta a.o a.m) c.in_ok-check_bound.was host (sym (first_err _ _ (sym room ∙ c.in_err-check_memory.was))))

pub returns : goal.returns
returns c f e =
    let a = c.args in
    let host = c.check_bound.ensures ∙ ap (λ (x : Float). first (bound_checks x)) c.bound-anorm.ensures in
    let room = c.check_memory.ensures ∙ ap (λ (k : ℕ). first (memory_checks a.memory k)) c.krylov_need-need.ensures in
    sound_or _ _ (run_job_by a.g a.tau a.d f a.eta a.o a.m) c.in_ok-check_bound.was host
    (rw (c.krylov.ensures, c.krylov_need-need.ensures, c.bound-anorm.ensures, e) (sym (first_ok _ _ (sym room ∙ c.in_ok-check_memory.was))))
