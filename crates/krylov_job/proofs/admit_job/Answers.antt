-- `krylov_job::admit_job` meets its contract. Assumes nothing.
use native.Mathlib.Omega.{arith}
use mathlib.Core.Path.{ap, ◌∙◌}
use Prim.Native.Nat.{ℕ, ◌-◌}
use Rattle.combination.specs.Combination.{further}
use Rattle.taylor_schedule.proofs.Admitted.{first_within, further_within}
use Rattle.combination.proofs.Further.{part_further, length_further}
use Rattle.krylov_job.specs.KrylovCall.{dimension}
use Rattle.krylov_job.specs.Inner.{scaling_of, run_by}
use Rattle.krylov_job.proofs.Calls.{alone_told, early_known, refused_early, then_run}
use Rattle.checks.proofs.First.{passed_on}
use Rattle.krylov_job.proofs.admit_job.Goals as goal

pub returns-in_err-check_job : goal.returns-in_err-check_job
returns-in_err-check_job c os e =
    let a = c.args in
    rw (passed_on c.from_residual.ensures.1) (refused_early a.g a.tau a.count a.w.now a.o a.output os (c.check_job.ensures os e) _ _ c.in_err-check_job.was)

pub overflow_sub-d : goal.overflow_sub-d
overflow_sub-d c =
    let a = c.args in
    (early_known a.g a.tau a.count a.w.now a.o a.output _ (c.check_job.ensures _ (alone_told a.others)) c.in_ok-check_job.was).0.some

pub overflow_add-n : goal.overflow_add-n
overflow_add-n c =
    let a = c.args in
    let k = early_known a.g a.tau a.count a.w.now a.o a.output _ (c.check_job.ensures _ (alone_told a.others)) c.in_ok-check_job.was in
    omega (arith, k.0.most, c.requires.0)

pub slice_bounds-admit_run-count : goal.slice_bounds-admit_run-count
slice_bounds-admit_run-count c =
    let a = c.args in
    first_within (early_known a.g a.tau a.count a.w.now a.o a.output _ (c.check_job.ensures _ (alone_told a.others)) c.in_ok-check_job.was).0

pub slice_bounds-admit_run-start : goal.slice_bounds-admit_run-start
slice_bounds-admit_run-start c =
    let a = c.args in
    first_within (early_known a.g a.tau a.count a.w.now a.o a.output _ (c.check_job.ensures _ (alone_told a.others)) c.in_ok-check_job.was).0

pub admit_run-requires : goal.admit_run-requires
unfolding dimension
admit_run-requires c =
    let a = c.args in
    let k = early_known a.g a.tau a.count a.w.now a.o a.output _ (c.check_job.ensures _ (alone_told a.others)) c.in_ok-check_job.was in
    (rw part_further (rw length_further (further_within k.0)), c.requires.0, omega (arith, k.0.most), rw c.clamp_m-m.ensures k.1, c.requires.1)

pub returns : goal.returns
unfolding dimension
returns c os e =
    let a = c.args in
    then_run a.g a.tau a.count a.w.now a.o a.output os (c.check_job.ensures os e) _ _ c.in_ok-check_job.was ((rw part_further at c.admit_run.ensures) ∙ ap (λ (m : ℕ). run_by a.g a.tau (a.count - 1) (further a.g.n a.w.now) (scaling_of a.g a.tau a.count a.w.now a.began) a.o m a.memory) c.clamp_m-m.ensures)
