-- `phi_krylov::combined` meets its contract. Assumes nothing.
use mathlib.Core.Path.{ap, ◌∙◌}
use mathlib.Core.List.{[]}
use lib.ListN.{length}
use Rattle.lists.proofs.Window.{length_splice}
use Rattle.checks.proofs.First.{passed_on, ends_sound}
use Rattle.combination.proofs.Further.{part_further}
use Rattle.krylov_job.proofs.Calls.{refused_run, start_fits, runs_job, combined_is}
use Rattle.phi_krylov.proofs.combined.Goals as goal

pub returns-in_err-j : goal.returns-in_err-j
returns-in_err-j c gs sound =
    rw (passed_on c.from_residual.ensures.1)
    (let a = c.args in
    let refusal = c.in_err-j.was in
    refused_run a.mass.now c.requires gs sound a.tau a.count a.w.now a.o a.out.now a.work.now (c.admit_job.ensures [] ends_sound) refusal)

pub start_in-requires : goal.start_in-requires
start_in-requires c =
    let a = c.args in
    start_fits a.mass.now c.requires [] ends_sound a.tau a.count a.w.now a.o a.out.now a.work.now (c.admit_job.ensures [] ends_sound) c.in_ok-j.was

pub slice_bounds-run_job-count : goal.slice_bounds-run_job-count
slice_bounds-run_job-count c =
    let a = c.args in
    (start_fits a.mass.now c.requires [] ends_sound a.tau a.count a.w.now a.o a.out.now a.work.now (c.admit_job.ensures [] ends_sound) c.in_ok-j.was).0

pub slice_bounds-run_job-start : goal.slice_bounds-run_job-start
slice_bounds-run_job-start c =
    let a = c.args in
    (start_fits a.mass.now c.requires [] ends_sound a.tau a.count a.w.now a.o a.out.now a.work.now (c.admit_job.ensures [] ends_sound) c.in_ok-j.was).0

pub run_job-requires : goal.run_job-requires
run_job-requires c =
    let a = c.args in
    let long = ap length c.start_in.ensures ∙ length_splice _ _ a.work.now in
    rw part_further (let r = runs_job a.mass.now c.requires [] ends_sound a.tau a.count a.w.now a.o a.out.now a.work.now (c.admit_job.ensures [] ends_sound) c.in_ok-j.was long in record { allowed = r.0; out_len = r.1 })

pub returns : goal.returns
returns c gs sound =
    let a = c.args in
    combined_is a.mass.now c.requires gs sound a.tau a.count a.w.now a.o a.out.now a.work.now (c.admit_job.ensures [] ends_sound) c.in_ok-j.was c.start_in.ensures (rw part_further at c.run_job.ensures)
