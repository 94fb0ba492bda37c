-- `phi_combination::combined` meets its contract. Assumes nothing.
use native.Mathlib.Omega.{arith}
use mathlib.Core.Path.{refl, sym, ap, ◌∙◌}
use mathlib.Core.List.{[]}
use Prim.Native.Nat.{◌-◌}
use lib.ListN.{length}
use Rattle.lists.proofs.Window.{length_splice}
use Rattle.checks.proofs.First.{passed_on, ends_sound, ok_first}
use Rattle.taylor_schedule.proofs.Admitted.{vectors_known, of_one_slice, further_within, first_within}
use Rattle.combination.proofs.Further.{part_further, length_further}
use Rattle.phi_combination.proofs.Calls.{allowed_combination, runs_combination, field_fits, refused_vectors, refused_sweeps, ran, combined_is}
use Rattle.phi_combination.proofs.combined.Goals as goal

pub returns-in_err-validate_combination : goal.returns-in_err-validate_combination
returns-in_err-validate_combination c gs sound =
    rw (passed_on c.from_residual.ensures.1)
    (let told = of_one_slice c.args.g.n _ c.args.count c.args.w.now _ (c.validate_combination.ensures _ [] c.check_plan-time.ensures ends_sound) in
    let refusal = c.in_err-validate_combination.was in
    refused_vectors c.args.mass.now c.requires gs sound c.args.tau c.args.cap c.args.count c.args.w.now c.args.out.now c.args.work.now told refusal)

pub overflow_sub-d : goal.overflow_sub-d
overflow_sub-d c =
    let k = vectors_known _ _ _ c.args.w.now _ c.in_ok-validate_combination.was (of_one_slice c.args.g.n _ c.args.count c.args.w.now _ (c.validate_combination.ensures _ [] c.check_plan-time.ensures ends_sound)) in
    omega (arith, k.some)

pub slice_bounds-further-count : goal.slice_bounds-further-count
slice_bounds-further-count c =
    first_within (vectors_known _ _ _ c.args.w.now _ c.in_ok-validate_combination.was (of_one_slice c.args.g.n _ c.args.count c.args.w.now _ (c.validate_combination.ensures _ [] c.check_plan-time.ensures ends_sound)))

pub slice_bounds-further-start : goal.slice_bounds-further-start
slice_bounds-further-start c =
    first_within (vectors_known _ _ _ c.args.w.now _ c.in_ok-validate_combination.was (of_one_slice c.args.g.n _ c.args.count c.args.w.now _ (c.validate_combination.ensures _ [] c.check_plan-time.ensures ends_sound)))

pub admit_combination-requires : goal.admit_combination-requires
admit_combination-requires c =
    let a = c.args in
    let k = vectors_known _ _ _ a.w.now _ c.in_ok-validate_combination.was (of_one_slice c.args.g.n _ c.args.count c.args.w.now _ (c.validate_combination.ensures _ [] c.check_plan-time.ensures ends_sound)) in
    (rw part_further (rw length_further (further_within k)), c.requires.valid.few, omega (arith, k.most), c.requires.light)

pub returns-in_err-j : goal.returns-in_err-j
returns-in_err-j c gs sound =
    rw (passed_on c.from_residual-in_err-j.ensures.1)
    (let a = c.args in
    let told = of_one_slice c.args.g.n _ c.args.count c.args.w.now _ (c.validate_combination.ensures _ [] c.check_plan-time.ensures ends_sound) in
    let admitted = rw part_further at c.admit_combination.ensures in
    let refusal = c.in_err-j.was in
    refused_sweeps a.mass.now c.requires gs sound a.tau a.cap a.count a.w.now a.out.now a.work.now told c.in_ok-validate_combination.was admitted refusal)

pub combination_start-requires : goal.combination_start-requires
combination_start-requires c =
    let a = c.args in
    let k = vectors_known _ _ _ a.w.now _ c.in_ok-validate_combination.was (of_one_slice c.args.g.n _ c.args.count c.args.w.now _ (c.validate_combination.ensures _ [] c.check_plan-time.ensures ends_sound)) in
    let told = sym c.admit_combination.ensures ∙ c.in_ok-j.was in
    let h = allowed_combination a.mass.now c.requires a.tau a.cap {work = a.work.now} _ (omega (arith, k.most)) told refl in
    (first_within k, rw (← (ok_first _ _ told).1) at (field_fits h))

pub run_job-requires : goal.run_job-requires
run_job-requires c =
    let a = c.args in
    let k = vectors_known _ _ _ a.w.now _ c.in_ok-validate_combination.was (of_one_slice c.args.g.n _ c.args.count c.args.w.now _ (c.validate_combination.ensures _ [] c.check_plan-time.ensures ends_sound)) in
    let r = runs_combination a.mass.now c.requires a.tau a.cap _ (omega (arith, k.most)) (rw part_further (rw length_further (further_within k))) k.out (sym c.admit_combination.ensures ∙ c.in_ok-j.was) (ap length c.combination_start.ensures ∙ length_splice 0 _ a.work.now) in record { allowed = r.0; coupled = r.1 }

pub returns : goal.returns
returns c gs sound =
    let a = c.args in
    let told = of_one_slice c.args.g.n _ c.args.count c.args.w.now _ (c.validate_combination.ensures _ [] c.check_plan-time.ensures ends_sound) in
    let k = vectors_known _ _ _ a.w.now _ c.in_ok-validate_combination.was told in
    let admitted = rw part_further at c.admit_combination.ensures in
    let passed = c.in_ok-j.was in
    combined_is a.mass.now c.requires gs sound a.tau a.cap a.count a.w.now a.out.now a.work.now told c.in_ok-validate_combination.was admitted passed
    (ran a.mass.now c.requires gs sound a.tau a.cap (a.count - 1) a.w.now _ a.out.now a.work.now (omega (arith, k.most)) (first_within k) (sym admitted ∙ passed) c.combination_start.ensures (rw part_further at c.run_job.ensures))
