-- `stage_calls::run_stage` meets its contract. Assumes nothing.
use native.Mathlib.Omega.{arith}
use mathlib.Core.Path.{◌≡◌, refl, ap, ◌∙◌}
use Prim.Native.Nat.{ℕ}
use lib.ListN.{length}
use Rattle.checks.specs.First.{first}
use Rattle.checks.proofs.First.{passed_on}
use Rattle.general_operator.specs.Csr.{csr}
use Rattle.generator_action.specs.Mass.{given}
use Rattle.taylor_schedule.proofs.Stored.{quotients_rows}
use Rattle.combination.specs.Combination.{field_of}
use Rattle.schedule_checks.specs.Schedule.{stage_checks}
use Rattle.schedule_checks.proofs.Checks.{stage_known, few_further}
use Rattle.stage_calls.proofs.OneStage.{stage_refused, stage_whole, stage_is}
use Rattle.stage_calls.proofs.run_stage.Goals as goal

pub returns-in_err-check_stage : goal.returns-in_err-check_stage
returns-in_err-check_stage c gs sound =
    rw (passed_on c.from_residual.ensures.1)
    (let told : let a = c.args in c.check_stage.result ≡ first (stage_checks a.g.n a.s a.last (length a.out.now) (length (field_of a.initial a.start.now a.out.now)) a.used (length a.further.now)) = let a = c.args in
    c.check_stage.ensures ∙ ap (λ (l : ℕ). first (stage_checks a.g.n a.s a.last (length a.out.now) l a.used (length a.further.now))) (c.field_length-field.ensures a.start.now a.out.now refl refl) in
    let a = c.args in
    let refusal = c.in_err-check_stage.was in
    stage_refused _ a.g.n (quotients_rows (csr a.g.n a.starts.now a.cols.now a.vals.now) (given a.g.with_mass a.mass.now)) a.s a.last a.used a.further.now (field_of a.initial a.start.now a.out.now) a.out.now a.work.now told refusal)

pub overflow_sub-to : goal.overflow_sub-to
overflow_sub-to c =
    let told : let a = c.args in c.check_stage.result ≡ first (stage_checks a.g.n a.s a.last (length a.out.now) (length (field_of a.initial a.start.now a.out.now)) a.used (length a.further.now)) = let a = c.args in
    c.check_stage.ensures ∙ ap (λ (l : ℕ). first (stage_checks a.g.n a.s a.last (length a.out.now) l a.used (length a.further.now))) (c.field_length-field.ensures a.start.now a.out.now refl refl) in
    let a = c.args in
    (stage_known a.g.n a.s a.last _ _ a.used _ c.in_ok-check_stage.was told).some

pub overflow_mul-to : goal.overflow_mul-to
overflow_mul-to c =
    let told : let a = c.args in c.check_stage.result ≡ first (stage_checks a.g.n a.s a.last (length a.out.now) (length (field_of a.initial a.start.now a.out.now)) a.used (length a.further.now)) = let a = c.args in
    c.check_stage.ensures ∙ ap (λ (l : ℕ). first (stage_checks a.g.n a.s a.last (length a.out.now) l a.used (length a.further.now))) (c.field_length-field.ensures a.start.now a.out.now refl refl) in
    let a = c.args in
    omega (arith, few_further a.s.count a.g.n (stage_known a.g.n a.s a.last _ _ a.used _ c.in_ok-check_stage.was told).most c.requires.passed.valid.few)

pub overflow_add-to : goal.overflow_add-to
overflow_add-to c =
    let told : let a = c.args in c.check_stage.result ≡ first (stage_checks a.g.n a.s a.last (length a.out.now) (length (field_of a.initial a.start.now a.out.now)) a.used (length a.further.now)) = let a = c.args in
    c.check_stage.ensures ∙ ap (λ (l : ℕ). first (stage_checks a.g.n a.s a.last (length a.out.now) l a.used (length a.further.now))) (c.field_length-field.ensures a.start.now a.out.now refl refl) in
    let a = c.args in
    omega (arith, few_further a.s.count a.g.n (stage_known a.g.n a.s a.last _ _ a.used _ c.in_ok-check_stage.was told).most c.requires.passed.valid.few, c.requires.used_bound)

pub slice_bounds-vectors-end : goal.slice_bounds-vectors-end
slice_bounds-vectors-end c =
    let told : let a = c.args in c.check_stage.result ≡ first (stage_checks a.g.n a.s a.last (length a.out.now) (length (field_of a.initial a.start.now a.out.now)) a.used (length a.further.now)) = let a = c.args in
    c.check_stage.ensures ∙ ap (λ (l : ℕ). first (stage_checks a.g.n a.s a.last (length a.out.now) l a.used (length a.further.now))) (c.field_length-field.ensures a.start.now a.out.now refl refl) in
    let a = c.args in
    (stage_known a.g.n a.s a.last _ _ a.used _ c.in_ok-check_stage.was told).within

pub stage_call-requires : goal.stage_call-requires
stage_call-requires c =
    let told : let a = c.args in c.check_stage.result ≡ first (stage_checks a.g.n a.s a.last (length a.out.now) (length (field_of a.initial a.start.now a.out.now)) a.used (length a.further.now)) = let a = c.args in
    c.check_stage.ensures ∙ ap (λ (l : ℕ). first (stage_checks a.g.n a.s a.last (length a.out.now) l a.used (length a.further.now))) (c.field_length-field.ensures a.start.now a.out.now refl refl) in
    let a = c.args in
    let h = stage_known a.g.n a.s a.last _ _ a.used _ c.in_ok-check_stage.was told in
    record { passed = c.requires.passed; whole = (stage_whole a.g.n a.s a.further.now h, h.timed) }

pub returns : goal.returns
returns c gs sound =
    let told : let a = c.args in c.check_stage.result ≡ first (stage_checks a.g.n a.s a.last (length a.out.now) (length (field_of a.initial a.start.now a.out.now)) a.used (length a.further.now)) = let a = c.args in
    c.check_stage.ensures ∙ ap (λ (l : ℕ). first (stage_checks a.g.n a.s a.last (length a.out.now) l a.used (length a.further.now))) (c.field_length-field.ensures a.start.now a.out.now refl refl) in
    let a = c.args in
    stage_is _ a.g.n (quotients_rows (csr a.g.n a.starts.now a.cols.now a.vals.now) (given a.g.with_mass a.mass.now)) a.s a.last a.used a.further.now (field_of a.initial a.start.now a.out.now) a.out.now a.work.now told c.in_ok-check_stage.was (c.stage_call.ensures gs sound)
