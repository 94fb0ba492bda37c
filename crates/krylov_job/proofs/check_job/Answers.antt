-- `krylov_job::check_job` meets its contract. Assumes nothing.
use native.Mathlib.Omega.{arith}
use mathlib.Core.Path.{refl, sym, ap, ◌∙◌}
use Prim.Native.Nat.{ℕ}
use Rattle.checks.specs.First.{first}
use Rattle.checks.proofs.First.{passed_on, refused_up, sound_on}
use Rattle.krylov_job.specs.KrylovCall.{dimension, option_checks}
use Rattle.krylov_job.proofs.Calls.{alone_told, vectors_alone}
use Rattle.krylov_job.proofs.check_job.Goals as goal

pub returns-in_err-validate_combination : goal.returns-in_err-validate_combination
returns-in_err-validate_combination c os e =
    rw (passed_on c.from_residual.ensures.1)
    (refused_up _ _ refl (sym c.in_err-validate_combination.was ∙ c.validate_combination.ensures _ os c.check_time-time.ensures e))

pub overflow_sub-count : goal.overflow_sub-count
overflow_sub-count c =
    let a = c.args in
    let k = vectors_alone a.n _ _ a.count a.w.now a.output (sym c.in_ok-validate_combination.was ∙ c.validate_combination.ensures _ _ c.check_time-time.ensures (alone_told a.others)) in
    k.0.some

pub overflow_add-n : goal.overflow_add-n
overflow_add-n c =
    let a = c.args in
    let k = vectors_alone a.n _ _ a.count a.w.now a.output (sym c.in_ok-validate_combination.was ∙ c.validate_combination.ensures _ _ c.check_time-time.ensures (alone_told a.others)) in
    omega (arith, k.0.most, c.requires)

pub returns : goal.returns
unfolding dimension
returns c os e =
    let a = c.args in
    sound_on _ _ c.in_ok-validate_combination.was (c.validate_combination.ensures _ os c.check_time-time.ensures e) (c.check_options.ensures ∙ ap (λ (m : ℕ). first (option_checks a.o m)) c.clamp_m-m.ensures)
