-- `vector_checks::validate_combination` meets its contract. Assumes nothing.
use native.Mathlib.Omega.{arith}
use Prim.Native.Nat.{◌*◌, ◌≤◌}
use mathlib.Core.Path.{refl, sym, ap, ◌∙◌}
use mathlib.Core.List.{append_assoc}
use Rattle.checks.specs.First.{first}
use Rattle.checks.proofs.First.{passed_on, refused_up, sound_on}
use Rattle.combination.proofs.Counts.{vectors_fit}
use Rattle.combination.specs.Checks.{vector_checks_by}
use Rattle.vector_checks.proofs.validate_combination.Goals as goal

pub returns-in_err-check_count : goal.returns-in_err-check_count
unfolding vector_checks_by
returns-in_err-check_count c ts os e h = rw (passed_on c.from_residual.ensures.1) (refused_up _ _ refl c.in_err-check_count.ensures)

pub returns-in_err-time : goal.returns-in_err-time
unfolding vector_checks_by
returns-in_err-time c ts os e h =
    rw (passed_on c.from_residual-in_err-time.ensures.1)
    (sound_on _ _ refl c.in_ok-check_count.ensures (refused_up _ _ refl (sym c.in_err-time.was ∙ e)))

pub overflow_mul-count : goal.overflow_mul-count
overflow_mul-count c =
    let h : c.args.count * c.args.n ≤ 4000000 = search (vectors_fit, c.in_ok-check_count.ensures) in
    omega (arith, h)

pub returns-in_err-check_lengths : goal.returns-in_err-check_lengths
unfolding vector_checks_by
returns-in_err-check_lengths c ts os e h =
    rw (passed_on c.from_residual-in_err-check_lengths.ensures.1)
    (sound_on _ _ refl c.in_ok-check_count.ensures
    (sound_on _ _ refl (sym c.in_ok-time.was ∙ e)
    (sym c.in_err-check_lengths.was ∙ refused_up _ _ c.in_err-check_lengths.was (c.check_lengths.ensures)
    ∙ ap first (sym (append_assoc _ os _)))))

pub returns-in_err-others : goal.returns-in_err-others
unfolding vector_checks_by
returns-in_err-others c ts os e h =
    rw (passed_on c.from_residual-in_err-others.ensures.1)
    (sound_on _ _ refl c.in_ok-check_count.ensures
    (sound_on _ _ refl (sym c.in_ok-time.was ∙ e)
    (sound_on _ _ c.in_ok-check_lengths.was c.check_lengths.ensures (refused_up _ _ refl (sym c.in_err-others.was ∙ h)) ∙ ap first (sym (append_assoc _ os _)))))

pub returns : goal.returns
unfolding vector_checks_by
returns c ts os e h =
    sound_on _ _ refl c.in_ok-check_count.ensures
    (sound_on _ _ refl (sym c.in_ok-time.was ∙ e)
    (sound_on _ _ c.in_ok-check_lengths.was c.check_lengths.ensures (sound_on _ _ c.in_ok-others.was h c.check_finite.ensures) ∙ ap first (sym (append_assoc _ os _))))
