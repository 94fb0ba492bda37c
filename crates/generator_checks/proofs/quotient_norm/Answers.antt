-- `generator_checks::quotient_norm` meets its contract. Assumes nothing.
use native.Mathlib.Omega.{arith}
use mathlib.Core.List.{List}
use mathlib.Core.Path.{◌≡◌, sym, ap, ◌∙◌}
use mathlib.Core.Bool.{not}
use Prim.Native.Nat.{ℕ, ◌+◌, ◌<◌}
use lib.Ieee.{Float}
use Rattle.std.specs.List.{fold, slice_range}
use Rattle.lists.proofs.Find.{passed_start, passed_next}
use Rattle.doubles.specs.F64.{◌⊕◌, ◌⊘◌, +0, at, abs, is_finite}
use Rattle.doubles.proofs.Sum.{sum_range}
use Rattle.general_operator.specs.Csr.{Csr, start, Valid, row_sum}
use Rattle.general_operator.proofs.Rows.{row_within}
use Rattle.generator_action.specs.Mass.{normalise, bad_sum}
use Rattle.generator_action.proofs.Quotients.{row_sum_normalise}
use Rattle.generator_action.proofs.Leading.{leading_start, leading_turn, leading_end}
use Rattle.generator_action.proofs.Ways.{answered_refusal, answered_norm, refused_sum, sound_sums, quotients_nonneg}
use Rattle.generator_checks.proofs.quotient_norm.Goals as goal

-- the sum over the row's slice is that of the quotients' row
sum_is : (a : Csr) (mass : List Float) → Valid a → (i : ℕ) → i < a.n → {s : Float} → s ≡ fold (λ t x. t ⊕ abs (x ⊘ at mass i)) +0 (slice_range a.entries (start a i) (start a (i + 1))) → s ≡ row_sum (normalise a mass) i
sum_is a mass v i l e =
    let within = row_within v i l in
    e ∙ sum_range (λ x. abs (x ⊘ at mass i)) a.entries _ _ within.0 within.1 ∙ sym (row_sum_normalise v mass i l)

pub loop-i-init : goal.loop-i-init
loop-i-init c = (omega arith, passed_start _, leading_start _)

pub slice_bounds-quotient_sum-end : goal.slice_bounds-quotient_sum-end
slice_bounds-quotient_sum-end c = omega (arith, row_within c.requires.valid c.loop-i.i (omega arith))

pub returns-then-not-is_finite : goal.returns-then-not-is_finite
unfolding normalise
returns-then-not-is_finite c =
    let e = sum_is _ c.args.mass.now c.requires.valid c.loop-i.i (omega arith) c.quotient_sum-s.ensures in
    answered_refusal (refused_sum _ c.loop-i.invariant.1 _ (omega arith) e (sym (ap not c.is_finite.ensures) ∙ (ap not c.if-not-is_finite.true)))

pub loop-i-preserved : goal.loop-i-preserved
unfolding bad_sum
loop-i-preserved c =
    let p = c.requires in
    let i = c.loop-i.i in
    let e = sum_is _ c.args.mass.now p.valid i (omega arith) c.quotient_sum-s.ensures in
    (omega arith, passed_next c.loop-i.invariant.1 (ap (λ x. not (is_finite x)) (sym e) ∙ sym (ap not c.is_finite.ensures) ∙ (ap not c.if-not-is_finite.false)), leading_turn c.loop-i.invariant.2 (quotients_nonneg p.valid p.finite _ p.dividing i (omega arith)) _ _ _ e c.larger-largest.ensures)

pub returns : goal.returns
unfolding normalise
returns c = answered_norm (sound_sums _ c.loop-i.invariant.1 (omega arith)) (leading_end c.loop-i.invariant.2 (omega arith) c.requires.valid.some)
