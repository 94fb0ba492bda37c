-- What the checks of a schedule and of a stage leave. Assumes nothing.
use mathlib.Core.Path.{◌≡◌, refl, sym, ◌∙◌}
use mathlib.Core.Bool.{Bool}
use mathlib.Core.List.{[], ◌∷◌}
use Prim.Native.Nat.{ℕ, ◌+◌, ◌-◌, ◌*◌, ◌≤◌}
use native.Mathlib.Omega.{arith}
use lib.Dec.{eqb, ltb}
use borrow.Author.Tests.{eqb-true, eqb-false, ne_eqb, not-false, ltb-false, le-ltb}
use Rattle.lists.proofs.Tests.{and_both, above_0}
use Rattle.lists.proofs.Bounds.{product_within}
use Rattle.checks.specs.First.{refuse, first}
use Rattle.checks.specs.First.{Checked}
use Rattle.checks.proofs.First.{sound_cons, sound_append, passes, ends_sound, not_eq}
use Rattle.doubles.specs.F64.{nat}
use Rattle.general_operator.proofs.Sound.{or_false}
use Rattle.combination.specs.Checks.{count_checks, length_checks}
use Rattle.schedule_checks.specs.declared.Stage.{Stage}
use Rattle.schedule_checks.specs.Inner.{Even}
use Rattle.schedule_checks.specs.Schedule.{Schedule, stages_of, schedule_checks, further_need, wrong_slice, time_checks_of, stage_checks}
use Rattle.checks.specs.Reasons.{Sound}
use Rattle.checks.specs.declared.Reason.TheVariants.{VectorCount, OutputLength, VectorLength}

-- ---- 37
pub schedule_known : (s : Schedule) {r : Checked} → r ≡ Sound → r ≡ first (schedule_checks s) → Even s
unfolding schedule_checks
schedule_known s e f =
    let k = stages_of s in
    let a = or_false (eqb k 0) _ (sound_cons _ _ _ _ (sym e ∙ f)).0 in
    let b = or_false (ltb 64 k) _ a.1 in
    let c₁ = and_both _ _ (not-false _ b.1) in
    let c₂ = and_both _ _ c₁.1 in
    let c₃ = and_both _ _ c₂.1 in
    let c₄ = and_both _ _ c₃.1 in
    let c₅ = and_both _ _ c₄.1 in
    record {
      some = above_0 k (eqb-false k 0 a.0);
      most = ltb-false 64 k b.0;
      counts = eqb-true _ k c₁.0;
      solvers = eqb-true _ k c₂.0;
      degrees = eqb-true _ k c₃.0;
      tols = eqb-true _ k c₄.0;
      ms = eqb-true _ k c₅.0;
      limits = eqb-true _ k c₅.1;
    }

-- ---- 12 to 16
pub count_known : (count : ℕ) {r : Checked} → r ≡ Sound → r ≡ first (count_checks count) → (1 ≤ count) × (count ≤ 4)
unfolding count_checks
count_known count e f =
    let c = or_false (eqb count 0) (ltb 4 count) (sound_cons _ _ _ _ (sym e ∙ f)).0 in
    (above_0 count (eqb-false count 0 c.0), ltb-false 4 count c.1)

pub count_sound : {count : ℕ} → 1 ≤ count → count ≤ 4 → Sound ≡ first (count_checks count)
unfolding count_checks
count_sound {count} l m = passes VectorCount _ [] (rw (ne_eqb count 0 (λ e. absurd (omega (arith, l, e))), le-ltb 4 count m) refl) ends_sound

pub lengths_sound : {output wanted vectors expected : ℕ} → output ≡ wanted → vectors ≡ expected → Sound ≡ first (length_checks output wanted vectors expected)
unfolding length_checks
lengths_sound e f = passes OutputLength _ _ (not_eq e) (passes VectorLength _ [] (not_eq f) ends_sound)

pub count_some : (count : ℕ) {r : Checked} → r ≡ Sound → r ≡ first (count_checks count) → 1 ≤ count
count_some count e f = (count_known count e f).0

-- the further vectors of one stage are at most 3,000,000 numbers
pub few_further : (count n : ℕ) → count ≤ 4 → n ≤ 1000000 → (count - 1) * n ≤ 3000000
few_further count n h l = product_within 3 1000000 (omega arith) l

pub few_counted : (count n : ℕ) {r : Checked} → r ≡ Sound → r ≡ first (count_checks count) → n ≤ 1000000 → (count - 1) * n ≤ 3000000
few_counted count n e f l = few_further count n (count_known count e f).1 l

-- the lengths, and what the slice has of it
pub record Fitting (n : ℕ) (s : Stage) (output field used further : ℕ) : Type 0 where
  pub some : 1 ≤ s.count
  pub most : s.count ≤ 4
  pub timed : Sound ≡ first (time_checks_of s.solver s.tau)
  pub out : output ≡ n
  pub fielded : field ≡ n
  pub within : used + (s.count - 1) * n ≤ further

pub stage_known : (n : ℕ) (s : Stage) (last : Bool) (output field used further : ℕ) {r : Checked} → r ≡ Sound → r ≡ first (stage_checks n s last output field used further) → Fitting n s output field used further
unfolding stage_checks length_checks
stage_known n s last output field used further e f =
    let c = sound_append (count_checks s.count) _ (sym e ∙ f) in
    let k = count_known s.count refl c.0 in
    let t = sound_append (time_checks_of s.solver s.tau) _ c.1 in
    let l = sound_append (length_checks output n field n) (refuse VectorLength (wrong_slice (further_need n s) last used further) (nat further) ∷ []) t.1 in
    let a = sound_cons _ _ _ _ l.0 in
    let b = sound_cons _ _ _ _ a.1 in
    let w = or_false (ltb further (used + (s.count - 1) * n)) _ (sound_cons _ _ _ _ l.1).0 in
    record {
      some = k.0;
      most = k.1;
      timed = t.0;
      out = eqb-true output n (not-false _ a.0);
      fielded = eqb-true field n (not-false _ b.0);
      within = ltb-false further _ w.0;
    }
