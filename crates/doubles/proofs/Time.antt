-- Time that runs to 1: for 0 ≤ t ≤ 1 the rounded t + (1 - t), the inner difference rounded too, is 1; with any shorter step it is at most 1; and what is left, 1 - t, is 0 only at 1. Assumes nothing.
use mathlib.Core.Path.{◌≡◌, refl, sym, ap, ◌∙◌, subst}
use mathlib.Core.Logic.{inl, inr}
use Prim.Native.Nat.{ℕ, ◌+◌, ◌-◌, ◌*◌, ◌^◌, ◌≤◌, ◌<◌}
use native.Mathlib.Nat.{le_trans, le_of_eq, lt_of_le_of_lt, not-le_of_lt, eq-zero-or-pos, mul-one, one-mul, mul_comm, mul-le-mul_right, le_of_mul-le-mul_right, mul-sub}
use native.Mathlib.Omega.{arith}
use mathlib.Core.Bool.{Bool, true, false, ◌&&◌, cond}
use lib.IntN.{ℤ, pos}
use lib.Dec.{T, ltb, ltb→lt, lit≤, lit<}
use lib.Pow.{pow_pos, pow_mono}
use lib.Ieee.{Float, fin, binary64, up, down, size, round, sum, add, sub, neg, le, of_bits, to_bits, fits}
use lib.Ieee.Fits.{down_pos, round-fits, sub-fits}
use lib.Ieee.Digits.{size-le}
use lib.Ieee.Exact.{HasValue}
use lib.Ieee.Nearest.{closest}
use lib.Ieee.Order.{round_mono}
use lib.Ieee.Scale.{grid, round_same, round_val}
use Rattle.doubles.specs.Value.{val}
use Rattle.doubles.specs.F64.{◌⊕◌, ◌⊖◌, ◌⩽◌, ◌⋖◌, +0, 1f, is_finite, nonneg}
use Rattle.doubles.proofs.Total.{le_number_left, le_number_right, ⩽_refl, ⋖_⩽, ⩽_antisymm}
use Rattle.doubles.proofs.Monotone.{add_mono, add_grows, add_nonneg, add_number, sub_number, sub_shrinks, sub_above}
use Rattle.doubles.proofs.Order.{nonneg_number, nonneg_zero, nonneg_sign, nonneg_add, nonneg_of_value, nonneg_round, View, endless, number, view, le→cross, ⋖_nonneg}
use Rattle.doubles.proofs.Unique.{pattern_value, finite_of_value}
use Rattle.doubles.proofs.Nearest.{Near, closest_near, grid_units}
use Rattle.doubles.proofs.Arithmetic.{add_units}

pub one_fits : T (fits binary64 1f)
unfolding fits of_bits
one_fits = tt

-- ---- 1 - t, with t = T units, and t + (1 - t)
one_value : HasValue 1f false (2 ^ 1074) (2 ^ 1074)
unfolding of_bits
one_value = (refl, refl)

pick : (a b c : ℕ) → b ≤ a → sum binary64 false a true b c ≡ round binary64 false (a - b) c
unfolding sum
pick a b c h = go (ltb a b) (ltb→lt a b)
  where
    go : (t : Bool) → (T t → a < b) → cond t (round binary64 true (b - a) c) (round binary64 (false && ltb b a) (a - b) c) ≡ round binary64 false (a - b) c
    go true k = absurd (not-le_of_lt (k tt) h)
    go false k = refl

minus_units : (m : ℕ) (e : ℤ) (U : ℕ) → m * up e * 2 ^ 1074 ≡ U * down e → U ≤ 2 ^ 1074 → 1f ⊖ fin false m e ≡ round binary64 false (2 ^ 1074 - U) (2 ^ 1074)
unfolding sub add neg of_bits
minus_units m e U h l =
    let le : m * up e * 1 ≤ 1 * 1 * down e = le_trans (le_of_eq (mul-one (m * up e))) (le_trans (le_of_mul-le-mul_right (le_trans (le_of_eq h) (le_trans (mul-le-mul_right (down e) l) (le_of_eq (mul_comm (2 ^ 1074) (down e))))) (pow_pos 1074)) (le_of_eq (sym (one-mul (down e))))) in
    pick (1 * 1 * down e) (m * up e * 1) (1 * down e) le
    ∙ round_same binary64 false (1 * 1 * down e - m * up e * 1) (1 * down e) (2 ^ 1074 - U) (2 ^ 1074) (subst (λ (z : ℕ). 0 < z) (sym (one-mul (down e))) (down_pos e)) (pow_pos 1074)
    (cross (down e) (m * up e) (2 ^ 1074) U h)
  where
    cross : (d a X U : ℕ) → a * X ≡ U * d → (1 * 1 * d - a * 1) * X ≡ (X - U) * (1 * d)
    cross d a X U h =
        ap (λ (z : ℕ). (z - a * 1) * X) (one-mul d) ∙ ap (λ (z : ℕ). (d - z) * X) (mul-one a)
        ∙ mul_comm (d - a) X ∙ mul-sub X d a ∙ ap (λ (z : ℕ). X * d - z) (mul_comm X a ∙ h ∙ mul_comm U d) ∙ ap (λ (z : ℕ). z - d * U) (mul_comm X d)
        ∙ sym (mul-sub d X U) ∙ mul_comm d (X - U) ∙ ap (λ (z : ℕ). (X - U) * z) (sym (one-mul d))

-- 1, and two fractions around it that round to it
at_low : round binary64 false (2 ^ 1074 - 2 ^ 1020) (2 ^ 1074) ≡ 1f
unfolding round of_bits
at_low = refl

at_high : round binary64 false (2 ^ 1074 + 2 ^ 1020) (2 ^ 1074) ≡ 1f
unfolding round of_bits
at_high = refl

at_one : round binary64 false (2 ^ 1074) (2 ^ 1074) ≡ 1f
unfolding round of_bits
at_one = refl

squeezed : (y : Float) → T (fits binary64 y) → T (nonneg y) → T (1f ⩽ y) → T (y ⩽ 1f) → y ≡ 1f
unfolding of_bits
squeezed y f p h k = ⩽_antisymm y 1f f one_fits (nonneg_sign y p) k h

-- within 2 ^ 1020 units of 1 everything rounds to 1
pub near_one : (n : ℕ) → 2 ^ 1074 - 2 ^ 1020 ≤ n → n ≤ 2 ^ 1074 + 2 ^ 1020 → round binary64 false n (2 ^ 1074) ≡ 1f
near_one n h k =
    squeezed (round binary64 false n (2 ^ 1074)) (round-fits binary64 false n (2 ^ 1074)) (nonneg_round binary64 n (2 ^ 1074))
    (subst (λ (x : Float). T (x ⩽ round binary64 false n (2 ^ 1074))) at_low (round_mono binary64 (2 ^ 1074 - 2 ^ 1020) (2 ^ 1074) n (2 ^ 1074) (pow_pos 1074) (pow_pos 1074) (mul-le-mul_right (2 ^ 1074) h)))
    (subst (λ (x : Float). T (round binary64 false n (2 ^ 1074) ⩽ x)) at_high (round_mono binary64 n (2 ^ 1074) (2 ^ 1074 + 2 ^ 1020) (2 ^ 1074) (pow_pos 1074) (pow_pos 1074) (mul-le-mul_right (2 ^ 1074) k)))

-- 0 < U ≤ 2 ^ 1074: the rounded 2 ^ 1074 - U units
abbrev gap : ℕ → ℕ
gap U = grid binary64 (2 ^ 1074 - U) (2 ^ 1074)

few : (z : ℕ) → z ≤ 1074 → z - 53 ≤ 1021
few z h = omega arith

less : (X U : ℕ) → 0 < U → U ≤ X → X - U < X
less X U h k = omega arith

gap_near : (U : ℕ) → 0 < U → U ≤ 2 ^ 1074 → Near (gap U) (2 ^ 1074 - U) (2 ^ 1021)
gap_near U p h =
    let n = 2 ^ 1074 - U in
    let k = size n - 53 in
    let e = closest_near n (2 ^ k) (pow_pos k) in
    let l : 2 ^ k ≤ 2 ^ 1021 = pow_mono (few (size n) (size-le n 1074 (less (2 ^ 1074) U p h))) in
    subst (λ (z : ℕ). Near z n (2 ^ 1021)) (sym (grid_units n)) (widen (closest n (2 ^ k) * 2 ^ k) n (2 ^ k) (2 ^ 1021) e l)
  where
    widen : (p n u v : ℕ) → Near p n u → u ≤ v → Near p n v
    widen p n u v e l = (le_trans e.0 (more (2 * n) u v l), le_trans e.1 (more (2 * p) u v l))
      where
        more : (a u v : ℕ) → u ≤ v → a + u ≤ a + v
        more a u v h = omega arith

-- the sum of U and the gap is within 2 ^ 1020 units of 1. The powers are variables, since `omega` takes no numeral that long
sum_near : (X Y W U G : ℕ) → W ≡ 2 * Y → U ≤ X → Near G (X - U) W → (X - Y ≤ U + G) × (U + G ≤ X + Y)
sum_near X Y W U G e h n =
    let a = n.0 in
    let b = n.1 in
    (omega arith, omega arith)

gap_finite : (X W U G : ℕ) → W ≤ X → U ≤ X → Near G (X - U) W → G ≤ 2 * X
gap_finite X W U G l h n = let a = n.0 in omega arith

units_le : (m : ℕ) (e : ℤ) (U : ℕ) → m * up e * 2 ^ 1074 ≡ U * down e → T (fin false m e ⩽ 1f) → U ≤ 2 ^ 1074
unfolding of_bits
units_le m e U h l =
    le_of_mul-le-mul_right (le_trans (le_of_eq (sym h)) (le_trans (mul-le-mul_right (2 ^ 1074) (le_trans (le_of_eq (sym (mul-one (m * up e)))) (le_trans (le→cross m e 1 (pos 0) l) (le_of_eq (one-mul (down e)))))) (le_of_eq (mul_comm (down e) (2 ^ 1074))))) (down_pos e)

module _ (m : ℕ) (e : ℤ) (f : T (fits binary64 (fin false m e))) (l : T (fin false m e ⩽ 1f)) where
  abbrev U : ℕ
  U = val (to_bits binary64 (fin false m e))

  U_is : m * up e * 2 ^ 1074 ≡ U * down e
  U_is = pattern_value (fin false m e) false (m * up e) (down e) f (refl, refl)

  U_le : U ≤ 2 ^ 1074
  U_le = units_le m e U U_is l

  t_value : HasValue (fin false m e) false U (2 ^ 1074)
  t_value = (refl, U_is)

  d_is : 1f ⊖ fin false m e ≡ round binary64 false (2 ^ 1074 - U) (2 ^ 1074)
  d_is = minus_units m e U U_is U_le

  -- the rounded 1 - t, in units
  rest_units : (G : ℕ) × HasValue (1f ⊖ fin false m e) false G (2 ^ 1074) × (2 ^ 1074 - 2 ^ 1020 ≤ U + G) × (U + G ≤ 2 ^ 1074 + 2 ^ 1020)
  rest_units = elim (eq-zero-or-pos U) [
    | inl z ↦ (
      2 ^ 1074,
      subst (λ (x : Float). HasValue x false (2 ^ 1074) (2 ^ 1074)) (sym (d_is ∙ ap (λ (u : ℕ). round binary64 false (2 ^ 1074 - u) (2 ^ 1074)) z ∙ at_one)) one_value,
      subst (λ (u : ℕ). 2 ^ 1074 - 2 ^ 1020 ≤ u + 2 ^ 1074) (sym z) (lit≤ tt),
      subst (λ (u : ℕ). u + 2 ^ 1074 ≤ 2 ^ 1074 + 2 ^ 1020) (sym z) (lit≤ tt),
    )
    | inr p ↦
        let n = gap_near U p U_le in
        let s = sum_near (2 ^ 1074) (2 ^ 1020) (2 ^ 1021) U (gap U) refl U_le n in (
          gap U,
          subst (λ (x : Float). HasValue x false (gap U) (2 ^ 1074)) (sym d_is)
              (round_val binary64 (2 ^ 1074 - U) (2 ^ 1074) (lt_of_le_of_lt (gap_finite (2 ^ 1074) (2 ^ 1021) U (gap U) (lit≤ tt) U_le n) (lit< tt))),
          s.0,
          s.1,
        )
  ]

  sum_one_at : fin false m e ⊕ (1f ⊖ fin false m e) ≡ 1f
  sum_one_at =
      let r = rest_units in
      add_units (fin false m e) (1f ⊖ fin false m e) U r.0 (2 ^ 1074) (pow_pos 1074) t_value r.1 ∙ near_one (U + r.0) r.2 r.3

-- a double from 0 to 1
data Part : Float → Type 0 where
  part : (m : ℕ) (e : ℤ) → T (fits binary64 (fin false m e)) → T (fin false m e ⩽ 1f) → Part (fin false m e)

part_of : (t : Float) → T (fits binary64 t) → T (nonneg t) → T (t ⩽ 1f) → Part t
part_of t f p l = go (view t p) f l
  where
    go : {t : Float} → View t → T (fits binary64 t) → T (t ⩽ 1f) → Part t
    go endless f l = absurd (unfold le of_bits in l)
    go (number m e) f l = part m e f l

part_finite : {t : Float} → Part t → T (is_finite t)
part_finite (part m e f l) = tt

-- the step that takes all the rest ends at 1
pub sum_one : (t : Float) → T (fits binary64 t) → T (nonneg t) → T (t ⩽ 1f) → t ⊕ (1f ⊖ t) ≡ 1f
sum_one t f p l = go (part_of t f p l)
  where
    go : {t : Float} → Part t → t ⊕ (1f ⊖ t) ≡ 1f
    go (part m e f l) = sum_one_at m e f l

-- a step of at most the rounded 1 - t does not pass 1
pub sum_under : (t s : Float) → T (fits binary64 t) → T (nonneg t) → T (t ⩽ 1f) → T (s ⩽ 1f ⊖ t) → T (t ⊕ s ⩽ 1f)
sum_under t s f p l h =
    let n = part_finite (part_of t f p l) in
    subst (λ (x : Float). T (t ⊕ s ⩽ x)) (sum_one t f p l)
    (add_mono t t s (1f ⊖ t) (⩽_refl t (nonneg_number t p)) h (add_number t s n (le_number_left s (1f ⊖ t) h)) (add_number t (1f ⊖ t) n (le_number_right s (1f ⊖ t) h)))

-- a sum is no less than its first term, so time never runs back
pub sum_grows : (t s : Float) → T (fits binary64 t) → T (nonneg t) → T (nonneg s) → T (t ⩽ t ⊕ s)
sum_grows t s f p q = let z = nonneg_zero s q in add_grows t s f z (le_number_right +0 (t ⊕ s) (add_nonneg t s (nonneg_zero t p) z))

-- one step of a running time: what a loop needs
pub sum_step : (t s : Float) → T (fits binary64 t) → T (nonneg t) → T (t ⩽ 1f) → T (nonneg s) → T (s ⩽ 1f ⊖ t) → T (nonneg (t ⊕ s)) × T (t ⊕ s ⩽ 1f)
sum_step t s f p l q h = (nonneg_add t s p q, sum_under t s f p l h)

-- ---- what is left, the rounded 1 - t
-- it fits, is a number with the sign clear, and is at most 1
pub rest_good : (t : Float) → T (fits binary64 t) → T (nonneg t) → T (t ⩽ 1f) → T (fits binary64 (1f ⊖ t)) × T (is_finite (1f ⊖ t)) × T (nonneg (1f ⊖ t)) × T (1f ⊖ t ⩽ 1f)
rest_good t f p l = (sub-fits binary64 1f t, r.0, r.1, sub_shrinks 1f t one_fits (nonneg_zero t p) (nonneg_number (1f ⊖ t) r.1))
  where
    go : {t : Float} → Part t → T (is_finite (1f ⊖ t)) × T (nonneg (1f ⊖ t))
    go (part m e f l) = let r = rest_units m e f l in (finite_of_value (1f ⊖ fin false m e) false r.0 (2 ^ 1074) r.1, nonneg_of_value (1f ⊖ fin false m e) r.0 (2 ^ 1074) r.1)

    r : T (is_finite (1f ⊖ t)) × T (nonneg (1f ⊖ t))
    r = go (part_of t f p l)

-- it is above 0 where t is below 1
pub rest_above : (t : Float) → T (fits binary64 t) → T (t ⋖ 1f) → T (+0 ⋖ 1f ⊖ t)
rest_above t f h = sub_above t 1f f one_fits h (sub_number 1f t (unfold of_bits in tt) (le_number_left t 1f (⋖_⩽ t 1f h)))

-- what passes `s > 0.0` has the sign clear
pub above_zero : (s : Float) → (+0 ⋖ s) ≡ true → T (nonneg s)
unfolding of_bits
above_zero s h = ⋖_nonneg +0 s tt (subst T (sym h) tt)

-- 0 is a double from 0 to 1
pub zero_good : T (fits binary64 +0) × T (nonneg +0) × T (+0 ⩽ 1f)
unfolding of_bits fits le
zero_good = (tt, tt, tt)
