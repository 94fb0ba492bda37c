-- What `sqrt` is: the rounded root lies between the rounded values of all fractions below the exact root and those of all fractions above it.
-- `round` is the rounding of fractions and grows with them, so no other double could stand for the rounded root. Assumes nothing.
use mathlib.Core.Path.{◌≡◌, refl, sym, ap, ◌∙◌, subst}
use mathlib.Core.Logic.{◌⊎◌, inl, inr}
use Prim.Native.Nat.{ℕ, zero, suc, ◌+◌, ◌-◌, ◌*◌, ◌/◌, ◌%◌, ◌^◌, ◌≤◌, ◌<◌, zero-le}
use native.Mathlib.Nat.{le_refl, le_trans, le_of_eq, le_of_lt, lt_of_lt_of_le, lt_of_le_of_lt, lt_of_not-le, not-le_of_lt, lt_irrefl, one-mul, mul_comm, mul_assoc, mul_left_comm, mul_right_comm, mul-mul-mul_comm, mul-pos, mul-le-mul, mul-le-mul_right, mul-lt-mul_of_pos_left, mul-lt-mul_of_pos_right, le_antisymm, div-add-mod', mod-lt, div-eq_of_lt-le, mul-div_cancel, zero-mul, add-mul, zero-lt-suc, le_of_mul-le-mul_right, add-zero}
use native.Mathlib.Omega.{arith}
use mathlib.Core.Bool.{Bool, true, false, cond}
use lib.IntN.{ℤ}
use lib.Dec.{T, eqb, eqb→eq, eqb_refl, lit≤, lit<}
use lib.Pow.{pow_pos, pow_mono}
use lib.Ieee.{Float, fin, binary64, up, down, size, round, units, le, fits, to_bits}
use lib.Ieee.Fits.{round_is, down_pos, up_pos}
use lib.Ieee.Digits.{size-lt, size_reaches}
use lib.Ieee.Nearest.{closest}
use lib.Ieee.Order.{round_mono}
use Rattle.doubles.proofs.Monotone.{round_number}
use Rattle.doubles.proofs.Total.{⩽_refl}
use Rattle.doubles.specs.Value.{val}
use Rattle.lists.proofs.Bounds.{lt_or_le, pow_pred, le_of_lt_next, lt_of_le_of_ne}
use Rattle.doubles.proofs.Unique.{pattern_value}
use Rattle.sqrt.specs.Sqrt.{isqrt, nearest_root, sqrt}
use Rattle.sqrt.proofs.Whole.{isqrt_is}
use Rattle.doubles.proofs.Nearest.{below_half, closest_is}
use Rattle.sqrt.proofs.Squares.{square_lt}
use Rattle.sqrt.proofs.Near.{sticky, nearest_root_is}

-- ---- between two whole numbers s and s + 1 of units, s of 54 digits at least, all fractions round alike
-- the multiple of 2 ^ k that they round to
abbrev mid : ℕ → ℕ → ℕ
mid s k = (s + 2 ^ (k - 1)) / 2 ^ k

module _ (s k : ℕ) (kp : 0 < k) (big : 2 ^ (k - 1) ≤ s) where
  h : ℕ
  h = 2 ^ (k - 1)

  u : ℕ
  u = 2 ^ k

  twice : u ≡ 2 * h
  unfolding h u
  twice = pow_pred k kp

  split : mid s k * u + (s + h) % u ≡ s + h
  unfolding h u
  split = div-add-mod' (s + 2 ^ (k - 1)) (2 ^ k)

  rest : (s + h) % u < u
  unfolding u
  rest = mod-lt (s + h) (pow_pos k)

  mid_pos : 0 < mid s k
  mid_pos = lt_of_not-le (λ (g : mid s k ≤ 0). no (mid s k) u h s ((s + h) % u) g split rest twice big')
    where
      big' : h ≤ s
      big' = unfold h in big

      zero_product : (m u : ℕ) → m ≤ 0 → m * u ≡ 0
      zero_product m u g = ap (λ (z : ℕ). z * u) (le_antisymm g zero-le) ∙ zero-mul u

      clash : (x u h s r : ℕ) → x ≡ 0 → x + r ≡ s + h → r < u → u ≡ 2 * h → h ≤ s → ⊥
      clash x u h s r e f l t b = omega arith

      no : (m u h s r : ℕ) → m ≤ 0 → m * u + r ≡ s + h → r < u → u ≡ 2 * h → h ≤ s → ⊥
      no m u h s r g f l t b = clash (m * u) u h s r (zero_product m u g) f l t b

  -- a / b in the gap
  closest_gap : (a b : ℕ) → 0 < b → s * b < a → a < (s + 1) * b → closest a (b * 2 ^ k) ≡ mid s k
  closest_gap a b B lo hi =
      closest_is a (b * 2 ^ k) (mid s k) (mul-pos B (pow_pos k)) mid_pos
      (lt_of_le_of_lt (le_trans (le_of_eq (order (2 * mid s k - 1) b (2 ^ k))) (le_trans (mul-le-mul_right b below) (le_of_eq (mul_assoc 2 s b)))) (mul-lt-mul_of_pos_left lo (lit< tt)))
      (lt_of_lt_of_le (mul-lt-mul_of_pos_left hi (lit< tt)) (le_trans (le_of_eq (sym (mul_assoc 2 (s + 1) b))) (le_trans (mul-le-mul_right b above) (le_of_eq (sym (order (2 * mid s k + 1) b (2 ^ k)))))))
    where
      order : (x b p : ℕ) → x * (b * p) ≡ x * p * b
      order x b p = simp (mul_assoc, mul_comm, mul_left_comm)

      below : (2 * mid s k - 1) * 2 ^ k ≤ 2 * s
      below = unfold u in go (mid s k * 2 ^ k) ((2 * mid s k - 1) * 2 ^ k) (2 ^ k) h ((s + h) % u) s split twice (below_half (mid s k) (2 ^ k) mid_pos)
        where
          go : (x y p h r s : ℕ) → x + r ≡ s + h → p ≡ 2 * h → y + p ≡ 2 * x → y ≤ 2 * s
          go x y p h r s e t f = omega arith

      above : 2 * (s + 1) ≤ (2 * mid s k + 1) * 2 ^ k
      above = unfold u in go (mid s k * 2 ^ k) ((2 * mid s k + 1) * 2 ^ k) (2 ^ k) h ((s + h) % u) s split twice rest (add-mul (2 * mid s k) 1 (2 ^ k) ∙ ap (λ (z : ℕ). 2 * mid s k * 2 ^ k + z) (one-mul (2 ^ k)) ∙ ap (λ (z : ℕ). z + 2 ^ k) (mul_assoc 2 (mid s k) (2 ^ k)))
        where
          go : (x y p h r s : ℕ) → x + r ≡ s + h → p ≡ 2 * h → r < p → y ≡ 2 * x + p → 2 * (s + 1) ≤ y
          go x y p h r s e t l f = omega arith

-- a / b is p / q in units
round_gap : (s p q : ℕ) → 0 < q → 2 ^ 53 ≤ s → s * q < p * 2 ^ 1074 → p * 2 ^ 1074 < (s + 1) * q → round binary64 false p q ≡ units binary64 false (mid s (size s - 53)) (size s - 53)
round_gap s p q Q big lo hi =
    let k = size s - 53 in
    let z : 53 < size s = lt_of_not-le (λ (g : size s ≤ 53). not-le_of_lt (lt_of_lt_of_le (size-lt s) (pow_mono g)) big) in
    round_is binary64 false p q
    ∙ ap (λ (w : ℕ). units binary64 false (closest (p * 2 ^ 1074) (q * 2 ^ (size w - 53))) (size w - 53)) (div-eq_of_lt-le q (le_of_lt lo) hi)
    ∙ ap (λ (c : ℕ). units binary64 false c k) (closest_gap s k (pos (size s) z) (size_reaches s (k - 1) (less (size s) z)) (p * 2 ^ 1074) q Q lo hi)
  where
    pos : (z : ℕ) → 53 < z → 0 < z - 53
    pos z h = omega arith

    less : (z : ℕ) → 53 < z → z - 53 - 1 < z
    less z h = omega arith

-- ---- the root is a whole number of units, or lies in a gap
pub either : (n : ℕ) → ((isqrt n * isqrt n ≡ n) × (sticky n ≡ 2 * isqrt n)) ⊎ ((isqrt n * isqrt n < n) × (sticky n ≡ 2 * isqrt n + 1))
unfolding sticky
either n = go (eqb (isqrt n * isqrt n) n) (eqb→eq (isqrt n * isqrt n) n) (λ e. subst (λ (z : ℕ). T (eqb (isqrt n * isqrt n) z)) e (eqb_refl (isqrt n * isqrt n)))
  where
    go : (b : Bool) → (T b → isqrt n * isqrt n ≡ n) → (isqrt n * isqrt n ≡ n → T b) → ((isqrt n * isqrt n ≡ n) × (2 * isqrt n + cond b 0 1 ≡ 2 * isqrt n)) ⊎ ((isqrt n * isqrt n < n) × (2 * isqrt n + cond b 0 1 ≡ 2 * isqrt n + 1))
    go true f g = inl (f tt, add-zero (2 * isqrt n))
    go false f g = inr (lt_of_le_of_ne (isqrt n * isqrt n) n (isqrt_is n).0 g, refl)

same_le : (a c b d : ℕ) → round binary64 false a c ≡ round binary64 false b d → T (le (round binary64 false a c) (round binary64 false b d))
same_le a c b d e = subst (λ (x : Float). T (le (round binary64 false a c) x)) e (⩽_refl (round binary64 false a c) (round_number binary64 false a c))

square_le : (a b : ℕ) → a * a ≤ b * b → a ≤ b
square_le a b h = elim (lt_or_le b a) [ inl l ↦ absurd (not-le_of_lt (mul_lt l) h) | inr g ↦ g ]
  where
    mul_lt : b < a → b * b < a * a
    mul_lt l = lt_of_le_of_lt (mul-le-mul (le_refl b) (le_of_lt l)) (mul-lt-mul_of_pos_right l (lt_of_le_of_lt zero-le l))

pub square_scaled : (a q : ℕ) → a * a * (q * q) ≡ a * q * (a * q)
square_scaled a q = mul-mul-mul_comm a a q q

double_over : (p : ℕ) → p * 2 ^ 1075 ≡ 2 * (p * 2 ^ 1074)
double_over p = go p (2 ^ 1074)
  where
    go : (p X : ℕ) → p * (2 * X) ≡ 2 * (p * X)
    go p X = mul_left_comm p 2 X

module _ (n p q : ℕ) (Q : 0 < q) (big : 2 ^ 53 ≤ isqrt n) where
  abbrev s : ℕ
  s = isqrt n

  abbrev P : ℕ
  P = p * 2 ^ 1074

  -- the rounded root itself, when it lies in the gap
  root_gap : sticky n ≡ 2 * s + 1 → round binary64 false (sticky n) (2 ^ 1075) ≡ units binary64 false (mid s (size s - 53)) (size s - 53)
  root_gap e =
      ap (λ (z : ℕ). round binary64 false z (2 ^ 1075)) e
      ∙ round_gap s (2 * s + 1) (2 ^ 1075) (pow_pos 1075) big (gap_low s (2 ^ 1074) (pow_pos 1074)) (gap_high s (2 ^ 1074) (pow_pos 1074))
    where
      less : (X b c : ℕ) → 0 < X → c ≡ b + X → b < c
      less X b c h e = omega arith

      spread : (s X : ℕ) → (2 * s + 1) * X ≡ s * (2 * X) + X
      spread s X = add-mul (2 * s) 1 X ∙ ap (λ (z : ℕ). z + 1 * X) (ap (λ (z : ℕ). z * X) (mul_comm 2 s) ∙ mul_assoc s 2 X) ∙ ap (λ (z : ℕ). s * (2 * X) + z) (one-mul X)

      next : (s X : ℕ) → (s + 1) * (2 * X) ≡ s * (2 * X) + 2 * X
      next s X = add-mul s 1 (2 * X) ∙ ap (λ (z : ℕ). s * (2 * X) + z) (one-mul (2 * X))

      gap_low : (s X : ℕ) → 0 < X → s * (2 * X) < (2 * s + 1) * X
      gap_low s X h = less X (s * (2 * X)) ((2 * s + 1) * X) h (spread s X)

      gap_high : (s X : ℕ) → 0 < X → (2 * s + 1) * X < (s + 1) * (2 * X)
      gap_high s X h = go (s * (2 * X)) ((2 * s + 1) * X) ((s + 1) * (2 * X)) X h (spread s X) (next s X)
        where
          go : (a b c X : ℕ) → 0 < X → b ≡ a + X → c ≡ a + 2 * X → b < c
          go a b c X h e f = omega arith

  twice_le : (a b x y : ℕ) → a ≤ b → x ≡ 2 * a → y ≡ 2 * b → x ≤ y
  twice_le a b x y h e f = omega arith

  -- p / q is at most s units
  mono_low : (t : ℕ) → 2 * s ≤ t → P ≤ s * q → T (le (round binary64 false p q) (round binary64 false t (2 ^ 1075)))
  mono_low t h l = round_mono binary64 p q t (2 ^ 1075) Q (pow_pos 1075) (le_trans (twice_le P (s * q) (p * 2 ^ 1075) (2 * s * q) l (double_over p) (mul_assoc 2 s q)) (mul-le-mul_right q h))

  -- p / q is at least s + 1 units
  mono_high : (t : ℕ) → t ≤ 2 * (s + 1) → (s + 1) * q ≤ P → T (le (round binary64 false t (2 ^ 1075)) (round binary64 false p q))
  mono_high t h l = round_mono binary64 t (2 ^ 1075) p q (pow_pos 1075) Q (le_trans (mul-le-mul_right q h) (twice_le ((s + 1) * q) P (2 * (s + 1) * q) (p * 2 ^ 1075) l (mul_assoc 2 (s + 1) q) (double_over p)))

  pub in_gap : sticky n ≡ 2 * s + 1 → s * q < P → P < (s + 1) * q → round binary64 false p q ≡ round binary64 false (sticky n) (2 ^ 1075)
  in_gap e l h = round_gap s p q Q big l h ∙ sym (root_gap e)

  below_sticky : P * P ≤ n * (q * q) → T (le (round binary64 false p q) (round binary64 false (sticky n) (2 ^ 1075)))
  below_sticky l = elim (either n) [
    | inl e ↦ mono_low (sticky n) (le_of_eq (sym e.1)) (square_le P (s * q) (le_trans l (le_of_eq (ap (λ (z : ℕ). z * (q * q)) (sym e.0) ∙ square_scaled s q))))
    | inr e ↦ elim (lt_or_le (s * q) P) [
      | inl g ↦ same_le p q (sticky n) (2 ^ 1075) (in_gap e.1 g (square_lt P ((s + 1) * q) (lt_of_le_of_lt l (lt_of_lt_of_le (mul-lt-mul_of_pos_right (isqrt_is n).1 (mul-pos Q Q)) (le_of_eq (square_scaled (s + 1) q))))))
      | inr g ↦ mono_low (sticky n) (le_trans (up (2 * s)) (le_of_eq (sym e.1))) g
    ]
  ]
    where
      up : (a : ℕ) → a ≤ a + 1
      up a = omega arith

  above_sticky : n * (q * q) ≤ P * P → T (le (round binary64 false (sticky n) (2 ^ 1075)) (round binary64 false p q))
  above_sticky l = elim (either n) [
    | inl e ↦
        round_mono binary64 (sticky n) (2 ^ 1075) p q (pow_pos 1075) Q
        (le_trans (le_of_eq (ap (λ (z : ℕ). z * q) e.1))
        (twice_le (s * q) P (2 * s * q) (p * 2 ^ 1075) (square_le (s * q) P (le_trans (le_of_eq (sym (square_scaled s q) ∙ ap (λ (z : ℕ). z * (q * q)) e.0)) l)) (mul_assoc 2 s q) (double_over p)))
    | inr e ↦ elim (lt_or_le P ((s + 1) * q)) [
      | inl g ↦ same_le (sticky n) (2 ^ 1075) p q (sym (in_gap e.1 (square_lt (s * q) P (lt_of_le_of_lt (le_of_eq (sym (square_scaled s q))) (lt_of_lt_of_le (mul-lt-mul_of_pos_right e.0 (mul-pos Q Q)) l))) g))
      | inr g ↦ mono_high (sticky n) (le_trans (le_of_eq e.1) (up s)) g
    ]
  ]
    where
      up : (a : ℕ) → 2 * a + 1 ≤ 2 * (a + 1)
      up a = omega arith

  pub below_root : P * P ≤ n * (q * q) → T (le (round binary64 false p q) (nearest_root n))
  below_root l = subst (λ (x : Float). T (le (round binary64 false p q) x)) (sym (nearest_root_is n)) (below_sticky l)

  pub above_root : n * (q * q) ≤ P * P → T (le (nearest_root n) (round binary64 false p q))
  above_root l = subst (λ (x : Float). T (le x (round binary64 false p q))) (sym (nearest_root_is n)) (above_sticky l)

-- ---- of a double x = (m * up e) / (down e) above zero: p / q with (p / q) ^ 2 ≤ x, and with x ≤ (p / q) ^ 2
pub units_is : (m : ℕ) (e : ℤ) → T (fits binary64 (fin false (suc m) e)) → (n : ℕ) × (suc m * up e * 2 ^ 1074 ≡ n * down e) × (sqrt (fin false (suc m) e) ≡ nearest_root (n * 2 ^ 1074)) × (0 < n)
unfolding sqrt
units_is m e f =
    let n = val (to_bits binary64 (fin false (suc m) e)) in
    let p : suc m * up e * 2 ^ 1074 ≡ n * down e = pattern_value (fin false (suc m) e) false (suc m * up e) (down e) f (refl, refl) in (
      n,
      p,
      ap (λ (z : ℕ). nearest_root (z * 2 ^ 1074)) (ap (λ (z : ℕ). z / down e) p ∙ mul-div_cancel n (down_pos e)),
      positive n (suc m * up e * 2 ^ 1074) (down e) p (mul-pos (mul-pos (zero-lt-suc m) (up_pos e)) (pow_pos 1074)),
    )
  where
    positive : (n a d : ℕ) → a ≡ n * d → 0 < a → 0 < n
    positive zero a d e h = absurd (lt_irrefl 0 (subst (λ (z : ℕ). 0 < z) (e ∙ zero-mul d) h))
    positive (suc n) a d e h = zero-lt-suc n

-- a root of 2 ^ 1074 or more has 54 digits at least
pub root_big : (n : ℕ) → 0 < n → 2 ^ 53 ≤ isqrt (n * 2 ^ 1074)
root_big n h =
    le_of_lt_next (2 ^ 53) (isqrt (n * 2 ^ 1074))
    (square_lt (2 ^ 53) (isqrt (n * 2 ^ 1074) + 1) (lt_of_le_of_lt (le_trans (lit≤ tt) (le_trans (le_of_eq (sym (one-mul (2 ^ 1074)))) (mul-le-mul_right (2 ^ 1074) h))) (isqrt_is (n * 2 ^ 1074)).1))

square_product : (p X : ℕ) → p * X * (p * X) ≡ p * p * X * X
square_product p X = simp (mul_assoc, mul_comm, mul_left_comm)

scale_up : (p q a d n X : ℕ) → 0 < d → a * X ≡ n * d → p * p * d ≤ a * (q * q) → p * X * (p * X) ≤ n * X * (q * q)
scale_up p q a d n X D e h =
    le_trans (le_of_eq (square_product p X)) (le_trans (mul-le-mul_right X (le_of_mul-le-mul_right (le_trans (le_of_eq (mul_right_comm (p * p) X d)) (le_trans (mul-le-mul_right X h) (le_of_eq (mul_right_comm a (q * q) X ∙ ap (λ (z : ℕ). z * (q * q)) e ∙ mul_right_comm n d (q * q))))) D)) (le_of_eq (mul_right_comm n (q * q) X)))

scale_down : (p q a d n X : ℕ) → 0 < d → a * X ≡ n * d → a * (q * q) ≤ p * p * d → n * X * (q * q) ≤ p * X * (p * X)
scale_down p q a d n X D e h =
    le_trans (le_of_eq (sym (mul_right_comm n (q * q) X))) (le_trans (mul-le-mul_right X (le_of_mul-le-mul_right (le_trans (le_of_eq (sym (mul_right_comm a (q * q) X ∙ ap (λ (z : ℕ). z * (q * q)) e ∙ mul_right_comm n d (q * q)))) (le_trans (mul-le-mul_right X h) (le_of_eq (sym (mul_right_comm (p * p) X d))))) D)) (le_of_eq (sym (square_product p X))))

pub sqrt_above : (m : ℕ) (e : ℤ) → T (fits binary64 (fin false (suc m) e)) → (p q : ℕ) → 0 < q → p * p * down e ≤ suc m * up e * (q * q) → T (le (round binary64 false p q) (sqrt (fin false (suc m) e)))
sqrt_above m e f p q Q h =
    let u = units_is m e f in
    subst (λ (x : Float). T (le (round binary64 false p q) x)) (sym u.2) (below_root (u.0 * 2 ^ 1074) p q Q (root_big u.0 u.3) (scale_up p q (suc m * up e) (down e) u.0 (2 ^ 1074) (down_pos e) u.1 h))

pub sqrt_below : (m : ℕ) (e : ℤ) → T (fits binary64 (fin false (suc m) e)) → (p q : ℕ) → 0 < q → suc m * up e * (q * q) ≤ p * p * down e → T (le (sqrt (fin false (suc m) e)) (round binary64 false p q))
sqrt_below m e f p q Q h =
    let u = units_is m e f in
    subst (λ (x : Float). T (le x (round binary64 false p q))) (sym u.2) (above_root (u.0 * 2 ^ 1074) p q Q (root_big u.0 u.3) (scale_down p q (suc m * up e) (down e) u.0 (2 ^ 1074) (down_pos e) u.1 h))
