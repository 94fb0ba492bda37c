-- The norm of a start that is not all zeros is not 0: its largest value, scaled, is at least 2 ^ -52. Its values are doubles. Assumes nothing.
use Rattle.std.specs.Prelude.{if◌then◌else◌, Some, None}
use mathlib.Core.Path.{◌≡◌, refl, sym, ap, ◌∙◌, subst}
use mathlib.Core.Logic.{◌⊎◌, inl, inr}
use mathlib.Core.Bool.{Bool, true, false, not, ◌||◌, true≢false}
use mathlib.Core.List.{List, map}
use Prim.Native.Nat.{ℕ, zero, suc, ◌+◌, ◌-◌, ◌*◌, ◌/◌, ◌%◌, ◌^◌, ◌≤◌, ◌<◌}
use native.Mathlib.Nat.{le_of_suc-le-suc, eq-or-lt_of_le, zero-mul, one-mul, mul-one, mul-pos, mul-le-mul_right, eq-zero-or-pos, lt_irrefl}
use native.Mathlib.Omega.{arith}
use lib.Dec.{T, ltb}
use lib.IntN.{ℤ, pos, negsuc, neg_ℤ, ◌+ℤ◌, ◌-ℤ◌}
use lib.Signed.{mag}
use lib.Pow.{pow_pos, pow-add, pow_mono}
use borrow.Author.Tests.{ltb-true, lt-ltb, le-ltb}
use lib.ListN.{length, get_or, get_or-map}
use lib.Ieee.{Float, nan, inf, fin, binary64, fits, is_nan, up, down, size, neg, to_bits, mul, round, add, le, lt, eq, of_bits}
use lib.Ieee.Fits.{add-fits, up_pos, down_pos}
use lib.Ieee.Order.{le_of_values}
use lib.Ieee.Digits.{size-lt, size_reaches}
use Rattle.lists.specs.Loop.{iter}
use Rattle.lists.proofs.Bounds.{lt_or_le}
use Rattle.doubles.specs.F64.{◌⊕◌, ◌⊗◌, ◌⩽◌, ◌⋖◌, +0, at, abs, is_finite, nonneg, replaced, max_num, open_f64}
use Rattle.doubles.specs.Sum.{sum}
use Rattle.doubles.specs.Value.{val}
use Rattle.doubles.proofs.Unique.{pattern_value}
use Rattle.doubles.proofs.Monotone.{add_mono, mul_mono, mul_number, round_not}
use Rattle.doubles.proofs.Order.{nonneg_number, nonneg_zero, nonneg_round, nonneg_add, le→cross, cross→le}
use Rattle.doubles.proofs.Sizes.{abs_is, sum_nonneg}
use Rattle.doubles.proofs.Total.{⩽_refl, ⩽_trans}
use Rattle.sqrt.specs.Sqrt.{sqrt}
use Rattle.sqrt.proofs.Sandwich.{sqrt_above}
use Rattle.doubles.proofs.Signs.{nan_mul}
use Rattle.doubles.proofs.Compare.{zero_equal}
use Rattle.doubles.proofs.Magnitude.{abs_fits}
use Rattle.pow2.specs.Pow2.{sup, clamp, exponent, scale_of, pow2_scale}
use Rattle.pow2.specs.declared.Scale.{Scale}
use Rattle.pow2.proofs.Leading.{exponent_mag}
use Rattle.pow2.proofs.Rounded.{pow2_product, pow2_exact}
use Rattle.vectors.specs.Vectors.{scale}
use Rattle.dot.specs.Dot.{lane, lanes, tail, dot}
use Rattle.vectors.proofs.Laws.{length_scale}
use Rattle.gram_schmidt.specs.Basis.{norm2}
use Rattle.demand_3.proofs.Krylov.{Finite}

-- ---- the largest size is that of a value
max_one : (x v : Float) → (max_num x v ≡ x) ⊎ (max_num x v ≡ v)
unfolding max_num replaced
max_one nan v = inr refl
max_one (inf s) v = go (inf s ⋖ v)
  where
    go : (b : Bool) → ((if b then v else inf s) ≡ inf s) ⊎ ((if b then v else inf s) ≡ v)
    go true = inr refl
    go false = inl refl
max_one (fin s m e) v = go (fin s m e ⋖ v)
  where
    go : (b : Bool) → ((if b then v else fin s m e) ≡ fin s m e) ⊎ ((if b then v else fin s m e) ≡ v)
    go true = inr refl
    go false = inl refl

attained : (x : List Float) → (sup x ≡ +0) ⊎ ((i : ℕ) × ((i < length x) × (sup x ≡ abs (at x i))))
unfolding sup iter
attained x = go (length x)
  where
    go : (n : ℕ) → (iter (λ i m. max_num m (abs (at x i))) n +0 ≡ +0) ⊎ ((i : ℕ) × ((i < n) × (iter (λ i m. max_num m (abs (at x i))) n +0 ≡ abs (at x i))))
    go zero = inl refl
    go (suc n) = elim (max_one (iter (λ i m. max_num m (abs (at x i))) n +0) (abs (at x n))) [
      | inl e ↦ elim (go n) [
        | inl z ↦ inl (e ∙ z)
        | inr h ↦ inr (h.0, (omega (arith, h.1.0), e ∙ h.1.1))
      ]
      | inr e ↦ inr (n, (omega arith, e))
    ]

-- ---- 2 ^ -104, and sums of values that are not negative, one of which is at least that
abbrev least : Float
least = fin false 1 (negsuc 103)

least_zero : (least ⊕ +0 ≡ least) × (+0 ⊕ least ≡ least) × T (+0 ⋖ least)
unfolding add lt of_bits
least_zero = (refl, refl, tt)

module _ (x y : Float) (p : T (nonneg x)) (q : T (nonneg y)) where
  sums_number : T (not (is_nan (x ⊕ y)))
  sums_number = nonneg_number (x ⊕ y) (nonneg_add x y p q)

  by_first : T (least ⩽ x) → T (least ⩽ x ⊕ y)
  unfolding is_nan
  by_first h = subst (λ (z : Float). T (z ⩽ x ⊕ y)) least_zero.0 (add_mono least x +0 y h (nonneg_zero y q) (subst (λ (z : Float). T (not (is_nan z))) (sym least_zero.0) tt) sums_number)

  by_second : T (least ⩽ y) → T (least ⩽ x ⊕ y)
  unfolding is_nan
  by_second h = subst (λ (z : Float). T (z ⩽ x ⊕ y)) least_zero.1 (add_mono +0 x least y (nonneg_zero x p) h (subst (λ (z : Float). T (not (is_nan z))) (sym least_zero.1) tt) sums_number)

sum_least : (n : ℕ) (f : ℕ → Float) → ((k : ℕ) → k < n → T (nonneg (f k))) → (i : ℕ) → i < n → T (least ⩽ f i) → T (least ⩽ sum n f)
unfolding sum iter
sum_least zero f p i l h = absurd (omega (arith, l))
sum_least (suc n) f p i l h =
    let s = sum_nonneg n f (λ k m. p k (omega (arith, m))) in
    elim (eq-or-lt_of_le (le_of_suc-le-suc l)) [
      | inl e ↦ by_second (sum n f) (f n) s (p n (omega arith)) (subst (λ (k : ℕ). T (least ⩽ f k)) e h)
      | inr m ↦ by_first (sum n f) (f n) s (p n (omega arith)) (sum_least n f (λ k r. p k (omega (arith, r))) i m h)
    ]

-- ---- the inner product of a field with itself
module _ (x : List Float) (p : (k : ℕ) → k < length x → T (nonneg (at x k ⊗ at x k))) (i : ℕ) (l : i < length x) (h : T (least ⩽ at x i ⊗ at x i)) where
  abbrev m : ℕ
  m = length x / 4

  lane_nonneg : (r : ℕ) → r < 4 → T (nonneg (lane r x x m))
  unfolding lane
  lane_nonneg r b = sum_nonneg m _ (λ j c. p (4 * j + r) (omega (arith, b, c)))

  tail_nonneg : T (nonneg (tail (4 * m) x x (length x % 4)))
  unfolding tail
  tail_nonneg = sum_nonneg (length x % 4) _ (λ j c. p (4 * m + j) (omega (arith, c)))

  in_lane : (r : ℕ) → r < 4 → i < 4 * m → i % 4 ≡ r → T (least ⩽ lane r x x m)
  unfolding lane
  in_lane r b c e = sum_least m _ (λ j d. p (4 * j + r) (omega (arith, b, d))) (i / 4) (omega (arith, c)) (subst (λ (k : ℕ). T (least ⩽ at x k ⊗ at x k)) (place i r e) h)
    where
      place : (i r : ℕ) → i % 4 ≡ r → i ≡ 4 * (i / 4) + r
      place i r e = omega (arith, e)

  in_tail : 4 * m ≤ i → T (least ⩽ tail (4 * m) x x (length x % 4))
  unfolding tail
  in_tail c = sum_least (length x % 4) _ (λ j d. p (4 * m + j) (omega (arith, d))) (i - 4 * m) (omega (arith, c, l)) (subst (λ (k : ℕ). T (least ⩽ at x k ⊗ at x k)) (place i (4 * m) c) h)
    where
      place : (i a : ℕ) → a ≤ i → i ≡ a + (i - a)
      place i a c = omega (arith, c)

  dot_least : T (least ⩽ dot x x)
  unfolding dot lanes
  dot_least =
      let a0 = lane_nonneg 0 (omega arith) in
      let a1 = lane_nonneg 1 (omega arith) in
      let a2 = lane_nonneg 2 (omega arith) in
      let a3 = lane_nonneg 3 (omega arith) in
      let s = nonneg_add (lane 0 x x m) (lane 1 x x m) a0 a1 in
      let t = nonneg_add (lane 2 x x m) (lane 3 x x m) a2 a3 in
      let u = nonneg_add (lane 0 x x m ⊕ lane 1 x x m) (lane 2 x x m ⊕ lane 3 x x m) s t in
      elim (lt_or_le i (4 * m)) [
        | inr c ↦ by_second (lane 0 x x m ⊕ lane 1 x x m ⊕ (lane 2 x x m ⊕ lane 3 x x m)) (tail (4 * m) x x (length x % 4)) u tail_nonneg (in_tail c)
        | inl c ↦ by_first (lane 0 x x m ⊕ lane 1 x x m ⊕ (lane 2 x x m ⊕ lane 3 x x m)) (tail (4 * m) x x (length x % 4)) u tail_nonneg (joined (i % 4) refl c a0 a1 a2 a3 s t)
      ]
    where
      joined : (r : ℕ) → i % 4 ≡ r → i < 4 * m → T (nonneg (lane 0 x x m)) → T (nonneg (lane 1 x x m)) → T (nonneg (lane 2 x x m)) → T (nonneg (lane 3 x x m))
          → T (nonneg (lane 0 x x m ⊕ lane 1 x x m))
          → T (nonneg (lane 2 x x m ⊕ lane 3 x x m))
          → T (least ⩽ lane 0 x x m ⊕ lane 1 x x m ⊕ (lane 2 x x m ⊕ lane 3 x x m))
      joined zero e c a0 a1 a2 a3 s t = by_first (lane 0 x x m ⊕ lane 1 x x m) (lane 2 x x m ⊕ lane 3 x x m) s t (by_first (lane 0 x x m) (lane 1 x x m) a0 a1 (in_lane 0 (omega arith) c e))
      joined (suc zero) e c a0 a1 a2 a3 s t = by_first (lane 0 x x m ⊕ lane 1 x x m) (lane 2 x x m ⊕ lane 3 x x m) s t (by_second (lane 0 x x m) (lane 1 x x m) a0 a1 (in_lane 1 (omega arith) c e))
      joined (suc (suc zero)) e c a0 a1 a2 a3 s t = by_second (lane 0 x x m ⊕ lane 1 x x m) (lane 2 x x m ⊕ lane 3 x x m) s t (by_first (lane 2 x x m) (lane 3 x x m) a2 a3 (in_lane 2 (omega arith) c e))
      joined (suc (suc (suc zero))) e c a0 a1 a2 a3 s t = by_second (lane 0 x x m ⊕ lane 1 x x m) (lane 2 x x m ⊕ lane 3 x x m) s t (by_second (lane 2 x x m) (lane 3 x x m) a2 a3 (in_lane 3 (omega arith) c e))
      joined (suc (suc (suc (suc r)))) e c a0 a1 a2 a3 s t = absurd (omega (arith, e))

  dot_fits : T (fits binary64 (dot x x))
  unfolding dot
  dot_fits = add-fits binary64 _ _

dot_clear : (x : List Float) → ((k : ℕ) → k < length x → T (nonneg (at x k ⊗ at x k))) → T (nonneg (dot x x))
unfolding dot lanes lane tail
dot_clear x p =
    let m = length x / 4 in
    let of_lane : (r : ℕ) → r < 4 → T (nonneg (lane r x x m)) = λ r b. sum_nonneg m _ (λ j c. p (4 * j + r) (omega (arith, b, c))) in
    nonneg_add (lane 0 x x m ⊕ lane 1 x x m ⊕ (lane 2 x x m ⊕ lane 3 x x m)) _
    (nonneg_add (lane 0 x x m ⊕ lane 1 x x m) (lane 2 x x m ⊕ lane 3 x x m) (nonneg_add (lane 0 x x m) (lane 1 x x m) (of_lane 0 (omega arith)) (of_lane 1 (omega arith))) (nonneg_add (lane 2 x x m) (lane 3 x x m) (of_lane 2 (omega arith)) (of_lane 3 (omega arith))))
    (sum_nonneg (length x % 4) _ (λ j c. p (4 * m + j) (omega (arith, c))))

-- ---- its root
-- 2 ^ -52
abbrev half_least : Float
half_least = round binary64 false 1 (2 ^ 52)

above_0 : T (half_least ⩽ +0) → ⊥
unfolding open_f64
above_0 h = h

not_zero : (z : Float) → T (half_least ⩽ z) → eq z +0 ≡ false
not_zero z h = go (eq z +0) refl
  where
    go : (b : Bool) → eq z +0 ≡ b → b ≡ false
    go false e = refl
    go true e = absurd (above_0 (⩽_trans half_least z +0 h (equal z e)))
      where
        either : (a b : Bool) → b ≡ true → T (a || b)
        either true b q = tt
        either false b q = subst T (sym q) tt

        equal : (z : Float) → eq z +0 ≡ true → T (z ⩽ +0)
        equal z e = unfold le in either (lt z +0) (eq z +0) e

root_not_zero : (d : Float) → T (fits binary64 d) → T (nonneg d) → T (least ⩽ d) → eq (sqrt d) +0 ≡ false
root_not_zero nan f p h = absurd p
root_not_zero (inf true) f p h = absurd p
root_not_zero (inf false) f p h = unfold sqrt eq of_bits in refl
root_not_zero (fin true m e) f p h = absurd p
root_not_zero (fin false zero e) f p h = let c = le→cross 1 (negsuc 103) zero e h in let d = down_pos e in absurd (omega (arith, zero-mul (up e), c, d))
root_not_zero (fin false (suc m) e) f p h = not_zero (sqrt (fin false (suc m) e)) (sqrt_above m e f 1 (2 ^ 52) (omega arith) (le→cross 1 (negsuc 103) (suc m) e h))

-- ---- a value is at least its leading digit
power_value : (k : ℕ) → 0 < k → 1 * up (pos k -ℤ pos 1075) * 2 ^ 1074 ≡ 2 ^ (k - 1) * down (pos k -ℤ pos 1075)
power_value k some = elim (lt_or_le k 1075) [
  | inl l ↦ (let e : 1074 ≡ k - 1 + suc (1075 - suc k) = omega (arith, some, l) in rw (lt-ltb k 1075 l) (ap (λ (n : ℕ). 2 ^ n) e ∙ pow-add 2 (k - 1) (suc (1075 - suc k))))
  | inr l ↦ (let e : k - 1075 + 1074 ≡ k - 1 = omega (arith, some, l) in rw (le-ltb k 1075 l, one-mul, mul-one) (sym (pow-add 2 (k - 1075) 1074) ∙ ap (λ (n : ℕ). 2 ^ n) e))
]

-- ---- the power by the factor of its exponent, moved to where both factors are doubles
abbrev small : Float
small = fin false 1 (negsuc 51)

small_under : (g : ℤ) → mag g ≤ 51 → T (small ⩽ fin false 1 g)
small_under (pos n) h = cross→le 1 (negsuc 51) 1 (pos n) (let p = pow_pos n in omega (arith, p))
small_under (negsuc n) h = cross→le 1 (negsuc 51) 1 (negsuc n) (let p = pow_mono {i = suc n} {j = 52} (omega (arith, h)) in omega (arith, p))

abbrev moved_to : ℤ → ℤ
moved_to e = e +ℤ neg_ℤ (clamp e (negsuc 1022) (pos 1023))

near : (e : ℤ) → mag e ≤ 1074 → mag (moved_to e) ≤ 51
unfolding clamp
near (pos zero) h = omega arith
near (pos (suc a)) h = go (ltb 1023 (suc a)) refl
  where
    go : (b : Bool) → ltb 1023 (suc a) ≡ b → mag (pos (suc a) +ℤ neg_ℤ (if b then pos 1023 else pos (suc a))) ≤ 51
    go true q = let l = ltb-true 1023 (suc a) q in rw (le-ltb (suc a) 1023 (omega (arith, l))) (omega (arith, h))
    go false q = rw (le-ltb (suc a) (suc a) (omega arith)) (omega arith)
near (negsuc a) h = go (ltb 1022 a) refl
  where
    go : (b : Bool) → ltb 1022 a ≡ b → mag (negsuc a +ℤ neg_ℤ (if b then negsuc 1022 else negsuc a)) ≤ 51
    go true q = let l = ltb-true 1022 a q in rw (lt-ltb 1023 (suc a) (omega (arith, l))) (omega (arith, h))
    go false q = rw (le-ltb (suc a) (suc a) (omega arith)) (omega arith)

power_times : (e : ℤ) → mag e ≤ 1074 → T (small ⩽ fin false 1 e ⊗ fin false 1 (neg_ℤ (clamp e (negsuc 1022) (pos 1023))))
power_times e h =
    let n = near e h in
    subst (λ (x : Float). T (small ⩽ x)) (sym (pow2_product e (neg_ℤ (clamp e (negsuc 1022) (pos 1023))) ∙ pow2_exact (moved_to e) (omega (arith, n)))) (small_under (moved_to e) n)

leading : (m : ℕ) (e : ℤ) → T (fits binary64 (fin false (suc m) e)) → T (fin false 1 (exponent (fin false (suc m) e)) ⩽ fin false (suc m) e)
unfolding exponent
leading m e f =
    let x = fin false (suc m) e in
    let v = val (to_bits binary64 x) in
    let is : suc m * up e * 2 ^ 1074 ≡ v * down e = pattern_value x false (suc m * up e) (down e) f (refl, refl) in
    let some : 0 < v = positive v (suc m * up e * 2 ^ 1074) (down e) is (mul-pos (mul-pos (omega arith) (up_pos e)) (pow_pos 1074)) in
    let digits : 0 < size v = sized v some in
    le_of_values (fin false 1 (pos (size v) -ℤ pos 1075)) x (2 ^ (size v - 1)) (2 ^ 1074) v (2 ^ 1074) (pow_pos 1074) (pow_pos 1074) (refl, power_value (size v) digits) (refl, is)
    (mul-le-mul_right (2 ^ 1074) (size_reaches v (size v - 1) (omega (arith, digits))))
  where
    positive : (v a d : ℕ) → a ≡ v * d → 0 < a → 0 < v
    positive zero a d e l = absurd (lt_irrefl 0 (subst (λ (z : ℕ). 0 < z) (e ∙ zero-mul d) l))
    positive (suc v) a d e l = omega arith

    sized : (v : ℕ) → 0 < v → 0 < size v
    sized v l = elim (eq-zero-or-pos (size v)) [
      | inl z ↦ absurd (let g = subst (λ (k : ℕ). v < 2 ^ k) z (size-lt v) in omega (arith, g, l))
      | inr g ↦ g
    ]

-- ---- signs
abs_opposite : (x : Float) → abs (neg x) ≡ abs x
unfolding neg
abs_opposite nan = refl
abs_opposite (inf s) = refl
abs_opposite (fin s m e) = refl

abs_round : (s : Bool) (a c : ℕ) → abs (round binary64 s a c) ≡ round binary64 false a c
abs_round false a c = abs_is (round binary64 false a c) (nonneg_round binary64 a c)
abs_round true a c = ap abs (round_not binary64 false a c) ∙ abs_opposite (round binary64 false a c) ∙ abs_is (round binary64 false a c) (nonneg_round binary64 a c)

-- a square is that of the size, and not negative
abs_square : (w : Float) → w ⊗ w ≡ abs w ⊗ abs w
unfolding mul
abs_square nan = refl
abs_square (inf true) = refl
abs_square (inf false) = refl
abs_square (fin true m e) = refl
abs_square (fin false m e) = refl

square_clear : (w : Float) → T (not (is_nan w)) → T (nonneg (w ⊗ w))
unfolding mul is_nan
square_clear nan h = absurd h
square_clear (inf true) h = tt
square_clear (inf false) h = tt
square_clear (fin true m e) h = nonneg_round binary64 (m * up e * (m * up e)) (down e * down e)
square_clear (fin false m e) h = nonneg_round binary64 (m * up e * (m * up e)) (down e * down e)

-- ---- the square of the largest value, scaled
abs_times : (s : Bool) (m : ℕ) (e d : ℤ) → abs (fin s m e ⊗ fin false 1 d) ≡ fin false m e ⊗ fin false 1 d
unfolding mul
abs_times true m e d = abs_round true (m * up e * (1 * up d)) (down e * down d)
abs_times false m e d = abs_round false (m * up e * (1 * up d)) (down e * down d)

small_square : (small ⊗ small ≡ least) × T (+0 ⩽ small) × T (not (is_nan (small ⊗ small)))
unfolding open_f64 is_nan
small_square = (refl, tt, tt)

largest_square : (s : Bool) (m : ℕ) (e : ℤ) → T (fits binary64 (fin false (suc m) e)) → mag (exponent (fin false (suc m) e)) ≤ 1074
    → let d = neg_ℤ (clamp (exponent (fin false (suc m) e)) (negsuc 1022) (pos 1023)) in T (least ⩽ (fin s (suc m) e ⊗ fin false 1 d) ⊗ (fin s (suc m) e ⊗ fin false 1 d))
largest_square s m e f h =
    let x = fin false (suc m) e in
    let E = exponent x in
    let d = neg_ℤ (clamp E (negsuc 1022) (pos 1023)) in
    let r = x ⊗ fin false 1 d in
    let grown : T (fin false 1 E ⊗ fin false 1 d ⩽ r) =
    mul_mono (fin false 1 E) x (fin false 1 d) (fin false 1 d) (nonneg_zero (fin false 1 E) tt) (nonneg_zero (fin false 1 d) tt) (leading m e f) (⩽_refl (fin false 1 d) (unfold is_nan in tt)) (mul_number (fin false 1 E) (fin false 1 d) tt tt) (mul_number x (fin false 1 d) tt tt) in
    let big : T (small ⩽ r) = ⩽_trans small (fin false 1 E ⊗ fin false 1 d) r (power_times E h) grown in
    let n : T (not (is_nan (r ⊗ r))) = nonneg_number (r ⊗ r) (square_clear r (mul_number x (fin false 1 d) tt tt)) in
    let k : T (small ⊗ small ⩽ r ⊗ r) = mul_mono small r small r small_square.1 small_square.1 big big small_square.2 n in
    subst (λ (z : Float). T (least ⩽ z)) (sym (abs_square (fin s (suc m) e ⊗ fin false 1 d) ∙ (λ i. abs_times s (suc m) e d i ⊗ abs_times s (suc m) e d i))) (subst (λ (z : Float). T (z ⩽ r ⊗ r)) small_square.0 k)

-- ---- the norm
scaled_at : (d : ℤ) (y : List Float) (k : ℕ) → at (scale (fin false 1 d) y) k ≡ at y k ⊗ fin false 1 d
unfolding scale
scaled_at d y k = ap (λ (z : Float). get_or (map (λ e. e ⊗ fin false 1 d) y) k z) (sym (nan_mul (fin false 1 d))) ∙ get_or-map (λ e. e ⊗ fin false 1 d) y k nan

zero_is : eq +0 +0 ≡ true
unfolding eq of_bits
zero_is = refl

factors_are : (y : List Float) (f : Scale) → pow2_scale y ≡ Some f → (eq (sup y) +0 ≡ false) × (scale_of (clamp (exponent (sup y)) (negsuc 1022) (pos 1023)) ≡ f)
unfolding pow2_scale
factors_are y f e = go (eq (sup y) +0) _ e
  where
    go : (b : Bool) (s : Scale) → (if b then None else Some s) ≡ Some f → (b ≡ false) × (s ≡ f)
    go true s e = let z : zero ≡ 1 = cc in absurd (omega (arith, z))
    go false s e = (refl, same e)
      where
        same : {s t : Scale} → Some s ≡ Some t → s ≡ t
        same e = cc

pub first_norm_left : (y : List Float) (f : Scale) → ((i : ℕ) → i < length y → T (fits binary64 (at y i))) → Finite y → pow2_scale y ≡ Some f → eq (norm2 (scale f.down y)) +0 ≡ false
unfolding norm2
first_norm_left y f doubles finite e =
    let a = factors_are y f e in
    subst (λ (g : Scale). eq (sqrt (dot (scale g.down y) (scale g.down y))) +0 ≡ false) a.1
    (elim (attained y) [
      | inl z ↦ absurd (true≢false (sym zero_is ∙ ap (λ (x : Float). eq x +0) (sym z) ∙ a.0))
      | inr h ↦ large h.0 h.1.0 h.1.1 a.0
    ])
  where
    large : (i : ℕ) → i < length y → sup y ≡ abs (at y i) → eq (sup y) +0 ≡ false
        → let x = scale (fin false 1 (neg_ℤ (clamp (exponent (sup y)) (negsuc 1022) (pos 1023)))) y in eq (sqrt (dot x x)) +0 ≡ false
    large i l s n = go (at y i) refl (finite i l) (doubles i l)
      where
        d : ℤ
        d = neg_ℤ (clamp (exponent (sup y)) (negsuc 1022) (pos 1023))

        x : List Float
        x = scale (fin false 1 d) y

        long : length x ≡ length y
        long = length_scale (fin false 1 d) y

        clear : (k : ℕ) → k < length x → T (nonneg (at x k ⊗ at x k))
        clear k b = square_clear (at x k) (subst (λ (z : Float). T (not (is_nan z))) (sym (scaled_at d y k)) (mul_number (at y k) (fin false 1 d) (subst T (sym (finite k (subst (λ (n : ℕ). k < n) long b))) tt) tt))

        rooted : T (least ⩽ at x i ⊗ at x i) → eq (sqrt (dot x x)) +0 ≡ false
        rooted h =
            let m = subst (λ (n : ℕ). i < n) (sym long) l in
            root_not_zero (dot x x) (dot_fits x clear i m h) (dot_clear x clear) (dot_least x clear i m h)

        go : (z : Float) → at y i ≡ z → is_finite z ≡ true → T (fits binary64 z) → eq (sqrt (dot x x)) +0 ≡ false
        go nan q g t = absurd (true≢false (sym g))
        go (inf b) q g t = absurd (true≢false (sym g))
        go (fin b zero e) q g t = absurd (true≢false (sym (zero_equal false e) ∙ ap (λ (z : Float). eq (abs z) +0) (sym q) ∙ ap (λ (z : Float). eq z +0) (sym s) ∙ n))
        go (fin b (suc m) e) q g t =
            let u = abs_fits (fin b (suc m) e) t in
            let c = largest_square b m e u (exponent_mag (fin false (suc m) e) u (record { same = refl; number = unfold is_nan in tt })) in
            let z : fin false (suc m) e ≡ sup y = ap abs (sym q) ∙ sym s in
            rooted (subst (λ (w : Float). T (least ⩽ w ⊗ w)) (sym (scaled_at d y i ∙ ap (λ (w : Float). w ⊗ fin false 1 d) q))
            (subst (λ (w : Float). T (least ⩽ (fin b (suc m) e ⊗ fin false 1 (neg_ℤ (clamp (exponent w) (negsuc 1022) (pos 1023)))) ⊗ (fin b (suc m) e ⊗ fin false 1 (neg_ℤ (clamp (exponent w) (negsuc 1022) (pos 1023)))))) z c))
