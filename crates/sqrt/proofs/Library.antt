-- The library's square root is `sqrt`: it takes the root to more places, which gives the same double. Assumes nothing.
use mathlib.Core.Path.{◌≡◌, refl, sym, ap, ◌∙◌, subst}
use mathlib.Core.Logic.{inl, inr}
use mathlib.Core.Bool.{Bool, true, false, cond}
use Prim.Native.Nat.{ℕ, zero, suc, ◌+◌, ◌*◌, ◌/◌, ◌^◌, ◌≤◌, ◌<◌}
use native.Mathlib.Nat.{le_antisymm, le_of_eq, lt_of_lt_of_le, lt_of_le_of_lt, mul_assoc, mul-one, zero-mul, mul_comm, mul_left_comm, mul-pos, mul-lt-mul_of_pos_right, mul-div_cancel, add-zero}
use native.Mathlib.Omega.{arith}
use lib.IntN.{ℤ, pos}
use lib.Dec.{T, eqb}
use lib.Pow.{pow_pos}
use lib.Ieee.{Float, nan, inf, fin, binary64, up, down, round, root_twice, fits}
use lib.Ieee as library
use lib.Ieee.Bits.{is_true}
use lib.Ieee.Fits.{down_pos, eq→eqb}
use lib.Ieee.Root.{whole_part}
use lib.Ieee.Scale.{round_same}
use Rattle.lists.proofs.Bounds.{le_of_lt_next}
use Rattle.doubles.proofs.Unique.{value_unique}
use Rattle.sqrt.specs.Sqrt.{isqrt, nearest_root, sqrt}
use Rattle.sqrt.proofs.Squares.{square_lt}
use Rattle.sqrt.proofs.Whole.{isqrt_is}
use Rattle.sqrt.proofs.Near.{sticky, sticky_low, sticky_high, nearest_root_is}
use Rattle.sqrt.proofs.Sandwich.{either, square_scaled, in_gap, units_is, root_big}

whole_root : (r n : ℕ) → r * r ≤ n → n < (r + 1) * (r + 1) → r ≡ isqrt n
whole_root r n lo hi =
    le_antisymm
    (le_of_lt_next r (isqrt n) (square_lt r (isqrt n + 1) (lt_of_le_of_lt lo (isqrt_is n).1)))
    (le_of_lt_next (isqrt n) r (square_lt (isqrt n) (r + 1) (lt_of_le_of_lt (isqrt_is n).0 hi)))

twice_is : (n : ℕ) → root_twice n ≡ sticky n
unfolding root_twice sticky
twice_is n = ap (λ (r : ℕ). 2 * r + cond (eqb (r * r) n) 0 1) (whole_root _ n (whole_part n).0 (whole_part n).1)

-- ---- the root of n times the square of X
exact : (n X : ℕ) → isqrt n * isqrt n ≡ n → sticky (n * (X * X)) ≡ 2 * (isqrt n * X)
unfolding sticky
exact n X e =
    let r = isqrt n * X in
    let N = n * (X * X) in
    let same : r * r ≡ N = sym (square_scaled (isqrt n) X) ∙ ap (λ (z : ℕ). z * (X * X)) e in
    ap (λ (z : ℕ). 2 * z + cond (eqb (z * z) N) 0 1) (sym (whole_root r N (le_of_eq same) (lt_of_le_of_lt (le_of_eq (sym same)) (grows r))))
    ∙ ap (λ b. 2 * r + cond b 0 1) (is_true (eqb (r * r) N) (eq→eqb same))
    ∙ add-zero (2 * r)
  where
    grows : (r : ℕ) → r * r < (r + 1) * (r + 1)
    grows r = omega arith

module _ (n X : ℕ) (h : 0 < X) where
  low : isqrt n * isqrt n < n → 2 * (isqrt n * X) < sticky (n * (X * X))
  low l = sticky_low (n * (X * X)) (isqrt n * X) (lt_of_le_of_lt (le_of_eq (sym (square_scaled (isqrt n) X))) (mul-lt-mul_of_pos_right l (mul-pos h h)))

  high : sticky (n * (X * X)) < 2 * ((isqrt n + 1) * X)
  high = sticky_high (n * (X * X)) ((isqrt n + 1) * X) (lt_of_lt_of_le (mul-lt-mul_of_pos_right (isqrt_is n).1 (mul-pos h h)) (le_of_eq (square_scaled (isqrt n + 1) X)))

-- 2 ^ 2272 is both of these
abbrev places : ℕ
places = 2 ^ 1197

two_ways : (a X Y : ℕ) → a * (2 * X * Y) ≡ 2 * (a * X) * Y
two_ways a X Y = simp (mul_assoc, mul_left_comm)

same_root : (n : ℕ) → 2 ^ 53 ≤ isqrt n → round binary64 false (sticky (n * (places * places))) (2 ^ 2272) ≡ nearest_root n
same_root n big = elim (either n) [
  | inl e ↦
      ap (λ (z : ℕ). round binary64 false z (2 ^ 2272)) (exact n places e.0)
      ∙ round_same binary64 false (2 * (isqrt n * places)) (2 ^ 2272) (2 * isqrt n) (2 ^ 1075) (pow_pos 2272) (pow_pos 1075) (moved (isqrt n))
      ∙ ap (λ (z : ℕ). round binary64 false z (2 ^ 1075)) (sym e.1)
      ∙ sym (nearest_root_is n)
  | inr e ↦
      in_gap n (sticky (n * (places * places))) (2 ^ 2272) (pow_pos 2272) big e.1
      (lt_of_le_of_lt (le_of_eq (two_ways (isqrt n) places (2 ^ 1074))) (mul-lt-mul_of_pos_right (low n places (pow_pos 1197) e.0) (pow_pos 1074)))
      (lt_of_lt_of_le (mul-lt-mul_of_pos_right (high n places (pow_pos 1197)) (pow_pos 1074)) (le_of_eq (sym (two_ways (isqrt n + 1) places (2 ^ 1074)))))
      ∙ sym (nearest_root_is n)
]
  where
    moved : (s : ℕ) → 2 * (s * places) * 2 ^ 1075 ≡ 2 * s * 2 ^ 2272
    moved s = go s places (2 ^ 1075)
      where
        go : (s X Y : ℕ) → 2 * (s * X) * Y ≡ 2 * s * (X * Y)
        go s X Y = simp (mul_assoc)

-- ---- of a double
no_exponent : (s : Bool) (e : ℤ) → T (fits binary64 (fin s zero e)) → fin s zero (pos 0) ≡ fin s zero e
unfolding fits
no_exponent s e f = value_unique (fin s zero (pos 0)) (fin s zero e) s 0 1 (pow_pos 0) tt f (refl, refl) (refl, mul-one (0 * up e) ∙ zero-mul (up e) ∙ sym (zero-mul (down e)))

more_places : (n M d : ℕ) → 0 < d → M * 2 ^ 1074 ≡ n * d → M * 2 ^ 4542 / d ≡ n * 2 ^ 1074 * (places * places)
more_places n M d D e = ap (λ (z : ℕ). z / d) (go M n d (2 ^ 1074) (places * places) e) ∙ mul-div_cancel (n * 2 ^ 1074 * (places * places)) D
  where
    go : (M n d Y Z : ℕ) → M * Y ≡ n * d → M * (Y * (Y * Z)) ≡ n * Y * Z * d
    go M n d Y Z e = sym (mul_assoc M Y (Y * Z)) ∙ ap (λ (z : ℕ). z * (Y * Z)) e ∙ simp (mul_assoc, mul_comm, mul_left_comm)

pub sqrt_is : (x : Float) → fits binary64 x ≡ true → library.sqrt binary64 x ≡ sqrt x
unfolding lib.Ieee.sqrt sqrt
sqrt_is nan f = refl
sqrt_is (inf true) f = refl
sqrt_is (inf false) f = refl
sqrt_is (fin s zero e) f = no_exponent s e (subst T (sym f) tt)
sqrt_is (fin true (suc m) e) f = refl
sqrt_is (fin false (suc m) e) f =
    let u = units_is m e (subst T (sym f) tt) in
    ap (λ (z : ℕ). round binary64 false (root_twice z) (2 ^ 2272)) (more_places u.0 (suc m * up e) (down e) (down_pos e) u.1)
    ∙ ap (λ (z : ℕ). round binary64 false z (2 ^ 2272)) (twice_is (u.0 * 2 ^ 1074 * (places * places)))
    ∙ same_root (u.0 * 2 ^ 1074) (root_big u.0 u.3)
    ∙ sym u.2
