-- Rounding with signs keeps the order, and so do sums, differences, and the products and quotients of doubles that are not negative: zeros of either sign, subnormal numbers, overflow and infinities included.
-- Assumes nothing.
use mathlib.Core.Path.{◌≡◌, refl, sym, ap, ◌∙◌, subst}
use mathlib.Core.Logic.{inl, inr}
use Prim.Native.Nat.{ℕ, zero, suc, ◌+◌, ◌*◌, ◌^◌, ◌≤◌, ◌<◌}
use native.Mathlib.Nat.{le_trans, le_of_eq, mul-one, zero-mul, mul-zero, mul_comm, mul_assoc, mul_left_comm, mul_right_comm, mul-mul-mul_comm, mul-le-mul, mul-le-mul_right, mul-pos, add-mul, eq-zero-or-pos, le_of_mul-le-mul_right, lt_of_not-le, suc-mul}
use native.Mathlib.Omega.{arith}
use mathlib.Core.Bool.{Bool, true, false, not, cond}
use lib.IntN.{ℤ, pos}
use lib.Dec.{T, ltb, eqb, ltb→lt, T_not}
use lib.Pow.{pow_pos}
use lib.Ieee.{Float, nan, inf, fin, Format, binary64, prec, emax, low, up, down, unlike, odd, units, round, neg, add, sub, mul, div, le, lt, fits, is_nan, of_bits, to_bits}
use lib.Ieee.Fits.{up_pos, down_pos, round_is, eq→eqb}
use lib.Ieee.Order.{round_mono}
use lib.Ieee.Positive.{first_pos}
use Rattle.doubles.specs.Value.{val}
use Rattle.doubles.specs.F64.{◌⊕◌, ◌⊖◌, ◌⊗◌, ◌⊘◌, ◌⩽◌, ◌⋖◌, +0, 1f, is_finite}
use Rattle.doubles.proofs.Unique.{round_self, pattern_value}
use Rattle.doubles.proofs.OneRounding.{sum_sign, sum_size, sum_rounds, sum_exact}
use Rattle.doubles.proofs.Arithmetic.{not_zero_test}
use Rattle.doubles.proofs.Total.{over, under, Before, over_mul, under_mul, over_not, under_not, lt→ahead, le→before, Le, lowest, highest, numbers, le_view, le_lowest, le_highest, le_number_left, le_number_right, ⩽_refl, ⩽_trans, ⋖_⩽, ⋖_⩽_trans, ⩽_neg, neg_number}

-- ---- rounding with a sign
odd_not : (d : ℕ) (s : Bool) (q k l : ℕ) → odd d (not s) q k l ≡ neg (odd d s q k l)
unfolding odd neg
odd_not d s zero k l = refl
odd_not d s (suc q) k l = refl

units_not : (f : Format) (s : Bool) (q k : ℕ) → units f (not s) q k ≡ neg (units f s q k)
unfolding units neg
units_not f s q k = go (ltb (q * 2 ^ k) (2 ^ (low f + suc (emax f))))
  where
    go : (b : Bool) → cond b (odd (suc (prec f)) (not s) q k (low f)) (inf (not s)) ≡ neg (cond b (odd (suc (prec f)) s q k (low f)) (inf s))
    go true = odd_not (suc (prec f)) s q k (low f)
    go false = refl

-- the other sign rounds to the negation
pub round_not : (f : Format) (s : Bool) (a c : ℕ) → round f (not s) a c ≡ neg (round f s a c)
round_not f s a c = round_is f (not s) a c ∙ units_not f s _ _ ∙ sym (ap neg (round_is f s a c))

units_number : (f : Format) (s : Bool) (q k : ℕ) → T (not (is_nan (units f s q k)))
unfolding units odd is_nan
units_number f s q k = go (ltb (q * 2 ^ k) (2 ^ (low f + suc (emax f)))) q
  where
    go : (b : Bool) (q : ℕ) → T (not (is_nan (cond b (odd (suc (prec f)) s q k (low f)) (inf s))))
    go true zero = tt
    go true (suc q) = tt
    go false q = tt

-- a rounded fraction is no NaN
pub round_number : (f : Format) (s : Bool) (a c : ℕ) → T (not (is_nan (round f s a c)))
round_number f s a c = subst (λ (x : Float). T (not (is_nan x))) (sym (round_is f s a c)) (units_number f s _ _)

-- 0 / 1 rounds to the zero of its sign, and the two zeros are equal
pub zero_round : (s : Bool) → round binary64 s 0 1 ≡ fin s 0 (pos 0)
unfolding round
zero_round s = refl

zeros : (s t : Bool) → T (fin s 0 (pos 0) ⩽ fin t 0 (pos 0))
unfolding le
zeros false false = tt
zeros false true = tt
zeros true false = tt
zeros true true = tt

-- a rounded fraction with the sign clear is at least a zero, and at most if it is 0
from_zero : (s : Bool) (a c : ℕ) → 0 < c → T (fin s 0 (pos 0) ⩽ round binary64 false a c)
from_zero s a c C = ⩽_trans (fin s 0 (pos 0)) (fin false 0 (pos 0)) (round binary64 false a c) (zeros s false) (subst (λ (x : Float). T (x ⩽ round binary64 false a c)) (zero_round false) (round_mono binary64 0 1 a c (pow_pos 0) C (omega arith)))

to_zero : (s : Bool) (a c : ℕ) → 0 < c → a ≡ 0 → T (round binary64 false a c ⩽ fin s 0 (pos 0))
to_zero s a c C e = ⩽_trans (round binary64 false a c) (fin false 0 (pos 0)) (fin s 0 (pos 0)) (subst (λ (x : Float). T (round binary64 false a c ⩽ x)) (zero_round false) (round_mono binary64 a c 0 1 C (pow_pos 0) (omega arith))) (zeros false s)

pub zero_of : (a d : ℕ) → 0 < d → a * d ≡ 0 → a ≡ 0
zero_of a d D e = elim (eq-zero-or-pos a) [ inl z ↦ z | inr p ↦ absurd (none (a * d) e (mul-pos p D)) ]
  where
    none : (k : ℕ) → k ≡ 0 → 0 < k → ⊥
    none k e h = omega arith

minus : (a c : ℕ) → round binary64 true a c ≡ neg (round binary64 false a c)
minus a c = round_not binary64 false a c

-- of two fractions with signs the larger rounds to a double that is no smaller
pub round_before : (s : Bool) (a c : ℕ) (t : Bool) (b d : ℕ) → 0 < c → 0 < d → Before s a c t b d → T (round binary64 s a c ⩽ round binary64 t b d)
unfolding neg
round_before false a c false b d C D h = round_mono binary64 a c b d C D (omega arith)
round_before true a c true b d C D h = rw (minus a c, minus b d) (⩽_neg (round binary64 false b d) (round binary64 false a c) (round_mono binary64 b d a c D C (omega arith)))
round_before true a c false b d C D h =
    rw (minus a c) (⩽_trans (neg (round binary64 false a c)) (fin true 0 (pos 0)) (round binary64 false b d) (⩽_neg (fin false 0 (pos 0)) (round binary64 false a c) (from_zero false a c C)) (from_zero true b d D))
round_before false a c true b d C D h =
    rw (minus b d) (⩽_trans (round binary64 false a c) (fin true 0 (pos 0)) (neg (round binary64 false b d)) (to_zero true a c C (zero_of a d D (omega arith))) (⩽_neg (round binary64 false b d) (fin false 0 (pos 0)) (to_zero false b d D (zero_of b c C (omega arith)))))

-- ---- sums
-- (X - U) / (p * q) = (P - N) / p + (Q - M) / q, and the same of the marked: the sums are in order if the terms are
sum_cross : (P N p P' N' p' Q M q Q' M' q' X U X' U' : ℕ)
    → X + (N * q + M * p) ≡ U + (P * q + Q * p) → X' + (N' * q' + M' * p') ≡ U' + (P' * q' + Q' * p') → P * p' + N' * p ≤ P' * p + N * p' → Q * q' + M' * q ≤ Q' * q + M * q'
    → X * (p' * q') + U' * (p * q) ≤ X' * (p * q) + U * (p' * q')
sum_cross P N p P' N' p' Q M q Q' M' q' X U X' U' e e' h k =
    let a = simp (add-mul, mul_assoc, mul_comm, mul_left_comm) at (ap (λ (z : ℕ). z * (p' * q')) e) in
    let a' = simp (add-mul, mul_assoc, mul_comm, mul_left_comm) at (ap (λ (z : ℕ). z * (p * q)) e') in
    let b = simp (add-mul, mul_assoc, mul_comm) at (mul-le-mul_right (q * q') h) in
    let c = simp (add-mul, mul_assoc, mul_comm, mul_left_comm) at (mul-le-mul_right (p * p') k) in
    simp (mul_comm, mul_left_comm) (omega arith)

-- an infinity plus whatever gives no NaN is that infinity
inf_add : (s : Bool) (y : Float) → T (not (is_nan (inf s ⊕ y))) → inf s ⊕ y ≡ inf s
unfolding add is_nan
inf_add s nan h = absurd h
inf_add s (fin t n d) h = refl
inf_add true (inf true) h = refl
inf_add true (inf false) h = absurd h
inf_add false (inf true) h = absurd h
inf_add false (inf false) h = refl

add_inf : (x : Float) (t : Bool) → T (not (is_nan (x ⊕ inf t))) → x ⊕ inf t ≡ inf t
unfolding add is_nan
add_inf nan t h = absurd h
add_inf (fin s m e) t h = refl
add_inf (inf true) true h = refl
add_inf (inf true) false h = absurd h
add_inf (inf false) true h = absurd h
add_inf (inf false) false h = refl

add_numbers : (s : Bool) (m : ℕ) (e : ℤ) (s' : Bool) (m' : ℕ) (e' : ℤ) (t : Bool) (n : ℕ) (d : ℤ) (t' : Bool) (n' : ℕ) (d' : ℤ)
    → Before s (m * up e) (down e) s' (m' * up e') (down e') → Before t (n * up d) (down d) t' (n' * up d') (down d') → T (fin s m e ⊕ fin t n d ⩽ fin s' m' e' ⊕ fin t' n' d')
unfolding add
add_numbers s m e s' m' e' t n d t' n' d' h k =
    let a = m * up e * down d in
    let b = n * up d * down e in
    let a' = m' * up e' * down d' in
    let b' = n' * up d' * down e' in
    let u = sum_sign s a t b in
    let g = sum_size s a t b in
    let u' = sum_sign s' a' t' b' in
    let g' = sum_size s' a' t' b' in
    rw (sum_rounds s a t b (down e * down d), sum_rounds s' a' t' b' (down e' * down d')) (round_before u g (down e * down d) u' g' (down e' * down d') (mul-pos (down_pos e) (down_pos d)) (mul-pos (down_pos e') (down_pos d'))
    (sum_cross (over s (m * up e)) (under s (m * up e)) (down e) (over s' (m' * up e')) (under s' (m' * up e')) (down e')
    (over t (n * up d)) (under t (n * up d)) (down d) (over t' (n' * up d')) (under t' (n' * up d')) (down d')
    (over u g) (under u g) (over u' g') (under u' g') (simp (over_mul, under_mul) (sum_exact s a t b)) (simp (over_mul, under_mul) (sum_exact s' a' t' b')) h k))

add_view : {x x' y y' : Float} → Le x x' → Le y y' → T (not (is_nan (x ⊕ y))) → T (not (is_nan (x' ⊕ y'))) → T (x ⊕ y ⩽ x' ⊕ y')
add_view {x} {x'} {y} {y'} (lowest h) k p q = rw (inf_add true y p) (le_lowest (x' ⊕ y') q)
add_view {x} {x'} {y} {y'} (highest h) k p q = rw (inf_add false y' q) (le_highest (x ⊕ y) p)
add_view {x} {x'} {y} {y'} (numbers s m e s' m' e' h) (lowest k) p q = rw (add_inf (fin s m e) true p) (le_lowest (fin s' m' e' ⊕ y') q)
add_view {x} {x'} {y} {y'} (numbers s m e s' m' e' h) (highest k) p q = rw (add_inf (fin s' m' e') false q) (le_highest (fin s m e ⊕ y) p)
add_view (numbers s m e s' m' e' h) (numbers t n d t' n' d' k) p q = add_numbers s m e s' m' e' t n d t' n' d' h k

-- a sum of any two doubles grows with each term
pub add_mono : (x x' y y' : Float) → T (x ⩽ x') → T (y ⩽ y') → T (not (is_nan (x ⊕ y))) → T (not (is_nan (x' ⊕ y'))) → T (x ⊕ y ⩽ x' ⊕ y')
add_mono x x' y y' h k p q = add_view (le_view x x' h) (le_view y y' k) p q

-- ---- a difference of two that differ is not lost: both are whole numbers of units of 2 ^ -1074, and so is the difference
-- (P - N) / p is (P1 - N1) / K, (Q - M) / q is (Q1 - M1) / K and larger, and (X - Y) / (q * p) is the difference: it is 1 / K at least
apart : (P N p P1 N1 Q M q Q1 M1 X Y K : ℕ) → 0 < K → P * K ≡ P1 * p → N * K ≡ N1 * p → Q * K ≡ Q1 * q → M * K ≡ M1 * q
    → X + (M * p + P * q) ≡ Y + (Q * p + N * q) → P * q + M * p < Q * p + N * q → 1 * (q * p) + Y * K ≤ X * K + 0 * (q * p)
apart P N p P1 N1 Q M q Q1 M1 X Y K k hP hN hQ hM e l =
    let eP : P * q * K ≡ P1 * (q * p) = mul_right_comm P q K ∙ ap (λ (z : ℕ). z * q) hP ∙ mul_assoc P1 p q ∙ ap (λ (z : ℕ). P1 * z) (mul_comm p q) in
    let eN : N * q * K ≡ N1 * (q * p) = mul_right_comm N q K ∙ ap (λ (z : ℕ). z * q) hN ∙ mul_assoc N1 p q ∙ ap (λ (z : ℕ). N1 * z) (mul_comm p q) in
    let eQ : Q * p * K ≡ Q1 * (q * p) = mul_right_comm Q p K ∙ ap (λ (z : ℕ). z * p) hQ ∙ mul_assoc Q1 q p in
    let eM : M * p * K ≡ M1 * (q * p) = mul_right_comm M p K ∙ ap (λ (z : ℕ). z * p) hM ∙ mul_assoc M1 q p in
    let E = simp add-mul at (ap (λ (z : ℕ). z * K) e) in
    let more : P1 + M1 < Q1 + N1 = lt_of_not-le (λ g. let f = simp add-mul at (mul-le-mul_right (q * p) g) in let XY : X ≤ Y = le_of_mul-le-mul_right (omega arith) k in omega arith) in
    let step = simp (suc-mul, add-mul) at (mul-le-mul_right (q * p) more) in
    omega arith

over_scale : (s : Bool) (a k u c : ℕ) → a * k ≡ u * c → over s a * k ≡ over s u * c
over_scale s a k u c h = over_mul s a k ∙ ap (over s) h ∙ sym (over_mul s u c)

under_scale : (s : Bool) (a k u c : ℕ) → a * k ≡ u * c → under s a * k ≡ under s u * c
under_scale s a k u c h = under_mul s a k ∙ ap (under s) h ∙ sym (under_mul s u c)

least : T (+0 ⋖ round binary64 false 1 (2 ^ 1074))
unfolding lt of_bits round
least = tt

zero_end : T (+0 ⋖ inf false)
unfolding lt of_bits
zero_end = tt

sub_numbers : (s : Bool) (m : ℕ) (e : ℤ) (t : Bool) (n : ℕ) (d : ℤ) → T (fits binary64 (fin s m e)) → T (fits binary64 (fin t n d)) → T (fin s m e ⋖ fin t n d) → T (+0 ⋖ fin t n d ⊖ fin s m e)
unfolding sub add neg
sub_numbers s m e t n d f g h =
    let a = n * up d * down e in
    let b = m * up e * down d in
    let v = sum_sign t a (not s) b in
    let z = sum_size t a (not s) b in
    let U = val (to_bits binary64 (fin false m e)) in
    let W = val (to_bits binary64 (fin false n d)) in
    let u : m * up e * 2 ^ 1074 ≡ U * down e = pattern_value (fin s m e) s (m * up e) (down e) f (refl, refl) in
    let w : n * up d * 2 ^ 1074 ≡ W * down d = pattern_value (fin t n d) t (n * up d) (down d) g (refl, refl) in
    rw (sum_rounds t a (not s) b (down d * down e)) (⋖_⩽_trans +0 (round binary64 false 1 (2 ^ 1074)) (round binary64 v z (down d * down e)) least
    (round_before false 1 (2 ^ 1074) v z (down d * down e) (pow_pos 1074) (mul-pos (down_pos d) (down_pos e))
    (apart (over s (m * up e)) (under s (m * up e)) (down e) (over s U) (under s U) (over t (n * up d)) (under t (n * up d)) (down d) (over t W) (under t W) (over v z) (under v z) (2 ^ 1074) (pow_pos 1074)
    (over_scale s (m * up e) (2 ^ 1074) U (down e) u) (under_scale s (m * up e) (2 ^ 1074) U (down e) u) (over_scale t (n * up d) (2 ^ 1074) W (down d) w) (under_scale t (n * up d) (2 ^ 1074) W (down d) w)
    (simp (over_mul, under_mul) (simp (over_not, under_not) at (sum_exact t a (not s) b))) (lt→ahead s m e t n d h))))

above_view : {x y : Float} → T (fits binary64 x) → T (fits binary64 y) → Le x y → T (x ⋖ y) → T (not (is_nan (y ⊖ x))) → T (+0 ⋖ y ⊖ x)
unfolding sub neg
above_view {x} {y} f g (lowest k) h p = rw (add_inf y false p) zero_end
above_view {x} {y} f g (highest k) h p = rw (inf_add false (neg x) p) zero_end
above_view f g (numbers s m e t n d k) h p = sub_numbers s m e t n d f g h

-- of two doubles that fit, the larger minus the smaller is above 0 after rounding too
pub sub_above : (x y : Float) → T (fits binary64 x) → T (fits binary64 y) → T (x ⋖ y) → T (not (is_nan (y ⊖ x))) → T (+0 ⋖ y ⊖ x)
sub_above x y f g h p = above_view f g (le_view x y (⋖_⩽ x y h)) h p

-- ---- doubles that are not negative, a -0 included: +0 ⩽ x
no_lowest : T (+0 ⩽ inf true) → ⊥
unfolding le of_bits
no_lowest h = h

none_under : (s : Bool) (m : ℕ) (e : ℤ) → T (+0 ⩽ fin s m e) → under s (m * up e) ≡ 0
unfolding of_bits
none_under false m e h = refl
none_under true m e h = let k = le→before false 0 (pos 0) true m e h in omega arith

whole : (s : Bool) (a : ℕ) → under s a ≡ 0 → over s a ≡ a
whole false a h = refl
whole true a h = sym h

-- the order of two fractions that are not negative is that of their sizes
cross_of : (s : Bool) (a c : ℕ) (t : Bool) (b d : ℕ) → under s a ≡ 0 → under t b ≡ 0 → Before s a c t b d → a * d ≤ b * c
cross_of s a c t b d p q h = omega (arith, rw (p, q, whole s a p, whole t b q) at h)

round_upper : (s : Bool) (a c : ℕ) (t : Bool) (b d : ℕ) → 0 < c → 0 < d → under s a ≡ 0 → under t b ≡ 0 → a * d ≤ b * c → T (round binary64 s a c ⩽ round binary64 t b d)
round_upper s a c t b d C D p q h = round_before s a c t b d C D (rw (p, q, whole s a p, whole t b q) (omega arith))

under_zero : (u : Bool) → under u 0 ≡ 0
under_zero false = refl
under_zero true = refl

zero_round_up : (u s : Bool) (a c : ℕ) → 0 < c → under s a ≡ 0 → T (fin u 0 (pos 0) ⩽ round binary64 s a c)
zero_round_up u s a c C p = subst (λ (x : Float). T (x ⩽ round binary64 s a c)) (zero_round u) (round_upper u 0 1 s a c (pow_pos 0) C (under_zero u) p (omega arith))

-- ---- products
under_product : (s : Bool) (a : ℕ) (t : Bool) (b : ℕ) → under s a ≡ 0 → under t b ≡ 0 → under (unlike s t) (a * b) ≡ 0
under_product false a false b p q = refl
under_product false a true b p q = ap (λ (z : ℕ). a * z) q ∙ mul-zero a
under_product true a false b p q = ap (λ (z : ℕ). z * b) p ∙ zero-mul b
under_product true a true b p q = refl

-- an infinity times a number that gives no NaN
sign_clear : (t : Bool) (n : ℕ) (d : ℤ) → under t (n * up d) ≡ 0 → T (not (eqb n 0)) → t ≡ false
sign_clear false n d h k = refl
sign_clear true n d h k = absurd (T_not (eqb n 0) k (eq→eqb (zero_of n (up d) (up_pos d) h)))

end_is : (b u : Bool) → (T (not b) → u ≡ false) → T (not (is_nan (cond b nan (inf u)))) → cond b nan (inf u) ≡ inf false
unfolding is_nan
end_is true u f h = absurd h
end_is false u f h = ap inf (f tt)

inf_mul : (y : Float) → T (+0 ⩽ y) → T (not (is_nan (inf false ⊗ y))) → inf false ⊗ y ≡ inf false
unfolding mul is_nan
inf_mul nan p h = absurd h
inf_mul (inf true) p h = absurd (no_lowest p)
inf_mul (inf false) p h = refl
inf_mul (fin t n d) p h = end_is (eqb n 0) (unlike false t) (λ k. ap (unlike false) (sign_clear t n d (none_under t n d p) k)) h

mul_inf : (x : Float) → T (+0 ⩽ x) → T (not (is_nan (x ⊗ inf false))) → x ⊗ inf false ≡ inf false
unfolding mul is_nan
mul_inf nan p h = absurd h
mul_inf (inf true) p h = absurd (no_lowest p)
mul_inf (inf false) p h = refl
mul_inf (fin s m e) p h = end_is (eqb m 0) (unlike s false) (λ k. ap (λ (z : Bool). unlike z false) (sign_clear s m e (none_under s m e p) k)) h

mul_view : {x x' y y' : Float} → T (+0 ⩽ x) → T (+0 ⩽ x') → T (+0 ⩽ y) → T (+0 ⩽ y') → Le x x' → Le y y' → T (not (is_nan (x ⊗ y))) → T (not (is_nan (x' ⊗ y'))) → T (x ⊗ y ⩽ x' ⊗ y')
unfolding mul
mul_view X X' Y Y' (lowest h) k p q = absurd (no_lowest X)
mul_view {x} {x'} {y} {y'} X X' Y Y' (highest h) k p q = rw (inf_mul y' Y' q) (le_highest (x ⊗ y) p)
mul_view X X' Y Y' (numbers s m e s' m' e' h) (lowest k) p q = absurd (no_lowest Y)
mul_view {x} {x'} {y} {y'} X X' Y Y' (numbers s m e s' m' e' h) (highest k) p q = rw (mul_inf (fin s' m' e') X' q) (le_highest (fin s m e ⊗ y) p)
mul_view X X' Y Y' (numbers s m e s' m' e' h) (numbers t n d t' n' d' k) p q =
    let a = none_under s m e X in
    let a' = none_under s' m' e' X' in
    let b = none_under t n d Y in
    let b' = none_under t' n' d' Y' in
    round_upper (unlike s t) (m * up e * (n * up d)) (down e * down d) (unlike s' t') (m' * up e' * (n' * up d')) (down e' * down d') (mul-pos (down_pos e) (down_pos d)) (mul-pos (down_pos e') (down_pos d'))
    (under_product s (m * up e) t (n * up d) a b) (under_product s' (m' * up e') t' (n' * up d') a' b')
    (le_trans (le_of_eq (mul-mul-mul_comm (m * up e) (n * up d) (down e') (down d')))
    (le_trans (mul-le-mul (cross_of s (m * up e) (down e) s' (m' * up e') (down e') a a' h) (cross_of t (n * up d) (down d) t' (n' * up d') (down d') b b' k)) (le_of_eq (mul-mul-mul_comm (m' * up e') (down e) (n' * up d') (down d)))))

-- a product of doubles that are not negative grows with each factor
pub mul_mono : (x x' y y' : Float) → T (+0 ⩽ x) → T (+0 ⩽ y) → T (x ⩽ x') → T (y ⩽ y') → T (not (is_nan (x ⊗ y))) → T (not (is_nan (x' ⊗ y'))) → T (x ⊗ y ⩽ x' ⊗ y')
mul_mono x x' y y' X Y h k p q = mul_view X (⩽_trans +0 x x' X h) Y (⩽_trans +0 y y' Y k) (le_view x x' h) (le_view y y' k) p q

-- ---- quotients
above_number : (t : Bool) (n : ℕ) (d : ℤ) → T (+0 ⋖ fin t n d) → (t ≡ false) × (0 < n)
unfolding lt of_bits
above_number true n d h = absurd h
above_number false n d h = (refl, first_pos n (up d) (omega (arith, ltb→lt (0 * down d) (n * up d * 1) h)))

not_above_lowest : T (+0 ⋖ inf true) → ⊥
unfolding lt of_bits
not_above_lowest h = h

-- by a divisor that is a number above 0
by_number : (s : Bool) (m : ℕ) (e : ℤ) (t : Bool) (n : ℕ) (d : ℤ) → 0 < n → fin s m e ⊘ fin t n d ≡ round binary64 (unlike s t) (m * up e * down d) (n * up d * down e)
unfolding div
by_number s m e t n d N = ap (λ (b : Bool). cond b (cond (eqb m 0) nan (inf (unlike s t))) (round binary64 (unlike s t) (m * up e * down d) (n * up d * down e))) (not_zero_test n N)

under_quotient : (s : Bool) (m : ℕ) (e : ℤ) (t : Bool) (d : ℤ) → T (+0 ⩽ fin s m e) → t ≡ false → under (unlike s t) (m * up e * down d) ≡ 0
under_quotient s m e t d X T₀ = under_product s (m * up e) t (down d) (none_under s m e X) (ap (λ (z : Bool). under z (down d)) T₀)

inf_div : (y : Float) → T (+0 ⋖ y) → T (not (is_nan (inf false ⊘ y))) → inf false ⊘ y ≡ inf false
unfolding div is_nan
inf_div nan p h = absurd h
inf_div (inf t) p h = absurd h
inf_div (fin t n d) p h = ap (λ (z : Bool). inf (unlike false z)) (above_number t n d p).0

-- a quotient is not negative
zero_div : (u : Bool) (x y : Float) → T (+0 ⩽ x) → T (+0 ⋖ y) → T (not (is_nan (x ⊘ y))) → T (fin u 0 (pos 0) ⩽ x ⊘ y)
unfolding div is_nan
zero_div u nan y X Y h = absurd h
zero_div u (inf true) y X Y h = absurd (no_lowest X)
zero_div u (inf false) y X Y h = rw (inf_div y Y h) (le_highest (fin u 0 (pos 0)) tt)
zero_div u (fin s m e) nan X Y h = absurd h
zero_div u (fin s m e) (inf t) X Y h = zeros u (unlike s t)
zero_div u (fin s m e) (fin t n d) X Y h =
    let a = above_number t n d Y in
    rw (by_number s m e t n d a.1) (zero_round_up u (unlike s t) (m * up e * down d) (n * up d * down e) (mul-pos (mul-pos a.1 (up_pos d)) (down_pos e)) (under_quotient s m e t d X a.0))

div_view : {x x' y y' : Float} → T (+0 ⩽ x) → T (+0 ⩽ x') → T (+0 ⋖ y) → T (+0 ⋖ y') → Le x x' → Le y' y → T (not (is_nan (x ⊘ y))) → T (not (is_nan (x' ⊘ y'))) → T (x ⊘ y ⩽ x' ⊘ y')
div_view X X' Y Y' (lowest h) k p q = absurd (no_lowest X)
div_view {x} {x'} {y} {y'} X X' Y Y' (highest h) k p q = rw (inf_div y' Y' q) (le_highest (x ⊘ y) p)
div_view X X' Y Y' (numbers s m e s' m' e' h) (lowest k) p q = absurd (not_above_lowest Y')
div_view {x} {x'} {y} {y'} X X' Y Y' (numbers s m e s' m' e' h) (highest k) p q = unfold div in zero_div (unlike s false) (fin s' m' e') y' X' Y' q
div_view X X' Y Y' (numbers s m e s' m' e' h) (numbers t' n' d' t n d k) p q =
    let b = above_number t n d Y in
    let b' = above_number t' n' d' Y' in
    rw (by_number s m e t n d b.1, by_number s' m' e' t' n' d' b'.1)
    (round_upper (unlike s t) (m * up e * down d) (n * up d * down e) (unlike s' t') (m' * up e' * down d') (n' * up d' * down e') (mul-pos (mul-pos b.1 (up_pos d)) (down_pos e)) (mul-pos (mul-pos b'.1 (up_pos d')) (down_pos e'))
    (under_quotient s m e t d X b.0) (under_quotient s' m' e' t' d' X' b'.0)
    (swap (m * up e) (down e) (m' * up e') (down e') (n * up d) (down d) (n' * up d') (down d')
    (cross_of s (m * up e) (down e) s' (m' * up e') (down e') (none_under s m e X) (none_under s' m' e' X') h)
    (cross_of t' (n' * up d') (down d') t (n * up d) (down d) (ap (λ (z : Bool). under z (n' * up d')) b'.0) (ap (λ (z : Bool). under z (n * up d)) b.0) k)))
  where
    swap : (a p a' p' b q b' q' : ℕ) → a * p' ≤ a' * p → b' * q ≤ b * q' → a * q * (b' * p') ≤ a' * q' * (b * p)
    swap a p a' p' b q b' q' h k = simp (mul_assoc, mul_comm, mul_left_comm) (simp (mul_assoc, mul_comm) at (mul-le-mul h k))

-- a quotient of doubles that are not negative grows with the dividend and against the divisor
pub div_mono : (x x' y y' : Float) → T (+0 ⩽ x) → T (+0 ⋖ y') → T (x ⩽ x') → T (y' ⩽ y) → T (not (is_nan (x ⊘ y))) → T (not (is_nan (x' ⊘ y'))) → T (x ⊘ y ⩽ x' ⊘ y')
div_mono x x' y y' X Y' h k p q = div_view X (⩽_trans +0 x x' X h) (⋖_⩽_trans +0 y' y Y' k) Y' (le_view x x' h) (le_view y' y k) p q

-- ---- with 1
pub unlike_false : (s : Bool) → unlike s false ≡ s
unlike_false false = refl
unlike_false true = refl

-- 1 changes nothing
pub mul_one_is : (x : Float) → T (fits binary64 x) → x ⊗ 1f ≡ x
unfolding mul of_bits
mul_one_is nan f = refl
mul_one_is (inf s) f = ap inf (unlike_false s)
mul_one_is (fin s m e) f =
    ap (λ (u : Bool). round binary64 u (m * up e * 1) (down e * 1)) (unlike_false s)
    ∙ round_self (fin s m e) s (m * up e * 1) (down e * 1) (mul-pos (down_pos e) (pow_pos 0)) f (refl, simp (mul-one, mul_assoc))

zero_one : T (+0 ⩽ 1f)
unfolding le of_bits
zero_one = tt

-- a factor of at most 1 makes a product no larger
pub mul_shrinks : (x y : Float) → T (fits binary64 x) → T (+0 ⩽ x) → T (+0 ⩽ y) → T (y ⩽ 1f) → T (not (is_nan (x ⊗ y))) → T (x ⊗ y ⩽ x)
mul_shrinks x y f X Y h p =
    let e = mul_one_is x f in
    subst (λ (z : Float). T (x ⊗ y ⩽ z)) e (mul_mono x x y 1f X Y (⩽_refl x (le_number_right +0 x X)) h p (subst (λ (z : Float). T (not (is_nan z))) (sym e) (le_number_right +0 x X)))

-- a factor of at least 1 makes it no smaller
pub mul_grows : (x y : Float) → T (fits binary64 x) → T (+0 ⩽ x) → T (1f ⩽ y) → T (not (is_nan (x ⊗ y))) → T (x ⩽ x ⊗ y)
mul_grows x y f X h p =
    let e = mul_one_is x f in
    subst (λ (z : Float). T (z ⩽ x ⊗ y)) e (mul_mono x x 1f y X zero_one (⩽_refl x (le_number_right +0 x X)) h (subst (λ (z : Float). T (not (is_nan z))) (sym e) (le_number_right +0 x X)) p)

at_one : round binary64 false 1 1 ≡ 1f
unfolding round of_bits
at_one = refl

end_part : (x : Float) → T (not (is_nan (x ⊘ inf false))) → T (x ⊘ inf false ⩽ 1f)
unfolding div is_nan of_bits
end_part nan p = absurd p
end_part (inf s) p = absurd p
end_part (fin s m e) p = ⩽_trans (fin (unlike s false) 0 (pos 0)) +0 1f (zeros (unlike s false) false) zero_one

part_view : {x y : Float} → T (+0 ⩽ x) → T (+0 ⋖ y) → Le x y → T (not (is_nan (x ⊘ y))) → T (x ⊘ y ⩽ 1f)
part_view X Y (lowest h) p = absurd (no_lowest X)
part_view {x} X Y (highest h) p = end_part x p
part_view X Y (numbers s m e t n d h) p =
    let b = above_number t n d Y in
    rw (by_number s m e t n d b.1, ← at_one)
    (round_upper (unlike s t) (m * up e * down d) (n * up d * down e) false 1 1 (mul-pos (mul-pos b.1 (up_pos d)) (down_pos e)) (pow_pos 0) (under_quotient s m e t d X b.0) refl
    (omega (arith, cross_of s (m * up e) (down e) t (n * up d) (down d) (none_under s m e X) (ap (λ (z : Bool). under z (n * up d)) b.0) h)))

-- a part of a whole is at most 1
pub div_part : (x y : Float) → T (+0 ⩽ x) → T (+0 ⋖ y) → T (x ⩽ y) → T (not (is_nan (x ⊘ y))) → T (x ⊘ y ⩽ 1f)
div_part x y X Y h p = part_view X Y (le_view x y h) p

-- ---- where a result is no NaN
pub finite_number : (x : Float) → T (is_finite x) → T (not (is_nan x))
unfolding is_nan
finite_number nan h = absurd h
finite_number (inf s) h = absurd h
finite_number (fin s m e) h = tt

-- a number plus or minus whatever is no NaN
pub add_number : (x y : Float) → T (is_finite x) → T (not (is_nan y)) → T (not (is_nan (x ⊕ y)))
unfolding add is_nan
add_number nan y h k = absurd h
add_number (inf s) y h k = absurd h
add_number (fin s m e) nan h k = absurd k
add_number (fin s m e) (inf t) h k = tt
add_number (fin s m e) (fin t n d) h k = rw (sum_rounds s (m * up e * down d) t (n * up d * down e) (down e * down d)) (round_number binary64 _ _ (down e * down d))

pub sub_number : (x y : Float) → T (is_finite x) → T (not (is_nan y)) → T (not (is_nan (x ⊖ y)))
unfolding sub
sub_number x y h k = add_number x (neg y) h (neg_number y k)

-- a product of two numbers
pub mul_number : (x y : Float) → T (is_finite x) → T (is_finite y) → T (not (is_nan (x ⊗ y)))
unfolding mul
mul_number nan y h k = absurd h
mul_number (inf s) y h k = absurd h
mul_number (fin s m e) nan h k = absurd k
mul_number (fin s m e) (inf t) h k = absurd k
mul_number (fin s m e) (fin t n d) h k = round_number binary64 (unlike s t) (m * up e * (n * up d)) (down e * down d)

-- a number over what is above 0
pub div_number : (x y : Float) → T (is_finite x) → T (+0 ⋖ y) → T (not (is_nan (x ⊘ y)))
unfolding div is_nan
div_number nan y h k = absurd h
div_number (inf s) y h k = absurd h
div_number (fin s m e) nan h k = absurd (unfold lt of_bits in k)
div_number (fin s m e) (inf t) h k = tt
div_number (fin s m e) (fin t n d) h k = rw (by_number s m e t n d (above_number t n d k).1) (round_number binary64 (unlike s t) (m * up e * down d) (n * up d * down e))

-- ---- the results of doubles that are not negative are not negative
add_ends : (x y : Float) → T (+0 ⩽ x) → T (+0 ⩽ y) → T (not (is_nan (x ⊕ y)))
unfolding add is_nan le of_bits
add_ends nan y X Y = absurd X
add_ends (inf true) y X Y = absurd X
add_ends (inf false) nan X Y = absurd Y
add_ends (inf false) (inf true) X Y = absurd Y
add_ends (inf false) (inf false) X Y = tt
add_ends (inf false) (fin t n d) X Y = tt
add_ends (fin s m e) nan X Y = absurd Y
add_ends (fin s m e) (inf t) X Y = tt
add_ends (fin s m e) (fin t n d) X Y = add_number (fin s m e) (fin t n d) tt tt

zero_twice : (+0 ⊕ +0 ≡ +0) × (+0 ⊗ +0 ≡ +0) × T (+0 ⩽ +0)
unfolding add mul le of_bits
zero_twice = (refl, refl, tt)

-- a sum, which is then no NaN either
pub add_nonneg : (x y : Float) → T (+0 ⩽ x) → T (+0 ⩽ y) → T (+0 ⩽ x ⊕ y)
add_nonneg x y X Y =
    let z = zero_twice in
    subst (λ (u : Float). T (u ⩽ x ⊕ y)) z.0 (add_mono +0 x +0 y X Y (add_ends +0 +0 z.2 z.2) (add_ends x y X Y))

-- a product
pub mul_nonneg : (x y : Float) → T (+0 ⩽ x) → T (+0 ⩽ y) → T (not (is_nan (x ⊗ y))) → T (+0 ⩽ x ⊗ y)
mul_nonneg x y X Y p =
    let z = zero_twice in
    subst (λ (u : Float). T (u ⩽ x ⊗ y)) z.1 (mul_mono +0 x +0 y z.2 z.2 X Y (subst (λ (u : Float). T (not (is_nan u))) (sym z.1) (le_number_left +0 x X)) p)

-- ---- with 0
-- (X - Y) / (p * 1) is (P - N) / p
same_value : (X Y P N p : ℕ) → X + N ≡ Y + P → P * (p * 1) + Y * p ≡ X * p + N * (p * 1)
same_value X Y P N p e = let k = simp add-mul at (ap (λ (z : ℕ). z * p) e) in simp mul-one (omega arith)

over_zero : (u : Bool) → over u 0 ≡ 0
over_zero false = refl
over_zero true = refl

zero_total : (s : Bool) (a : ℕ) (u : Bool) (p : ℕ) (v : Bool) (g : ℕ) → over v g + (under s (a * 1) + under u (0 * p)) ≡ under v g + (over s (a * 1) + over u (0 * p)) → over v g + under s a ≡ under v g + over s a
zero_total s a u p v g e = omega (arith, simp (mul-one, zero-mul, over_zero, under_zero) at e)

add_zero_is : (u : Bool) (x : Float) → T (fits binary64 x) → T (not (is_nan x)) → T (x ⩽ x ⊕ fin u 0 (pos 0)) × T (x ⊕ fin u 0 (pos 0) ⩽ x)
unfolding add is_nan
add_zero_is u nan f h = absurd h
add_zero_is u (inf s) f h = let r = ⩽_refl (inf s) tt in (r, r)
add_zero_is u (fin s m e) f h =
    let a = m * up e in
    let p = down e in
    let w = sum_sign s (a * 1) u (0 * p) in
    let z = sum_size s (a * 1) u (0 * p) in
    let r = sum_rounds s (a * 1) u (0 * p) (p * 1) in
    let v = same_value (over w z) (under w z) (over s a) (under s a) p (zero_total s a u p w z (sum_exact s (a * 1) u (0 * p))) in
    let g = round_self (fin s m e) s a p (down_pos e) f (refl, refl) in
    let P = mul-pos (down_pos e) (pow_pos 0) in (
      rw r (subst (λ (x : Float). T (x ⩽ round binary64 w z (p * 1))) g (round_before s a p w z (p * 1) (down_pos e) P (omega arith))),
      rw r (subst (λ (x : Float). T (round binary64 w z (p * 1) ⩽ x)) g (round_before w z (p * 1) s a p P (down_pos e) (omega arith))),
    )

left_number : (x y : Float) → T (not (is_nan (x ⊕ y))) → T (not (is_nan x))
unfolding add is_nan
left_number nan y h = h
left_number (inf s) y h = tt
left_number (fin s m e) y h = tt

-- a double is at most its sum with what is not negative
pub add_grows : (x y : Float) → T (fits binary64 x) → T (+0 ⩽ y) → T (not (is_nan (x ⊕ y))) → T (x ⩽ x ⊕ y)
unfolding of_bits
add_grows x y f Y p =
    let n = left_number x y p in
    let z = add_zero_is false x f n in
    ⩽_trans x (x ⊕ +0) (x ⊕ y) z.0 (add_mono x x +0 y (⩽_refl x n) Y (le_number_right x (x ⊕ +0) z.0) p)

-- and at least its difference
pub sub_shrinks : (x y : Float) → T (fits binary64 x) → T (+0 ⩽ y) → T (not (is_nan (x ⊖ y))) → T (x ⊖ y ⩽ x)
unfolding sub neg of_bits
sub_shrinks x y f Y p =
    let n = left_number x (neg y) p in
    let z = add_zero_is true x f n in
    ⩽_trans (x ⊖ y) (x ⊕ neg +0) x (add_mono x x (neg y) (neg +0) (⩽_refl x n) (⩽_neg +0 y Y) p (le_number_right x (x ⊕ neg +0) z.0)) z.1
