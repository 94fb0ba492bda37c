-- A sum of rounded terms: after n terms it is the exact sum, but for n * 2 ^ -52 of the sum of the sizes at most. Assumes nothing.
use mathlib.Core.Path.{◌≡◌, refl, sym, ap, ◌∙◌, subst}
use Prim.Native.Nat.{ℕ, zero, suc, ◌+◌, ◌-◌, ◌*◌, ◌^◌, ◌≤◌, ◌<◌}
use native.Mathlib.Nat.{mul-le-mul_right, eq_of_mul-eq-mul_right, zero-add}
use native.Mathlib.Omega.{arith}
use mathlib.Core.Bool.{Bool, true, false, not, cond}
use lib.Dec.{T, ltb, nltb→le}
use lib.Pow.{pow_pos}
use lib.Ieee.{Float, nan, inf, fin, binary64, down, round, of_bits, fits}
use lib.Ieee.Fits.{down_pos}
use lib.Ieee.Exact.{HasValue}
use lib.Ieee.Scale.{grid}
use Rattle.lists.specs.Loop.{iter}
use Rattle.doubles.specs.F64.{◌⊕◌, +0, is_finite}
use Rattle.doubles.specs.Sum.{sum}
use Rattle.doubles.proofs.Total.{over, under, one_side, both_sides, over_mul, under_mul}
use Rattle.doubles.proofs.Unique.{round_self, finite_of_value}
use Rattle.doubles.proofs.OneRounding.{sum_sign, sum_size, sum_exact, add_by}
use Rattle.doubles.proofs.RelativeError.{Close, units_close, round_value}
use Rattle.doubles.proofs.Finite.{add_finite}
use Rattle.doubles.proofs.SumStep.{Apart, close_signed, close_times, added, bound_more, widened}

-- ---- a term: the double f is ±g units, and the exact term ±a is g * 2 ^ 1074, but for 2 ^ -53 of a at most
pub record Term (f : Float) (u : Bool) (a : ℕ) : Type 0 where
  pub g : ℕ
  pub value : HasValue f u g (2 ^ 1074)
  pub close : Close (g * 2 ^ 1074) a
  pub fit : T (fits binary64 f)

-- the exact terms above 0, and those below, of ±a 0, ±a 1, ..
module _ (u : ℕ → Bool) (a : ℕ → ℕ) where
  unfoldable pub above : ℕ → ℕ
  above zero = 0
  above (suc n) = above n + over (u n) (a n)

  unfoldable pub below : ℕ → ℕ
  below zero = 0
  below (suc n) = below n + under (u n) (a n)

-- the sum is ±b units
pub record Summed (x : Float) (P N B : ℕ) : Type 0 where
  pub sign : Bool
  pub b : ℕ
  pub value : HasValue x sign b (2 ^ 1074)
  pub near : Apart 4503599627370496 (over sign (b * 2 ^ 1074)) (under sign (b * 2 ^ 1074)) P N B

nothing_yet : Summed +0 0 0 0
unfolding of_bits
nothing_yet = record { sign = false; b = 0; value = (refl, refl); near = (omega arith, omega arith) }

-- +0 and a double is the double, but for the sign of a zero
alone_size : (u : Bool) (g : ℕ) → sum_size false 0 u g ≡ g
alone_size false g = zero-add g
alone_size true g = go (ltb 0 g) (nltb→le 0 g)
  where
    go : (x : Bool) → (T (not x) → g ≤ 0) → cond x (g - 0) (0 - g) ≡ g
    go true k = omega arith
    go false k = let l = k tt in omega arith

-- a double has one number of units, and rounding leaves it alone
same_units : (x : Float) (s : Bool) (a b c : ℕ) → 0 < c → HasValue x s a c → HasValue x s b c → a ≡ b
same_units nan s a b c C h k = absurd h
same_units (inf t) s a b c C h k = absurd h
same_units (fin t m e) s a b c C h k = eq_of_mul-eq-mul_right (down e) (down_pos e) a b (sym h.1 ∙ k.1)

own_grid : (x : Float) (s : Bool) (g : ℕ) → T (fits binary64 x) → HasValue x s g (2 ^ 1074) → grid binary64 g (2 ^ 1074) ≡ g
own_grid x s g f h =
    let r : round binary64 s g (2 ^ 1074) ≡ x = round_self x s g (2 ^ 1074) (pow_pos 1074) f h in
    same_units x s (grid binary64 g (2 ^ 1074)) g (2 ^ 1074) (pow_pos 1074) (subst (λ (z : Float). HasValue z s (grid binary64 g (2 ^ 1074)) (2 ^ 1074)) r (round_value s g (2 ^ 1074) (subst (λ (z : Float). T (is_finite z)) (sym r) (finite_of_value x s g (2 ^ 1074) h)))) h

zero_value : HasValue +0 false 0 (2 ^ 1074)
unfolding of_bits
zero_value = (refl, refl)

-- so the signs differ at most where both numbers are 0
over_eq : (s u : Bool) (g : ℕ) → sum_sign false 0 u g ≡ s → (over s (g * 2 ^ 1074) ≡ over u (g * 2 ^ 1074)) × (under s (g * 2 ^ 1074) ≡ under u (g * 2 ^ 1074))
over_eq s false g e = subst (λ (z : Bool). (over z (g * 2 ^ 1074) ≡ g * 2 ^ 1074) × (under z (g * 2 ^ 1074) ≡ 0)) e (refl, refl)
over_eq s true g e = subst (λ (z : Bool). (over z (g * 2 ^ 1074) ≡ 0) × (under z (g * 2 ^ 1074) ≡ g * 2 ^ 1074)) e (go (ltb 0 g) (nltb→le 0 g))
  where
    none : (y : ℕ) → g ≤ 0 → g * y ≡ 0
    none y h = let k = mul-le-mul_right y h in omega arith

    go : (x : Bool) → (T (not x) → g ≤ 0) → (over (cond x true false) (g * 2 ^ 1074) ≡ 0) × (under (cond x true false) (g * 2 ^ 1074) ≡ g * 2 ^ 1074)
    go true k = (refl, refl)
    go false k = let z = none (2 ^ 1074) (k tt) in (z, sym z)

-- ---- the first sum is exact: what it is off by is the first term's error
first_term : (f : Float) (u : Bool) (a : ℕ) → Term f u a → T (is_finite (+0 ⊕ f)) → Summed (+0 ⊕ f) (over u a) (under u a) a
first_term f u a t h =
    let g = t.g in
    let s = sum_sign false 0 u g in
    let is : +0 ⊕ f ≡ round binary64 s g (2 ^ 1074) = add_by +0 f false u 0 g (2 ^ 1074) (pow_pos 1074) zero_value t.value ∙ ap (λ (z : ℕ). round binary64 s z (2 ^ 1074)) (alone_size u g) in
    let v : HasValue (round binary64 s g (2 ^ 1074)) s (grid binary64 g (2 ^ 1074)) (2 ^ 1074) = round_value s g (2 ^ 1074) (subst (λ (z : Float). T (is_finite z)) is h) in
    let w : HasValue (+0 ⊕ f) s g (2 ^ 1074) = subst (λ (z : Float). HasValue z s g (2 ^ 1074)) (sym is) (subst (λ (z : ℕ). HasValue (round binary64 s g (2 ^ 1074)) s z (2 ^ 1074)) (own_grid f u g t.fit t.value) v) in
    let o = over_eq s u g refl in
    let c = close_signed u (g * 2 ^ 1074) a t.close in
    record { sign = s; b = g; value = w; near = halved (over s (g * 2 ^ 1074)) (under s (g * 2 ^ 1074)) (over u (g * 2 ^ 1074)) (under u (g * 2 ^ 1074)) (over u a) (under u a) a o.0 o.1 c }
  where
    halved : (p q p' q' n m a : ℕ) → p ≡ p' → q ≡ q' → Apart 9007199254740992 p' q' n m a → Apart 4503599627370496 p q n m a
    halved p q p' q' n m a e d c =
        let x = c.0 in
        let y = c.1 in
        (omega arith, omega arith)

-- ---- each further sum adds its term's error and its own
next_term : (x f : Float) (u : Bool) (a P N k : ℕ) → 0 < k → k ≤ 4503599627370496 → Summed x P N (k * (P + N)) → Term f u a → T (is_finite (x ⊕ f)) → Summed (x ⊕ f) (P + over u a) (N + under u a) (suc k * (P + over u a + (N + under u a)))
next_term x f u a P N k some few r t h =
    let X = 2 ^ 1074 in
    let s = r.sign in
    let b = r.b in
    let g = t.g in
    let w = sum_sign s b u g in
    let m = sum_size s b u g in
    let is : x ⊕ f ≡ round binary64 w m X = add_by x f s u b g X (pow_pos 1074) r.value t.value in
    let v : HasValue (x ⊕ f) w (grid binary64 m X) X = subst (λ (z : Float). HasValue z w (grid binary64 m X) X) (sym is) (round_value w m X (subst (λ (z : Float). T (is_finite z)) is h)) in
    record {
      sign = w;
      b = grid binary64 m X;
      value = v;
      near =
          widened 4503599627370496 (over w (grid binary64 m X * X)) (under w (grid binary64 m X * X)) (P + over u a) (N + under u a) (k * (P + N) + (P + N) + 2 * (over u a + under u a)) (suc k * (P + over u a + (N + under u a)))
          (regroup k P N (over u a) (under u a) (bound_more k (P + N) (over u a + under u a) some))
          (added (over s (b * X)) (under s (b * X)) (over u (g * X)) (under u (g * X)) (over w (m * X)) (under w (m * X)) (over w (grid binary64 m X * X)) (under w (grid binary64 m X * X)) P N (over u a) (under u a) (k * (P + N))
          (times_sum (over w m) (under s b) (under u g) (under w m) (over s b) (over u g) X (over_mul w m X) (under_mul s b X) (under_mul u g X) (under_mul w m X) (over_mul s b X) (over_mul u g X) (sum_exact s b u g))
          (one_side w (m * X))
          (subst (λ (z : ℕ). Apart 9007199254740992 (over w (grid binary64 m X * X)) (under w (grid binary64 m X * X)) (over w (m * X)) (under w (m * X)) z) (sym (both_sides w (m * X))) (close_signed w (grid binary64 m X * X) (m * X) (close_times (grid binary64 m X) m X (units_close m))))
          (subst (λ (z : ℕ). Apart 9007199254740992 (over u (g * X)) (under u (g * X)) (over u a) (under u a) z) (sym (both_sides u a)) (close_signed u (g * X) a t.close))
          r.near
          (mul-le-mul_right (P + N) few));
    }
  where
    regroup : (k P N p n : ℕ) → k * (P + N) + (P + N) + 2 * (p + n) ≤ suc k * (P + N + (p + n)) → k * (P + N) + (P + N) + 2 * (p + n) ≤ suc k * (P + p + (N + n))
    regroup k P N p n h = omega arith

    times_sum : (MP SN PN MN SP PP X : ℕ) {MP' SN' PN' MN' SP' PP' : ℕ} → MP * X ≡ MP' → SN * X ≡ SN' → PN * X ≡ PN' → MN * X ≡ MN' → SP * X ≡ SP' → PP * X ≡ PP' → MP + (SN + PN) ≡ MN + (SP + PP) → MP' + (SN' + PN') ≡ MN' + (SP' + PP')
    times_sum MP SN PN MN SP PP X a b c d e f h = let y = ap (λ (z : ℕ). z * X) h in omega arith

summed_as : (x : Float) (P N B P' N' B' : ℕ) → P ≡ P' → N ≡ N' → B ≡ B' → Summed x P N B → Summed x P' N' B'
summed_as x P N B P' N' B' p n b r = subst (λ (z : ℕ). Summed x P' N' z) b (subst (λ (z : ℕ). Summed x P' z B) n (subst (λ (z : ℕ). Summed x z N B) p r))

-- ---- the sum of n terms
pub sum_near : (n : ℕ) (f : ℕ → Float) (u : ℕ → Bool) (a : ℕ → ℕ) → ((k : ℕ) → k < n → Term (f k) (u k) (a k)) → n ≤ 4503599627370496 → T (is_finite (sum n f)) → Summed (sum n f) (above u a n) (below u a n) (n * (above u a n + below u a n))
unfolding sum iter above below
sum_near zero f u a t few h = nothing_yet
sum_near (suc zero) f u a t few h =
    let e = both_sides (u 0) (a 0) in
    summed_as (+0 ⊕ f 0) (over (u 0) (a 0)) (under (u 0) (a 0)) (a 0) _ _ _ (omega arith) (omega arith) (omega arith) (first_term (f 0) (u 0) (a 0) (t 0 (omega arith)) h)
sum_near (suc (suc n)) f u a t few h =
    next_term (sum (suc n) f) (f (suc n)) (u (suc n)) (a (suc n)) (above u a (suc n)) (below u a (suc n)) (suc n) (omega arith) (omega arith)
    (sum_near (suc n) f u a (λ k l. t k (omega arith)) (omega arith) (add_finite (sum (suc n) f) (f (suc n)) h).0) (t (suc n) (omega arith)) h
