-- A power of two goes through sums, products and negations: where x' is x times 2 ^ u / 2 ^ v and y' is y times that, x' ⊕ y' is x ⊕ y times that, and so on; signs are kept, those of
-- zeros too. Of sums it is asked that both are finite, of products also that neither is tiny. Assumes nothing.
use mathlib.Core.Path.{◌≡◌, refl, sym, ap, ◌∙◌, subst}
use mathlib.Core.Logic.{◌⊎◌, inl, inr}
use Prim.Native.Nat.{ℕ, ◌+◌, ◌*◌, ◌^◌, ◌≤◌, ◌<◌}
use native.Mathlib.Nat.{add_comm, mul_assoc, mul_right_comm, mul-mul-mul_comm, zero-mul, eq_of_mul-eq-mul_right}
use native.Mathlib.Omega.{arith}
use mathlib.Core.Bool.{Bool, false, not}
use lib.IntN.{ℤ, nat_abs, ◌*ℤ◌}
use lib.Dec.{T}
use lib.Pow.{pow-add, pow_pos}
use lib.Ieee.{Float, binary64, unlike, neg, round, fits, of_bits}
use lib.Ieee.Bits.{of_bits-fits}
use lib.Ieee.Fits.{round-fits, add-fits, neg-fits}
use lib.Ieee.Exact.{HasValue}
use lib.Ieee.Scale.{grid, grid_scale, normal_of_fraction}
use Rattle.doubles.specs.F64.{◌⊕◌, ◌⊖◌, ◌⊗◌, +0, is_finite}
use Rattle.doubles.specs.Units.{signed, units, NotTiny}
use Rattle.doubles.specs.Clean.{Clean⊗, Clean⊕}
use Rattle.doubles.proofs.Total.{sign}
use Rattle.doubles.proofs.Monotone.{zero_of}
use Rattle.doubles.proofs.OneRounding.{sum_sign, sum_size, sign_times, size_times, add_by, mul_signed}
use Rattle.doubles.proofs.Finite.{holds, mul_finite}
use Rattle.doubles.proofs.Signed.{size_signed, times_signed}
use Rattle.doubles.proofs.Units.{units_by, size, own, neg_value}
use Rattle.doubles.proofs.RelativeError.{round_value}
use Rattle.doubles.proofs.ProductError.{zero_is, normal_size}
use Rattle.doubles.proofs.KeptDigits.{units_scaled}

-- x is ±a and x' is ±a' units of 2 ^ -1074, of one sign, and a' is a * 2 ^ u / 2 ^ v
pub record Scaled (u v : ℕ) (x x' : Float) : Type 0 where
  pub sign : Bool
  pub a : ℕ
  pub a' : ℕ
  pub value : HasValue x sign a (2 ^ 1074)
  pub value' : HasValue x' sign a' (2 ^ 1074)
  pub scaled : a' * 2 ^ v ≡ a * 2 ^ u
  pub fit : T (fits binary64 x)
  pub fit' : T (fits binary64 x')

-- ---- +0, a double as it is, and a factor written otherwise
pub zero_scaled : (u v : ℕ) → Scaled u v +0 +0
unfolding of_bits
zero_scaled u v =
    record { sign = false; a = 0; a' = 0; value = (refl, refl); value' = (refl, refl); scaled = zero-mul (2 ^ v) ∙ sym (zero-mul (2 ^ u)); fit = of_bits-fits binary64 0; fit' = of_bits-fits binary64 0 }

pub unscaled : (x : Float) → T (fits binary64 x) → T (is_finite x) → Scaled 0 0 x x
unscaled x f h = record { sign = sign x; a = size x; a' = size x; value = own x f h; value' = own x f h; scaled = refl; fit = f; fit' = f }

pub scaled_as : (u v s t : ℕ) (x x' : Float) → u + t ≡ s + v → Scaled u v x x' → Scaled s t x x'
scaled_as u v s t x x' e p = record { sign = p.sign; a = p.a; a' = p.a'; value = p.value; value' = p.value'; scaled = other p.a p.a' p.scaled; fit = p.fit; fit' = p.fit' }
  where
    other : (a a' : ℕ) → a' * 2 ^ v ≡ a * 2 ^ u → a' * 2 ^ t ≡ a * 2 ^ s
    other a a' f =
        eq_of_mul-eq-mul_right (2 ^ v) (pow_pos v) (a' * 2 ^ t) (a * 2 ^ s)
        (mul_right_comm a' (2 ^ t) (2 ^ v) ∙ ap (λ (z : ℕ). z * 2 ^ t) f ∙ mul_assoc a (2 ^ u) (2 ^ t) ∙ ap (λ (z : ℕ). a * z) (sym (pow-add 2 u t) ∙ ap (λ (z : ℕ). 2 ^ z) e ∙ pow-add 2 s v) ∙ sym (mul_assoc a (2 ^ s) (2 ^ v)))

-- ---- negation
pub neg_scaled : (u v : ℕ) (x x' : Float) → Scaled u v x x' → Scaled u v (neg x) (neg x')
neg_scaled u v x x' p =
    record {
      sign = not p.sign;
      a = p.a;
      a' = p.a';
      value = neg_value x p.sign p.a (2 ^ 1074) p.value;
      value' = neg_value x' p.sign p.a' (2 ^ 1074) p.value';
      scaled = p.scaled;
      fit = neg-fits binary64 x p.fit;
      fit' = neg-fits binary64 x' p.fit';
    }

-- ---- sums
sum_scaled : (s t : Bool) (a b a' b' u v : ℕ) → a' * 2 ^ v ≡ a * 2 ^ u → b' * 2 ^ v ≡ b * 2 ^ u → (sum_sign s a' t b' ≡ sum_sign s a t b) × (sum_size s a' t b' * 2 ^ v ≡ sum_size s a t b * 2 ^ u)
sum_scaled s t a b a' b' u v e f = (
  sym (sign_times s a' t b' (2 ^ v) (pow_pos v)) ∙ ap (λ (z : ℕ). sum_sign s z t (b' * 2 ^ v)) e ∙ ap (λ (z : ℕ). sum_sign s (a * 2 ^ u) t z) f ∙ sign_times s a t b (2 ^ u) (pow_pos u),
  sym (size_times s a' t b' (2 ^ v) (pow_pos v)) ∙ ap (λ (z : ℕ). sum_size s z t (b' * 2 ^ v)) e ∙ ap (λ (z : ℕ). sum_size s (a * 2 ^ u) t z) f ∙ size_times s a t b (2 ^ u) (pow_pos u),
)

-- a sum of doubles is a whole number of units, so that nothing is lost below 2 ^ -1022
pub add_scaled : (u v : ℕ) (x x' y y' : Float) → Scaled u v x x' → Scaled u v y y' → Clean⊕ x y → Clean⊕ x' y' → Scaled u v (x ⊕ y) (x' ⊕ y')
add_scaled u v x x' y y' p q h h' =
    let X = 2 ^ 1074 in
    let w = sum_sign p.sign p.a q.sign q.a in
    let m = sum_size p.sign p.a q.sign q.a in
    let m' = sum_size p.sign p.a' q.sign q.a' in
    let is : x ⊕ y ≡ round binary64 w m X = add_by x y p.sign q.sign p.a q.a X (pow_pos 1074) p.value q.value in
    let e = sum_scaled p.sign q.sign p.a q.a p.a' q.a' u v p.scaled q.scaled in
    let is' : x' ⊕ y' ≡ round binary64 w m' X = add_by x' y' p.sign q.sign p.a' q.a' X (pow_pos 1074) p.value' q.value' ∙ ap (λ (z : Bool). round binary64 z m' X) e.0 in
    record {
      sign = w;
      a = grid binary64 m X;
      a' = grid binary64 m' X;
      value = subst (λ (z : Float). HasValue z w (grid binary64 m X) X) (sym is) (round_value w m X (subst (λ (z : Float). T (is_finite z)) is (holds h)));
      value' = subst (λ (z : Float). HasValue z w (grid binary64 m' X) X) (sym is') (round_value w m' X (subst (λ (z : Float). T (is_finite z)) is' (holds h')));
      scaled = units_scaled m m' u v e.1;
      fit = add-fits binary64 x y;
      fit' = add-fits binary64 x' y';
    }

pub sub_scaled : (u v : ℕ) (x x' y y' : Float) → Scaled u v x x' → Scaled u v y y' → Clean⊕ x (neg y) → Clean⊕ x' (neg y') → Scaled u v (x ⊖ y) (x' ⊖ y')
unfolding lib.Ieee.sub
sub_scaled u v x x' y y' p q c c' = add_scaled u v x x' (neg y) (neg y') p (neg_scaled u v y y' q) c c'

-- ---- products
-- m units of 2 ^ -2148 are 0 or at least 2 ^ -1022
abbrev Large : ℕ → Type 0
Large m = (m ≡ 0) ⊎ (2 ^ 1126 ≤ m)

round_scaled : (w : Bool) (m m' u v : ℕ) → m' * 2 ^ v ≡ m * 2 ^ u → Large m → Large m' → T (is_finite (round binary64 w m (2 ^ 2148))) → T (is_finite (round binary64 w m' (2 ^ 2148)))
    → Scaled u v (round binary64 w m (2 ^ 2148)) (round binary64 w m' (2 ^ 2148))
round_scaled w m m' u v e l l' h h' = go l l'
  where
    C : 0 < 2 ^ 2148
    C = pow_pos 2148

    zeros : m ≡ 0 → m' ≡ 0 → Scaled u v (round binary64 w m (2 ^ 2148)) (round binary64 w m' (2 ^ 2148))
    zeros z z' =
        record {
          sign = w;
          a = 0;
          a' = 0;
          value = subst (λ (k : ℕ). HasValue (round binary64 w k (2 ^ 2148)) w 0 (2 ^ 1074)) (sym z) (zero_is w (2 ^ 2148) C);
          value' = subst (λ (k : ℕ). HasValue (round binary64 w k (2 ^ 2148)) w 0 (2 ^ 1074)) (sym z') (zero_is w (2 ^ 2148) C);
          scaled = zero-mul (2 ^ v) ∙ sym (zero-mul (2 ^ u));
          fit = round-fits binary64 w m (2 ^ 2148);
          fit' = round-fits binary64 w m' (2 ^ 2148);
        }

    go : Large m → Large m' → Scaled u v (round binary64 w m (2 ^ 2148)) (round binary64 w m' (2 ^ 2148))
    go (inl z) k = zeros z (zero_of m' (2 ^ v) (pow_pos v) (e ∙ ap (λ (k : ℕ). k * 2 ^ u) z ∙ zero-mul (2 ^ u)))
    go (inr k) (inl z') = zeros (zero_of m (2 ^ u) (pow_pos u) (sym e ∙ ap (λ (k : ℕ). k * 2 ^ v) z' ∙ zero-mul (2 ^ v))) z'
    go (inr k) (inr k') =
        record {
          sign = w;
          a = grid binary64 m (2 ^ 2148);
          a' = grid binary64 m' (2 ^ 2148);
          value = round_value w m (2 ^ 2148) h;
          value' = round_value w m' (2 ^ 2148) h';
          scaled =
              sym (grid_scale binary64 m' (2 ^ 2148) v C (normal_of_fraction binary64 m' (2 ^ 2148) C (normal_size m' k')))
              ∙ ap (λ (z : ℕ). grid binary64 z (2 ^ 2148)) e
              ∙ grid_scale binary64 m (2 ^ 2148) u C (normal_of_fraction binary64 m (2 ^ 2148) C (normal_size m k));
          fit = round-fits binary64 w m (2 ^ 2148);
          fit' = round-fits binary64 w m' (2 ^ 2148);
        }

product_scaled : (a b a' b' u v s t : ℕ) → a' * 2 ^ v ≡ a * 2 ^ u → b' * 2 ^ t ≡ b * 2 ^ s → a' * b' * 2 ^ (v + t) ≡ a * b * 2 ^ (u + s)
product_scaled a b a' b' u v s t e f =
    ap (λ (z : ℕ). a' * b' * z) (pow-add 2 v t) ∙ mul-mul-mul_comm a' b' (2 ^ v) (2 ^ t) ∙ ap (λ (z : ℕ). z * (b' * 2 ^ t)) e ∙ ap (λ (z : ℕ). a * 2 ^ u * z) f
    ∙ mul-mul-mul_comm a (2 ^ u) b (2 ^ s) ∙ ap (λ (z : ℕ). a * b * z) (sym (pow-add 2 u s))

product_size : (x y : Float) (s t : Bool) (a b : ℕ) → HasValue x s a (2 ^ 1074) → HasValue y t b (2 ^ 1074) → nat_abs (units x *ℤ units y) ≡ a * b
product_size x y s t a b h k =
    ap (λ (z : ℤ). nat_abs (z *ℤ units y)) (units_by x s a h) ∙ ap (λ (z : ℤ). nat_abs (signed s a *ℤ z)) (units_by y t b k) ∙ ap nat_abs (times_signed s t a b) ∙ size_signed (unlike s t) (a * b)

product_large : (x y : Float) (s t : Bool) (a b : ℕ) → HasValue x s a (2 ^ 1074) → HasValue y t b (2 ^ 1074) → NotTiny (2 ^ 1126) (units x *ℤ units y) → Large (a * b)
product_large x y s t a b h k n = subst Large (product_size x y s t a b h k) n

pub mul_scaled : (u v s t : ℕ) (x x' y y' : Float) → Scaled u v x x' → Scaled s t y y' → Clean⊗ x y → Clean⊗ x' y' → Scaled (u + s) (v + t) (x ⊗ y) (x' ⊗ y')
mul_scaled u v s t x x' y y' p q c c' =
    let w = unlike p.sign q.sign in
    let is : x ⊗ y ≡ round binary64 w (p.a * q.a) (2 ^ 2148) = mul_signed x y p.sign q.sign p.a (2 ^ 1074) q.a (2 ^ 1074) (pow_pos 1074) (pow_pos 1074) p.value q.value in
    let is' : x' ⊗ y' ≡ round binary64 w (p.a' * q.a') (2 ^ 2148) = mul_signed x' y' p.sign q.sign p.a' (2 ^ 1074) q.a' (2 ^ 1074) (pow_pos 1074) (pow_pos 1074) p.value' q.value' in
    subst (λ (z : Float). Scaled (u + s) (v + t) z (x' ⊗ y')) (sym is)
    (subst (λ (z : Float). Scaled (u + s) (v + t) (round binary64 w (p.a * q.a) (2 ^ 2148)) z) (sym is')
    (round_scaled w (p.a * q.a) (p.a' * q.a') (u + s) (v + t) (product_scaled p.a q.a p.a' q.a' u v s t p.scaled q.scaled)
    (product_large x y p.sign q.sign p.a q.a p.value q.value c.not_tiny)
    (product_large x' y' p.sign q.sign p.a' q.a' p.value' q.value' c'.not_tiny)
    (subst (λ (z : Float). T (is_finite z)) is (holds c.finite))
    (subst (λ (z : Float). T (is_finite z)) is' (holds c'.finite))))

-- factors that are scaled the other way round have one product, whatever it is
pub mul_undone : (s t : ℕ) (x x' y y' : Float) → Scaled t s x x' → Scaled s t y y' → x ⊗ y ≡ x' ⊗ y'
mul_undone s t x x' y y' p q =
    let w = unlike p.sign q.sign in
    let e : p.a' * q.a' ≡ p.a * q.a =
    eq_of_mul-eq-mul_right (2 ^ (s + t)) (pow_pos (s + t)) _ _ (product_scaled p.a q.a p.a' q.a' t s s t p.scaled q.scaled ∙ ap (λ (k : ℕ). p.a * q.a * 2 ^ k) (add_comm t s)) in
    mul_signed x y p.sign q.sign p.a (2 ^ 1074) q.a (2 ^ 1074) (pow_pos 1074) (pow_pos 1074) p.value q.value
    ∙ ap (λ (z : ℕ). round binary64 w z (2 ^ 2148)) (sym e)
    ∙ sym (mul_signed x' y' p.sign q.sign p.a' (2 ^ 1074) q.a' (2 ^ 1074) (pow_pos 1074) (pow_pos 1074) p.value' q.value')

-- a factor that both have, in front or behind; it is finite, since the product is
pub by_scaled : (u v : ℕ) (k y y' : Float) → T (fits binary64 k) → Scaled u v y y' → Clean⊗ k y → Clean⊗ k y' → Scaled u v (k ⊗ y) (k ⊗ y')
by_scaled u v k y y' f q c c' = scaled_as (0 + u) (0 + v) u v (k ⊗ y) (k ⊗ y') (omega arith) (mul_scaled 0 0 u v k k y y' (unscaled k f (mul_finite k y (holds c.finite)).0) q c c')

pub scaled_by : (u v : ℕ) (y y' k : Float) → T (fits binary64 k) → Scaled u v y y' → Clean⊗ y k → Clean⊗ y' k → Scaled u v (y ⊗ k) (y' ⊗ k)
scaled_by u v y y' k f q c c' = scaled_as (u + 0) (v + 0) u v (y ⊗ k) (y' ⊗ k) (omega arith) (mul_scaled u v 0 0 y y' k k q (unscaled k f (mul_finite y k (holds c.finite)).1) c c')
