-- A common power of two changes no comparison, and goes through sizes and maxima. Assumes nothing.
use Rattle.std.specs.Prelude.{if◌then◌else◌}
use mathlib.Core.Path.{◌≡◌, refl, sym, ap, ◌∙◌, subst}
use Prim.Native.Nat.{ℕ, ◌+◌, ◌*◌, ◌^◌, ◌<◌}
use native.Mathlib.Nat.{mul_comm, mul_assoc, mul_right_comm, mul-pos, zero-mul, add-mul, eq_of_mul-eq-mul_right}
use mathlib.Core.Bool.{Bool, true, false, ◌&&◌, ◌||◌, beq}
use lib.Dec.{ltb, eqb, eqb→eq}
use lib.Pow.{pow_pos}
use lib.Ieee.{Float, nan, inf, fin, up, down, below, level, lt, eq}
use lib.Ieee.Fits.{down_pos, eq→eqb}
use lib.Ieee.Exact.{HasValue}
use Rattle.doubles.specs.F64.{◌⋖◌, abs, replaced, max_num}
use Rattle.doubles.proofs.Total.{bool_eq}
use Rattle.doubles.proofs.Magnitude.{abs_fits}
use Rattle.doubles.proofs.OneRounding.{ltb_times}
use Rattle.doubles.proofs.Scaled.{Scaled}

-- ---- the tests of `lt` and `eq` on ±a and ±b, and a common factor
eqb_times : (a b k : ℕ) → 0 < k → eqb (a * k) (b * k) ≡ eqb a b
eqb_times a b k h = bool_eq (eqb (a * k) (b * k)) (eqb a b)
    (λ t. eq→eqb (eq_of_mul-eq-mul_right k h a b (eqb→eq (a * k) (b * k) t)))
    (λ t. eq→eqb (ap (λ (z : ℕ). z * k) (eqb→eq a b t)))

below_times : (s : Bool) (a : ℕ) (t : Bool) (b k : ℕ) → 0 < k → below s (a * k) t (b * k) ≡ below s a t b
below_times false a false b k h = ltb_times a b k h
below_times false a true b k h = refl
below_times true a false b k h = ap (λ (z : ℕ). ltb 0 z) (sym (add-mul a b k)) ∙ ap (λ (z : ℕ). ltb z ((a + b) * k)) (sym (zero-mul k)) ∙ ltb_times 0 (a + b) k h
below_times true a true b k h = ltb_times b a k h

level_times : (s : Bool) (a : ℕ) (t : Bool) (b k : ℕ) → 0 < k → level s (a * k) t (b * k) ≡ level s a t b
level_times s a t b k h =
    ap (λ (z : Bool). z && (beq s t || eqb (a * k) 0)) (eqb_times a b k h)
    ∙ ap (λ (z : Bool). eqb a b && (beq s t || z)) (ap (λ (z : ℕ). eqb (a * k) z) (sym (zero-mul k)) ∙ eqb_times a 0 k h)

-- ---- such a test P, of doubles that are ±a and ±b units
cross : (m a k l X : ℕ) → m * X ≡ a * k → m * l * X ≡ a * (k * l)
cross m a k l X e = mul_right_comm m l X ∙ ap (λ (z : ℕ). z * l) e ∙ mul_assoc a k l

module _ (P : Bool → ℕ → Bool → ℕ → Bool) (times : (s : Bool) (a : ℕ) (t : Bool) (b k : ℕ) → 0 < k → P s (a * k) t (b * k) ≡ P s a t b) where
  in_units : (s t : Bool) (A B a b k l : ℕ) → 0 < k → 0 < l → A * 2 ^ 1074 ≡ a * k → B * 2 ^ 1074 ≡ b * l → P s (A * l) t (B * k) ≡ P s a t b
  in_units s t A B a b k l K L e f =
      sym (times s (A * l) t (B * k) (2 ^ 1074) (pow_pos 1074))
      ∙ ap (λ (z : ℕ). P s z t (B * k * 2 ^ 1074)) (cross A a k l (2 ^ 1074) e)
      ∙ ap (λ (z : ℕ). P s (a * (k * l)) t z) (cross B b l k (2 ^ 1074) f ∙ ap (λ (z : ℕ). b * z) (mul_comm l k))
      ∙ times s a t b (k * l) (mul-pos K L)

  moved : (s t : Bool) (a b a' b' u v : ℕ) → a' * 2 ^ v ≡ a * 2 ^ u → b' * 2 ^ v ≡ b * 2 ^ u → P s a t b ≡ P s a' t b'
  moved s t a b a' b' u v e f =
      sym (times s a t b (2 ^ u) (pow_pos u)) ∙ ap (λ (z : ℕ). P s z t (b * 2 ^ u)) (sym e) ∙ ap (λ (z : ℕ). P s (a' * 2 ^ v) t z) (sym f) ∙ times s a' t b' (2 ^ v) (pow_pos v)

lt_units : (x y : Float) (s t : Bool) (a b : ℕ) → HasValue x s a (2 ^ 1074) → HasValue y t b (2 ^ 1074) → lt x y ≡ below s a t b
unfolding lt
lt_units nan y s t a b h k = absurd h
lt_units (inf r) y s t a b h k = absurd h
lt_units (fin r m e) nan s t a b h k = absurd k
lt_units (fin r m e) (inf q) s t a b h k = absurd k
lt_units (fin r m e) (fin q n d) s t a b h k =
    ap (λ (z : Bool). below z (m * up e * down d) q (n * up d * down e)) h.0 ∙ ap (λ (z : Bool). below s (m * up e * down d) z (n * up d * down e)) k.0
    ∙ in_units below below_times s t (m * up e) (n * up d) a b (down e) (down d) (down_pos e) (down_pos d) h.1 k.1

eq_units : (x y : Float) (s t : Bool) (a b : ℕ) → HasValue x s a (2 ^ 1074) → HasValue y t b (2 ^ 1074) → eq x y ≡ level s a t b
unfolding eq
eq_units nan y s t a b h k = absurd h
eq_units (inf r) y s t a b h k = absurd h
eq_units (fin r m e) nan s t a b h k = absurd k
eq_units (fin r m e) (inf q) s t a b h k = absurd k
eq_units (fin r m e) (fin q n d) s t a b h k =
    ap (λ (z : Bool). level z (m * up e * down d) q (n * up d * down e)) h.0 ∙ ap (λ (z : Bool). level s (m * up e * down d) z (n * up d * down e)) k.0
    ∙ in_units level level_times s t (m * up e) (n * up d) a b (down e) (down d) (down_pos e) (down_pos d) h.1 k.1

pub lt_scaled : (u v : ℕ) (x x' y y' : Float) → Scaled u v x x' → Scaled u v y y' → (x ⋖ y) ≡ (x' ⋖ y')
lt_scaled u v x x' y y' p q =
    lt_units x y p.sign q.sign p.a q.a p.value q.value
    ∙ moved below below_times p.sign q.sign p.a q.a p.a' q.a' u v p.scaled q.scaled
    ∙ sym (lt_units x' y' p.sign q.sign p.a' q.a' p.value' q.value')

pub eq_scaled : (u v : ℕ) (x x' y y' : Float) → Scaled u v x x' → Scaled u v y y' → eq x y ≡ eq x' y'
eq_scaled u v x x' y y' p q =
    eq_units x y p.sign q.sign p.a q.a p.value q.value
    ∙ moved level level_times p.sign q.sign p.a q.a p.a' q.a' u v p.scaled q.scaled
    ∙ sym (eq_units x' y' p.sign q.sign p.a' q.a' p.value' q.value')

-- ---- sizes and maxima
abs_value : (x : Float) (s : Bool) (a c : ℕ) → HasValue x s a c → HasValue (abs x) false a c
abs_value nan s a c h = h
abs_value (inf t) s a c h = h
abs_value (fin t m e) s a c h = (refl, h.1)

pub abs_scaled : (u v : ℕ) (x x' : Float) → Scaled u v x x' → Scaled u v (abs x) (abs x')
abs_scaled u v x x' p =
    record {
      sign = false;
      a = p.a;
      a' = p.a';
      value = abs_value x p.sign p.a (2 ^ 1074) p.value;
      value' = abs_value x' p.sign p.a' (2 ^ 1074) p.value';
      scaled = p.scaled;
      fit = abs_fits x p.fit;
      fit' = abs_fits x' p.fit';
    }

replaced_is : (x y : Float) (b : Bool) (s : Bool) (a : ℕ) → HasValue x s a (2 ^ 1074) → replaced x y b ≡ (if b then y else x)
unfolding replaced
replaced_is nan y b s a h = absurd h
replaced_is (inf t) y b s a h = absurd h
replaced_is (fin t m e) y b s a h = refl

pub max_scaled : (u v : ℕ) (x x' y y' : Float) → Scaled u v x x' → Scaled u v y y' → Scaled u v (max_num x y) (max_num x' y')
unfolding max_num
max_scaled u v x x' y y' p q =
    subst (λ (z : Float). Scaled u v z (replaced x' y' (x' ⋖ y'))) (sym (replaced_is x y (x ⋖ y) p.sign p.a p.value))
    (subst (λ (z : Float). Scaled u v (if x ⋖ y then y else x) z) (sym (replaced_is x' y' (x' ⋖ y') p.sign p.a' p.value'))
    (subst (λ (z : Bool). Scaled u v (if x ⋖ y then y else x) (if z then y' else x')) (lt_scaled u v x x' y y' p q) (pick (x ⋖ y))))
  where
    pick : (b : Bool) → Scaled u v (if b then y else x) (if b then y' else x')
    pick true = q
    pick false = p
