-- A sum, a product and a quotient of doubles that are not negative, by any fractions that their operands equal. Assumes nothing.
use mathlib.Core.Path.{◌≡◌, refl, sym, ap, ◌∙◌, subst}
use Prim.Native.Nat.{ℕ, zero, suc, ◌+◌, ◌*◌, ◌<◌}
use native.Mathlib.Nat.{lt_irrefl, mul_comm, mul_assoc, mul_left_comm, mul-pos, zero-mul, zero-lt-suc, eq_of_mul-eq-mul_right}
use mathlib.Core.Bool.{Bool, true, false, cond, true≢false}
use lib.Dec.{eqb, eqb-suc-zero}
use lib.Ieee.{Float, nan, inf, fin, binary64, unlike, up, down, round, add, mul, div}
use lib.Ieee.Fits.{up_pos, down_pos}
use lib.Ieee.Exact.{HasValue}
use lib.Ieee.Scale.{round_same}
use Rattle.doubles.proofs.OneRounding.{add_by, mul_signed}

-- ---- a sum by any fractions of one denominator that its terms equal
pub add_units : (x y : Float) (a b c : ℕ) → 0 < c → HasValue x false a c → HasValue y false b c → add binary64 x y ≡ round binary64 false (a + b) c
add_units x y a b c C h k = add_by x y false false a b c C h k

-- ---- a product and a quotient by any fractions that their terms equal
pub mul_by : (x y : Float) (a c b d : ℕ) → 0 < c → 0 < d → HasValue x false a c → HasValue y false b d → mul binary64 x y ≡ round binary64 false (a * b) (c * d)
mul_by x y a c b d C D h k = mul_signed x y false false a c b d C D h k

pub not_zero_test : (n : ℕ) → 0 < n → eqb n 0 ≡ false
not_zero_test zero h = absurd (lt_irrefl 0 h)
not_zero_test (suc n) h = eqb-suc-zero n

value_pos : (n u b D c : ℕ) → n * u * D ≡ b * c → 0 < b → 0 < c → 0 < n
value_pos zero u b D c e B C = absurd (lt_irrefl 0 (subst (λ (z : ℕ). 0 < z) (sym e ∙ ap (λ (z : ℕ). z * D) (zero-mul u) ∙ zero-mul D) (mul-pos B C)))
value_pos (suc n) u b D c e B C = zero-lt-suc n

pub div_by : (x y : Float) (a b c : ℕ) → 0 < c → 0 < b → HasValue x false a c → HasValue y false b c → div binary64 x y ≡ round binary64 false a b
unfolding div
div_by nan y a b c C B h k = absurd h
div_by (inf s) y a b c C B h k = absurd h
div_by (fin true m e) y a b c C B h k = absurd (true≢false h.0)
div_by (fin false m e) nan a b c C B h k = absurd k
div_by (fin false m e) (inf s) a b c C B h k = absurd k
div_by (fin false m e) (fin true n d) a b c C B h k = absurd (true≢false k.0)
div_by (fin false m e) (fin false n d) a b c C B h k =
    let N : 0 < n = value_pos n (up d) b c (down d) k.1 B (down_pos d) in
    ap (λ (t : Bool). cond t (cond (eqb m 0) nan (inf false)) (round binary64 false (m * up e * down d) (n * up d * down e))) (not_zero_test n N)
    ∙ round_same binary64 false (m * up e * down d) (n * up d * down e) a b (mul-pos (mul-pos N (up_pos d)) (down_pos e)) B
    (eq_of_mul-eq-mul_right c C (m * up e * down d * b) (a * (n * up d * down e))
    (left (m * up e) (down d) b c ∙ ap (λ (z : ℕ). z * (b * down d)) h.1 ∙ ap (λ (z : ℕ). a * down e * z) (sym k.1) ∙ right a (down e) (n * up d) c))
  where
    left : (x d b c : ℕ) → x * d * b * c ≡ x * c * (b * d)
    left x d b c = simp (mul_assoc, mul_comm, mul_left_comm)

    right : (a e n c : ℕ) → a * e * (n * c) ≡ a * (n * e) * c
    right a e n c = simp (mul_assoc, mul_comm, mul_left_comm)

-- ---- a product does not turn on the order of its factors
unlike_comm : (s t : Bool) → unlike s t ≡ unlike t s
unlike_comm true true = refl
unlike_comm true false = refl
unlike_comm false true = refl
unlike_comm false false = refl

pub mul_commutes : (x y : Float) → mul binary64 x y ≡ mul binary64 y x
unfolding mul
mul_commutes nan nan = refl
mul_commutes nan (inf t) = refl
mul_commutes nan (fin t n d) = refl
mul_commutes (inf s) nan = refl
mul_commutes (inf s) (inf t) = ap inf (unlike_comm s t)
mul_commutes (inf s) (fin t n d) = ap (λ (b : Bool). cond (eqb n 0) nan (inf b)) (unlike_comm s t)
mul_commutes (fin s m e) nan = refl
mul_commutes (fin s m e) (inf t) = ap (λ (b : Bool). cond (eqb m 0) nan (inf b)) (unlike_comm s t)
mul_commutes (fin s m e) (fin t n d) =
    ap (λ (b : Bool). round binary64 b (m * up e * (n * up d)) (down e * down d)) (unlike_comm s t)
    ∙ ap (λ (a : ℕ). round binary64 (unlike t s) a (down e * down d)) (mul_comm (m * up e) (n * up d))
    ∙ ap (λ (c : ℕ). round binary64 (unlike t s) (n * up d * (m * up e)) c) (mul_comm (down e) (down d))
