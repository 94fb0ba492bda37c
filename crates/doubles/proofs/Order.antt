-- The order of the doubles that are not negative: +0, subnormal and normal numbers, and the infinity. It is the patterns' order, it is total, and a product grows with each factor, overflow included.
-- Assumes nothing.
use mathlib.Core.Path.{◌≡◌, refl, sym, ap, ◌∙◌, subst}
use mathlib.Core.Logic.{◌⊎◌, inl, inr}
use Prim.Native.Nat.{ℕ, zero, suc, ◌+◌, ◌*◌, ◌^◌, ◌≤◌, ◌<◌}
use native.Mathlib.Nat.{le_trans, lt_of_le_of_lt, lt_of_not-le, lt_irrefl, eq-or-lt_of_le, mul-zero, zero-mul, mul-le-mul_right, le_of_mul-le-mul_right, mul-pos, eq-zero-or-pos}
use native.Mathlib.Omega.{arith}
use mathlib.Core.Bool.{Bool, true, false, not, cond, true≢false}
use lib.IntN.{ℤ, pos}
use lib.Dec.{T, ltb, eqb, eqb-suc-zero}
use lib.Pow.{pow_pos}
use lib.Ieee.{Float, nan, inf, fin, Format, binary64, prec, emax, low, up, down, odd, units, round, add, sum, mul, le, lt, of_bits, is_nan}
use lib.Ieee.Fits.{down_pos, round_is}
use lib.Ieee.Exact.{HasValue, round_exact}
use lib.Ieee.Order.{le_of_values, transfer}
use Rattle.doubles.specs.Value.{val}
use Rattle.doubles.specs.F64.{+0, ◌⊕◌, ◌⩽◌, nonneg, ◌⋖◌}
use Rattle.doubles.proofs.Patterns.{bits_value, of_bits_inf, val_le}
use Rattle.doubles.proofs.Total.{le→before, before→le, le_highest, ⩽_trans, ⩽_or_⋖, ⋖_not, sign}
use Rattle.doubles.proofs.Monotone

abbrev pub infinite : Float → Bool
infinite nan = false
infinite (inf s) = true
infinite (fin s m e) = false

-- above zero, for a number
abbrev pub some : Float → Bool
some nan = false
some (inf s) = true
some (fin s m e) = ltb 0 m

-- a double with the sign clear is no NaN
pub nonneg_number : (x : Float) → T (nonneg x) → T (not (is_nan x))
unfolding is_nan
nonneg_number nan h = absurd h
nonneg_number (inf s) h = tt
nonneg_number (fin s m e) h = tt

-- ---- `le` of two numbers is the order of the fractions
pub le→cross : (m : ℕ) (e : ℤ) (n : ℕ) (d : ℤ) → T (le (fin false m e) (fin false n d)) → m * up e * down d ≤ n * up d * down e
le→cross m e n d t = let h = le→before false m e false n d t in omega arith

pub cross→le : (m : ℕ) (e : ℤ) (n : ℕ) (d : ℤ) → m * up e * down d ≤ n * up d * down e → T (le (fin false m e) (fin false n d))
cross→le m e n d h = before→le false m e false n d (omega arith)

pub le_inf : (x : Float) → T (nonneg x) → T (le x (inf false))
le_inf x h = le_highest x (nonneg_number x h)

-- a double that is not negative is a number m * 2 ^ e or the infinity: two cases to match on, where `Float` has five
pub data View : Float → Type 0 where
  endless : View (inf false)
  number : (m : ℕ) (e : ℤ) → View (fin false m e)

pub view : (x : Float) → T (nonneg x) → View x
view nan h = absurd h
view (inf true) h = absurd h
view (inf false) h = endless
view (fin true m e) h = absurd h
view (fin false m e) h = number m e

-- it is at least +0
pub nonneg_zero : (x : Float) → T (nonneg x) → T (+0 ⩽ x)
unfolding of_bits
nonneg_zero x h = go (view x h)
  where
    go : {x : Float} → View x → T (+0 ⩽ x)
    go endless = le_inf +0 tt
    go (number m e) = cross→le 0 (pos 0) m e (omega arith)

-- and its sign is clear
pub ⋖_nonneg : (r y : Float) → T (nonneg r) → T (r ⋖ y) → T (nonneg y)
unfolding lt
⋖_nonneg nan y p h = absurd p
⋖_nonneg (inf true) y p h = absurd p
⋖_nonneg (inf false) nan p h = absurd h
⋖_nonneg (inf false) (inf s) p h = absurd h
⋖_nonneg (inf false) (fin s n d) p h = absurd h
⋖_nonneg (fin true m e) y p h = absurd p
⋖_nonneg (fin false m e) nan p h = absurd h
⋖_nonneg (fin false m e) (inf s) p h = h
⋖_nonneg (fin false m e) (fin true n d) p h = absurd h
⋖_nonneg (fin false m e) (fin false n d) p h = tt

pub nonneg_sign : (x : Float) → T (nonneg x) → sign x ≡ false
nonneg_sign x h = go (view x h)
  where
    go : {x : Float} → View x → sign x ≡ false
    go endless = refl
    go (number m e) = refl

-- ---- the order is transitive and total, as it is on all doubles that are no NaN
pub le_trans_nonneg : (x y z : Float) → T (nonneg x) → T (nonneg y) → T (nonneg z) → T (le x y) → T (le y z) → T (le x z)
le_trans_nonneg x y z p q r h k = ⩽_trans x y z h k

pub le_or_above : (x y : Float) → T (nonneg x) → T (nonneg y) → T (le x y) ⊎ T (lt y x)
le_or_above x y p q = ⩽_or_⋖ x y (nonneg_number x p) (nonneg_number y q)

pub lt_not_le : (x y : Float) → T (nonneg x) → T (nonneg y) → T (lt x y) → T (le y x) → ⊥
lt_not_le x y p q h k = ⋖_not x y h k

-- ---- the order, by any fractions of one denominator
pub units_of_le : (x y : Float) (a b c : ℕ) → 0 < c → HasValue x false a c → HasValue y false b c → T (le x y) → a ≤ b
units_of_le nan y a b c C h k l = absurd h
units_of_le (inf s) y a b c C h k l = absurd h
units_of_le (fin true m e) y a b c C h k l = absurd (true≢false h.0)
units_of_le (fin false m e) nan a b c C h k l = absurd k
units_of_le (fin false m e) (inf s) a b c C h k l = absurd k
units_of_le (fin false m e) (fin true n d) a b c C h k l = absurd (true≢false k.0)
units_of_le (fin false m e) (fin false n d) a b c C h k l =
    le_of_mul-le-mul_right (transfer a b c c (m * up e) (n * up d) (down e) (down d) (down_pos e) (down_pos d) (sym h.1) (sym k.1) (le→cross m e n d l)) C

-- ---- the patterns' order
pub nonneg_of_value : (x : Float) (a c : ℕ) → HasValue x false a c → T (nonneg x)
nonneg_of_value nan a c h = h
nonneg_of_value (inf s) a c h = absurd h
nonneg_of_value (fin true m e) a c h = absurd (true≢false h.0)
nonneg_of_value (fin false m e) a c h = tt

pub bits_nonneg : (b : ℕ) → b ≤ 9218868437227405312 → T (nonneg (of_bits binary64 b))
bits_nonneg b h = elim (eq-or-lt_of_le h) [
  | inl e ↦ subst (λ (x : Float). T (nonneg x)) (sym (ap (of_bits binary64) e ∙ of_bits_inf)) tt
  | inr l ↦ nonneg_of_value (of_bits binary64 b) (val b) (2 ^ 1074) (bits_value b l)
]

pub bits_le : (b c : ℕ) → b ≤ c → c ≤ 9218868437227405312 → T (le (of_bits binary64 b) (of_bits binary64 c))
bits_le b c h k = elim (eq-or-lt_of_le k) [
  | inl e ↦ subst (λ (x : Float). T (le (of_bits binary64 b) x)) (sym (ap (of_bits binary64) e ∙ of_bits_inf)) (le_inf (of_bits binary64 b) (bits_nonneg b (le_trans h k)))
  | inr l ↦ le_of_values (of_bits binary64 b) (of_bits binary64 c) (val b) (2 ^ 1074) (val c) (2 ^ 1074) (pow_pos 1074) (pow_pos 1074) (bits_value b (lt_of_le_of_lt h l)) (bits_value c l) (mul-le-mul_right (2 ^ 1074) (val_le b c h))
]

-- so a double above another has the larger pattern
pub bits_lt_back : (b c : ℕ) → b ≤ 9218868437227405312 → c ≤ 9218868437227405312 → T (lt (of_bits binary64 b) (of_bits binary64 c)) → b < c
bits_lt_back b c h k t = lt_of_not-le (λ (g : c ≤ b). lt_not_le (of_bits binary64 b) (of_bits binary64 c) (bits_nonneg b h) (bits_nonneg c k) t (bits_le c b g h))

-- ---- what `round` gives, with the sign clear
nonneg_odd : (d q k l : ℕ) → T (nonneg (odd d false q k l))
unfolding odd
nonneg_odd d zero k l = tt
nonneg_odd d (suc q) k l = tt

nonneg_units : (f : Format) (q k : ℕ) → T (nonneg (units f false q k))
unfolding units
nonneg_units f q k = go (ltb (q * 2 ^ k) (2 ^ (low f + suc (emax f))))
  where
    go : (b : Bool) → T (nonneg (cond b (odd (suc (prec f)) false q k (low f)) (inf false)))
    go true = nonneg_odd (suc (prec f)) q k (low f)
    go false = tt

pub nonneg_round : (f : Format) (a c : ℕ) → T (nonneg (round f false a c))
nonneg_round f a c = subst (λ (x : Float). T (nonneg x)) (sym (round_is f false a c)) (nonneg_units f _ _)

-- a sum of two with the sign clear has it clear
pub nonneg_add : (x y : Float) → T (nonneg x) → T (nonneg y) → T (nonneg (x ⊕ y))
unfolding add sum
nonneg_add x y p q = go (view x p) (view y q)
  where
    go : {x y : Float} → View x → View y → T (nonneg (x ⊕ y))
    go endless endless = tt
    go endless (number n d) = tt
    go (number m e) endless = tt
    go (number m e) (number n d) = nonneg_round binary64 (m * up e * down d + n * up d * down e) (down e * down d)

pub round_zero_finite : (f : Format) (s : Bool) (a c : ℕ) → 0 < c → a ≡ 0 → T (infinite (round f s a c)) → ⊥
round_zero_finite f s a c C e t =
    no (round f s a c) a c (round_exact f s a c 0 0 C (pow_pos (prec f)) (subst (λ (z : ℕ). z < 2 ^ (low f + suc (emax f))) (sym (zero-mul (2 ^ 0))) (pow_pos (low f + suc (emax f)))) (ap (λ (z : ℕ). z * 2 ^ low f) e ∙ zero-mul (2 ^ low f) ∙ sym (zero-mul c))) t
  where
    no : (x : Float) (a c : ℕ) → HasValue x s a c → T (infinite x) → ⊥
    no nan a c h t = h
    no (inf u) a c h t = h
    no (fin u m e) a c h t = t

-- ---- the product: p is a product so far and n * 2 ^ d the next factor, a number. If p is the infinity then that factor is above zero.
pub record Fine (p : Float) (n : ℕ) : Type 0 where
  pub sign : T (nonneg p)
  pub grows : T (infinite p) → 0 < n

factor_zero : (a n u : ℕ) → n ≡ 0 → a * (n * u) ≡ 0
factor_zero a n u e = ap (λ (z : ℕ). a * (z * u)) e ∙ ap (λ (z : ℕ). a * z) (zero-mul u) ∙ mul-zero a

inf_mul : (n : ℕ) → 0 < n → cond (eqb n 0) nan (inf false) ≡ inf false
inf_mul zero t = absurd (lt_irrefl 0 t)
inf_mul (suc n) t = ap (λ (b : Bool). cond b nan (inf false)) (eqb-suc-zero n)

fine_view : {p : Float} (n : ℕ) (d : ℤ) → View p → (T (infinite p) → 0 < n) → Fine (mul binary64 p (fin false n d)) n
unfolding mul
fine_view n d endless g = subst (λ (x : Float). Fine x n) (sym (inf_mul n (g tt))) (record { sign = tt; grows = λ t. g tt })
fine_view n d (number m e) g =
    record {
      sign = nonneg_round binary64 (m * up e * (n * up d)) (down e * down d);
      grows = λ t. elim (eq-zero-or-pos n) [ inl z ↦ absurd (round_zero_finite binary64 false (m * up e * (n * up d)) (down e * down d) (mul-pos (down_pos e) (down_pos d)) (factor_zero (m * up e) n (up d) z) t) | inr l ↦ l ];
    }

pub mul_fine : (p : Float) (n : ℕ) (d : ℤ) → Fine p n → Fine (mul binary64 p (fin false n d)) n
mul_fine p n d h = fine_view n d (view p h.sign) h.grows

pub mul_fine_mono : (p p' : Float) (n : ℕ) (d : ℤ) (n' : ℕ) (d' : ℤ) → Fine p n → Fine p' n' → T (le p p') → T (le (fin false n d) (fin false n' d')) → T (le (mul binary64 p (fin false n d)) (mul binary64 p' (fin false n' d')))
mul_fine_mono p p' n d n' d' a b h k =
    Monotone.mul_mono p p' (fin false n d) (fin false n' d') (nonneg_zero p a.sign) (nonneg_zero (fin false n d) tt) h k
    (nonneg_number (mul binary64 p (fin false n d)) (mul_fine p n d a).sign) (nonneg_number (mul binary64 p' (fin false n' d')) (mul_fine p' n' d' b).sign)
