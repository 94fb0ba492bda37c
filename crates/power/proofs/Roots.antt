-- What the root is: of a finite t above 0, a finite double that is not negative, whose q factors give at most t; and q factors of any finite double above it give more than t. Assumes nothing.
use Rattle.std.proofs.Common.{◌≡◌, ℕ, zero, suc, ◌-◌, ◌*◌, ◌^◌, ◌<◌, ◌≤◌, Bool, true, false, not, T, ltb, ◌⊎◌, ℤ, pos, sym, refl, ap, subst, inl, inr, lt_of_lt_of_le, lt_of_le_of_lt, le_of_lt, le_antisymm, zero-mul, arith, lit≤, ltb→lt, lt→ltb, pow_pos}
use lib.Ieee.{Float, nan, inf, fin, binary64, up, down, mul, le, lt, of_bits, to_bits, fits, is_nan}
use lib.Ieee.Fits.{and_i, and_l, and_r, mul-fits}
use lib.Ieee.Bits.{of_bits-to_bits, of_bits-fits}
use lib.Ieee.Exact.{HasValue}
use Rattle.doubles.proofs.Sizes.{nonneg_bits}
use Rattle.doubles.specs.Value.{val}
use Rattle.doubles.specs.F64.{◌⊗◌, ◌⩽◌, 1f, is_finite, nonneg}
use Rattle.doubles.proofs.Total.{⩽_refl, ⩽_trans, ⩽_or_⋖, ⋖_not, ⋖_⩽}
use Rattle.doubles.proofs.Monotone.{mul_grows}
use Rattle.doubles.proofs.Order.{nonneg_number, nonneg_zero, Fine, mul_fine, mul_fine_mono, bits_le, bits_nonneg, bits_lt_back, le_trans_nonneg, le_or_above, lt_not_le, cross→le, units_of_le, ⋖_nonneg}
use Rattle.doubles.proofs.Unique.{value_unique, units_of, bits_finite}
use Rattle.lists.specs.Greatest.{greatest}
use Rattle.lists.proofs.Greatest.{Greatest, greatest_is}
use Rattle.power.specs.Power.{times, power, within, root}

-- ---- q factors, of a number that is not negative
times_fine : (n : ℕ) (d : ℤ) (k : ℕ) → Fine (times (fin false n d) k) n
unfolding times
times_fine n d zero = record { sign = tt; grows = λ t. absurd t }
times_fine n d (suc k) = mul_fine (times (fin false n d) k) n d (times_fine n d k)

times_mono : (n : ℕ) (d : ℤ) (n' : ℕ) (d' : ℤ) (k : ℕ) → T (le (fin false n d) (fin false n' d')) → T (le (times (fin false n d) k) (times (fin false n' d') k))
unfolding times
times_mono n d n' d' zero h = h
times_mono n d n' d' (suc k) h =
    mul_fine_mono (times (fin false n d) k) (times (fin false n' d') k) n d n' d' (times_fine n d k) (times_fine n' d' k) (times_mono n d n' d' k h) h

-- a finite double that is not negative is fin false n d
abbrev Number : Float → Type 0
Number x = (n : ℕ) × (d : ℤ) × (x ≡ fin false n d)

number_of : (x : Float) → T (is_finite x) → T (nonneg x) → Number x
number_of nan h k = absurd h
number_of (inf s) h k = absurd h
number_of (fin true n d) h k = absurd k
number_of (fin false n d) h k = (n, d, refl)

pub power_nonneg : (x : Float) (q : ℕ) → T (is_finite x) → T (nonneg x) → T (nonneg (power x q))
power_nonneg x q h k = let v = number_of x h k in subst (λ (y : Float). T (nonneg (power y q))) (sym v.2) (times_fine v.0 v.1 (q - 1)).sign

pub power_mono : (x y : Float) (q : ℕ) → T (is_finite x) → T (nonneg x) → T (is_finite y) → T (nonneg y) → T (le x y) → T (le (power x q) (power y q))
power_mono x y q h k h' k' l =
    let v = number_of x h k in
    let w = number_of y h' k' in
    subst (λ (z : Float). T (le (power z q) (power y q))) (sym v.2)
    (subst (λ (z : Float). T (le (power (fin false v.0 v.1) q) (power z q))) (sym w.2)
    (times_mono v.0 v.1 w.0 w.1 (q - 1) (subst (λ (z : Float). T (le (fin false v.0 v.1) z)) w.2 (subst (λ (z : Float). T (le z y)) v.2 l))))

-- ---- by patterns
module _ (t : Float) (q : ℕ) (tp : T (nonneg t)) where
  pub down_closed : (a b : ℕ) → a ≤ b → T (within t q b) → T (within t q a)
  down_closed a b h p =
      let lb : b < 9218868437227405312 = ltb→lt b 9218868437227405312 (and_l (ltb b 9218868437227405312) (le (power (of_bits binary64 b) q) t) p) in
      let la : a < 9218868437227405312 = lt_of_le_of_lt h lb in
      let x = of_bits binary64 a in
      let y = of_bits binary64 b in
      let nx = bits_nonneg a (le_of_lt la) in
      let ny = bits_nonneg b (le_of_lt lb) in
      and_i (ltb a 9218868437227405312) (le (power x q) t) (lt→ltb a 9218868437227405312 la)
      (le_trans_nonneg (power x q) (power y q) t (power_nonneg x q (bits_finite a la) nx) (power_nonneg y q (bits_finite b lb) ny) tp
      (power_mono x y q (bits_finite a la) nx (bits_finite b lb) ny (bits_le a b h (le_of_lt lb)))
      (and_r (ltb b 9218868437227405312) (le (power y q) t) p))

  -- 0 passes: its product is 0
  zero_times : (k : ℕ) → times (fin false 0 (pos 0)) k ≡ fin false 0 (pos 0)
  unfolding times mul
  zero_times zero = refl
  zero_times (suc k) = ap (λ (x : Float). mul binary64 x (fin false 0 (pos 0))) (zero_times k)

  zero_le_any : (x : Float) → T (nonneg x) → T (le (fin false 0 (pos 0)) x)
  zero_le_any nan h = absurd h
  zero_le_any (inf true) h = absurd h
  zero_le_any (inf false) h = unfold le in tt
  zero_le_any (fin true m e) h = absurd h
  zero_le_any (fin false m e) h = cross→le 0 (pos 0) m e (none (0 * 1 * down e) (m * up e * 1) (zero-mul (down e)))
    where
      none : (a b : ℕ) → a ≡ 0 → a ≤ b
      none a b e = omega arith

  zero_bits : of_bits binary64 0 ≡ fin false 0 (pos 0)
  unfolding of_bits
  zero_bits = refl

  pub zero_passes : T (within t q 0)
  zero_passes = subst (λ (x : Float). T (le (power x q) t)) (sym zero_bits) (subst (λ (x : Float). T (le x t)) (sym (zero_times (q - 1))) (zero_le_any t tp))

  found : Greatest (within t q) 0 (2 ^ 63) (greatest (within t q) 63 0)
  found = greatest_is (within t q) down_closed 63 zero_passes

-- ---- the law
pub record Root (t : Float) (q : ℕ) (r : Float) : Type 0 where
  pub finite : T (is_finite r)
  pub sign : T (nonneg r)
  pub at_most : T (le (power r q) t)
  pub greatest : (y : Float) → T (fits binary64 y) → T (is_finite y) → T (lt r y) → T (lt t (power y q))

pub root_law : (t : Float) (q : ℕ) → T (nonneg t) → Root t q (of_bits binary64 (greatest (within t q) 63 0))
root_law t q tp =
    let g = greatest (within t q) 63 0 in
    let f = found t q tp in
    let pass = f.passes in
    let lg : g < 9218868437227405312 = ltb→lt g 9218868437227405312 (and_l (ltb g 9218868437227405312) (le (power (of_bits binary64 g) q) t) pass) in
    let sign = bits_nonneg g (le_of_lt lg) in
    record {
      finite = bits_finite g lg;
      sign = sign;
      at_most = and_r (ltb g 9218868437227405312) (le (power (of_bits binary64 g) q) t) pass;
      greatest = λ y fy ny h.
          let py = ⋖_nonneg (of_bits binary64 g) y sign h in
          let b = to_bits binary64 y in
          let lb : b < 9218868437227405312 = nonneg_bits y fy ny py in
          let back = of_bits-to_bits binary64 y fy in
          let gb : g < b = bits_lt_back g b (le_of_lt lg) (le_of_lt lb) (subst (λ (x : Float). T (lt (of_bits binary64 g) x)) (sym back) h) in
          elim (le_or_above (power y q) t (power_nonneg y q ny py) tp) [
            | inl l ↦ absurd (f.last b gb (lt_of_lt_of_le lb (lit≤ tt)) (and_i (ltb b 9218868437227405312) (le (power (of_bits binary64 b) q) t) (lt→ltb b 9218868437227405312 lb) (subst (λ (x : Float). T (le (power x q) t)) (sym back) l)))
            | inr a ↦ a
          ];
    }

pub root_is : (m : ℕ) (e : ℤ) (q : ℕ) → Root (fin false (suc m) e) q (root (fin false (suc m) e) q)
unfolding root
root_is m e q = root_law (fin false (suc m) e) q tt

-- no other double has the property: of two, neither is above the other
pub root_unique : (t : Float) (q : ℕ) (r s : Float) → T (nonneg t) → T (fits binary64 r) → T (fits binary64 s) → Root t q r → Root t q s → r ≡ s
root_unique t q r s tp fr fs a b =
    value_unique r s false (val (to_bits binary64 r)) (2 ^ 1074) (pow_pos 1074) fr fs (units_of r fr a.finite a.sign)
    (subst (λ (n : ℕ). HasValue s false n (2 ^ 1074)) (sym (le_antisymm (half r s fr fs a b) (half s r fs fr b a))) (units_of s fs b.finite b.sign))
  where
    half : (r s : Float) → T (fits binary64 r) → T (fits binary64 s) → Root t q r → Root t q s → val (to_bits binary64 r) ≤ val (to_bits binary64 s)
    half r s fr fs a b = elim (le_or_above r s a.sign b.sign) [
      | inl l ↦ units_of_le r s (val (to_bits binary64 r)) (val (to_bits binary64 s)) (2 ^ 1074) (pow_pos 1074) (units_of r fr a.finite a.sign) (units_of s fs b.finite b.sign) l
      | inr g ↦ absurd (lt_not_le t (power r q) tp (power_nonneg r q a.finite a.sign) (b.greatest r fr a.finite g) a.at_most)
    ]

-- ---- a root of at most 1
pub times_fits : (y : Float) (k : ℕ) → T (fits binary64 y) → T (fits binary64 (times y k))
unfolding times
times_fits y zero f = f
times_fits y (suc k) f = mul-fits binary64 (times y k) y

-- with a factor of at least 1 the product only grows
times_grows : (n : ℕ) (d : ℤ) (k : ℕ) → T (fits binary64 (fin false n d)) → T (1f ⩽ fin false n d) → T (fin false n d ⩽ times (fin false n d) k)
unfolding times
times_grows n d zero f l = ⩽_refl (fin false n d) (nonneg_number (fin false n d) tt)
times_grows n d (suc k) f l =
    let y = fin false n d in
    let p = (times_fine n d k).sign in
    ⩽_trans y (times y k) (times y k ⊗ y) (times_grows n d k f l)
    (mul_grows (times y k) y (times_fits y k f) (nonneg_zero (times y k) p) l (nonneg_number (times y k ⊗ y) (times_fine n d (suc k)).sign))

-- the root of what is at most 1 is NaN, or a finite double from 0 to 1
pub root_le_one : (t : Float) (q : ℕ) → T (t ⩽ 1f) → (root t q ≡ nan) ⊎ (T (is_finite (root t q)) × T (nonneg (root t q)) × T (root t q ⩽ 1f))
root_le_one nan q l = inl (unfold root in refl)
root_le_one (inf true) q l = inl (unfold root in refl)
root_le_one (inf false) q l = absurd (no l)
  where
    no : T (inf false ⩽ 1f) → ⊥
    no l = unfold le of_bits in l
root_le_one (fin s zero e) q l = inr (zero_root s e)
  where
    zero_root : (s : Bool) (e : ℤ) → T (is_finite (root (fin s 0 e) q)) × T (nonneg (root (fin s 0 e) q)) × T (root (fin s 0 e) q ⩽ 1f)
    zero_root s e = unfold root of_bits le in (tt, tt, tt)
root_le_one (fin true (suc m) e) q l = inl (unfold root in refl)
root_le_one (fin false (suc m) e) q l =
    let r = root_is m e q in
    inr (
      r.finite,
      r.sign,
      elim (⩽_or_⋖ (root (fin false (suc m) e) q) 1f (nonneg_number _ r.sign) one_number) [
        | inl a ↦ a
        | inr b ↦ absurd (⋖_not 1f (root (fin false (suc m) e) q) b (⩽_trans (root (fin false (suc m) e) q) (fin false (suc m) e) 1f
            (⩽_trans (root (fin false (suc m) e) q) (power (root (fin false (suc m) e) q) q) (fin false (suc m) e) (grown (root (fin false (suc m) e) q) (root_fits m e) r.finite r.sign (⋖_⩽ 1f (root (fin false (suc m) e) q) b)) r.at_most) l))
      ],
    )
  where
    one_number : T (not (is_nan 1f))
    one_number = unfold of_bits is_nan in tt

    root_fits : (m : ℕ) (e : ℤ) → T (fits binary64 (root (fin false (suc m) e) q))
    root_fits m e = unfold root in of_bits-fits binary64 (greatest (within (fin false (suc m) e) q) 63 0)

    grown : (r : Float) → T (fits binary64 r) → T (is_finite r) → T (nonneg r) → T (1f ⩽ r) → T (r ⩽ power r q)
    grown nan f h p l = absurd h
    grown (inf s) f h p l = absurd h
    grown (fin true n d) f h p l = absurd p
    grown (fin false n d) f h p l = times_grows n d (q - 1) f l
