-- A retry is no longer than what was tried: with 0 ≤ y ≤ 1 the double 0.9 * t * y, rounded up to two digits, is NaN or at most t. Assumes nothing.
use mathlib.Core.Path.{◌≡◌, refl, sym, ap, ◌∙◌, subst}
use mathlib.Core.Logic.{◌⊎◌, inl, inr}
use Prim.Native.Nat.{ℕ, zero, suc, ◌+◌, ◌-◌, ◌*◌, ◌/◌, ◌%◌, ◌^◌, ◌≤◌, ◌<◌}
use native.Mathlib.Nat.{le_refl, le_trans, le_of_eq, add-le-add, le_of_lt, eq-or-lt_of_le, eq-zero-or-pos, mul-one, mul_comm, mul_assoc, mul_left_comm, mul-pos, mul-le-mul_right, mul-le-mul, le_of_mul-le-mul_right, div-mul-le_self, mul-div-mul_right, le_of_suc-le-suc, not-suc-le-zero, div-add-mod', mod-lt}
use native.Mathlib.Numerals.{lt-add-one}
use native.Mathlib.Omega.{arith}
use mathlib.Core.Bool.{Bool, true, false, ◌&&◌, cond}
use lib.IntN.{ℤ, negsuc}
use lib.Dec.{T, leb, ltb, leb→le, ltb→lt, lit≤, lit<, lt→ltb}
use lib.Pow.{pow_pos, pow-add}
use lib.Arith.{digits_div}
use lib.Ieee.{Float, nan, inf, fin, binary64, size, round, mul, div, le, lt, of_bits, to_bits, fits}
use lib.Ieee.Fits.{and_l, and_r, and_i, mul-fits}
use lib.Ieee.Digits.{size_reaches}
use lib.Ieee.Exact.{HasValue}
use lib.Ieee.Back.{round_whole}
use lib.Ieee.Nearest.{closest, closest_same, div_mono}
use lib.Ieee.Order.{round_mono}
use lib.Ieee.Scale.{grid, finite, round_val, round_under}
use Rattle.lists.proofs.Bounds.{pred_lt}
use Rattle.doubles.specs.Value.{val}
use Rattle.doubles.specs.F64.{◌⩽◌, 1f, is_finite, nonneg}
use Rattle.doubles.specs.Whole.{ceil}
use Rattle.doubles.proofs.Unique.{finite_of_value, round_self, val_under, units_of}
use Rattle.doubles.proofs.Monotone.{mul_number, mul_shrinks}
use Rattle.doubles.proofs.Sizes.{finite_under, nonneg_bits}
use Rattle.doubles.proofs.Signs.{mul_sign}
use Rattle.doubles.proofs.Ceiling.{ceil_under}
use Rattle.doubles.proofs.Total.{⋖_⩽}
use Rattle.doubles.proofs.Order.{view, le_or_above, nonneg_round, nonneg_zero, units_of_le}
use Rattle.doubles.proofs.Nearest.{closest_near}
use Rattle.doubles.proofs.Arithmetic.{mul_by, div_by, mul_commutes}
use Rattle.round2.specs.Ten.{ten}
use Rattle.round2.specs.Rounded.{decade, up_to, round2}
use Rattle.round2.proofs.Powers.{ten_nonneg, ten_fits, reached_nonneg, decade_is, decade_under, decade_reached, decade_from}

-- ---- a number's size in units of 2 ^ -1074
abbrev pub units_in : Float → ℕ
units_in x = val (to_bits binary64 x)

-- ---- facts on the table, each one test over all of it
unfoldable all_below : (ℕ → Bool) → ℕ → Bool
all_below p zero = true
all_below p (suc n) = p n && all_below p n

all_at : (p : ℕ → Bool) (n : ℕ) → T (all_below p n) → (i : ℕ) → i < n → T (p i)
unfolding all_below
all_at p zero t i h = absurd (not-suc-le-zero h)
all_at p (suc n) t i h = elim (eq-or-lt_of_le (le_of_suc-le-suc h)) [ inl e ↦ subst (λ (k : ℕ). T (p k)) (sym e) (and_l (p n) (all_below p n) t) | inr l ↦ all_at p n (and_r (p n) (all_below p n) t) i l ]

-- the entry is a number above zero
unfoldable entry : ℕ → Bool
unfolding ten round to_bits
entry i = is_finite (ten i) && ltb 0 (units_in (ten i))

-- an entry is at most 0.101 times the next, and the one after that at most 2000 times it
unfoldable spaced : ℕ → Bool
unfolding ten round to_bits
spaced i = leb (1000 * units_in (ten i)) (101 * units_in (ten (i + 1))) && leb (units_in (ten (i + 2))) (2000 * units_in (ten i))

entries : T (all_below entry 632)
unfolding all_below entry
entries = tt

spacings : T (all_below spaced 630)
unfolding all_below spaced
spacings = tt

spaced_low : (i : ℕ) → i < 630 → 1000 * units_in (ten i) ≤ 101 * units_in (ten (i + 1))
unfolding spaced
spaced_low i l = leb→le (1000 * units_in (ten i)) (101 * units_in (ten (i + 1))) (and_l (leb (1000 * units_in (ten i)) (101 * units_in (ten (i + 1)))) (leb (units_in (ten (i + 2))) (2000 * units_in (ten i))) (all_at spaced 630 spacings i l))

spaced_wide : (i : ℕ) → i < 630 → units_in (ten (i + 2)) ≤ 2000 * units_in (ten i)
unfolding spaced
spaced_wide i l = leb→le (units_in (ten (i + 2))) (2000 * units_in (ten i)) (and_r (leb (1000 * units_in (ten i)) (101 * units_in (ten (i + 1)))) (leb (units_in (ten (i + 2))) (2000 * units_in (ten i))) (all_at spaced 630 spacings i l))

last_spaced : 1000 * units_in (ten 630) ≤ 101 * units_in (ten 631)
unfolding ten round to_bits
last_spaced = lit≤ tt

last_wide : 2 ^ 2098 ≤ 2000 * units_in (ten 630)
unfolding ten round to_bits
last_wide = lit≤ tt

-- ---- how far `round` can go up: G units for A / D units, both over X
module _ (A D X : ℕ) (Dp : 0 < D) (Xp : 0 < X) where
  abbrev k : ℕ
  k = size (A / D) - 53

  abbrev G : ℕ
  G = closest A (D * 2 ^ k) * 2 ^ k

  same_grid : closest (A * X) (D * X * 2 ^ (size (A * X / (D * X)) - 53)) * 2 ^ (size (A * X / (D * X)) - 53) ≡ G
  same_grid =
      ap (λ (w : ℕ). closest (A * X) (D * X * 2 ^ (size w - 53)) * 2 ^ (size w - 53)) (mul-div-mul_right {m = X} A D Xp)
      ∙ ap (λ (c : ℕ). c * 2 ^ k) (closest_same (A * X) (D * X * 2 ^ k) A (D * 2 ^ k) (mul-pos (mul-pos Dp Xp) (pow_pos k)) (mul-pos Dp (pow_pos k)) (regroup A X D (2 ^ k)))
    where
      regroup : (a x d p : ℕ) → a * x * (d * p) ≡ a * (d * x * p)
      regroup a x d p = simp (mul_assoc, mul_comm, mul_left_comm)

  step_small : (k ≡ 0) ⊎ (1000 * (D * 2 ^ k) ≤ A)
  step_small = elim (eq-zero-or-pos k) [
    | inl z ↦ inl z
    | inr p ↦
        let w = A / D in
        let r : 2 ^ (52 + k) ≤ w = size_reaches w (52 + k) (under (size w) p) in
        inr (le_trans (coarse (D * 2 ^ k)) (le_trans (le_of_eq (order D (2 ^ k))) (le_trans (mul-le-mul_right D (le_trans (le_of_eq (sym (pow-add 2 52 k))) r)) (div-mul-le_self A D))))
  ]
    where
      under : (z : ℕ) → 0 < z - 53 → 52 + (z - 53) < z
      under z h = omega arith

      coarse : (e : ℕ) → 1000 * e ≤ 4503599627370496 * e
      coarse e = omega arith

      order : (d p : ℕ) → 4503599627370496 * (d * p) ≡ 4503599627370496 * p * d
      order d p = simp (mul_assoc, mul_comm, mul_left_comm)

  pub rounded_up : 2000 * (G * D) ≤ 2001 * A + 1000 * D
  rounded_up =
      let n = closest_near A (D * 2 ^ k) (mul-pos Dp (pow_pos k)) in
      let e : G * D ≡ closest A (D * 2 ^ k) * (D * 2 ^ k) = mul_assoc (closest A (D * 2 ^ k)) (2 ^ k) D ∙ ap (λ (z : ℕ). closest A (D * 2 ^ k) * z) (mul_comm (2 ^ k) D) in
      elim step_small [
        | inl z ↦ add_one_step (G * D) (closest A (D * 2 ^ k) * (D * 2 ^ k)) A (D * 2 ^ k) D e n.0 (ap (λ (j : ℕ). D * 2 ^ j) z ∙ mul-one D)
        | inr s ↦ add_small_step (G * D) (closest A (D * 2 ^ k) * (D * 2 ^ k)) A (D * 2 ^ k) D e n.0 s
      ]
    where
      add_one_step : (g c a e d : ℕ) → g ≡ c → 2 * c ≤ 2 * a + e → e ≡ d → 2000 * g ≤ 2001 * a + 1000 * d
      add_one_step g c a e d p h q = omega arith

      add_small_step : (g c a e d : ℕ) → g ≡ c → 2 * c ≤ 2 * a + e → 1000 * e ≤ a → 2000 * g ≤ 2001 * a + 1000 * d
      add_small_step g c a e d p h q = omega arith

-- ---- 0.9 * t
abbrev pub nine : Float
nine = fin false 8106479329266893 (negsuc 52)

nine_bits : of_bits binary64 0x3fec_cccc_cccc_cccd ≡ nine
unfolding of_bits
nine_bits = refl

module _ (m : ℕ) (e : ℤ) (f : T (fits binary64 (fin false m e))) where
  abbrev t : Float
  t = fin false m e

  abbrev g : Float
  g = mul binary64 nine t

  g_nonneg : T (nonneg g)
  g_nonneg = mul_sign nine t tt tt (mul_number nine t tt tt)

  g_le : T (le g t)
  g_le = subst (λ (x : Float). T (le x t)) (mul_commutes t nine) (mul_shrinks t nine f (nonneg_zero t tt) (nonneg_zero nine tt) (unfold le of_bits in tt) (mul_number t nine tt tt))

  g_number : T (is_finite g)
  g_number = finite_under g t (nonneg_zero g g_nonneg) g_le tt

  g_is : g ≡ round binary64 false (8106479329266893 * units_in t) (9007199254740992 * 2 ^ 1074)
  g_is = mul_by nine t 8106479329266893 9007199254740992 (units_in t) (2 ^ 1074) (lit< tt) (pow_pos 1074) (refl, refl) (units_of t f tt tt)

  finite_same : (x : Float) → T (is_finite x) → T (finite x)
  finite_same nan h = h
  finite_same (inf s) h = h
  finite_same (fin s m e) h = tt

  abbrev gu : ℕ
  gu = grid binary64 (8106479329266893 * units_in t) (9007199254740992 * 2 ^ 1074)

  g_value : HasValue g false gu (2 ^ 1074)
  g_value =
      subst (λ (x : Float). HasValue x false gu (2 ^ 1074)) (sym g_is)
      (round_val binary64 (8106479329266893 * units_in t) (9007199254740992 * 2 ^ 1074) (round_under binary64 (8106479329266893 * units_in t) (9007199254740992 * 2 ^ 1074) (subst (λ (x : Float). T (finite x)) g_is (finite_same g g_number))))

  g_units : 2000 * (gu * 9007199254740992) ≤ 2001 * (8106479329266893 * units_in t) + 1000 * 9007199254740992
  g_units =
      subst (λ (z : ℕ). 2000 * (z * 9007199254740992) ≤ 2001 * (8106479329266893 * units_in t) + 1000 * 9007199254740992) (sym (same_grid (8106479329266893 * units_in t) 9007199254740992 (2 ^ 1074) (lit< tt) (pow_pos 1074)))
      (rounded_up (8106479329266893 * units_in t) 9007199254740992 (2 ^ 1074) (lit< tt) (pow_pos 1074))

-- ---- z rounded up to two digits, for a z that the table reaches
module _ (z : Float) (fz : T (fits binary64 z)) (nz : T (is_finite z)) (h : T (le (ten 1) z)) where
  abbrev i : ℕ
  i = decade z

  abbrev j : ℕ
  j = i - 1

  abbrev S : ℕ
  S = units_in (ten j)

  abbrev Z : ℕ
  Z = units_in z

  pz : T (nonneg z)
  pz = reached_nonneg z h

  entry_number : (n : ℕ) → n < 632 → T (is_finite (ten n)) × (0 < units_in (ten n))
  unfolding entry
  entry_number n l =
      let t = all_at entry 632 entries n l in
      (and_l (is_finite (ten n)) (ltb 0 (units_in (ten n))) t, ltb→lt 0 (units_in (ten n)) (and_r (is_finite (ten n)) (ltb 0 (units_in (ten n))) t))

  entry_value : (n : ℕ) → n < 632 → HasValue (ten n) false (units_in (ten n)) (2 ^ 1074)
  entry_value n l = units_of (ten n) (ten_fits n) (entry_number n l).0 (ten_nonneg n)

  z_value : HasValue z false Z (2 ^ 1074)
  z_value = units_of z fz nz pz

  j_lt : j < 632
  j_lt = let d = decade_under z h in omega arith

  i_is : j + 1 ≡ i
  i_is = let d = decade_from z h in omega arith

  -- the two facts on the neighbours in the table
  tenth : 1000 * S ≤ 101 * Z
  tenth =
      le_trans (go (eq-or-lt_of_le top))
      (mul-le-mul (le_refl 101) (units_of_le (ten i) z (units_in (ten i)) Z (2 ^ 1074) (pow_pos 1074) (entry_value i (decade_under z h)) z_value (decade_reached z h)))
    where
      top : j ≤ 630
      top = omega (arith, decade_under z h)

      go : (j ≡ 630) ⊎ (j < 630) → 1000 * units_in (ten j) ≤ 101 * units_in (ten i)
      go (inl e) = subst (λ (n : ℕ). 1000 * units_in (ten j) ≤ 101 * units_in (ten n)) i_is (subst (λ (n : ℕ). 1000 * units_in (ten n) ≤ 101 * units_in (ten (n + 1))) (sym e) last_spaced)
      go (inr l) = subst (λ (n : ℕ). 1000 * units_in (ten j) ≤ 101 * units_in (ten n)) i_is (spaced_low j l)

  wide : Z ≤ 2000 * S
  wide = go (eq-or-lt_of_le top)
    where
      top : j ≤ 630
      top = omega (arith, decade_under z h)

      small : (n : ℕ) → n < 632 → n < 1024
      small n h = omega arith

      next : j + 2 ≡ i + 1
      next = omega (arith, decade_from z h)

      go : (j ≡ 630) ⊎ (j < 630) → Z ≤ 2000 * units_in (ten j)
      go (inl e) = subst (λ (n : ℕ). Z ≤ 2000 * units_in (ten n)) (sym e) (le_trans (le_of_lt (val_under (to_bits binary64 z) (nonneg_bits z fz nz pz))) last_wide)
      go (inr l) =
          let n = i + 1 in
          let n_lt : n < 632 = omega (arith, decade_from z h) in
          elim (le_or_above z (ten n) pz (ten_nonneg n)) [
            | inl a ↦
                le_trans (units_of_le z (ten n) Z (units_in (ten n)) (2 ^ 1074) (pow_pos 1074) z_value (entry_value n n_lt) a)
                (subst (λ (k : ℕ). units_in (ten k) ≤ 2000 * units_in (ten j)) next (spaced_wide j l))
            | inr b ↦ absurd ((decade_is z h).last n (lt-add-one i) (small n n_lt) (and_i (ltb n 632) (le (ten n) z) (lt→ltb n 632 n_lt) (⋖_⩽ (ten n) z b)))
          ]

  abbrev q : ℕ
  q = (Z + (S - 1)) / S

  S_pos : 0 < S
  S_pos = (entry_number j j_lt).1

  q_over : Z ≤ q * S
  q_over = go (Z + (S - 1)) Z S ((Z + (S - 1)) / S * S) ((Z + (S - 1)) % S) (div-add-mod' (Z + (S - 1)) S) (mod-lt (Z + (S - 1)) S_pos) refl
    where
      go : (a z s x r : ℕ) → x + r ≡ a → r < s → a ≡ z + (s - 1) → z ≤ x
      go a z s x r e l f = omega arith

  pub q_under : q * S ≤ Z + (S - 1)
  q_under = div-mul-le_self (Z + (S - 1)) S

  q_small : q ≤ 2000
  q_small = le_trans (div_mono (Z + (S - 1)) S (2000 * S + (S - 1)) S S_pos S_pos (mul-le-mul_right S (add-le-add wide (le_refl (S - 1))))) (le_of_eq (digits_div 2000 (pred_lt S S_pos)))

  abbrev w : Float
  w = div binary64 z (ten j)

  w_is : w ≡ round binary64 false Z S
  w_is = div_by z (ten j) Z S (2 ^ 1074) (pow_pos 1074) S_pos z_value (entry_value j j_lt)

  w_nonneg : T (nonneg w)
  w_nonneg = subst (λ (x : Float). T (nonneg x)) (sym w_is) (nonneg_round binary64 Z S)

  q_value : HasValue (round binary64 false q 1) false q 1
  q_value = round_whole binary64 false q (le_trans q_small (lit≤ tt))

  w_le : T (le w (round binary64 false q 1))
  w_le = subst (λ (x : Float). T (le x (round binary64 false q 1))) (sym w_is) (round_mono binary64 Z S q 1 S_pos (pow_pos 0) (le_trans (le_of_eq (mul-one Z)) q_over))

  w_number : T (is_finite w)
  w_number = finite_under w (round binary64 false q 1) (nonneg_zero w w_nonneg) w_le (finite_of_value (round binary64 false q 1) false q 1 q_value)

  -- so the result is at most any double t of U units with z + s - 1 ≤ U
  pub up_le : (t : Float) (U : ℕ) → T (fits binary64 t) → HasValue t false U (2 ^ 1074) → Z + (S - 1) ≤ U → T (le (up_to z i) t)
  unfolding up_to
  up_le t U ft vt l =
      let c = ceil_under q (round binary64 false q 1) (view w w_nonneg) (le_trans q_small (lit≤ tt)) q_value w_number w_le in
      subst (λ (x : Float). T (le x t)) (sym (mul_by (ceil w) (ten j) c.0 1 S (2 ^ 1074) (pow_pos 0) (pow_pos 1074) c.1 (entry_value j j_lt)))
      (subst (λ (x : Float). T (le (round binary64 false (c.0 * S) (1 * 2 ^ 1074)) x)) (round_self t false U (2 ^ 1074) (pow_pos 1074) ft vt)
      (round_mono binary64 (c.0 * S) (1 * 2 ^ 1074) U (2 ^ 1074) (pow_pos 1074) (pow_pos 1074)
      (mul-le-mul (le_trans (mul-le-mul_right S c.2) (le_trans q_under l)) (le_refl (2 ^ 1074)))))

-- ---- the theorem
-- in two steps, since `omega` takes no number of more than 38 digits on its way: the weight 2 ^ 53 is divided out first
lighter : (u g : ℕ) → 2000 * (g * 9007199254740992) ≤ 2001 * (8106479329266893 * u) + 1000 * 9007199254740992 → 2000 * g * 9007199254740992 ≤ (1802 * u + 1000) * 9007199254740992
lighter u g h = omega arith

plain : (u z s g : ℕ) → z ≤ g → 1000 * s ≤ 101 * z → 0 < s → 2000 * g ≤ 1802 * u + 1000 → z + (s - 1) ≤ u
plain u z s g a b c d = omega arith

enough : (u z s g : ℕ) → z ≤ g → 1000 * s ≤ 101 * z → 0 < s → 2000 * (g * 9007199254740992) ≤ 2001 * (8106479329266893 * u) + 1000 * 9007199254740992 → z + (s - 1) ≤ u
enough u z s g a b c d = plain u z s g a b c (le_of_mul-le-mul_right {k = 9007199254740992} (lighter u g d) (lit< tt))

module _ (m : ℕ) (e : ℤ) (f : T (fits binary64 (fin false m e))) (n : ℕ) (d : ℤ) (l : T (fin false n d ⩽ 1f)) where
  abbrev z : Float
  z = mul binary64 (mul binary64 nine (fin false m e)) (fin false n d)

  z_le : T (le z (mul binary64 nine (fin false m e)))
  z_le = mul_shrinks (g m e f) (fin false n d) (mul-fits binary64 nine (fin false m e)) (nonneg_zero (g m e f) (g_nonneg m e f)) (nonneg_zero (fin false n d) tt) l (mul_number (g m e f) (fin false n d) (g_number m e f) tt)

  z_nonneg : T (nonneg z)
  z_nonneg = mul_sign (g m e f) (fin false n d) (g_nonneg m e f) tt (mul_number (g m e f) (fin false n d) (g_number m e f) tt)

  z_number : T (is_finite z)
  z_number = finite_under z (g m e f) (nonneg_zero z z_nonneg) z_le (g_number m e f)

  z_fits : T (fits binary64 z)
  z_fits = mul-fits binary64 (mul binary64 nine (fin false m e)) (fin false n d)

  when_reached : T (le (ten 1) z) → T (le (up_to z (decade z)) (fin false m e))
  when_reached h =
      up_le z z_fits z_number h (fin false m e) (units_in (fin false m e)) f (units_of (fin false m e) f tt tt)
      (enough (units_in (fin false m e)) (units_in z) (units_in (ten (decade z - 1))) (gu m e f)
      (units_of_le z (g m e f) (units_in z) (gu m e f) (2 ^ 1074) (pow_pos 1074) (units_of z z_fits z_number z_nonneg) (g_value m e f) z_le)
      (tenth z z_fits z_number h) (S_pos z z_fits z_number h) (g_units m e f))

  retry_at : (round2 z ≡ nan) ⊎ T (le (round2 z) (fin false m e))
  unfolding round2 of_bits
  retry_at = go (le (ten 1) z) (lt z (inf false)) (λ x. when_reached x)
    where
      go : (a b : Bool) → (T a → T (le (up_to z (decade z)) (fin false m e))) → (cond (a && b) (up_to z (decade z)) nan ≡ nan) ⊎ T (le (cond (a && b) (up_to z (decade z)) nan) (fin false m e))
      go true true h = inr (h tt)
      go true false h = inl refl
      go false b h = inl refl

pub retry_le : (t y : Float) → T (fits binary64 t) → T (is_finite t) → T (nonneg t) → T (is_finite y) → T (nonneg y) → T (y ⩽ 1f)
    → (round2 (mul binary64 (mul binary64 nine t) y) ≡ nan) ⊎ T (le (round2 (mul binary64 (mul binary64 nine t) y)) t)
retry_le nan y f h p k q l = absurd h
retry_le (inf s) y f h p k q l = absurd h
retry_le (fin true m e) y f h p k q l = absurd p
retry_le (fin false m e) nan f h p k q l = absurd k
retry_le (fin false m e) (inf s) f h p k q l = absurd k
retry_le (fin false m e) (fin true n d) f h p k q l = absurd q
retry_le (fin false m e) (fin false n d) f h p k q l = retry_at m e f n d l
