-- The length tried after a rejection is NaN, or above 0 and at most the length before it. Assumes nothing.
use mathlib.Core.Path.{◌≡◌, refl, sym, ap, ◌∙◌, subst}
use mathlib.Core.Logic.{◌⊎◌, inl, inr, ⊎_elim}
use mathlib.Core.Bool.{true, false, not, true≢false}
use Prim.Native.Nat.{ℕ}
use lib.Dec.{T}
use lib.Ieee.{Float, nan, inf, fin, binary64, le, fits, is_nan, of_bits}
use lib.Ieee.Bits.{is_true, of_bits-fits}
use Rattle.doubles.specs.F64.{◌⊗◌, ◌⊘◌, ◌⩽◌, ◌⋖◌, +0, 1f, is_finite, nonneg}
use Rattle.doubles.proofs.Total.{⩽_antisymm, ⩽_refl, ⩽_trans, ⩽_or_⋖, ⋖_⩽, ⩽_⋖_trans, ⋖_⩽_trans, le_number_right, le_highest}
use Rattle.doubles.proofs.Monotone.{mul_mono, mul_grows, mul_shrinks, mul_number, div_number, div_part, finite_number, mul_nonneg}
use Rattle.doubles.proofs.Sizes.{finite_below, finite_under}
use Rattle.doubles.proofs.Order.{nonneg_zero, nonneg_number, nonneg_sign, view}
use Rattle.doubles.proofs.Arithmetic.{mul_commutes}
use Rattle.doubles.proofs.Signs.{mul_nan, nan_mul, div_nan, nan_div, Clear, SignSet, lowest, below, mul_set, div_set, set_low, above_mul_inf, zero_mul_inf, inf_or_finite}
use Rattle.power.specs.Power.{root}
use Rattle.power.proofs.Roots.{root_le_one}
use Rattle.round2.specs.Rounded.{round2}
use Rattle.round2.proofs.Positive.{round2_above, round2_fits, round2_nan}
use Rattle.retry.specs.Retry.{GAMMA, DELTA, accepts, retry}
use Rattle.retry.proofs.Shorter.{retry_le}

-- NaN, or at least 0
abbrev pub Size : Float → Type 0
Size x = (x ≡ nan) ⊎ T (+0 ⩽ x)

-- ---- the length, by what the root is taken of
pub length_of : (t a : Float) (q : ℕ) → T (fits binary64 t) → T (is_finite t) → T (nonneg t) → (a ≡ nan) ⊎ T (a ⩽ 1f) → (round2 (GAMMA ⊗ t ⊗ root a q) ≡ nan) ⊎ T (round2 (GAMMA ⊗ t ⊗ root a q) ⩽ t)
unfolding of_bits
length_of t a q f h p c = ⊎_elim (λ (e : a ≡ nan). inl (through (ap (λ (x : Float). root x q) e ∙ root_nan))) (λ (l : T (a ⩽ 1f)). ⊎_elim (λ (e : root a q ≡ nan). inl (through e)) (λ r. retry_le t (root a q) f h p r.0 r.1 r.2) (root_le_one a q l)) c
  where
    root_nan : root nan q ≡ nan
    root_nan = unfold root in refl

    through : root a q ≡ nan → round2 (GAMMA ⊗ t ⊗ root a q) ≡ nan
    through e = ap (λ (x : Float). round2 (GAMMA ⊗ t ⊗ x)) e ∙ ap round2 (mul_nan (GAMMA ⊗ t)) ∙ round2_nan

-- ---- what the root is taken of, after a rejection
one_le_delta : T (1f ⩽ DELTA)
unfolding le of_bits
one_le_delta = tt

delta_finite : T (is_finite DELTA)
unfolding of_bits
delta_finite = tt

-- 1.2 * t is no less than t
delta_grows : (t : Float) → T (fits binary64 t) → T (is_finite t) → T (+0 ⩽ t) → T (t ⩽ DELTA ⊗ t)
delta_grows t f h p = subst (λ (x : Float). T (t ⩽ x)) (mul_commutes t DELTA) (mul_grows t DELTA f p one_le_delta (mul_number t DELTA h delta_finite))

module _ (tol t err : Float) (f : T (fits binary64 t)) (p : T (nonneg t)) (l : T (t ⩽ 1f)) (r : accepts tol t err ≡ false) where
  t_zero : T (+0 ⩽ t)
  t_zero = nonneg_zero t p

  t_finite : T (is_finite t)
  t_finite = finite_under t 1f t_zero l (unfold of_bits in tt)

  u : Float
  u = DELTA ⊗ t

  grown : T (t ⩽ u)
  unfolding u
  grown = delta_grows t f t_finite t_zero

  u_finite : T (is_finite u)
  unfolding u
  u_finite = finite_under (DELTA ⊗ t) DELTA (⩽_trans +0 t (DELTA ⊗ t) t_zero grown) (mul_shrinks DELTA t (of_bits-fits binary64 _) (unfold le of_bits in tt) t_zero l (mul_number DELTA t delta_finite t_finite)) delta_finite

  -- no longer accepted: the error is above the bound
  above : T (not (is_nan (u ⊗ tol))) → T (+0 ⩽ err) → T (u ⊗ tol ⋖ err)
  unfolding u
  above n c = elim (⩽_or_⋖ err (DELTA ⊗ t ⊗ tol) (le_number_right +0 err c) n) [
    | inl g ↦ absurd (true≢false (sym (is_true (accepts tol t err) g) ∙ r))
    | inr g ↦ g
  ]

  part : T (is_finite tol) → T (+0 ⩽ tol) → T (+0 ⩽ err) → T (t ⊗ tol ⊘ err ⩽ 1f)
  part k s c =
      let x = t ⊗ tol in
      let nx = mul_number t tol t_finite k in
      let nb = mul_number u tol u_finite k in
      let px = mul_nonneg t tol t_zero s nx in
      let x_lt : T (x ⋖ err) = ⩽_⋖_trans x (u ⊗ tol) err (mul_mono t u tol tol t_zero s grown (⩽_refl tol (finite_number tol k)) nx nb) (above nb c) in
      let err_pos : T (+0 ⋖ err) = ⩽_⋖_trans +0 x err px x_lt in
      div_part x err px err_pos (⋖_⩽ x err x_lt) (div_number x err (finite_below x err px x_lt) err_pos)

  -- with an endless tolerance every error that is a number is accepted, but for t = 0, where the product is NaN
  endless : tol ≡ inf false → T (+0 ⩽ err) → t ⊗ tol ≡ nan
  unfolding u of_bits
  endless e c = elim (⩽_or_⋖ t +0 (nonneg_number t p) (unfold of_bits is_nan in tt)) [
    | inl z ↦ ap (λ (x : Float). t ⊗ x) e ∙ ap (λ (x : Float). x ⊗ inf false) (⩽_antisymm t +0 f (of_bits-fits binary64 0) (nonneg_sign t p) z t_zero) ∙ zero_mul_inf
    | inr g ↦
        let b : DELTA ⊗ t ⊗ tol ≡ inf false = ap (λ (x : Float). DELTA ⊗ t ⊗ x) e ∙ above_mul_inf (DELTA ⊗ t) (⋖_⩽_trans +0 t (DELTA ⊗ t) g grown) in
        absurd (true≢false (sym (is_true (accepts tol t err) (subst (λ (x : Float). T (err ⩽ x)) (sym b) (le_highest err (le_number_right +0 err c)))) ∙ r))
  ]

  pub rejected : Size tol → Size err → (t ⊗ tol ⊘ err ≡ nan) ⊎ T (t ⊗ tol ⊘ err ⩽ 1f)
  rejected s c = ⊎_elim
      (λ (e : tol ≡ nan). inl (ap (λ (x : Float). t ⊗ x ⊘ err) e ∙ ap (λ (x : Float). x ⊘ err) (mul_nan t) ∙ nan_div err))
      (λ (k : T (+0 ⩽ tol)). ⊎_elim
      (λ (e : err ≡ nan). inl (ap (λ (x : Float). t ⊗ tol ⊘ x) e ∙ div_nan (t ⊗ tol)))
      (λ (d : T (+0 ⩽ err)). ⊎_elim (λ (e : tol ≡ inf false). inl (ap (λ (x : Float). x ⊘ err) (endless e d) ∙ nan_div err)) (λ (g : T (is_finite tol)). inr (part g k d)) (inf_or_finite tol k))
      c)
      s

-- ---- the law: after a rejection
pub retry_shorter : (q : ℕ) (tol t err : Float) → T (fits binary64 t) → T (nonneg t) → T (t ⩽ 1f) → Size tol → Size err → accepts tol t err ≡ false → (retry q tol t err ≡ nan) ⊎ T (retry q tol t err ⩽ t)
unfolding retry
retry_shorter q tol t err f p l s c r = length_of t (t ⊗ tol ⊘ err) q f (t_finite tol t err f p l r) p (rejected tol t err f p l r s c)

-- ---- whatever the tolerance
set_part : (tol t err : Float) → T (nonneg t) → SignSet tol → Clear err → (t ⊗ tol ⊘ err ≡ nan) ⊎ T (t ⊗ tol ⊘ err ⩽ 1f)
set_part tol t err p s (inl e) = inl (ap (λ (z : Float). t ⊗ tol ⊘ z) e ∙ div_nan (t ⊗ tol))
set_part tol t err p s (inr c) = elim (mul_set (view t p) s) [
  | inl e ↦ inl (ap (λ (z : Float). z ⊘ err) e ∙ nan_div err)
  | inr u ↦ elim (div_set u (view err c)) [ inl e ↦ inl e | inr v ↦ inr (set_low v) ]
]

size_of : (x : Float) → Clear x → Size x
size_of x (inl e) = inl e
size_of x (inr h) = inr (nonneg_zero x h)

pub retry_at_most : (q : ℕ) (tol t err : Float) → T (fits binary64 t) → T (nonneg t) → T (t ⩽ 1f) → Clear err → accepts tol t err ≡ false → (retry q tol t err ≡ nan) ⊎ T (retry q tol t err ⩽ t)
retry_at_most q tol t err f p l c r = go tol r
  where
    known : (tol : Float) → Clear tol → accepts tol t err ≡ false → (retry q tol t err ≡ nan) ⊎ T (retry q tol t err ⩽ t)
    known tol s r = retry_shorter q tol t err f p l (size_of tol s) (size_of err c) r

    negative : (tol : Float) → SignSet tol → (retry q tol t err ≡ nan) ⊎ T (retry q tol t err ⩽ t)
    negative tol s = unfold retry in length_of t (t ⊗ tol ⊘ err) q f (finite_under t 1f (nonneg_zero t p) l (unfold of_bits in tt)) p (set_part tol t err p s c)

    go : (tol : Float) → accepts tol t err ≡ false → (retry q tol t err ≡ nan) ⊎ T (retry q tol t err ⩽ t)
    go nan r = known nan (inl refl) r
    go (inf true) r = negative (inf true) lowest
    go (inf false) r = known (inf false) (inr tt) r
    go (fin true m e) r = negative (fin true m e) (below m e)
    go (fin false m e) r = known (fin false m e) (inr tt) r

-- ---- what is tried next: a double, NaN or above 0, and NaN after NaN
pub retry_above : (q : ℕ) (tol t err : Float) → (retry q tol t err ≡ nan) ⊎ T (+0 ⋖ retry q tol t err)
unfolding retry
retry_above q tol t err = round2_above (GAMMA ⊗ t ⊗ root (t ⊗ tol ⊘ err) q)

pub retry_fits : (q : ℕ) (tol t err : Float) → T (fits binary64 (retry q tol t err))
unfolding retry
retry_fits q tol t err = round2_fits (GAMMA ⊗ t ⊗ root (t ⊗ tol ⊘ err) q)

pub retry_nan : (q : ℕ) (tol err : Float) → retry q tol nan err ≡ nan
unfolding retry
retry_nan q tol err = ap (λ (z : Float). round2 (z ⊗ root (nan ⊗ tol ⊘ err) q)) (mul_nan GAMMA) ∙ ap round2 (nan_mul (root (nan ⊗ tol ⊘ err) q)) ∙ round2_nan
