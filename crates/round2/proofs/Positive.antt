-- What `round2` gives is a double, and NaN or above 0. Assumes nothing.
use mathlib.Core.Path.{◌≡◌, refl, subst}
use mathlib.Core.Logic.{◌⊎◌, inl, inr}
use mathlib.Core.Bool.{Bool, true, false, ◌&&◌, cond}
use Prim.Native.Nat.{ℕ, ◌-◌, zero-le}
use native.Mathlib.Omega.{arith}
use lib.Dec.{T}
use lib.Ieee.{Float, nan, binary64, round, lt, fits, of_bits}
use lib.Ieee.Bits.{is_true}
use lib.Ieee.Fits.{mul-fits, nan-fits}
use Rattle.doubles.specs.F64.{◌⊗◌, ◌⊘◌, ◌⩽◌, ◌⋖◌, +0, 1f, +∞, is_finite, nonneg}
use Rattle.doubles.specs.Whole.{ceil}
use Rattle.doubles.proofs.Compare.{is_above}
use Rattle.doubles.proofs.Monotone.{div_mono, div_number}
use Rattle.doubles.proofs.Ceiling.{ceil_above_one}
use Rattle.doubles.proofs.One.{div_self, mul_above}
use Rattle.doubles.proofs.Order.{nonneg_number, nonneg_zero, view, ⋖_nonneg}
use Rattle.doubles.proofs.Sizes.{finite_below, finite_under, zero_nonneg}
use Rattle.doubles.proofs.Total.{⩽_refl, ⩽_trans, ⋖_⩽, ⋖_⩽_trans}
use Rattle.round2.specs.Ten.{ten}
use Rattle.round2.specs.Rounded.{usable, decade, up_to, round2, open_rounded}
use Rattle.round2.proofs.Powers.{ten_nonneg, ten_fits, ten_mono, reached_nonneg, decade_reached}

-- ---- the entries of the table
first_above : T (+0 ⋖ ten 0)
unfolding ten round lt of_bits
first_above = tt

ten_above : (i : ℕ) → T (+0 ⋖ ten i)
ten_above i = ⋖_⩽_trans +0 (ten 0) (ten i) first_above (ten_mono 0 i zero-le)

-- ---- `round2`
up_to_above : (z : Float) → T (ten 1 ⩽ z) → T (z ⋖ +∞) → T (+0 ⋖ up_to z (decade z))
unfolding up_to
up_to_above z h k =
    let t = ten (decade z - 1) in
    let l : T (t ⩽ z) = ⩽_trans t (ten (decade z)) z (ten_mono (decade z - 1) (decade z) (omega arith)) (decade_reached z h) in
    let p : T (nonneg z) = reached_nonneg z h in
    let zf : T (is_finite z) = finite_below z +∞ (nonneg_zero z p) k in
    let ta : T (+0 ⋖ t) = ten_above (decade z - 1) in
    let tf : T (is_finite t) = finite_under t z (⋖_⩽ +0 t ta) l zf in
    let w : T (1f ⩽ z ⊘ t) = subst (λ (x : Float). T (x ⩽ z ⊘ t)) (div_self t tf (is_above t (is_true (+0 ⋖ t) ta))) (div_mono t z t t (⋖_⩽ +0 t ta) ta l (⩽_refl t (nonneg_number t (ten_nonneg (decade z - 1)))) (div_number t t tf ta) (div_number z t zf ta)) in
    let c = ceil_above_one (view (z ⊘ t) (nonneg_from (z ⊘ t) w)) w in
    mul_above t (view (ceil (z ⊘ t)) c.0) c.1 (ten_fits (decade z - 1)) tf ta
  where
    nonneg_from : (x : Float) → T (1f ⩽ x) → T (nonneg x)
    nonneg_from x h = ⋖_nonneg +0 x zero_nonneg (⋖_⩽_trans +0 1f x (unfold lt of_bits in tt) h)

pub round2_above : (x : Float) → (round2 x ≡ nan) ⊎ T (+0 ⋖ round2 x)
unfolding round2
round2_above x = go (ten 1 ⩽ x) (x ⋖ +∞) (up_to_above x)
  where
    go : (a b : Bool) → (T a → T b → T (+0 ⋖ up_to x (decade x))) → (cond (a && b) (up_to x (decade x)) nan ≡ nan) ⊎ T (+0 ⋖ cond (a && b) (up_to x (decade x)) nan)
    go true true h = inr (h tt tt)
    go true false h = inl refl
    go false b h = inl refl

pub round2_fits : (x : Float) → T (fits binary64 (round2 x))
unfolding round2 up_to
round2_fits x = go (usable x)
  where
    go : (b : Bool) → T (fits binary64 (cond b (ceil (x ⊘ ten (decade x - 1)) ⊗ ten (decade x - 1)) nan))
    go true = mul-fits binary64 (ceil (x ⊘ ten (decade x - 1))) (ten (decade x - 1))
    go false = nan-fits binary64

pub round2_nan : round2 nan ≡ nan
unfolding open_rounded
round2_nan = refl
