-- The n + d values from which a run starts are doubles where the vectors' are. Assumes nothing.
use Rattle.std.specs.Prelude.{if◌then◌else◌}
use mathlib.Core.Path.{sym, subst}
use mathlib.Core.Bool.{Bool, true, false, ◌&&◌}
use mathlib.Core.List.{List, [], ◌∷◌, ◌++◌}
use Prim.Native.Nat.{ℕ, zero, suc, ◌+◌, ◌*◌, ◌≤◌, ◌<◌}
use native.Mathlib.Nat.{zero-mul, le_of_suc-le-suc}
use native.Mathlib.Omega.{arith}
use lib.Dec.{T}
use lib.IntN.{ℤ, pos, negsuc}
use lib.ListN.{length, replicate, length-replicate, get_or-replicate}
use lib.Ieee.{Float, nan, binary64, fits, of_bits}
use lib.Ieee.Fits.{round-fits}
use Rattle.lists.proofs.Window.{length_window, get_d_window}
use Rattle.doubles.specs.F64.{◌⋖◌, +0, 1f, is_finite}
use Rattle.pow2.specs.Pow2.{eta_scaling, clamp, ceil_log2, pow2_f64}
use Rattle.pow2.specs.Pow2 as pow2
use Rattle.pow2.proofs.Integers.{clamp_mag}
use Rattle.pow2.proofs.Rounded.{pow2_exact}
use Rattle.combination.specs.Combination.{vector, eta_of, combination_start}
use Rattle.paused_claims.specs.Ended.{Doubles}

both_fit : (xs ys : List Float) → Doubles xs → Doubles ys → Doubles (xs ++ ys)
both_fit [] ys f g i l = g i l
both_fit (x ∷ xs) ys f g zero l = f zero (omega arith)
both_fit (x ∷ xs) ys f g (suc i) l = both_fit xs ys (λ j k. f (suc j) (omega (arith, k))) g i (le_of_suc-le-suc l)

power_fits : (n : ℕ) (e : ℤ) → T (fits binary64 (pow2.exact_pow2 (clamp e (negsuc 999) (pos 1000))))
power_fits n e = let c = clamp_mag 999 e in subst (λ (x : Float). T (fits binary64 x)) (pow2_exact (clamp e (negsuc 999) (pos 1000)) (omega (arith, c))) (unfold pow2_f64 in round-fits binary64 _ _ _)

inverse_fits : (x : Float) → T (fits binary64 (eta_scaling x).inv)
unfolding eta_scaling
inverse_fits x = go (+0 ⋖ x && is_finite x)
  where
    go : (b : Bool) → T (fits binary64 (if b then pow2.eta_of (clamp (ceil_log2 x) (negsuc 999) (pos 1000)) else record { eta = 1f; inv = 1f }).inv)
    go true = power_fits 0 (ceil_log2 x)
    go false = unfold of_bits fits in tt

vector_fits : (n : ℕ) (w : List Float) → n ≤ length w → Doubles w → Doubles (vector n w 0)
unfolding vector
vector_fits n w h f i l =
    let z = zero-mul n in
    let long = length_window (0 * n) n w (omega (arith, z)) in
    let k : i < n = omega (arith, l, long) in
    subst (λ (x : Float). T (fits binary64 x)) (sym (get_d_window (0 * n) n w i nan k)) (f (0 * n + i) (omega (arith, z, k)))

zeros_fit : (d : ℕ) → Doubles (replicate d +0)
unfolding of_bits fits
zeros_fit d i l = let k : i < d = omega (arith, l, length-replicate d +0) in subst (λ (x : Float). T (fits binary64 x)) (sym (get_or-replicate d i +0 nan k)) tt

one_fits : (x : Float) → T (fits binary64 x) → Doubles (x ∷ [])
one_fits x h zero l = h
one_fits x h (suc i) l = absurd (omega (arith, l))

pub start_doubles : (n : ℕ) (w v : List Float) (tau : Float) (d : ℕ) → n ≤ length w → Doubles w → Doubles (combination_start n w d (eta_of n v tau d).inv)
unfolding eta_of combination_start
start_doubles n w v tau d h f = go d
  where
    inv : Float
    inv = (eta_of n v tau d).inv

    told : T (fits binary64 inv)
    told = inverse_fits _

    go : (k : ℕ) → Doubles (combination_start n w k inv)
    go zero = vector_fits n w h f
    go (suc k) = both_fit (vector n w 0) _ (vector_fits n w h f) (both_fit (replicate k +0) _ (zeros_fit k) (one_fits inv told))
