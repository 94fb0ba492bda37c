-- The n + d values from which an accepted combination starts are finite. Assumes nothing.
use Rattle.std.specs.Prelude.{if◌then◌else◌}
use mathlib.Core.Path.{◌≡◌, refl, sym, ap, subst}
use mathlib.Core.Bool.{Bool, true, false, not, ◌&&◌}
use mathlib.Core.List.{List, [], ◌∷◌, ◌++◌}
use Prim.Native.Nat.{ℕ, zero, suc, ◌+◌, ◌*◌, ◌≤◌, ◌<◌}
use native.Mathlib.Nat.{zero-mul, le_of_suc-le-suc}
use native.Mathlib.Omega.{arith}
use lib.IntN.{ℤ, pos, negsuc}
use lib.ListN.{length, replicate, length-replicate, get_or-replicate}
use lib.Ieee.{Float, nan, of_bits}
use borrow.Author.Tests.{not-false}
use Rattle.lists.proofs.Find.{none_below}
use Rattle.lists.proofs.Window.{length_window, get_d_window}
use Rattle.doubles.specs.F64.{◌⋖◌, +0, 1f, at, is_finite}
use Rattle.checks.specs.First.{Check, first}
use Rattle.checks.proofs.First.{sound_cons, sound_append}
use Rattle.pow2.specs.Pow2.{eta_scaling}
use Rattle.pow2.specs.Pow2 as pow2
use Rattle.combination.specs.Combination.{vector, eta_of, combination_start}
use Rattle.combination.specs.Checks.{not_finite_at, count_checks, length_checks, finite_checks, vector_checks_by, vector_checks}
use Rattle.checks.specs.Reasons.{Sound}

abbrev Finite : List Float → Type 0
Finite y = (i : ℕ) → i < length y → is_finite (at y i) ≡ true

both_finite : (xs ys : List Float) → Finite xs → Finite ys → Finite (xs ++ ys)
both_finite [] ys f g i l = g i l
both_finite (x ∷ xs) ys f g zero l = f zero (omega arith)
both_finite (x ∷ xs) ys f g (suc i) l = both_finite xs ys (λ j k. f (suc j) (omega (arith, k))) g i (le_of_suc-le-suc l)

-- 17 passed
pub vectors_finite : (n : ℕ) (ts : List Check) (count : ℕ) (w : List Float) (output : ℕ) → Sound ≡ first (vector_checks n ts count w output) → Finite w
unfolding vector_checks vector_checks_by finite_checks not_finite_at
vectors_finite n ts count w output e i l =
    let c = sound_append (count_checks count) _ e in
    let t = sound_append ts _ c.1 in
    let s = sound_append (length_checks output n (length w) (count * n)) _ t.1 in
    not-false (is_finite (at w i)) (none_below (λ k. not (is_finite (at w k))) (length w) (sound_cons _ _ _ _ s.1).0 i l)

inverse_finite : (x : Float) → is_finite (eta_scaling x).inv ≡ true
unfolding eta_scaling of_bits
inverse_finite x = go (+0 ⋖ x && is_finite x) (pow2.clamp (pow2.ceil_log2 x) (negsuc 999) (pos 1000))
  where
    go : (b : Bool) (e : ℤ) → is_finite (if b then pow2.eta_of e else record { eta = 1f; inv = 1f }).inv ≡ true
    go true e = refl
    go false e = refl

vector_finite : (n : ℕ) (w : List Float) → n ≤ length w → Finite w → Finite (vector n w 0)
unfolding vector
vector_finite n w h f i l =
    let z = zero-mul n in
    let long = length_window (0 * n) n w (omega (arith, z)) in
    let k : i < n = omega (arith, l, long) in
    subst (λ (x : Float). is_finite x ≡ true) (sym (get_d_window (0 * n) n w i nan k)) (f (0 * n + i) (omega (arith, z, k)))

zeros_finite : (d : ℕ) → Finite (replicate d +0)
unfolding of_bits
zeros_finite d i l = let k : i < d = omega (arith, l, length-replicate d +0) in ap is_finite (get_or-replicate d i +0 nan k)

one_finite : (x : Float) → is_finite x ≡ true → Finite (x ∷ [])
one_finite x h zero l = h
one_finite x h (suc i) l = absurd (omega (arith, l))

pub start_finite : (n : ℕ) (w v : List Float) (tau : Float) (d : ℕ) → n ≤ length w → Finite w → Finite (combination_start n w d (eta_of n v tau d).inv)
unfolding eta_of combination_start
start_finite n w v tau d h f = go d
  where
    inv : Float
    inv = (eta_of n v tau d).inv

    told : is_finite inv ≡ true
    told = inverse_finite _

    go : (k : ℕ) → Finite (combination_start n w k inv)
    go zero = vector_finite n w h f
    go (suc k) = both_finite (vector n w 0) _ (vector_finite n w h f) (both_finite (replicate k +0) _ (zeros_finite k) (one_finite inv told))
