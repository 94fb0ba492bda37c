-- A start with a chain is not all zeros, since 1 / eta stands at its end. Assumes nothing.
use Rattle.std.specs.Prelude.{if◌then◌else◌, Some, None, is_some}
use mathlib.Core.Path.{◌≡◌, refl, sym, ap, ◌∙◌}
use mathlib.Core.Bool.{Bool, true, false, ◌&&◌}
use mathlib.Core.List.{List, [], ◌∷◌, ◌++◌, append_assoc}
use Prim.Native.Nat.{ℕ, zero, suc}
use native.Mathlib.Nat.{zero-mul}
use native.Mathlib.Omega.{arith}
use lib.IntN.{ℤ, pos, negsuc}
use lib.Dec.{T}
use lib.ListN.{length, length-append, replicate}
use lib.Seq.{get_or-append_seam}
use lib.Ieee.{Float, nan, inf, fin, lt, eq, of_bits}
use Rattle.lists.specs.Loop.{iter}
use Rattle.lists.specs.Window.{window}
use Rattle.lists.proofs.Loop.{iter_next}
use Rattle.lists.proofs.Window.{window_whole}
use Rattle.doubles.specs.F64.{◌⋖◌, +0, 1f, at, abs, is_finite, replaced, max_num, nonneg}
use Rattle.doubles.proofs.Compare.{zero_below, zero_cases}
use Rattle.doubles.proofs.Extremes.{nonneg_max}
use Rattle.pow2.specs.Pow2.{clamp, ceil_log2, eta_of, eta_scaling, sup, pow2_scale}
use Rattle.pow2.specs.declared.Scale.{Scale}
use Rattle.combination.specs.Combination.{vector, combination_start}

abbrev IsZero : Float → Type 0
IsZero x = eq x +0 ≡ true

abbrev NoDigit : Float → Type 0
NoDigit nan = ⊥
NoDigit (inf s) = ⊥
NoDigit (fin s zero e) = Unit
NoDigit (fin s (suc m) e) = ⊥

no_digit : (x : Float) → IsZero x → NoDigit x
no_digit = zero_cases NoDigit (λ s e. tt)

-- the larger of two, one of which is above 0
larger : (m : Float) → T (nonneg m) → (n : ℕ) (d : ℤ) → IsZero (max_num m (abs (fin false (suc n) d))) → ⊥
unfolding max_num replaced
larger nan h n d z = absurd h
larger (inf true) h n d z = absurd h
larger (inf false) h n d z = absurd (no_digit (inf false) (unfold lt in z))
larger (fin true a e) h n d z = absurd h
larger (fin false zero e) h n d z = absurd (no_digit (fin false (suc n) d) (rw (zero_below e n d) at z))
larger (fin false (suc a) e) h n d z = go (fin false (suc a) e ⋖ fin false (suc n) d) z
  where
    go : (b : Bool) → IsZero (if b then fin false (suc n) d else fin false (suc a) e) → ⊥
    go true z = no_digit (fin false (suc n) d) z
    go false z = no_digit (fin false (suc a) e) z

abbrev sup_step : List Float → ℕ → Float → Float
sup_step x i m = max_num m (abs (at x i))

nonneg_part : (x : List Float) (k : ℕ) → T (nonneg (iter (sup_step x) k +0))
unfolding iter of_bits
nonneg_part x zero = tt
nonneg_part x (suc k) = nonneg_max (iter (sup_step x) k +0) (at x k) (nonneg_part x k)

-- a list that ends with a number above 0
sup_ends : (l : List Float) (v : Float) → sup (l ++ (v ∷ [])) ≡ max_num (iter (sup_step (l ++ (v ∷ []))) (length l) +0) (abs v)
unfolding sup
sup_ends l v =
    ap (λ (k : ℕ). iter (sup_step (l ++ (v ∷ []))) k +0) (length-append l (v ∷ []))
    ∙ iter_next (sup_step (l ++ (v ∷ []))) (length l) +0
    ∙ ap (λ (x : Float). max_num (iter (sup_step (l ++ (v ∷ []))) (length l) +0) (abs x)) (get_or-append_seam l v [] nan)

ends_above : (l : List Float) (n : ℕ) (d : ℤ) → IsZero (sup (l ++ (fin false (suc n) d ∷ []))) → ⊥
ends_above l n d z = larger _ (nonneg_part (l ++ (fin false (suc n) d ∷ [])) (length l)) n d (ap (λ (x : Float). eq x +0) (sym (sup_ends l (fin false (suc n) d))) ∙ z)

power_of : (y : List Float) → (IsZero (sup y) → ⊥) → true ≡ is_some (pow2_scale y)
unfolding pow2_scale
power_of y h = go (eq (sup y) +0) _ h
  where
    go : (b : Bool) (s : Scale) → (b ≡ true → ⊥) → true ≡ is_some (if b then None else Some s)
    go true s h = absurd (h refl)
    go false s h = refl

-- 1 / eta is a power of two
pub record Above (x : Float) : Type 0 where
  pub m : ℕ
  pub e : ℤ
  pub is : x ≡ fin false (suc m) e

inv_above : (sum : Float) → Above (eta_scaling sum).inv
unfolding eta_scaling of_bits
inv_above sum = go (+0 ⋖ sum && is_finite sum) (clamp (ceil_log2 sum) (negsuc 999) (pos 1000))
  where
    go : (b : Bool) (e : ℤ) → Above (if b then eta_of e else record { eta = 1f; inv = 1f }).inv
    go true e = record { m = 0; e = e; is = refl }
    go false e = record { m = 0; e = pos 0; is = refl }

pub chain_on : (n : ℕ) (w : List Float) (d : ℕ) → (d ≡ 0 → ⊥) → (sum : Float) → true ≡ is_some (pow2_scale (combination_start n w d (eta_scaling sum).inv))
unfolding combination_start
chain_on n w zero h sum = absurd (h refl)
chain_on n w (suc d) h sum =
    let a = inv_above sum in
    let y = vector n w 0 ++ replicate d +0 in
    power_of _ (λ z. ends_above y a.m a.e (ap (λ (x : List Float). eq (sup x) +0) (append_assoc (vector n w 0) (replicate d +0) _ ∙ ap (λ (v : Float). vector n w 0 ++ (replicate d +0 ++ (v ∷ []))) (sym a.is)) ∙ z))

-- without a chain it is w_0
no_chain : (n : ℕ) (w : List Float) (d : ℕ) (inv : Float) → d ≡ 0 → length w ≡ n → w ≡ combination_start n w d inv
unfolding combination_start vector
no_chain n w zero inv h l = sym (ap (λ (k : ℕ). window k n w) (zero-mul n) ∙ window_whole n w l)
no_chain n w (suc d) inv h l = absurd (omega (arith, h))

pub starts_on : (n : ℕ) (w : List Float) (d : ℕ) (inv : Float) → d ≡ 0 → length w ≡ n → is_some (pow2_scale w) ≡ is_some (pow2_scale (combination_start n w d inv))
starts_on n w d inv h l = ap (λ (y : List Float). is_some (pow2_scale y)) (no_chain n w d inv h l)
