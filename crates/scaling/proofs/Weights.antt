-- The weights, the operator and the start of a combination whose vectors are those of another times 2 ^ u / 2 ^ v. All that is said here of `combination`'s definitions stands in this file. Assumes nothing.
use Rattle.std.specs.Prelude.{if◌then◌else◌}
use mathlib.Core.Path.{◌≡◌, refl, sym, ap, subst, ◌∙◌}
use mathlib.Core.Logic.{inl, inr}
use mathlib.Core.List.{List, [], ◌∷◌, ◌++◌}
use Prim.Native.Nat.{ℕ, zero, suc, ◌+◌, ◌-◌, ◌*◌, ◌≤◌, ◌<◌}
use native.Mathlib.Nat.{zero-mul, suc-mul}
use native.Mathlib.Numerals.{add-one}
use native.Mathlib.Omega.{arith}
use mathlib.Core.Bool.{Bool, true, false}
use lib.Dec.{T}
use lib.ListN.{length, get_or, replicate, get_or-replicate, length-replicate, get_or-append}
use lib.Seq.{get_or-append-add, get_or_at, get_or-drop}
use lib.Ieee.{Float, nan, binary64, eq, fits}
use lib.Ieee.Bits.{of_bits-fits}
use borrow.Author.Tests.{lt-ltb}
use Rattle.lists.proofs.Bounds.{lt_or_le, column_within}
use Rattle.lists.proofs.Loop.{get_d_tabulate}
use Rattle.lists.proofs.Window.{get_d_window, length_window}
use Rattle.doubles.specs.F64.{◌⊗◌, +0, at}
use Rattle.doubles.specs.Units.{Doubles}
use Rattle.doubles.specs.Clean.{Clean⊗}
use Rattle.doubles.proofs.Scaled.{Scaled, zero_scaled}
use Rattle.doubles.proofs.ScaledOrder.{eq_scaled}
use Rattle.power.specs.Power.{power}
use Rattle.power.proofs.Roots.{times_fits}
use Rattle.pow2.specs.Pow2.{sup, eta_scaling}
use Rattle.pow2.proofs.Scaled.{Scalings, sup_scaled, scalings}
use Rattle.general_operator.specs.Csr.{Csr, Valid}
use Rattle.combination.specs.Combination.{further, vector, gain, magnitude, eta_of, column_places, scaled_gains, combination_start}
use Rattle.combination.proofs.Further.{further_vector}
use Rattle.scaling.proofs.Product.{ScaledOperators, ScaledState, by_equal}

-- ---- places and gains of the columns, values of the start
place_at : (n d j : ℕ) → j < d → d ≤ 3 → get_or (column_places n d) j 0 ≡ (d - j - 1) * n
unfolding column_places
place_at n d j l h = get_d_tabulate 3 _ j 0 (omega arith) ∙ rw (lt-ltb j d l) refl

gain_at : (n : ℕ) (f : List Float) (tau : Float) (d : ℕ) (eta : Float) (j : ℕ) → j < d → d ≤ 3 → at (scaled_gains n f tau d eta) j ≡ gain n f tau (d - j - 1) ⊗ eta
unfolding scaled_gains
gain_at n f tau d eta j l h = get_d_tabulate 3 _ j nan (omega arith) ∙ rw (lt-ltb j d l) refl

first_long : (n : ℕ) (w : List Float) → n ≤ length w → length (vector n w 0) ≡ n
unfolding vector
first_long n w h = length_window (0 * n) n w (rw (zero-mul n) (omega arith))

field_at : (n : ℕ) (w : List Float) (d : ℕ) (inv : Float) (i : ℕ) → i < n → n ≤ length w → at (combination_start n w d inv) i ≡ at (vector n w 0) i
unfolding combination_start
field_at n w zero inv i l h = refl
field_at n w (suc d) inv i l h = get_or-append (vector n w 0) _ nan i (rw (first_long n w h) l)

chain_at : (n : ℕ) (w : List Float) (d : ℕ) (inv : Float) (i : ℕ) → n ≤ length w → at (combination_start n w (suc d) inv) (n + i) ≡ at (replicate d +0 ++ (inv ∷ [])) i
unfolding combination_start
chain_at n w d inv i h =
    ap (λ (z : ℕ). at (vector n w 0 ++ (replicate d +0 ++ (inv ∷ []))) (z + i)) (sym (first_long n w h)) ∙ get_or-append-add (vector n w 0) (replicate d +0 ++ (inv ∷ [])) i nan

-- zeros, and 1 / eta at the end
links_scaled : (s t d : ℕ) (inv inv' : Float) (i : ℕ) → i ≤ d → Scaled s t inv inv' → Scaled s t (at (replicate d +0 ++ (inv ∷ [])) i) (at (replicate d +0 ++ (inv' ∷ [])) i)
links_scaled s t d inv inv' i l p = elim (lt_or_le i d) [
  | inl g ↦ rw (front inv g, front inv' g) (zero_scaled s t)
  | inr g ↦ let e : d ≡ i = omega arith in rw (← e) (rw (get_or_at (replicate d +0) inv [] nan d (length-replicate d +0), get_or_at (replicate d +0) inv' [] nan d (length-replicate d +0)) p)
]
  where
    front : (x : Float) → i < d → at (replicate d +0 ++ (x ∷ [])) i ≡ +0
    front x g = get_or-append (replicate d +0) (x ∷ []) nan i (rw (length-replicate d +0) g) ∙ get_or-replicate d i +0 nan g

chain_scaled : (s t n : ℕ) (w w' : List Float) (d : ℕ) (inv inv' : Float) → n ≤ length w → n ≤ length w' → Scaled s t inv inv' → (i : ℕ) → i < d → Scaled s t (at (combination_start n w d inv) (n + i)) (at (combination_start n w' d inv') (n + i))
chain_scaled s t n w w' zero inv inv' a b p i l = absurd (omega arith)
chain_scaled s t n w w' (suc d) inv inv' a b p i l = rw (chain_at n w d inv i a, chain_at n w' d inv' i b) (links_scaled s t d inv inv' i (omega arith) p)

-- ---- vectors w_0 to w_d of n values each, and those times 2 ^ u / 2 ^ v
module _ (u v n d : ℕ) (w w' : List Float) (tau : Float) (time : T (fits binary64 tau)) (few : d ≤ 3) (long : (d + 1) * n ≤ length w) (long' : (d + 1) * n ≤ length w') (h : (i : ℕ) → i < (d + 1) * n → Scaled u v (at w i) (at w' i)) where
  vector_scaled : (k : ℕ) → k ≤ d → (i : ℕ) → i < n → Scaled u v (at (vector n w k) i) (at (vector n w' k) i)
  unfolding vector
  vector_scaled k l i m =
      let c = column_within k (d + 1) n (omega arith) in
      rw (get_d_window (k * n) n w i nan m, get_d_window (k * n) n w' i nan m) (h (k * n + i) (omega arith))

  vector_long : (k : ℕ) → k ≤ d → (x : List Float) → (d + 1) * n ≤ length x → length (vector n x k) ≡ n
  unfolding vector
  vector_long k l x g = let c = column_within k (d + 1) n (omega arith) in length_window (k * n) n x (omega arith)

  -- w_1 to w_d
  abbrev f : List Float
  f = further n w

  abbrev f' : List Float
  f' = further n w'

  behind_scaled : (k : ℕ) → k < d → (i : ℕ) → i < n → Scaled u v (at (vector n f k) i) (at (vector n f' k) i)
  behind_scaled k l i m = rw (further_vector n w k, further_vector n w' k) (vector_scaled (k + 1) (omega arith) i m)

  behind_long : (k : ℕ) → k < d → (x : List Float) → (d + 1) * n ≤ length x → length (vector n (further n x) k) ≡ n
  behind_long k l x g = rw (further_vector n x k) (vector_long (k + 1) (omega arith) x g)

  -- an all-zero vector stays one, so that the powers of tau that are taken are the same
  gain_same : (k : ℕ) → k < d → gain n f tau k ≡ gain n f' tau k
  unfolding gain
  gain_same k l =
      let sups = sup_scaled u v (vector n f k) (vector n f' k) n (behind_long k l w long) (behind_long k l w' long') (behind_scaled k l) in
      ap (λ (b : Bool). if b then +0 else power tau (k + 1)) (eq_scaled u v (sup (vector n f k)) (sup (vector n f' k)) +0 +0 sups (zero_scaled u v))

  gain_fits : (k : ℕ) → T (fits binary64 (gain n f tau k))
  unfolding gain
  gain_fits k = pick (eq (sup (vector n f k)) +0)
    where
      pick : (b : Bool) → T (fits binary64 (if b then +0 else power tau (k + 1)))
      pick true = of_bits-fits binary64 0
      pick false = times_fits tau (k + 1 - 1) time

  -- by how much the two scalings differ
  abbrev pub E : Scalings (eta_scaling (magnitude n f tau d)) (eta_scaling (magnitude n f' tau d))
  E = scalings (magnitude n f tau d) (magnitude n f' tau d)

  abbrev pub CleanGains : List Float → Type 0
  CleanGains x = (k : ℕ) → 0 < k → k < d + 1 → Clean⊗ (gain n x tau (k - 1)) (eta_of n x tau d).eta

  gain_clean : (x : List Float) → CleanGains x → (k : ℕ) → k < d → Clean⊗ (gain n x tau k) (eta_of n x tau d).eta
  gain_clean x c k l = let e : k + 1 - 1 ≡ k = omega arith in subst (λ (i : ℕ). Clean⊗ (gain n x tau i) (eta_of n x tau d).eta) e (c (k + 1) (omega arith) (omega arith))

  pub operators_scaled : (q : Csr) → q.n ≡ n → Valid q → Doubles q.entries → CleanGains f → CleanGains f'
      → ScaledOperators u v E.s E.t q d d (column_places n d) f f' (scaled_gains n f tau d (eta_of n f tau d).eta) (scaled_gains n f' tau d (eta_of n f' tau d).eta)
  unfolding eta_of further
  operators_scaled q rows valid doubles c c' =
      record {
        valid = valid;
        doubles = doubles;
        few = few;
        chained = omega arith;
        columns = λ i l k m.
            let b = column_within (d - k - 1 + 1) (d + 1) n (omega arith) in
            let e = suc-mul (d - k - 1) n in
            let a = ap (λ (z : ℕ). z * n) (add-one (d - k - 1)) in
            rw (place_at n d k m few, get_or-drop n w ((d - k - 1) * n + i) nan, get_or-drop n w' ((d - k - 1) * n + i) nan) (h (n + ((d - k - 1) * n + i)) (omega (arith, b, e, a)));
        weights = λ k m.
            rw (gain_at n f tau d _ k m few, gain_at n f' tau d _ k m few)
            (by_equal E.t E.s (gain n f tau (d - k - 1)) (gain n f' tau (d - k - 1)) _ _ (gain_same (d - k - 1) (omega arith)) (gain_fits (d - k - 1)) E.eta (gain_clean f c (d - k - 1) (omega arith)) (gain_clean f' c' (d - k - 1) (omega arith)));
      }

  pub start_scaled : ScaledState u v E.s E.t n d (combination_start n w d (eta_of n f tau d).inv) (combination_start n w' d (eta_of n f' tau d).inv)
  unfolding eta_of
  start_scaled =
      let first : n ≤ (d + 1) * n = let b = column_within 0 (d + 1) n (omega arith) in omega arith in
      record {
        field = λ i l. rw (field_at n w d _ i l (omega arith), field_at n w' d _ i l (omega arith)) (vector_scaled 0 (omega arith) i l);
        chain = chain_scaled E.s E.t n w w' d _ _ (omega arith) (omega arith) E.inv;
      }
