-- The shortest length that a run reports is that of a substep, and at most that of each. Assumes nothing.
use mathlib.Core.Path.{◌≡◌, refl, sym, ◌∙◌, subst}
use mathlib.Core.Logic.{◌⊎◌, inl, inr}
use mathlib.Core.Bool.{not}
use mathlib.Core.List.{List, [], ◌∷◌}
use Prim.Native.Nat.{ℕ, suc}
use native.Mathlib.Omega.{arith}
use borrow.Author.Tests.{ne_eqb}
use lib.Dec.{T}
use lib.Ieee.{Float, is_nan}
use Rattle.doubles.specs.F64.{◌⊕◌, ◌⩽◌, +0, min_num}
use Rattle.doubles.proofs.Total.{⩽_refl, ⩽_trans, lt_numbers}
use Rattle.doubles.proofs.Extremes.{min_of_two}
use Rattle.krylov_advance.specs.Run.{shorter}
use Rattle.demand_3.specs.Trace.{Accepted}
use Rattle.demand_3.specs.Krylov.{Each, OneOf, Shortest, Steps}
use Rattle.demand_3.proofs.Counts.{shortest_after}

-- the length of each is a number
abbrev Numbers : List Accepted → Type 0
Numbers l = Each (λ a. T (not (is_nan a.t))) l

steps_numbers : (time : Float) (y : List Float) (l : List Accepted) → Steps time y l → Numbers l
steps_numbers time y [] h = tt
steps_numbers time y (a ∷ l) h = ((lt_numbers +0 a.t h.4.above).1, steps_numbers (time ⊕ a.t) a.to l h.10)

-- from x on: the result is x or one of these, at most x and at most each
pub record From (x : Float) (l : List Accepted) (t : Float) : Type 0 where
  pub among : (t ≡ x) ⊎ OneOf t l
  pub most : T (t ⩽ x)
  pub each : Each (λ b. T (t ⩽ b.t)) l

-- behind the first length it is the minimum
later : (k : ℕ) (x t : Float) → shorter (suc k) x t ≡ min_num x t
unfolding shorter
later k x t = rw (ne_eqb (suc k) 0 (λ e. absurd (omega (arith, e)))) refl

shortest_from : (k : ℕ) (x : Float) (l : List Accepted) → T (not (is_nan x)) → Numbers l → From x l (shortest_after (suc k) x l)
unfolding shortest_after
shortest_from k x [] n h = record { among = inl refl; most = ⩽_refl x n; each = tt }
shortest_from k x (a ∷ l) n h = elim (min_of_two x a.t n h.0) [
  | inl m ↦ subst (λ (y : Float). From x (a ∷ l) (shortest_after (suc (suc k)) y l)) (sym (later k x a.t ∙ m.0)) (kept m.1 (shortest_from (suc k) x l n h.1))
  | inr m ↦ subst (λ (y : Float). From x (a ∷ l) (shortest_after (suc (suc k)) y l)) (sym (later k x a.t ∙ m.0)) (shortened m.1 (shortest_from (suc k) a.t l h.0 h.1))
]
  where
    further : {t y : Float} → (t ≡ y) ⊎ OneOf t l → (t ≡ y) ⊎ OneOf t (a ∷ l)
    further (inl e) = inl e
    further (inr o) = inr (inr o)

    here : {t : Float} → (t ≡ a.t) ⊎ OneOf t l → (t ≡ x) ⊎ OneOf t (a ∷ l)
    here (inl e) = inr (inl e)
    here (inr o) = inr (inr o)

    kept : {t : Float} → T (x ⩽ a.t) → From x l t → From x (a ∷ l) t
    kept {t} le f = record { among = further f.among; most = f.most; each = (⩽_trans t x a.t f.most le, f.each) }

    shortened : {t : Float} → T (a.t ⩽ x) → From a.t l t → From x (a ∷ l) t
    shortened {t} le f = record { among = here f.among; most = ⩽_trans t a.t x f.most le; each = (f.most, f.each) }

pub shortest_is : (time : Float) (y : List Float) (l : List Accepted) → Steps time y l → Shortest l (shortest_after 0 +0 l)
unfolding shortest_after shorter
shortest_is time y [] h = refl
shortest_is time y (a ∷ l) h =
    let n = steps_numbers time y (a ∷ l) h in
    let f = shortest_from 0 a.t l n.0 n.1 in
    (f.among, (f.most, f.each))
