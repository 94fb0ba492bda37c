-- The vectors behind w_0, and the values of two lists one behind the other. Assumes nothing.
use mathlib.Core.Path.{◌≡◌, refl, sym, ap, ◌∙◌}
use mathlib.Core.Logic.{inl, inr}
use mathlib.Core.Bool.{not}
use mathlib.Core.List.{List, [], ◌∷◌, ◌++◌}
use Prim.Native.Nat.{ℕ, zero, suc, ◌+◌, ◌-◌, ◌*◌, ◌≤◌, ◌<◌}
use native.Mathlib.Omega.{arith}
use native.Mathlib.Numerals.{add-one}
use native.Mathlib.Nat.{suc-mul, zero-mul}
use lib.Dec.{eqb}
use borrow.Author.Tests.{ne_eqb}
use lib.ListN.{length, take, drop, replicate, length-append, length-drop, get_or-append}
use lib.Seq.{take_all, take-append-le, drop_at, drop-drop, get_or-append-add}
use lib.Ieee.{Float, nan}
use Rattle.lists.specs.Find.{find}
use Rattle.lists.specs.Window.{window}
use Rattle.lists.proofs.Bounds.{lt_or_le}
use Rattle.lists.proofs.Find.{find_ext, find_front, find_behind}
use Rattle.doubles.specs.F64.{+0, is_finite}
use Rattle.checks.specs.First.{Check, first}
use Rattle.checks.proofs.First.{passes_find, stops_find}
use Rattle.combination.specs.Combination.{further, vector, combination_start, field_of}
use Rattle.combination.specs.Checks.{not_finite_at, finite_checks}
use Rattle.checks.specs.Reasons.{Refused}
use Rattle.checks.specs.declared.Reason.TheVariants.{VectorNotFinite}

-- ---- the vectors behind w_0
-- as they are lent, a part from n to the end
pub part_further : (n : ℕ) (w : List Float) → take (length w - n) (drop n w) ≡ further n w
unfolding further
part_further n w = take_all (length w - n) (drop n w) (omega (arith, length-drop n w))

pub length_further : (n : ℕ) (w : List Float) → length (further n w) ≡ length w - n
unfolding further
length_further n w = length-drop n w

-- w_(j+1) of all vectors is at j of the further ones
pub further_vector : (n : ℕ) (w : List Float) (j : ℕ) → vector n (further n w) j ≡ vector n w (j + 1)
unfolding further vector window
further_vector n w j =
    let place : n + j * n ≡ (j + 1) * n = omega (arith, suc-mul j n, ap (λ (k : ℕ). k * n) (add-one j)) in
    ap (take n) (drop-drop (j * n) n w ∙ ap (λ (k : ℕ). drop k w) place)

-- w_0 and the further vectors, one behind the other
module _ (n : ℕ) (v f : List Float) (l : length v ≡ n) where
  pub further_behind : further n (v ++ f) ≡ f
  unfolding further
  further_behind = drop_at v f n l

  first_of : vector n (v ++ f) 0 ≡ vector n v 0
  unfolding vector window
  first_of = rw (zero-mul n) (take-append-le n v f (omega arith))

  pub start_of : (d : ℕ) (inv : Float) → combination_start n (v ++ f) d inv ≡ combination_start n v d inv
  unfolding combination_start
  start_of zero inv = first_of
  start_of (suc d) inv = ap (λ (y : List Float). y ++ (replicate d +0 ++ (inv ∷ []))) first_of

-- ---- 17: the first value that is not finite, of one list and then of another
module _ (xs ys : List Float) (cs : List Check) where
  within : (k : ℕ) → k < length xs → not_finite_at (xs ++ ys) k ≡ not_finite_at xs k
  unfolding not_finite_at
  within k l = ap (λ (x : Float). not (is_finite x)) (get_or-append xs ys nan k l)

  behind : (k : ℕ) → k < length ys → not_finite_at (xs ++ ys) (length xs + k) ≡ not_finite_at ys k
  unfolding not_finite_at
  behind k l = ap (λ (x : Float). not (is_finite x)) (get_or-append-add xs ys k nan)

  in_front : find (not_finite_at xs) (length xs) < length xs → first (finite_checks (xs ++ ys) ++ cs) ≡ first (finite_checks xs ++ (finite_checks ys ++ cs))
  unfolding finite_checks
  in_front l =
      let e = find_ext (not_finite_at (xs ++ ys)) (not_finite_at xs) (length xs) within in
      let found = sym e ∙ find_front (not_finite_at (xs ++ ys)) (length xs) (length ys) (omega (arith, e)) ∙ ap (find (not_finite_at (xs ++ ys))) (sym (length-append xs ys)) in
      sym (stops_find VectorNotFinite (xs ++ ys) cs (not_finite_at (xs ++ ys)) (length (xs ++ ys)) found (omega (arith, length-append xs ys)))
      ∙ ap (Refused VectorNotFinite) (get_or-append xs ys nan _ l)
      ∙ stops_find VectorNotFinite xs (finite_checks ys ++ cs) (not_finite_at xs) (length xs) refl l

  found_behind : length xs ≤ find (not_finite_at xs) (length xs) → length xs + find (not_finite_at ys) (length ys) ≡ find (not_finite_at (xs ++ ys)) (length (xs ++ ys))
  found_behind l =
      let e = find_ext (not_finite_at (xs ++ ys)) (not_finite_at xs) (length xs) within in
      ap (λ (k : ℕ). length xs + k) (sym (find_ext (λ k. not_finite_at (xs ++ ys) (length xs + k)) (not_finite_at ys) (length ys) behind))
      ∙ find_behind (not_finite_at (xs ++ ys)) (length xs) (length ys) (omega (arith, e))
      ∙ ap (find (not_finite_at (xs ++ ys))) (sym (length-append xs ys))

  then_behind : length xs ≤ find (not_finite_at xs) (length xs) → first (finite_checks (xs ++ ys) ++ cs) ≡ first (finite_checks ys ++ cs)
  unfolding finite_checks
  then_behind l = elim (lt_or_le (find (not_finite_at ys) (length ys)) (length ys)) [
    | inl h ↦ sym (stops_find VectorNotFinite (xs ++ ys) cs (not_finite_at (xs ++ ys)) (length (xs ++ ys)) (found_behind l) (omega (arith, length-append xs ys)))
        ∙ ap (Refused VectorNotFinite) (get_or-append-add xs ys _ nan)
        ∙ stops_find VectorNotFinite ys cs (not_finite_at ys) (length ys) refl h
    | inr h ↦ sym (passes_find VectorNotFinite _ cs (not_finite_at (xs ++ ys)) (length (xs ++ ys)) (found_behind l) (omega (arith, length-append xs ys)) refl)
        ∙ passes_find VectorNotFinite _ cs (not_finite_at ys) (length ys) refl h refl
  ]

  pub finite_behind : first (finite_checks (xs ++ ys) ++ cs) ≡ first (finite_checks xs ++ (finite_checks ys ++ cs))
  unfolding finite_checks
  finite_behind = elim (lt_or_le (find (not_finite_at xs) (length xs)) (length xs)) [
    | inl l ↦ in_front l
    | inr l ↦ then_behind l ∙ passes_find VectorNotFinite _ (finite_checks ys ++ cs) (not_finite_at xs) (length xs) refl l refl
  ]

-- ---- w_0 of a later job
pub later_field : (i : ℕ) (field output : List Float) → 1 ≤ i → field_of (eqb i 0) field output ≡ output
later_field i field output l = rw (ne_eqb i 0 (λ e. absurd (omega (arith, l, e)))) refl
