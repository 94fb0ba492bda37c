-- A row of the product by parts, and in place: what has been written lies left of what the row reads. Assumes nothing.
use mathlib.Core.List.{List}
use mathlib.Core.Path.{◌≡◌, refl, sym, ap, ◌∙◌}
use Prim.Native.Nat.{ℕ, zero, suc, ◌+◌, ◌-◌, ◌*◌, ◌≤◌, ◌<◌, zero-le}
use native.Mathlib.Omega.{arith}
use native.Mathlib.Numerals.{unary_clauses}
use native.Mathlib.Nat.{mul-le-mul_right}
use borrow.Author.Tests.{ne_eqb}
use lib.ListN.{length, take, drop}
use lib.Ieee.{Float, nan}
use Rattle.lists.specs.Loop.{iter}
use Rattle.lists.proofs.Loop.{iter_none, iter_next}
use Rattle.lists.proofs.Bounds.{cell_within, column_within}
use Rattle.lists.proofs.Folds.{length_part, get_d_part}
use Rattle.doubles.specs.F64.{◌⊕◌, ◌⊗◌, +0, at}
use Rattle.doubles.specs.Sum.{sum}
use Rattle.hess_rows.specs.HessProduct.{place}
use Rattle.hess_rows.specs.Parts.{hess_row, left_product, row_part, four_parts, added, Leading}
use Rattle.hess_rows.specs.declared.Four.{Four}

module _ (h : List Float) (dim : ℕ) (x : Float) (w : List Float) (r : ℕ) where
  abbrev step : ℕ → Float → Float
  step i s = s ⊕ at h (place dim r (r + i)) ⊗ at w (r + i)

  pub part_none : row_part h dim x w r r ≡ left_product h dim x r
  unfolding row_part
  part_none = let none : r - r ≡ 0 = omega arith in rw none (iter_none step (left_product h dim x r))

  -- one column more
  pub part_next : (j : ℕ) → r ≤ j → row_part h dim x w r (j + 1) ≡ row_part h dim x w r j ⊕ at h (place dim r j) ⊗ at w j
  unfolding row_part
  part_next j l =
      let more : j + 1 - r ≡ (j - r) + 1 = omega arith in
      let here : r + (j - r) ≡ j = omega arith in
      ap (λ (n : ℕ). iter step n (left_product h dim x r)) more ∙ iter_next step (j - r) (left_product h dim x r) ∙ ap (λ (k : ℕ). iter step (j - r) (left_product h dim x r) ⊕ at h (place dim r k) ⊗ at w k) here

  pub part_turn : (j : ℕ) {s : Float} → r ≤ j → s ≡ row_part h dim x w r j → s ⊕ at h (place dim r j) ⊗ at w j ≡ row_part h dim x w r (j + 1)
  part_turn j l e = ap (λ (t : Float). t ⊕ at h (place dim r j) ⊗ at w j) e ∙ sym (part_next j l)

  -- the same where w is gone through from place r on
  pub part_more : (to k : ℕ) {s : Float} → k < length (take (to - r) (drop r w)) → to ≤ length w → s ≡ row_part h dim x w r (r + k)
      → s ⊕ at h (place dim r (r + k)) ⊗ at (take (to - r) (drop r w)) k ≡ row_part h dim x w r (r + (k + 1))
  part_more to k {s} l m e =
      let more : r + k + 1 ≡ r + (k + 1) = omega arith in
      let here = get_d_part r to w k nan (omega (arith, length_part r to w m)) in
      rw (here, ← more) (part_turn (r + k) (omega arith) e)

-- fewer rows and columns lie within h too
pub fewer : {h : List Float} {dim a : ℕ} → Leading h dim a → (b : ℕ) → b ≤ a → Leading h dim b
fewer {h} {dim} {a} l b m = record { across = omega (arith, l.across); down = omega (arith, mul-le-mul_right dim m, l.down) }

-- the entry of row r in column r + k lies within h
pub row_within : {h : List Float} {dim a : ℕ} → Leading h dim a → (w : List Float) (r k : ℕ) → r < dim → a ≤ length w → k < length (take (a - r) (drop r w)) → (r + k) * dim + r < length h
row_within {h} {dim} {a} l w r k m n g = omega (arith, cell_within (r + k) a dim r (omega (arith, length_part r a w n)) m, l.down)

-- the entries of four rows in column j lie within h
pub four_within : {h : List Float} {dim a : ℕ} → Leading h dim a → (r j : ℕ) → r + 4 ≤ dim → j < a → j * dim + r + 4 ≤ length h
four_within {h} {dim} {a} l r j m n = omega (arith, column_within j a dim n, l.down)

-- ---- four rows
module _ (h : List Float) (dim : ℕ) (x : Float) (w : List Float) (r j : ℕ) (l : r + 3 ≤ j) where
  -- a row's turn, where the code has the entry's place by another name
  turn_at : (x : Float) (k p : ℕ) {s : Float} → k ≤ j → p ≡ place dim k j → s ≡ row_part h dim x w k j → s ⊕ at h p ⊗ at w j ≡ row_part h dim x w k (j + 1)
  turn_at x k p {s} m e d = ap (λ (n : ℕ). s ⊕ at h n ⊗ at w j) e ∙ part_turn h dim x w k j m d

  pub four_turn : (p : ℕ) {s : Four} → p ≡ place dim r j → s ≡ four_parts h dim x w r j → added h p (at w j) s ≡ four_parts h dim x w r (j + 1)
  four_turn p {s} d e =
      let t0 = turn_at x r p (omega arith) d (ap (λ (z : Four). z.s0) e) in
      let t1 = turn_at (at w r) (r + 1) (p + 1) (omega arith) (omega (arith, d)) (ap (λ (z : Four). z.s1) e) in
      let t2 = turn_at (at w (r + 1)) (r + 2) (p + 2) (omega arith) (omega (arith, d)) (ap (λ (z : Four). z.s2) e) in
      let t3 = turn_at (at w (r + 2)) (r + 3) (p + 3) (omega arith) (omega (arith, d)) (ap (λ (z : Four). z.s3) e) in
      λ i. record { s0 = t0 i; s1 = t1 i; s2 = t2 i; s3 = t3 i }

-- where w is gone through from place `from` on: the entries of four rows lie within h, and a turn
pub four_in : {h : List Float} {dim a : ℕ} → Leading h dim a → (w : List Float) (r from k : ℕ) → r + 4 ≤ dim → a ≤ length w → k < length (take (a - from) (drop from w)) → (from + k) * dim + r + 4 ≤ length h
four_in {h} {dim} {a} l w r from k m n g = four_within l r (from + k) m (omega (arith, length_part from a w n))

pub four_more : (h : List Float) (dim : ℕ) (x : Float) (w : List Float) (r from to k p : ℕ) {s : Four} → r + 3 ≤ from → k < length (take (to - from) (drop from w)) → to ≤ length w
    → p ≡ place dim r (from + k) → s ≡ four_parts h dim x w r (from + k) → added h p (at (take (to - from) (drop from w)) k) s ≡ four_parts h dim x w r (from + (k + 1))
four_more h dim x w r from to k p {s} b l m d e =
    let more : from + k + 1 ≡ from + (k + 1) = omega arith in
    let here = get_d_part from to w k nan (omega (arith, length_part from to w m)) in
    rw (here, ← more) (four_turn h dim x w r (from + k) (omega arith) p d e)

-- ---- the row that the parts make
-- a sum by another way of its terms, and with its first term apart
iter_sum : (n : ℕ) (f g : ℕ → Float) → ((k : ℕ) → k < n → f k ≡ g k) → sum n f ≡ iter (λ k s. s ⊕ g k) n +0
unfolding sum iter
iter_sum zero f g e = refl
iter_sum (suc n) f g e = λ i. iter_sum n f g (λ k l. e k (omega arith)) i ⊕ e n (omega arith) i

sum_first : (n : ℕ) (f g : ℕ → Float) {t : Float} → f 0 ≡ t → ((k : ℕ) → k < n → f (suc k) ≡ g k) → sum (suc n) f ≡ iter (λ k s. s ⊕ g k) n (+0 ⊕ t)
unfolding sum iter
sum_first zero f g d e = ap (λ (t : Float). +0 ⊕ t) d
sum_first (suc n) f g d e = λ i. sum_first n f g d (λ k l. e k (omega arith)) i ⊕ e n (omega arith) i

-- where w is w₀ from r on and x is w₀ at r - 1, the parts make the row of w₀
pub row_is : (h : List Float) (dim mx : ℕ) (w₀ w : List Float) (r : ℕ) {x : Float} → r < mx → (0 < r → x ≡ at w₀ (r - 1)) → ((k : ℕ) → r ≤ k → at w k ≡ at w₀ k) → row_part h dim x w r mx ≡ hess_row h dim mx w₀ r
unfolding row_part left_product
row_is h dim mx w₀ w zero {x} l e same =
    let all : mx - 0 ≡ mx = omega arith in
    rw all (sym (iter_sum mx (λ i. at h (place dim 0 (0 + i)) ⊗ at w₀ (0 + i)) (λ i. at h (place dim 0 (0 + i)) ⊗ at w (0 + i)) (λ i m. ap (λ (y : Float). at h (place dim 0 (0 + i)) ⊗ y) (sym (same (0 + i) zero-le)))))
row_is h dim mx w₀ w (suc r) {x} l e same =
    let left : suc r - 1 ≡ r = omega arith in
    let count : mx - r ≡ suc (mx - suc r) = omega arith in
    rw (left, count, ne_eqb (suc r) 0 (λ z. absurd (omega (arith, z))))
    (sym (sum_first (mx - suc r) (λ i. at h (place dim (suc r) (r + i)) ⊗ at w₀ (r + i)) (λ i. at h (place dim (suc r) (suc r + i)) ⊗ at w (suc r + i)) first (λ i m. term (r + suc i) (suc r + i) (omega arith) (omega arith))))
  where
    term : (i j : ℕ) → i ≡ j → suc r ≤ j → at h (place dim (suc r) i) ⊗ at w₀ i ≡ at h (place dim (suc r) j) ⊗ at w j
    term i j d m = ap (λ (n : ℕ). at h (place dim (suc r) n) ⊗ at w₀ n) d ∙ ap (λ (y : Float). at h (place dim (suc r) j) ⊗ y) (sym (same j m))

    first : at h (place dim (suc r) (r + 0)) ⊗ at w₀ (r + 0) ≡ at h (place dim (suc r) r) ⊗ x
    first = let here : r + 0 ≡ r = omega arith in
        ap (λ (n : ℕ). at h (place dim (suc r) n) ⊗ at w₀ n) here ∙ ap (λ (y : Float). at h (place dim (suc r) r) ⊗ y) (sym (simp unary_clauses at (e (omega arith))))
