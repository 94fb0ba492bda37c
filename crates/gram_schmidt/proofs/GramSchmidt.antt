-- One column on lists: the product, less its parts along the columns before. Assumes nothing.
use mathlib.Core.List.{List}
use mathlib.Core.Path.{◌≡◌, refl, sym, ap, ◌∙◌}
use Prim.Native.Nat.{ℕ, zero, suc, ◌+◌, ◌*◌, ◌≤◌, ◌<◌}
use native.Mathlib.Omega.{arith}
use native.Mathlib.Nat.{suc-mul}
use native.Mathlib.Numerals.{add-one}
use lib.ListN.{length, set, length-set}
use lib.Ieee.{Float, neg}
use Rattle.lists.specs.Loop.{iter}
use Rattle.lists.specs.Window.{window, splice}
use Rattle.lists.proofs.Loop.{iter_none, iter_next}
use Rattle.lists.proofs.Bounds.{column_within, cell_within}
use Rattle.lists.proofs.Window.{length_window, length_splice, window_splice_after, window_splice_same, splice_splice, splice_window, set_splice_after, set_splice_in}
use Rattle.vectors.specs.Vectors.{axpy}
use Rattle.dot.specs.Dot.{dot}
use Rattle.hess_rows.specs.HessProduct.{place}
use Rattle.vectors.proofs.Laws.{length_axpy}
use Rattle.gram_schmidt.specs.Basis.{Rest, lessen, orthogonal}
use Rattle.gram_schmidt.specs.Memory.{column, rest_at}

module _ (v : ℕ → List Float) (dim j : ℕ) where
  orthogonal_none : (r : Rest) → orthogonal v dim j 0 r ≡ r
  unfolding orthogonal
  orthogonal_none r = iter_none (lessen v dim j) r

  orthogonal_next : (i : ℕ) (r : Rest) → orthogonal v dim j (i + 1) r ≡ lessen v dim j i (orthogonal v dim j i r)
  unfolding orthogonal
  orthogonal_next i r = iter_next (lessen v dim j) i r

  -- only the columns below i are asked for
  pub orthogonal_ext : (u : ℕ → List Float) (i : ℕ) (r : Rest) → ((k : ℕ) → k < i → v k ≡ u k) → orthogonal v dim j i r ≡ orthogonal u dim j i r
  unfolding orthogonal iter lessen
  orthogonal_ext u zero r e = refl
  orthogonal_ext u (suc i) r e =
      let s = orthogonal_ext u i r (λ k l. e k (omega arith)) in
      let d = e i (omega arith) in
      λ t. record { z = axpy (neg (dot (s t).z (d t))) (d t) (s t).z; h = set (s t).h (place dim i j) (dot (s t).z (d t)) }

  pub orthogonal_long : (i n : ℕ) (r : Rest) → length r.z ≡ n → ((k : ℕ) → k < i → length (v k) ≡ n) → length (orthogonal v dim j i r).z ≡ n
  unfolding orthogonal iter lessen
  orthogonal_long zero n r e h = e
  orthogonal_long (suc i) n r e h =
      let l = orthogonal_long i n r e (λ k m. h k (omega arith)) in
      let s = orthogonal v dim j i r in
      length_axpy (neg (dot s.z (v i))) (v i) s.z (h i (omega arith) ∙ sym l) ∙ l

  pub orthogonal_h_long : (i : ℕ) (r : Rest) → length (orthogonal v dim j i r).h ≡ length r.h
  unfolding orthogonal iter lessen
  orthogonal_h_long zero r = refl
  orthogonal_h_long (suc i) r =
      let s = orthogonal v dim j i r in
      length-set s.h (place dim i j) (dot s.z (v i)) ∙ orthogonal_h_long i r

pub column_is : (n : ℕ) (w : List Float) (k : ℕ) → window (k * n) n w ≡ column n w k
unfolding column
column_is n w k = refl

pub length_column : (n : ℕ) (w : List Float) (k : ℕ) → k * n + n ≤ length w → length (column n w k) ≡ n
unfolding column
length_column n w k h = length_window (k * n) n w h

-- ---- the loop over the columns
pub began : (n q r dim j : ℕ) (w : List Float) → (let R = orthogonal (column n w) dim j 0 (rest_at n q r dim w) in w ≡ splice q R.z (splice r R.h w))
began n q r dim j w = sym (rw (orthogonal_none, splice_window r (dim * dim) w) (splice_window q n w))

-- what a turn leaves: the size is stored, and then the column taken away
pub turn : (n q r dim j i : ℕ) (w₀ s s₂ : List Float) (c : Float) → j * n + n ≤ q → q + n ≤ r → r + dim * dim ≤ length w₀ → j < dim → i < j + 1
    → (let R = orthogonal (column n w₀) dim j i (rest_at n q r dim w₀) in s ≡ splice q R.z (splice r R.h w₀))
    → c ≡ dot (window q n s) (window (i * n) n s)
    → s₂ ≡ splice q (axpy (neg c) (window (i * n) n (set s (r + place dim i j) c)) (window q n (set s (r + place dim i j) c))) (set s (r + place dim i j) c)
    → (let R = orthogonal (column n w₀) dim j (i + 1) (rest_at n q r dim w₀) in s₂ ≡ splice q R.z (splice r R.h w₀))
unfolding lessen
turn n q r dim j i w₀ s s₂ c a b d jd l es ec e₂ =
    let v = column n w₀ in
    let f = rest_at n q r dim w₀ in
    let R = orthogonal v dim j i f in
    let u = R.z in
    let g = dot u (v i) in
    let k = place dim i j in
    let x = splice r R.h w₀ in
    let x₁ = splice r (set R.h k g) w₀ in
    let cj : i * n + n ≤ j * n + n = omega (arith, column_within i (j + 1) n l) in
    let cd : k < dim * dim = cell_within j dim dim i jd (omega arith) in
    let lx : length x ≡ length w₀ = length_splice r R.h w₀ in
    let lx₁ : length x₁ ≡ length w₀ = length_splice r (set R.h k g) w₀ in
    let lh : length R.h ≡ dim * dim = orthogonal_h_long v dim j i f ∙ length_window r (dim * dim) w₀ d in
    let lu : length u ≡ n = orthogonal_long v dim j i n f (length_window q n w₀ (omega arith)) (λ k m. length_column n w₀ k (omega (arith, column_within k (j + 1) n (omega arith)))) in
    let vs : window (i * n) n s ≡ v i = ap (window (i * n) n) es ∙ window_splice_after (i * n) n q u x (omega arith) ∙ window_splice_after (i * n) n r R.h w₀ (omega arith) ∙ column_is n w₀ i in
    let ws : window q n s ≡ u = ap (window q n) es ∙ window_splice_same q n u x lu (omega arith) in
    let cg : c ≡ g = cc in
    let st : set s (r + k) c ≡ splice q u x₁ = (λ t. set (es t) (r + k) (cg t)) ∙ set_splice_after q u x (r + k) g (omega arith) ∙ ap (splice q u) (set_splice_in r R.h w₀ k g (omega arith)) in
    let vt : window (i * n) n (set s (r + k) c) ≡ v i = ap (window (i * n) n) st ∙ window_splice_after (i * n) n q u x₁ (omega arith) ∙ window_splice_after (i * n) n r (set R.h k g) w₀ (omega arith) ∙ column_is n w₀ i in
    let wt : window q n (set s (r + k) c) ≡ u = ap (window q n) st ∙ window_splice_same q n u x₁ lu (omega arith) in
    let lt : length (axpy (neg g) (v i) u) ≡ n = length_axpy (neg g) (v i) u (length_column n w₀ i (omega arith) ∙ sym lu) ∙ lu in
    rw (e₂, vt, wt, st, cg, splice_splice q (axpy (neg g) (v i) u) u x₁ (omega arith), orthogonal_next v dim j i f)

-- the next size: of what is left with the column behind
pub next_size : (n q j i : ℕ) (t s₂ : List Float) (a c : Float) → j * n + n ≤ q → q + n ≤ length t → i < j
    → s₂ ≡ splice q (axpy a (window (i * n) n t) (window q n t)) t
    → c ≡ dot (axpy a (window (i * n) n t) (window q n t)) (window (i * n + n) n t)
    → c ≡ dot (window q n s₂) (window ((i + 1) * n) n s₂)
next_size n q j i t s₂ a c l m h e ec =
    let u = axpy a (window (i * n) n t) (window q n t) in
    let here : i * n + n ≤ j * n = column_within i j n h in
    let next : (i + 1) * n ≡ i * n + n = ap (λ k. k * n) (add-one i) ∙ suc-mul i n in
    let lq : length (window q n t) ≡ n = length_window q n t m in
    let lu : length u ≡ n = length_axpy a (window (i * n) n t) (window q n t) (length_window (i * n) n t (omega arith) ∙ sym lq) ∙ lq in
    let z : window q n s₂ ≡ u = ap (window q n) e ∙ window_splice_same q n u t lu m in
    let v : window (i * n + n) n s₂ ≡ window (i * n + n) n t = ap (window (i * n + n) n) e ∙ window_splice_after (i * n + n) n q u t (omega arith) in
    rw (next, z, v) ec
