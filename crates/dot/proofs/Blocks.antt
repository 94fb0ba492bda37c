-- y + a x written block by block, and the partial sums of its inner product with v: three windows of one list. Assumes nothing.
use mathlib.Core.Path.{◌≡◌, sym, ap, ◌∙◌}
use mathlib.Core.List.{List, []}
use Prim.Native.Nat.{ℕ, ◌+◌, ◌-◌, ◌*◌, ◌/◌, ◌%◌, ◌≤◌, ◌<◌}
use native.Mathlib.Omega.{arith}
use native.Mathlib.Nat.{add_assoc}
use lib.ListN.{length, set, take, drop}
use lib.Ieee.{Float, nan}
use Rattle.lists.specs.Bounds.{Apart}
use Rattle.lists.specs.Loop.{tabulate}
use Rattle.lists.specs.Window.{window, splice}
use Rattle.lists.proofs.Loop.{Filled, turned, filled_more, finished, get_d_tabulate, read_after, read_apart, read_written, window_apart, tabulate_ext, length_tabulate, zip_with_windows}
use Rattle.lists.proofs.Window.{part_window, get_d_window, length_splice, window_splice_same}
use Rattle.doubles.specs.F64.{◌⊕◌, ◌⊗◌, +0, at}
use Rattle.doubles.specs.Sum.{sum}
use Rattle.doubles.proofs.Sum.{sum_none, sum_turn, sum_ext}
use Rattle.dot.specs.declared.Lanes.{Lanes}
use Rattle.dot.specs.declared.Pair.{Pair}
use Rattle.vectors.specs.Vectors.{axpy}
use Rattle.dot.specs.Dot.{lane, lanes, dot}

-- m blocks read the places below 4 m only
lanes_ext : (x y x₁ y₁ : List Float) (m : ℕ) → ((k : ℕ) → k < 4 * m → at x k ≡ at x₁ k) → ((k : ℕ) → k < 4 * m → at y k ≡ at y₁ k) → lanes x y m ≡ lanes x₁ y₁ m
unfolding lanes lane
lanes_ext x y x₁ y₁ m e d =
    let same : (l : ℕ) → l < 4 → lane l x y m ≡ lane l x₁ y₁ m =
    λ l h. sum_ext m (λ j. at x (4 * j + l) ⊗ at y (4 * j + l)) (λ j. at x₁ (4 * j + l) ⊗ at y₁ (4 * j + l)) (λ j i t. e (4 * j + l) (omega arith) t ⊗ d (4 * j + l) (omega arith) t) in
    λ t. record { acc0 = same 0 (omega arith) t; acc1 = same 1 (omega arith) t; acc2 = same 2 (omega arith) t; acc3 = same 3 (omega arith) t }

pub lanes_none : (x y : List Float) → lanes [] [] 0 ≡ lanes x y 0
lanes_none x y = lanes_ext [] [] x y 0 (λ k h. absurd (omega arith)) (λ k h. absurd (omega arith))

module _ (w₀ : List Float) (y x v len : ℕ) (a : Float) where
  -- value k of y + a x
  abbrev pub sum_at : ℕ → Float
  sum_at k = at w₀ (y + k) ⊕ a ⊗ at w₀ (x + k)

  -- m more
  pub block : (i m : ℕ) {w w₁ : List Float} → Filled y i sum_at w₀ w → i + m ≤ len → y + len ≤ length w₀ → x + len ≤ length w₀ → Apart y x len → w₁ ≡ splice (y + i) (axpy a (window (x + i) m w) (window (y + i) m w)) w → Filled y (i + m) sum_at w₀ w₁
  unfolding axpy
  block i m {w} {w₁} h l ly lx ax e =
      filled_more h m
      (e
      ∙ ap (λ r. splice (y + i) r w)
      (zip_with_windows (λ yk xk. yk ⊕ a ⊗ xk) (y + i) (x + i) m w w nan (omega (arith, h.long)) (omega (arith, h.long))
      ∙ tabulate_ext m (λ k. at w (y + i + k) ⊕ a ⊗ at w (x + i + k)) (λ k. sum_at (i + k))
      (λ k j. rw (add_assoc y i k, add_assoc x i k, read_after h (y + (i + k)) nan (omega arith), read_apart h x len (i + k) nan ax (omega arith) (omega arith)))))

  -- the partial sums so far stay what they are
  pub carried : (b i j : ℕ) {w w₁ : List Float} {acc : Lanes} → Filled y i sum_at w₀ w → Filled y j sum_at w₀ w₁ → 4 * b ≤ i → i ≤ j → j ≤ len → y + len ≤ length w₀ → Apart y v len → acc ≡ lanes (window y len w) (window v len w) b → acc ≡ lanes (take (y + len - y) (drop y w₁)) (take (v + len - v) (drop v w₁)) b
  carried b i j {w} {w₁} {acc} h h₁ l m n ly av e =
      let written : (k : ℕ) → k < 4 * b → at (window y len w) k ≡ at (window y len w₁) k =
      λ k t.
      get_d_window y len w k nan (omega arith)
      ∙ read_written y i sum_at w₀ k nan h.is (omega arith) (omega arith)
      ∙ sym (read_written y j sum_at w₀ k nan h₁.is (omega arith) (omega arith))
      ∙ sym (get_d_window y len w₁ k nan (omega arith)) in
      let kept : window v len w ≡ window v len w₁ = window_apart h v len av (omega arith) ∙ sym (window_apart h₁ v len av (omega arith)) in
      rw (part_window y len w₁, part_window v len w₁) (e ∙ lanes_ext (window y len w) (window v len w) (window y len w₁) (window v len w₁) b written (λ k t. ap (λ r. at r k) kept))

  -- all of it
  pub ended : (i : ℕ) {w : List Float} → Filled y i sum_at w₀ w → i ≤ len → len ≤ i → y + len ≤ length w₀ → x + len ≤ length w₀ → w ≡ splice y (axpy a (window x len w₀) (window y len w₀)) w₀
  unfolding axpy
  ended i h l m ly lx = finished h len l m ∙ rw (zip_with_windows (λ yk xk. yk ⊕ a ⊗ xk) y x len w₀ w₀ nan ly lx)

  pub whole : (i : ℕ) {w : List Float} → Filled y i sum_at w₀ w → i ≤ len → len ≤ i → y + len ≤ length w₀ → x + len ≤ length w₀ → window y len w ≡ axpy a (window x len w₀) (window y len w₀)
  unfolding axpy
  whole i h l m ly lx =
      ap (window y len) (finished h len l m) ∙ window_splice_same y len (tabulate len sum_at) w₀ (length_tabulate len sum_at) ly ∙ sym (zip_with_windows (λ yk xk. yk ⊕ a ⊗ xk) y x len w₀ w₀ nan ly lx)

  pub inner : (i : ℕ) {w : List Float} {r : Float} → Filled y i sum_at w₀ w → i ≤ len → len ≤ i → y + len ≤ length w₀ → x + len ≤ length w₀ → Apart y v len → r ≡ dot (take (y + len - y) (drop y w)) (take (v + len - v) (drop v w)) → r ≡ dot (axpy a (window x len w₀) (window y len w₀)) (window v len w₀)
  inner i {w} h l m ly lx av e = (rw (part_window y len w, part_window v len w) at e) ∙ (λ t. dot (whole i h l m ly lx t) (window_apart h v len av l t))

  -- the first n values: written, and one by one
  pub begun : (n : ℕ) {w : List Float} → y + n ≤ length w₀ → x + n ≤ length w₀ → w ≡ splice y (axpy a (window x n w₀) (window y n w₀)) w₀ → Filled y n sum_at w₀ w
  unfolding axpy
  begun n ly lx e = record { is = e ∙ rw (zip_with_windows (λ yk xk. yk ⊕ a ⊗ xk) y x n w₀ w₀ nan ly lx); long = ap length e ∙ length_splice y _ w₀ }

  at_sum : (n k : ℕ) → k < n → y + n ≤ length w₀ → x + n ≤ length w₀ → at (axpy a (window x n w₀) (window y n w₀)) k ≡ sum_at k
  unfolding axpy
  at_sum n k l ly lx = ap (λ (r : List Float). at r k) (zip_with_windows (λ yk xk. yk ⊕ a ⊗ xk) y x n w₀ w₀ nan ly lx) ∙ get_d_tabulate n sum_at k nan l

  -- the partial sums of the whole blocks are those of the whole vectors
  pub lanes_on : (i m : ℕ) {w : List Float} {acc : Lanes} → Filled y i sum_at w₀ w → i ≤ len → len ≤ i → 4 * m ≤ len → y + len ≤ length w₀ → x + len ≤ length w₀ → Apart y v len
      → acc ≡ lanes (axpy a (window x (4 * m) w₀) (window y (4 * m) w₀)) (window v (4 * m) w₀) m → acc ≡ lanes (take (y + len - y) (drop y w)) (take (v + len - v) (drop v w)) m
  lanes_on i m {w} h l n s ly lx av e =
      rw (part_window y len w, part_window v len w)
      (e
      ∙ lanes_ext _ _ (window y len w) (window v len w) m
      (λ k t. at_sum (4 * m) k t (omega arith) (omega arith) ∙ sym (get_d_window y len w k nan (omega arith) ∙ read_written y i sum_at w₀ k nan h.is (omega arith) (omega arith)))
      (λ k t. get_d_window v (4 * m) w₀ k nan t ∙ sym (ap (λ (r : List Float). at r k) (window_apart h v len av l) ∙ get_d_window v len w₀ k nan (omega arith))))

  -- ---- by pairs of places
  -- product k of the inner product
  abbrev pub product_at : ℕ → Float
  product_at k = sum_at k ⊗ at w₀ (v + k)

  pub products : y + len ≤ length w₀ → x + len ≤ length w₀ → (k : ℕ) → k < len → product_at k ≡ at (axpy a (window x len w₀) (window y len w₀)) k ⊗ at (window v len w₀) k
  products ly lx k l = rw (at_sum len k l ly lx, get_d_window v len w₀ k nan l)

  module _ {i : ℕ} {w : List Float} (h : Filled y i sum_at w₀ w) (ax : Apart y x len) where
    pub sum_here : (k : ℕ) → i ≤ k → k < len → at w (y + k) ⊕ a ⊗ at w (x + k) ≡ sum_at k
    sum_here k l m = rw (read_after h (y + k) nan (omega arith), read_apart h x len k nan ax (omega arith) m)

    pub product_here : (k : ℕ) → Apart y v len → i ≤ k → k < len → (at w (y + k) ⊕ a ⊗ at w (x + k)) ⊗ at w (v + k) ≡ product_at k
    product_here k av l m = rw (sum_here k l m, read_apart h v len k nan av (omega arith) m)

    pub product_next : (k : ℕ) → Apart y v len → i ≤ k → k + 1 < len → (at w (y + k + 1) ⊕ a ⊗ at w (x + k + 1)) ⊗ at w (v + k + 1) ≡ product_at (k + 1)
    product_next k av l m = rw (add_assoc y k 1, add_assoc x k 1, add_assoc v k 1) (product_here (k + 1) av (omega arith) m)

  pub pair_filled : (b : ℕ) {w : List Float} → Filled y (2 * b) sum_at w₀ w → 2 * b + 2 ≤ len → Apart y x len
      → Filled y (2 * (b + 1)) sum_at w₀ (set (set w (y + 2 * b) (at w (y + 2 * b) ⊕ a ⊗ at w (x + 2 * b))) (y + 2 * b + 1) (at w (y + 2 * b + 1) ⊕ a ⊗ at w (x + 2 * b + 1)))
  pair_filled b {w} h l ax =
      let next : 2 * (b + 1) ≡ 2 * b + 1 + 1 = omega arith in
      rw (next, add_assoc y (2 * b) 1, add_assoc x (2 * b) 1) (turned (turned h (sum_here h ax (2 * b) (omega arith) (omega arith))) (sum_here h ax (2 * b + 1) (omega arith) (omega arith)))

-- ---- pairs of partial sums
-- of every second pair of products those before pair b, from pair 0 or pair 1
abbrev pub pair_at : (ℕ → Float) → ℕ → Pair
pair_at f b = record { first = sum (b / 2) (λ j. f (4 * j + 2 * (b % 2))); second = sum (b / 2) (λ j. f (4 * j + 2 * (b % 2) + 1)) }

pub pair_none : (f : ℕ → Float) (b : ℕ) → b < 2 → record { first = +0; second = +0 } ≡ pair_at f b
pair_none f b l = let none : b / 2 ≡ 0 = omega arith in
    rw none (λ i. record { first = sym (sum_none (λ j. f (4 * j + 2 * (b % 2)))) i; second = sym (sum_none (λ j. f (4 * j + 2 * (b % 2) + 1))) i })

-- a turn: pair b is added to the sums whose turn it is
pub pair_turn : (f : ℕ → Float) (b : ℕ) {p : Pair} {s t : Float} → p ≡ pair_at f b → s ≡ f (2 * b) → t ≡ f (2 * b + 1) → record { first = p.first ⊕ s; second = p.second ⊕ t } ≡ pair_at f (b + 1 + 1)
pair_turn f b {p} {s} {t} e d g =
    let more : (b + 1 + 1) / 2 ≡ b / 2 + 1 = omega arith in
    let same : (b + 1 + 1) % 2 ≡ b % 2 = omega arith in
    let here : 2 * b ≡ 4 * (b / 2) + 2 * (b % 2) = omega arith in
    let one = sum_turn (b / 2) (λ j. f (4 * j + 2 * (b % 2))) p.first s (ap (λ (q : Pair). q.first) e) (d ∙ ap f here) in
    let two = sum_turn (b / 2) (λ j. f (4 * j + 2 * (b % 2) + 1)) p.second t (ap (λ (q : Pair). q.second) e) (g ∙ ap (λ (k : ℕ). f (k + 1)) here) in
    rw (more, same) (λ i. record { first = one i; second = two i })

-- after all turns they are the four lanes
pub pair_lanes : (f : ℕ → Float) (x y : List Float) (m : ℕ) {p q : Pair} → ((k : ℕ) → k < 4 * m → f k ≡ at x k ⊗ at y k) → p ≡ pair_at f (2 * m) → q ≡ pair_at f (2 * m + 1)
    → record { acc0 = p.first; acc1 = p.second; acc2 = q.first; acc3 = q.second } ≡ lanes x y m
unfolding lanes lane
pair_lanes f x y m {p} {q} e d g =
    let of : (l n : ℕ) (at_place : ℕ → ℕ) → l < 4 → n ≡ m → ((j : ℕ) → at_place j ≡ 4 * j + l) → sum n (λ j. f (at_place j)) ≡ lane l x y m =
    λ l n place s c h. ap (λ (k : ℕ). sum k (λ j. f (place j))) c ∙ sum_ext m (λ j. f (place j)) (λ j. at x (4 * j + l) ⊗ at y (4 * j + l)) (λ j i. ap f (h j) ∙ e (4 * j + l) (omega arith)) in
    let zero = ap (λ (s : Pair). s.first) d ∙ of 0 (2 * m / 2) (λ j. 4 * j + 2 * (2 * m % 2)) (omega arith) (omega arith) (λ j. omega arith) in
    let one = ap (λ (s : Pair). s.second) d ∙ of 1 (2 * m / 2) (λ j. 4 * j + 2 * (2 * m % 2) + 1) (omega arith) (omega arith) (λ j. omega arith) in
    let two = ap (λ (s : Pair). s.first) g ∙ of 2 ((2 * m + 1) / 2) (λ j. 4 * j + 2 * ((2 * m + 1) % 2)) (omega arith) (omega arith) (λ j. omega arith) in
    let three = ap (λ (s : Pair). s.second) g ∙ of 3 ((2 * m + 1) / 2) (λ j. 4 * j + 2 * ((2 * m + 1) % 2) + 1) (omega arith) (omega arith) (λ j. omega arith) in
    λ t. record { acc0 = zero t; acc1 = one t; acc2 = two t; acc3 = three t }
