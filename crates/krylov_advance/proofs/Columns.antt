-- The field of an accepted length, added up column by column. Assumes nothing.
use mathlib.Core.Path.{◌≡◌, refl, sym, ap, ◌∙◌}
use mathlib.Core.List.{List, []}
use Prim.Native.Nat.{ℕ, zero, suc, ◌+◌, ◌*◌, ◌≤◌, ◌<◌}
use native.Mathlib.Nat.{zero-add}
use native.Mathlib.Omega.{arith}
use lib.ListN.{length, replicate, get_or, length-replicate}
use lib.Ieee.{Float, nan}
use Rattle.lists.specs.Loop.{iter, tabulate}
use Rattle.lists.specs.Window.{window, splice}
use Rattle.lists.proofs.Bounds.{column_within}
use Rattle.lists.proofs.Loop.{iter_next, get_d_tabulate, tabulate_ext}
use Rattle.lists.proofs.Window.{length_splice, length_window, get_d_window, window_splice_same, window_splice_after, splice_splice}
use Rattle.doubles.specs.F64.{◌⊗◌, +0, at}
use Rattle.vectors.specs.Vectors.{axpy}
use Rattle.vectors.proofs.Laws.{length_axpy}
use Rattle.gram_schmidt.specs.Memory.{column}
use Rattle.krylov_advance.specs.Run.{combined}

module _ (beta : Float) (len count : ℕ) (f w₀ : List Float) where
  abbrev add_column : ℕ → List Float → List Float
  add_column i y = axpy (beta ⊗ at (window 0 count f) i) (get_or (tabulate count (column len w₀)) i []) y

  -- the sum over the first i columns
  abbrev pub sums : ℕ → List Float
  sums i = iter add_column i (replicate len +0)

  module _ (y : ℕ) (before : count * len ≤ y) (room : y + len ≤ length w₀) where
    long : (i : ℕ) → i < count → length (column len w₀ i) ≡ len
    unfolding column
    long i h = length_window (i * len) len w₀ (omega (arith, column_within i count len h))

    pub length_sums : (i : ℕ) → i ≤ count → length (sums i) ≡ len
    unfolding iter
    length_sums zero h = length-replicate len +0
    length_sums (suc i) h =
        let e = length_sums i (omega arith) in
        let g = get_d_tabulate count (column len w₀) i [] (omega arith) in
        rw g (length_axpy _ _ _ (long i (omega arith) ∙ sym e) ∙ e)

    pub sums_turn : (i : ℕ) {w w₁ : List Float} → i < count → w ≡ splice y (sums i) w₀
        → w₁ ≡ splice y (axpy (beta ⊗ at f i) (window (i * len) len w) (window y len w)) w → w₁ ≡ splice y (sums (i + 1)) w₀
    unfolding column
    sums_turn i {w} h e f₁ =
        let l = length_sums i (omega arith) in
        let g = get_d_tabulate count (column len w₀) i [] h in
        let v : window y len w ≡ sums i = ap (window y len) e ∙ window_splice_same y len (sums i) w₀ l room in
        let x : window (i * len) len w ≡ window (i * len) len w₀ = ap (window (i * len) len) e ∙ window_splice_after (i * len) len y (sums i) w₀ (omega (arith, column_within i count len h)) in
        let t : axpy (beta ⊗ at f i) (window (i * len) len w) (window y len w) ≡ sums (i + 1) = rw (v, x, iter_next add_column i (replicate len +0), g, get_d_window 0 count f i nan h, zero-add i) refl in
        f₁ ∙ rw (t, e) (splice_splice y (sums (i + 1)) (sums i) w₀ (omega (arith, l, length_sums (i + 1) (omega arith))))

  pub sums_combined : count ≤ length f → sums count ≡ combined beta (tabulate count (column len w₀)) (window 0 count f) len
  unfolding combined
  sums_combined h = rw (length_window 0 count f (omega arith)) refl

module _ (beta : Float) (len count : ℕ) (f w₀ : List Float) (y : ℕ) {w : List Float} (e : w ≡ splice y (replicate len +0) w₀) where
  pub sums_start : w ≡ splice y (sums beta len count f w 0) w
  unfolding iter
  sums_start = rw e (sym (splice_splice y (replicate len +0) (replicate len +0) w₀ (omega arith)))

  pub sums_all : count ≤ length f → count * len ≤ y → y + len ≤ length w₀
      → splice y (sums beta len count f w count) w ≡ splice y (combined beta (tabulate count (column len w₀)) (window 0 count f) len) w₀
  unfolding column
  sums_all h b r =
      let same : tabulate count (column len w) ≡ tabulate count (column len w₀) = tabulate_ext count _ _ (λ i l. ap (window (i * len) len) e ∙ window_splice_after (i * len) len y _ w₀ (omega (arith, column_within i count len l))) in
      let long : length (sums beta len count f w count) ≡ len = length_sums beta len count f w y b (rw (e, length_splice y (replicate len +0) w₀) r) count (omega arith) in
      let z = length-replicate len +0 in
      ap (splice y (sums beta len count f w count)) e ∙ splice_splice y _ (replicate len +0) w₀ (omega arith) ∙ rw (← same) (ap (λ (u : List Float). splice y u w₀) (sums_combined beta len count f w h))
