-- Vectors of doubles: lengths, and what a loop over windows writes. Assumes nothing.
use mathlib.Core.Path.{◌≡◌, sym, ap, ◌∙◌}
use mathlib.Core.List.{List}
use Prim.Native.Nat.{ℕ, ◌+◌, ◌≤◌, ◌<◌}
use lib.ListN.{length, length-map}
use lib.Ieee.{Float, nan}
use Rattle.lists.specs.Loop.{tabulate}
use Rattle.lists.specs.Window.{window}
use Rattle.lists.proofs.Loop.{get_d_tabulate, tabulate_ext, map_tabulate, length_zip_with}
use Rattle.lists.proofs.Window.{length_window, get_d_window}
use Rattle.doubles.specs.F64.{◌⊕◌, ◌⊗◌, at}
use Rattle.vectors.specs.Vectors.{axpy, scale}

pub length_axpy : (a : Float) (x y : List Float) → length x ≡ length y → length (axpy a x y) ≡ length y
unfolding axpy
length_axpy a x y e = length_zip_with (λ yk xk. yk ⊕ a ⊗ xk) y x (sym e)

pub length_scale : (s : Float) (x : List Float) → length (scale s x) ≡ length x
unfolding scale
length_scale s x = length-map x (λ e. e ⊗ s)

pub scale_at : (s : Float) (x : List Float) (i : ℕ) → i < length x → at (scale s x) i ≡ at x i ⊗ s
unfolding scale
scale_at s x i l = ap (λ (w : List Float). at w i) (map_tabulate (λ e. e ⊗ s) x nan) ∙ get_d_tabulate (length x) _ i nan l

-- the loop's words for a scaled window
pub scaled_window : (p n : ℕ) (w : List Float) (s : Float) → p + n ≤ length w → scale s (window p n w) ≡ tabulate n (λ k. at w (p + k) ⊗ s)
unfolding scale
scaled_window p n w s h =
    map_tabulate (λ e. e ⊗ s) (window p n w) nan
    ∙ ap (λ (m : ℕ). tabulate m (λ k. at (window p n w) k ⊗ s)) (length_window p n w h)
    ∙ tabulate_ext n (λ k. at (window p n w) k ⊗ s) (λ k. at w (p + k) ⊗ s) (λ k l t. get_d_window p n w k nan l t ⊗ s)
