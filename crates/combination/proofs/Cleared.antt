-- Working memory that was cleared: twice, and over what was written. Assumes nothing.
use mathlib.Core.Path.{◌≡◌, sym, ap, ◌∙◌}
use mathlib.Core.List.{List, ◌++◌}
use Prim.Native.Nat.{ℕ, ◌+◌, ◌-◌, ◌≤◌}
use native.Mathlib.Omega.{arith}
use lib.ListN.{length, replicate, length-replicate, replicate-append-replicate}
use lib.Ieee.{Float}
use Rattle.lists.specs.Window.{splice}
use Rattle.lists.proofs.Window.{splice_cover, splice_splice, splice_append}
use Rattle.doubles.specs.F64.{+0}
use Rattle.combination.specs.Call.{cleared}

-- what was written into the needed part is cleared with it
pub clear_over : (need p : ℕ) (y w₀ : List Float) {w₁ : List Float} → w₁ ≡ splice p y w₀ → p + length y ≤ need → cleared need w₁ ≡ cleared need w₀
unfolding cleared
clear_over need p y w₀ e h =
    let l = length-replicate need +0 in
    ap (splice 0 (replicate need +0)) e ∙ splice_cover 0 p (replicate need +0) y w₀ (omega arith) (omega arith)

pub cleared_less : (a b : ℕ) (w : List Float) → a ≤ b → cleared b (cleared a w) ≡ cleared b w
unfolding cleared
cleared_less a b w l = splice_splice 0 (replicate b +0) (replicate a +0) w (omega (arith, length-replicate a +0, length-replicate b +0))

pub cleared_more : (a b : ℕ) (w : List Float) → b ≤ a → cleared b (cleared a w) ≡ cleared a w
unfolding cleared
cleared_more a b w l =
    let e : b + (a - b) ≡ a = omega arith in
    let parts : replicate b +0 ++ replicate (a - b) +0 ≡ replicate a +0 = replicate-append-replicate b (a - b) +0 ∙ ap (λ (k : ℕ). replicate k +0) e in
    let whole = ap (λ (vs : List Float). splice 0 vs w) (sym parts) ∙ splice_append 0 (replicate b +0) (replicate (a - b) +0) w in
    ap (splice 0 (replicate b +0)) whole ∙ splice_splice 0 (replicate b +0) (replicate b +0) _ (omega arith) ∙ sym whole
