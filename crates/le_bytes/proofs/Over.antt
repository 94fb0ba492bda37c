-- The bytes of a double written over others. Assumes nothing.
use mathlib.Core.Bool.{Bool, true, false, ◌&&◌}
use mathlib.Core.List.{List}
use mathlib.Core.Path.{◌≡◌, sym, ◌∙◌, ap}
use Prim.Native.Nat.{ℕ, ◌+◌, ◌*◌, ◌/◌, ◌%◌, ◌^◌, ◌≤◌}
use lib.ListN.{length, get_or}
use lib.Ieee.{Float, binary64, is_nan, to_bits}
use Rattle.lists.specs.Loop.{tabulate}
use Rattle.lists.specs.Window.{splice}
use Rattle.lists.proofs.Window.{splice_window}
use Rattle.lists.proofs.Loop.{tabulate_ext, window_tabulate}
use Rattle.le_bytes.specs.Bytes.{double_at, byte_over}

-- a NaN over a NaN: nothing is written
pub left : (x : Float) (b : List ℕ) (p : ℕ) {t : Bool} → p + 8 ≤ length b → t ≡ (is_nan x && is_nan (double_at b p)) → t ≡ true → b ≡ splice p (tabulate 8 (byte_over x b p)) b
unfolding byte_over
left x b p h e taken =
    sym (splice_window p 8 b)
    ∙ ap (λ v. splice p v b) (window_tabulate p 8 b 0 h ∙ tabulate_ext 8 (λ j. get_or b (p + j) 0) (byte_over x b p) (λ j l. rw (← e, taken)))

-- any other: its pattern is
pub put : (x : Float) (b : List ℕ) (p w : ℕ) {b₁ : List ℕ} {t : Bool} → t ≡ (is_nan x && is_nan (double_at b p)) → t ≡ false → w ≡ to_bits binary64 x → b₁ ≡ splice p (tabulate 8 (λ j. w / 2 ^ (8 * j) % 256)) b → b₁ ≡ splice p (tabulate 8 (byte_over x b p)) b
unfolding byte_over
put x b p w e told ew d =
    d ∙ ap (λ v. splice p v b) (tabulate_ext 8 (λ j. w / 2 ^ (8 * j) % 256) (byte_over x b p) (λ j l. rw (← e, told, ew)))
