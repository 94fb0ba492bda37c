-- The bytes of numbers written one behind another. Assumes nothing.
use mathlib.Core.List.{List, ◌++◌}
use mathlib.Core.Path.{◌≡◌, refl}
use Prim.Native.Nat.{ℕ, ◌+◌, ◌-◌, ◌*◌, ◌/◌, ◌%◌, ◌^◌, ◌≤◌}
use native.Mathlib.Omega.{arith}
use lib.ListN.{length, take, drop}
use Rattle.std.specs.Int.{w32, w64, to_le_bytes}
use Rattle.lists.specs.Loop.{tabulate}
use Rattle.lists.specs.Window.{splice}
use Rattle.lists.proofs.Window.{part_back}

pub four_bytes : (n : ℕ) → to_le_bytes w32 n ≡ tabulate 4 (λ j. n / 2 ^ (8 * j) % 256)
unfolding tabulate
four_bytes n = let one : n / 1 ≡ n = omega arith in rw one refl

pub eight_bytes : (n : ℕ) → to_le_bytes w64 n ≡ tabulate 8 (λ j. n / 2 ^ (8 * j) % 256)
unfolding tabulate
eight_bytes n = let one : n / 1 ≡ n = omega arith in rw one refl

-- what `w[at..at + m].copy_from_slice(..)` leaves
pub copied : (at m : ℕ) (bytes : ℕ → ℕ) (ys w : List ℕ) → at + m ≤ length w → length ys ≡ length (take (at + m - at) (drop at w)) → ys ≡ tabulate m bytes → take at w ++ (ys ++ drop (at + m - at) (drop at w)) ≡ splice at (tabulate m bytes) w
copied at m bytes ys w h l e = part_back at m (λ v. tabulate m bytes) ys w h l e
