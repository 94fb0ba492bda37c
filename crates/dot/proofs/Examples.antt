-- Worked examples, by computation. Assumes nothing.
use mathlib.Core.Path.{◌≡◌, refl}
use mathlib.Core.List.{[], ◌∷◌}
use Prim.Native.Nat.{◌+◌}
use lib.ListN.{replicate}
use Rattle.lists.specs.Loop.{tabulate}
use Rattle.doubles.specs.F64.{◌⊘◌, bits, nat, 1f}
use Rattle.dot.specs.Dot.{dot, open_dot}

-- 1, 2, 3, 4, 5 with ones
fifteen : dot (nat 1 ∷ nat 2 ∷ nat 3 ∷ nat 4 ∷ nat 5 ∷ []) (replicate 5 1f) ≡ nat 15
unfolding open_dot
fifteen = refl

-- 1, 1/2, .. 1/11 with 1/3, 1/4, .. 1/13: two blocks and three left over; the Rust's bits, which a plain sum does not give
harmonic : dot (tabulate 11 (λ i. 1f ⊘ nat (i + 1))) (tabulate 11 (λ i. 1f ⊘ nat (i + 3))) ≡ bits 0x3fe5_6f96_f96f_96f9
unfolding open_dot
harmonic = refl
