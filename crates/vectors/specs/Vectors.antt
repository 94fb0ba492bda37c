-- Vectors of doubles as lists: multiples (phi_krylov.rs, `axpy`). Definitions only.
use Rattle.std.specs.Prelude.{List, map, Float}
use Rattle.lists.specs.Loop.{zip_with, open_loop}
use Rattle.doubles.specs.F64.{◌⊕◌, ◌⊗◌, open_f64}

-- y + a x
unfoldable pub axpy : Float → List Float → List Float → List Float
axpy a x y = zip_with (λ yk xk. yk ⊕ a ⊗ xk) y x

-- every element times s
unfoldable pub scale : Float → List Float → List Float
scale s x = map (λ e. e ⊗ s) x

-- to compute: a line `unfolding open_vectors` opens every definition of this file and of those below it
unfoldable pub open_vectors : Unit {0}
unfolding axpy scale open_loop open_f64
open_vectors = tt
