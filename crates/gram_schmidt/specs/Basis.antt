-- The Arnoldi basis of one substep (phi_krylov_arnoldi.rs, `arnoldi`; Sidje 1998). Definitions only.
use Rattle.std.specs.Prelude.{Bool, true, false, ◌&&◌, ◌||◌, List, [], ◌∷◌, ◌++◌, ℕ, suc, ◌+◌, ◌*◌, eqb, get_or, set, replicate, Float}
use Rattle.std.specs.Float.Ieee.{neg}
use Rattle.lists.specs.Loop.{iter}
use Rattle.lists.specs.Walk.{Turn, on, out, walk}
use Rattle.doubles.specs.F64.{◌⊗◌, ◌⊘◌, ◌⩽◌, bits, +0, 1f, max_num}
use Rattle.sqrt.specs.Sqrt.{sqrt, open_sqrt}
use Rattle.vectors.specs.Vectors.{axpy, scale, open_vectors}
use Rattle.dot.specs.Dot.{dot, open_dot}
use Rattle.hess_rows.specs.HessProduct.{place}
use Rattle.phi_action_helpers.specs.Augmented.{Augmented, aug_matvec, open_augmented}

-- `norm2`
unfoldable pub norm2 : List Float → Float
norm2 x = sqrt (dot x x)

-- 1e-12, the threshold of a breakdown
abbrev pub BREAKDOWN : Float
BREAKDOWN = bits 0x3d71_9799_812d_ea11

-- what stays the same during a run: the operator and tau, its norm bound, tol times the first norm, and M
pub record Setting : Type 0 where
  pub operator : Augmented
  pub tau : Float
  pub anorm : Float
  pub tol : Float
  pub m : ℕ

-- how many values a field has, and how long a column of the small matrix is
abbrev pub len : Setting → ℕ
len p = p.operator.matrix.n + p.operator.d

abbrev pub dim : Setting → ℕ
dim p = p.m + 2

-- `Augmented::apply`: B x
unfoldable pub apply : Setting → List Float → List Float
apply p x = aug_matvec p.operator (record { shifted = false; tau = p.tau; one = 1f; mu = +0 }) x

-- the columns so far, the small matrix, and the products with the generator made
pub record Columns : Type 0 where
  pub v : List (List Float)
  pub h : List Float
  pub applied : ℕ

-- what is left of a product, and the small matrix
pub record Rest : Type 0 where
  pub z : List Float
  pub h : List Float

-- z loses its part along v i, whose size goes to row i, column j of h
unfoldable pub lessen : (ℕ → List Float) → ℕ → ℕ → ℕ → Rest → Rest
lessen v dim j i r =
    let c = dot r.z (v i) in
    record { z = axpy (neg c) (v i) r.z; h = set r.h (place dim i j) c }

-- the product of column j less its parts along columns 0 to j: one pass of modified Gram-Schmidt
unfoldable pub orthogonal : (ℕ → List Float) → ℕ → ℕ → ℕ → Rest → Rest
orthogonal v dim j i r = iter (lessen v dim j) i r

unfoldable pub rest : Setting → ℕ → Columns → Rest
rest p j b = orthogonal (λ k. get_or b.v k []) (dim p) j (j + 1) (record { z = apply p (get_or b.v j []); h = b.h })

-- a breakdown: mb columns count, and the size left out
pub record Breakdown : Type 0 where
  pub columns : Columns
  pub mb : ℕ
  pub hn : Float

-- hn is at round-off level, and the basis spans the whole space or leaving hn out stays within tol
unfoldable pub broken : Setting → Float → ℕ → Float → Bool
broken p beta j hn = hn ⩽ BREAKDOWN ⊗ max_num p.anorm 1f && (eqb (j + 1) (len p) || hn ⊗ beta ⩽ p.tol)

-- after the product of column j: a breakdown, or one more column
unfoldable pub extend : Setting → ℕ → Columns → Rest → Float → Bool → Turn Columns Breakdown
extend p j b r hn true = out (record { columns = record { v = b.v; h = r.h; applied = suc b.applied }; mb = j + 1; hn = hn })
extend p j b r hn false =
    on (record { v = b.v ++ (scale (1f ⊘ hn) r.z ∷ []); h = set r.h (place (dim p) (j + 1) j) hn; applied = suc b.applied })

unfoldable pub arnoldi_step : Setting → Float → ℕ → Columns → Turn Columns Breakdown
arnoldi_step p beta j b =
    let r = rest p j b in
    let hn = norm2 r.z in
    extend p j b r hn (broken p beta j hn)

-- a finished basis: broken down, or M + 1 columns with the norm of the last one's product
pub data Basis : Type 0 where
  breakdown : Breakdown → Basis
  full : Columns → Float → Basis

-- without a breakdown one more product, for the error estimate
unfoldable pub close : Setting → Turn Columns Breakdown → Basis
close p (out b) = breakdown b
close p (on b) =
    full (record { v = b.v; h = set b.h (place (dim p) (p.m + 1) p.m) 1f; applied = suc b.applied }) (norm2 (apply p (get_or b.v p.m [])))

unfoldable pub first_column : Setting → List Float → Float → Columns
first_column p y beta = record { v = scale (1f ⊘ beta) y ∷ []; h = replicate (dim p * dim p) +0; applied = 0 }

unfoldable pub arnoldi : Setting → List Float → Float → Basis
arnoldi p y beta = close p (walk (arnoldi_step p beta) p.m 0 (on (first_column p y beta)))

-- to compute: a line `unfolding open_basis` opens every definition of this file and of those below it
unfoldable pub open_basis : Unit {0}
unfolding norm2 apply lessen orthogonal rest broken extend arnoldi_step close first_column arnoldi walk open_sqrt open_vectors open_dot open_augmented
open_basis = tt
