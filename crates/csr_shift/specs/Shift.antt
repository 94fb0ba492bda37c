-- The diagonal shift of the generator: the midpoint of its Gershgorin hull (csr_shift.rs, `csr_row`, `midpoint_shift`; phi_shift.rs,
-- `negated_csr_shift`). Definitions only.
use Rattle.std.specs.Prelude.{Bool, not, ◌&&◌, ◌||◌, ℕ, ◌+◌, ◌-◌, eqb, get_or, Option, Some, None, if◌then◌else◌}
use lib.Ieee.{Float, neg, eq, is_nan}
use Rattle.lists.specs.Loop.{iter}
use Rattle.lists.specs.Find.{exists, open_find}
use Rattle.doubles.specs.F64.{◌⊕◌, ◌⊖◌, ◌⊗◌, ◌⋖◌, bits, +0, 1/2f, +∞, at, abs, is_finite, max_num, min_num}
use Rattle.general_operator.specs.Csr.{Csr, start, open_csr}
use Rattle.csr_shift.specs.declared.Row.{Row}
use Rattle.csr_shift.specs.declared.Shifted.{Shifted}

abbrev pub -∞ : Float
-∞ = bits 0xfff0_0000_0000_0000

abbrev pub row : Float → Float → Row
row d r = record { diagonal = d; rest = r }

-- the entry at place p of row i: on the diagonal it is added to the one sum, its size else to the other
unfoldable pub csr_entry : Csr → ℕ → ℕ → Row → Row
csr_entry q i p s =
    if eqb (get_or q.columns p 0) i then row (s.diagonal ⊕ at q.entries p) s.rest
    else row s.diagonal (s.rest ⊕ abs (at q.entries p))

-- `csr_row`: the diagonal of row i and the sum of the other entries' sizes, each in stored order from +0
unfoldable pub csr_row : Csr → ℕ → Row
csr_row q i = iter (λ k s. csr_entry q i (start q i + k) s) (start q (i + 1) - start q i) (row +0 +0)

-- the same of G = -Q
unfoldable pub generator_row : Csr → ℕ → Row
generator_row q i = row (neg (csr_row q i).diagonal) (csr_row q i).rest

-- ---- `midpoint_shift` of n rows
unfoldable pub bad_row : (ℕ → Row) → ℕ → Bool
bad_row rows i = is_nan (rows i).diagonal || is_nan (rows i).rest

-- the ends of the hull
unfoldable pub high : (ℕ → Row) → ℕ → Float
high rows n = iter (λ i h. max_num h ((rows i).diagonal ⊕ (rows i).rest)) n -∞

unfoldable pub low : (ℕ → Row) → ℕ → Float
low rows n = iter (λ i l. min_num l ((rows i).diagonal ⊖ (rows i).rest)) n +∞

unfoldable pub midpoint : (ℕ → Row) → ℕ → Float
midpoint rows n = 1/2f ⊗ high rows n ⊕ 1/2f ⊗ low rows n

unfoldable pub shifted_norm : (ℕ → Row) → ℕ → Float → Float
shifted_norm rows n mu = iter (λ i a. max_num a (abs ((rows i).diagonal ⊖ mu) ⊕ (rows i).rest)) n +0

unfoldable pub worth : Float → Float → Float → Bool
worth mu norm bound = not (eq mu +0) && (is_finite mu && (is_finite norm && norm ⋖ bound))

abbrev pub by : Float → Float → Shifted
by mu norm = record { mu = mu; norm = norm }

-- no shift where a row has a NaN, the midpoint is 0 or not finite, or the shifted norm is not strictly below the norm
unfoldable pub midpoint_shift : (ℕ → Row) → ℕ → Float → Option Shifted
midpoint_shift rows n bound =
    let mu = midpoint rows n in
    let norm = shifted_norm rows n mu in
    if exists (bad_row rows) n then None else if worth mu norm bound then Some (by mu norm) else None

unfoldable pub negated_csr_shift : Csr → Float → Option Shifted
negated_csr_shift q bound = midpoint_shift (generator_row q) q.n bound

-- to compute: a line `unfolding open_shift` opens every definition of this file and of those below it
unfoldable pub open_shift : Unit {0}
unfolding csr_entry csr_row generator_row bad_row high low midpoint shifted_norm worth midpoint_shift negated_csr_shift lib.Ieee.is_nan open_find open_csr
open_shift = tt
