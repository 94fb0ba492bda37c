-- Where a Krylov run keeps its columns, and what the memory stands for. Definitions only.
use Rattle.std.specs.Prelude.{Result, Ok, Err, ◌≡◌, List, ℕ, ◌+◌, ◌*◌, ◌≤◌, ◌<◌, length, set, Float}
use Rattle.lists.specs.Frame.{Kept}
use Rattle.lists.specs.Loop.{tabulate}
use Rattle.lists.specs.Walk.{Turn, on, out}
use Rattle.lists.specs.Window.{window, splice}
use Rattle.doubles.specs.F64.{+0, 1f}
use Rattle.hess_rows.specs.HessProduct.{place}
use Rattle.general_operator.specs.Csr.{Csr}
use Rattle.phi_action_helpers.specs.declared.Layout.{Layout}
use Rattle.phi_action_helpers.specs.declared.Coupling.{Coupling}
use Rattle.phi_action_helpers.specs.declared.AugmentedOperator.{AugmentedOperator}
use Rattle.phi_action_helpers.specs.Laid.{matrix_in, operator_of, Laid}
use Rattle.gram_schmidt.specs.Basis.{Setting, Columns, Rest, Breakdown, Basis, breakdown, full, norm2, apply, rest}
use Rattle.gram_schmidt.specs.declared.Krylov.{Krylov}
use Rattle.gram_schmidt.specs.declared.Broken.{Broken}
use Rattle.gram_schmidt.specs.declared.Full.{Full}

abbrev pub setting_at : Layout → Coupling → Krylov → Csr → List Float → Setting
setting_at l b k q vectors = record { operator = operator_of l b q vectors; tau = k.tau; anorm = k.anorm; tol = k.tol; m = k.m }

abbrev pub setting_in : AugmentedOperator → Krylov → List Float → Setting
setting_in o k work = setting_at o.l o.b k (matrix_in o work) o.vectors.now

-- the columns from the front, then the product, the small matrix, the field, G w, and the quotients: of vals, vectors and work the lengths
pub record Room (l : Layout) (b : Coupling) (k : Krylov) (q : Csr) (vals vectors work : ℕ) : Type 0 where
  pub laid : Laid l b q vals vectors work
  pub small : k.m ≤ 1000000
  pub columns : k.m * (l.n + l.d) + (l.n + l.d) ≤ l.w
  pub then_h : l.w + (l.n + l.d) ≤ k.h
  pub then_y : k.h + (k.m + 2) * (k.m + 2) ≤ k.y
  pub then_av : k.y + (l.n + l.d) ≤ l.av
  pub then_q : l.av + l.n ≤ l.q

abbrev pub RoomFor : AugmentedOperator → Krylov → List Float → Type 0
RoomFor o k work = Room o.l o.b k (matrix_in o work) (length o.vals.now) (length o.vectors.now) (length work)

-- the field and all from the quotients on are as they were
pub record Spared (l : Layout) (k : Krylov) (w₀ w : List Float) : Type 0 where
  pub kept : Kept 0 l.q +0 w₀ w
  pub field : window k.y (l.n + l.d) w ≡ window k.y (l.n + l.d) w₀

-- column i of n values
unfoldable pub column : ℕ → List Float → ℕ → List Float
column n w i = window (i * n) n w

-- z from place q and h from place r
abbrev pub behind : ℕ → ℕ → Rest → List Float → List Float
behind q r x w = splice q x.z (splice r x.h w)

abbrev pub rest_at : ℕ → ℕ → ℕ → ℕ → List Float → Rest
rest_at n q r dim w = record { z = window q n w; h = window r (dim * dim) w }

-- the first i columns and the small matrix
abbrev pub columns_at : Layout → Krylov → ℕ → ℕ → List Float → Columns
columns_at l k i applied w = record { v = tabulate i (column (l.n + l.d) w); h = window k.h ((k.m + 2) * (k.m + 2)) w; applied = applied }

abbrev pub breakdown_at : Layout → Krylov → Broken → List Float → Breakdown
breakdown_at l k e w = record { columns = columns_at l k e.mb e.applied w; mb = e.mb; hn = e.hn }

-- after j turns: the products made, or a breakdown
unfoldable pub grown_at : Layout → Krylov → ℕ → Result ℕ Broken → List Float → Turn Columns Breakdown
grown_at l k j (Ok applied) w = on (columns_at l k (j + 1) applied w)
grown_at l k j (Err e) w = out (breakdown_at l k e w)

-- the counts of at most j turns
abbrev pub Within : ℕ → Result ℕ Broken → Type 0
Within j (Ok applied) = applied ≤ j
Within j (Err e) = (e.applied ≤ j) × (0 < e.mb) × (e.mb ≤ j)

-- the answer's basis, and its counts
unfoldable pub basis_at : Layout → Krylov → Result Full Broken → List Float → Basis
basis_at l k (Ok b) w = full (columns_at l k (k.m + 1) b.applied w) b.avnorm
basis_at l k (Err e) w = breakdown (breakdown_at l k e w)

abbrev pub Counted : ℕ → Result Full Broken → Type 0
Counted m (Ok b) = b.applied ≤ m + 1
Counted m (Err e) = (e.applied ≤ m + 1) × (0 < e.mb) × (e.mb ≤ m)

-- z is orthogonal to columns 0 to j
pub record Rested (l : Layout) (k : Krylov) (p : Setting) (j : ℕ) (w₀ w : List Float) : Type 0 where
  pub z_is : window l.w (l.n + l.d) w ≡ (rest p j (columns_at l k (j + 1) 0 w₀)).z
  pub h_is : window k.h ((k.m + 2) * (k.m + 2)) w ≡ (rest p j (columns_at l k (j + 1) 0 w₀)).h
  pub v_is : (i : ℕ) → i < j + 1 → column (l.n + l.d) w i ≡ column (l.n + l.d) w₀ i
  pub spared : Spared l k w₀ w

-- the last product is made
pub record Ended (l : Layout) (k : Krylov) (p : Setting) (w₀ w : List Float) (avnorm : Float) : Type 0 where
  pub v_is : tabulate (k.m + 1) (column (l.n + l.d) w) ≡ tabulate (k.m + 1) (column (l.n + l.d) w₀)
  pub h_is : window k.h ((k.m + 2) * (k.m + 2)) w ≡ set (window k.h ((k.m + 2) * (k.m + 2)) w₀) (place (k.m + 2) (k.m + 1) k.m) 1f
  pub avnorm_is : avnorm ≡ norm2 (apply p (column (l.n + l.d) w₀ k.m))
  pub spared : Spared l k w₀ w
