-- What a combination and an action are made of: weights, scaling, start (phi_action.rs, `weighted_columns`, `eta_scaled_columns`,
-- `init_aug_vector`). Definitions only.
use Rattle.std.specs.Prelude.{Bool, true, false, List, [], ◌∷◌, ◌++◌, ℕ, zero, suc, ◌+◌, ◌-◌, ◌*◌, ltb, drop, replicate, set, Float, if◌then◌else◌}
use Rattle.std.specs.Float.Ieee.{eq}
use Rattle.lists.specs.Loop.{iter, tabulate}
use Rattle.lists.specs.Window.{window}
use Rattle.doubles.specs.F64.{◌⊕◌, ◌⊗◌, +0, 1f}
use Rattle.power.specs.Power.{power, open_power}
use Rattle.pow2.specs.Pow2.{sup, eta_scaling, open_pow2}
use Rattle.pow2.specs.declared.Scaling.{Scaling}
use Rattle.general_operator.specs.Csr.{Csr}
use Rattle.phi_action_helpers.specs.Augmented.{Augmented, augmented}
use Rattle.phi_action_helpers.specs.Sweeps.{open_sweeps}

-- w_1 and on, of all vectors in one list
unfoldable pub further : ℕ → List Float → List Float
further n w = drop n w

-- the vector at j of several in one list; w_(j+1) is the one at j of the further vectors f
unfoldable pub vector : ℕ → List Float → ℕ → List Float
vector n f j = window (j * n) n f

-- of w_(j+1): tau ^ (j + 1), by products from the left; 0 for an all-zero vector
unfoldable pub gain : ℕ → List Float → Float → ℕ → Float
gain n f tau j = if eq (sup (vector n f j)) +0 then +0 else power tau (j + 1)

-- s and w_(j+1)'s share, tau ^ (j + 1) * sup |w_(j+1)|; an all-zero vector is skipped
unfoldable pub weighed : ℕ → List Float → Float → ℕ → Float → Float
weighed n f tau j s = if eq (sup (vector n f j)) +0 then s else s ⊕ power tau (j + 1) ⊗ sup (vector n f j)

-- the sum of these over w_1 to w_d
unfoldable pub magnitude : ℕ → List Float → Float → ℕ → Float
magnitude n f tau d = iter (weighed n f tau) d +0

unfoldable pub eta_of : ℕ → List Float → Float → ℕ → Scaling
eta_of n f tau d = eta_scaling (magnitude n f tau d)

-- cols[d - k] is w_k, which is at k - 1 of the further vectors, and gains[d - k] its weight times eta; of three places those from d on are not used
unfoldable pub column_places : ℕ → ℕ → List ℕ
column_places n d = tabulate 3 (λ j. if ltb j d then (d - j - 1) * n else 0)

unfoldable pub scaled_gains : ℕ → List Float → Float → ℕ → Float → List Float
scaled_gains n f tau d eta = tabulate 3 (λ j. if ltb j d then gain n f tau (d - j - 1) ⊗ eta else 1f)

unfoldable pub combination_operator : Csr → List Float → Float → ℕ → Float → Augmented
combination_operator q f tau d eta = augmented q d f (column_places q.n d) (scaled_gains q.n f tau d eta) d

-- `phi_combination`: w_0, the first n values of a list, then the chain: zeros, and 1 / eta at its end
unfoldable pub combination_start : ℕ → List Float → ℕ → Float → List Float
combination_start n w zero inv = vector n w 0
combination_start n w (suc d) inv = vector n w 0 ++ (replicate d +0 ++ (inv ∷ []))

-- w_0 of one of several jobs in a row: of the first the field handed in, of a later one what the one before left in the output
abbrev pub field_of : Bool → List Float → List Float → List Float
field_of true field output = field
field_of false field output = output

-- an action has one column, v, and a chain of three
unfoldable pub action_operator : Csr → List Float → Float → Augmented
action_operator q v eta = augmented q 3 v (0 ∷ 0 ∷ 0 ∷ []) (eta ∷ 1f ∷ 1f ∷ []) 1

-- `init_aug_vector`: for phi_0 v and an empty chain, for phi_k zeros and 1 / eta at place k - 1 of the chain
unfoldable pub init_aug_vector : ℕ → List Float → Float → ℕ → List Float
init_aug_vector n v inv zero = v ++ replicate 3 +0
init_aug_vector n v inv (suc k) = replicate n +0 ++ set (replicate 3 +0) k inv

-- to compute: a line `unfolding open_combination` opens every definition of this file and of those below it
unfoldable pub open_combination : Unit {0}
unfolding further vector gain weighed magnitude eta_of column_places scaled_gains combination_operator combination_start action_operator init_aug_vector open_power open_pow2 open_sweeps
open_combination = tt
