-- The augmented operator [tau G, W; 0, J] of n + d values (phi_action_helpers.rs, `aug_matvec_inplace`; phi_shift.rs, `aug_matvec_shifted`;
-- Al-Mohy and Higham 2011, Theorem 2.1). Definitions only.
use Rattle.std.specs.Prelude.{List, ◌++◌, ℕ, ◌+◌, ltb, get_or, Float, if◌then◌else◌}
use Rattle.std.specs.Float.Ieee.{neg}
use Rattle.lists.specs.Loop.{iter, tabulate}
use Rattle.lists.specs.Window.{window, open_window}
use Rattle.doubles.specs.F64.{◌⊕◌, ◌⊖◌, ◌⊗◌, +0, at}
use Rattle.general_operator.specs.Csr.{Csr, apply_generator, open_csr}
use Rattle.phi_action_helpers.specs.declared.Scales.{Scales}

-- G = -matrix; W has `count` columns that are not 0, at most 3: column j is gains[j] times the n values from places[j] of the vectors; J shifts the d values of the chain up by one
pub record Augmented : Type 0 where
  pub matrix : Csr
  pub d : ℕ
  pub vectors : List Float
  pub places : List ℕ
  pub gains : List Float
  pub count : ℕ

abbrev pub augmented : Csr → ℕ → List Float → List ℕ → List Float → ℕ → Augmented
augmented q d vectors places gains count = record { matrix = q; d = d; vectors = vectors; places = places; gains = gains; count = count }

-- the factor of each column: gain times chain first, then the step
unfoldable pub scalars : List Float → ℕ → Float → List Float → List Float
scalars gains count one c = tabulate 3 (λ j. if ltb j count then at gains j ⊗ at c j ⊗ one else +0)

-- acc and the columns' share of row i
unfoldable pub coupled : List Float → List ℕ → ℕ → List Float → ℕ → Float → Float
coupled vectors places count sc i acc = iter (λ j a. a ⊕ at sc j ⊗ at vectors (get_or places j 0 + i)) count acc

-- the generator's share of a row
unfoldable pub generator_term : Scales → Float → Float → Float
generator_term k av u = if k.shifted then k.tau ⊗ av ⊖ k.mu ⊗ u else k.tau ⊗ av

-- value i of the chain of d
unfoldable pub chain_term : Scales → ℕ → List Float → ℕ → Float
chain_term k d c i =
    if ltb (i + 1) d then (if k.shifted then k.one ⊗ at c (i + 1) ⊖ k.mu ⊗ at c i else k.one ⊗ at c (i + 1))
    else (if k.shifted then neg (k.mu ⊗ at c i) else +0)

-- the n values of a product: x has n values u and the chain c, and av is G u
unfoldable pub top : Augmented → Scales → List Float → List Float → List Float → List Float
top b k av u c =
    let sc = scalars b.gains b.count k.one c in
    tabulate b.matrix.n (λ i. coupled b.vectors b.places b.count sc i (generator_term k (at av i) (at u i)))

-- the chain of a product
unfoldable pub bottom : Scales → ℕ → List Float → List Float
bottom k d c = tabulate d (chain_term k d c)

-- one product with the operator
unfoldable pub aug_matvec : Augmented → Scales → List Float → List Float
aug_matvec b k x =
    let u = window 0 b.matrix.n x in
    let c = window b.matrix.n b.d x in
    top b k (apply_generator b.matrix u) u c ++ bottom k b.d c

-- to compute: a line `unfolding open_augmented` opens every definition of this file and of those below it
unfoldable pub open_augmented : Unit {0}
unfolding scalars coupled generator_term chain_term top bottom aug_matvec open_window open_csr
open_augmented = tt
