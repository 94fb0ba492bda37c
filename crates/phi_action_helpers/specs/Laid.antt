-- Where the operands of a product and of a sweep lie, and what the memory holds of a sweep. Definitions only.
use Rattle.std.specs.Prelude.{List, ℕ, ◌+◌, ◌≤◌, ◌<◌, length, get_or, Float}
use Rattle.lists.specs.Bounds.{Disjoint}
use Rattle.lists.specs.Loop.{zip_with}
use Rattle.lists.specs.Window.{window, splice}
use Rattle.doubles.specs.F64.{◌⊕◌}
use Rattle.general_operator.specs.Csr.{Csr, csr, Valid, apply_generator}
use Rattle.csr_matvec.specs.Values.{values, Stored}
use Rattle.phi_action_helpers.specs.declared.Layout.{Layout}
use Rattle.phi_action_helpers.specs.declared.Coupling.{Coupling}
use Rattle.phi_action_helpers.specs.declared.Scales.{Scales}
use Rattle.phi_action_helpers.specs.declared.AugmentedOperator.{AugmentedOperator}
use Rattle.phi_action_helpers.specs.Augmented.{Augmented, augmented, aug_matvec}
use Rattle.phi_action_helpers.specs.Sweeps.{Horner, Swept}

-- the matrix: with a mass its values stand in the lent memory
abbrev pub matrix_at : Layout → List ℕ → List ℕ → List Float → List Float → Csr
matrix_at l starts cols vals work = csr l.n starts cols (values l.mass l.q vals work)

abbrev pub operator_of : Layout → Coupling → Csr → List Float → Augmented
operator_of l b q vectors = augmented q l.d vectors b.places b.gains b.count

abbrev pub operator_at : Layout → Coupling → List ℕ → List ℕ → List Float → List Float → List Float → Augmented
operator_at l b starts cols vals vectors work = operator_of l b (matrix_at l starts cols vals work) vectors

-- the same of the operator's parts as the code hands them on
abbrev pub matrix_in : AugmentedOperator → List Float → Csr
matrix_in o work = matrix_at o.l o.starts.now o.cols.now o.vals.now work

abbrev pub operator_in : AugmentedOperator → List Float → Augmented
operator_in o work = operator_of o.l o.b (matrix_in o work) o.vectors.now

-- what a product needs: the operands lie within the work, w and av apart, av apart from the quotients; of vals, vectors and work the lengths
pub record Laid (l : Layout) (b : Coupling) (q : Csr) (vals vectors work : ℕ) : Type 0 where
  pub valid : Valid q
  pub few : b.count ≤ 3
  pub chained : b.count ≤ l.d
  pub columns : (j : ℕ) → j < b.count → get_or b.places j 0 + l.n ≤ vectors
  pub w_in : l.w + (l.n + l.d) ≤ work
  pub av_in : l.av + l.n ≤ work
  pub apart : Disjoint l.w (l.n + l.d) l.av l.n
  pub stored : Stored l.mass l.q vals l.av l.n work

abbrev pub ReadyAt : Layout → Coupling → List ℕ → List ℕ → List Float → List Float → List Float → Type 0
ReadyAt l b starts cols vals vectors work = Laid l b (matrix_at l starts cols vals work) (length vals) (length vectors) (length work)

abbrev pub Ready : AugmentedOperator → List Float → Type 0
Ready o work = Laid o.l o.b (matrix_in o work) (length o.vals.now) (length o.vectors.now) (length work)

-- a sweep's memory: the field of n + d values from 0, then the term, then G w, then the quotients
pub record Lined (l : Layout) : Type 0 where
  pub field_first : l.n + l.d ≤ l.w
  pub then_term : l.w + (l.n + l.d) ≤ l.av
  pub then_product : l.av + l.n ≤ l.q

-- G w and the next term, in the memory; and the field with the term added
abbrev pub termed : Layout → Augmented → Scales → List Float → List Float
termed l b k work = splice l.w (aug_matvec b k (window l.w (l.n + l.d) work)) (splice l.av (apply_generator b.matrix (window l.w l.n work)) work)

abbrev pub added : Layout → List Float → List Float
added l work = splice 0 (zip_with ◌⊕◌ (window 0 (l.n + l.d) work) (window l.w (l.n + l.d) work)) work

-- the field, the term and the count, as a sweep's memory holds them
abbrev pub horner_at : Layout → ℕ → List Float → Horner
horner_at l applied work = record { y = window 0 (l.n + l.d) work; w = window l.w (l.n + l.d) work; applied = applied }

abbrev pub swept_at : Layout → ℕ → List Float → Swept
swept_at l applied work = record { y = window 0 (l.n + l.d) work; applied = applied }
