-- The products of two doubles and the sums that a run makes of its vectors, each with the operands that it has there: M holds of the factors of each product, A of the terms of each sum
-- (document 02, N9: 'in both definitions' runs each operation'). The values are the run's own; what does not depend on the vectors (plan, shift, tau / j s) is left out. Definitions only.
use Rattle.std.specs.Prelude.{◌≡◌, Bool, true, List, ℕ, ◌+◌, ◌-◌, ◌<◌, get_or, Float}
use Rattle.std.specs.Float.Ieee.{neg}
use Rattle.lists.specs.Loop.{iter}
use Rattle.lists.specs.Window.{window}
use Rattle.doubles.specs.F64.{◌⊗◌, at}
use Rattle.doubles.specs.Sum.{sum}
use Rattle.general_operator.specs.Csr.{start, apply_generator}
use Rattle.phi_action_helpers.specs.declared.Scales.{Scales}
use Rattle.phi_action_helpers.specs.declared.SweepPlan.{SweepPlan}
use Rattle.phi_action_helpers.specs.Augmented.{Augmented, scalars, coupled, generator_term, aug_matvec}
use Rattle.phi_action_helpers.specs.Sweeps.{shifted, scales, Horner, horner_step, aug_horner_outer, Swept, rescale, sweep}

-- the state after k terms of a sweep from y (`aug_horner_outer`), and the field after i sweeps (`run_sweeps`)
abbrev pub terms_from : Augmented → Float → SweepPlan → List Float → ℕ → Horner
terms_from b tau p y k = iter (horner_step b tau p) k (record { y = y; w = y; applied = 0 })

abbrev pub sweeps_from : Augmented → Float → SweepPlan → List Float → ℕ → Swept
sweeps_from b tau p y i = iter (λ _ r. sweep b tau p r) i (record { y = y; applied = 0 })

module _ (M A : Float → Float → Type 0) where
  -- `row_product`: a row of G u, a sum from +0
  pub record InRow (columns : List ℕ) (entries u : List Float) (from to : ℕ) : Type 0 where
    pub products : (k : ℕ) → k < to - from → M (at entries (from + k)) (at u (get_or columns (from + k) 0))
    pub sums : (k : ℕ) → k < to - from
        → A (sum k (λ j. at entries (from + j) ⊗ at u (get_or columns (from + j) 0))) (at entries (from + k) ⊗ at u (get_or columns (from + k) 0))

  -- `generator_term`, `chain_term`: a ⊗ x, and with a shift a ⊗ x ⊖ b ⊗ y
  pub record InShare (shifted : Bool) (a x b y : Float) : Type 0 where
    pub first : M a x
    pub second : shifted ≡ true → M b y
    pub difference : shifted ≡ true → A (a ⊗ x) (neg (b ⊗ y))

  -- `top`, `bottom`: a product with the operator, of a field u and a chain c; av is G u, and sc has the factors of the columns, of which nothing is said (`scalars`: gain and chain are scaled
  -- the other way round, so that the factors are the same doubles in both runs)
  pub record InParts (b : Augmented) (k : Scales) (u c av sc : List Float) : Type 0 where
    pub rows : (i : ℕ) → i < b.matrix.n → InRow b.matrix.columns b.matrix.entries u (start b.matrix i) (start b.matrix (i + 1))
    pub shares : (i : ℕ) → i < b.matrix.n → InShare k.shifted k.tau (at av i) k.mu (at u i)
    pub columns : (i : ℕ) → i < b.matrix.n → (j : ℕ) → j < b.count
        → M (at sc j) (at b.vectors (get_or b.places j 0 + i))
        × A (coupled b.vectors b.places j sc i (generator_term k (at av i) (at u i))) (at sc j ⊗ at b.vectors (get_or b.places j 0 + i))
    pub chain : (i : ℕ) → i + 1 < b.d → InShare k.shifted k.one (at c (i + 1)) k.mu (at c i)
    pub end : (i : ℕ) → i + 1 ≡ b.d → k.shifted ≡ true → M k.mu (at c i)

  -- `aug_matvec`
  abbrev pub InProduct : Augmented → Scales → List Float → Type 0
  InProduct b k x =
      InParts b k (window 0 b.matrix.n x) (window b.matrix.n b.d x) (apply_generator b.matrix (window 0 b.matrix.n x))
      (scalars b.gains b.count k.one (window b.matrix.n b.d x))

  -- `horner_step`: term k + 1 from the state h
  pub record InTerm (b : Augmented) (tau : Float) (p : SweepPlan) (k : ℕ) (h : Horner) : Type 0 where
    pub product : InProduct b (scales tau p (k + 1)) h.w
    pub sums : (i : ℕ) → i < b.matrix.n + b.d → A (at h.y i) (at (aug_matvec b (scales tau p (k + 1)) h.w) i)

  -- `sweep`: the m terms of a sweep from y, and with a shift its rescaling
  pub record InSweep (b : Augmented) (tau : Float) (p : SweepPlan) (y : List Float) : Type 0 where
    pub terms : (k : ℕ) → k < p.m → InTerm b tau p k (terms_from b tau p y k)
    pub rescaled : shifted p ≡ true → (i : ℕ) → i < b.matrix.n + b.d → M (at (aug_horner_outer b tau p y).y i) (rescale p)

  -- `run_sweeps`: the s sweeps from y
  abbrev pub InSweeps : Augmented → Float → SweepPlan → List Float → Type 0
  InSweeps b tau p y = (i : ℕ) → i < p.s → InSweep b tau p (sweeps_from b tau p y i).y
