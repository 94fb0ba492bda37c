-- A job's quotients in the lent memory, behind all else that it needs. Assumes nothing.
use mathlib.Core.Path.{◌≡◌, refl, sym, ap, ◌∙◌}
use mathlib.Core.Bool.{Bool, true, false}
use mathlib.Core.List.{List}
use mathlib.Core.Option.{none, some}
use Prim.Native.Nat.{ℕ, zero, ◌+◌, ◌≤◌}
use native.Mathlib.Omega.{arith}
use lib.ListN.{length}
use lib.Ieee.{Float}
use Rattle.lists.specs.Window.{window, splice}
use Rattle.lists.specs.Frame.{Kept}
use Rattle.lists.proofs.Window.{length_splice, window_splice_same}
use Rattle.lists.proofs.Frame.{Wrote, wrote, untouched, kept_all, kept_by, kept_on, kept_wider}
use Rattle.doubles.specs.F64.{+0}
use Rattle.general_operator.specs.Csr.{Csr, csr, Valid}
use Rattle.csr_matvec.specs.Values.{values}
use Rattle.generator_action.specs.Mass.{Mass, given, normalise, quotients, stored, quotient_need, generator_checks}
use Rattle.generator_action.specs.Generator.{forward}
use Rattle.generator_action.specs.Known.{Passed}
use Rattle.generator_action.specs.declared.Shape.{Shape}
use Rattle.generator_action.proofs.Quotients.{length_normalise}
use Rattle.phi_action_helpers.specs.declared.Coupling.{Coupling}
use Rattle.phi_action_helpers.specs.declared.Layout.{Layout}
use Rattle.phi_action_helpers.specs.Augmented.{augmented}
use Rattle.phi_action_helpers.specs.Laid.{ReadyAt, Lined, matrix_at, operator_at}
use Rattle.phi_action_helpers.proofs.Sweeps.{laid}
use Rattle.combination.specs.Call.{cleared}
use Rattle.taylor_schedule.specs.Inner.{Coupled, after_checks}
pub use Rattle.taylor_schedule.specs.Inner.{matrix_of}

length_stored : (a : Csr) (b : Bool) (mass : List Float) → length (stored a (given b mass)) ≡ quotient_need a (given b mass)
unfolding stored quotient_need
length_stored a true mass = length_normalise a mass
length_stored a false mass = refl

pub quotients_rows : (a : Csr) (mass : Mass) → (quotients a mass).n ≡ a.n
unfolding quotients normalise
quotients_rows a none = refl
quotients_rows a (some mass) = refl

-- a generator that passed 1 to 11, by its numbers
pub forward_is : (a : Csr) (mass : Mass) (g : Shape) → g.stored ≡ quotient_need a mass → after_checks (generator_checks a mass) a mass g ≡ forward a mass
forward_is a mass g e = λ i. record { checks = generator_checks a mass; matrix = quotients a mass; stored = e i }

-- with a mass they need as many places as there are entries
needed_with : (a : Csr) (b : Bool) (mass : List Float) → b ≡ true → quotient_need a (given b mass) ≡ length a.entries
unfolding quotient_need
needed_with a true mass e = refl
needed_with a false mass e = let z : zero ≡ 1 = cc in absurd (omega (arith, z))

module _ (n : ℕ) (starts cols : List ℕ) (vals : List Float) (b : Bool) (mass : List Float) (q : ℕ) (w₀ : List Float) (fits : b ≡ true → q + length vals ≤ length w₀) where
  quotients_stored : csr n starts cols (values b q vals (splice q (stored (csr n starts cols vals) (given b mass)) w₀)) ≡ quotients (csr n starts cols vals) (given b mass)
  unfolding values stored quotients normalise
  quotients_stored = go b fits
    where
      go : (t : Bool) → (t ≡ true → q + length vals ≤ length w₀)
          → csr n starts cols (values t q vals (splice q (stored (csr n starts cols vals) (given t mass)) w₀)) ≡ quotients (csr n starts cols vals) (given t mass)
      go true h = ap (csr n starts cols) (window_splice_same q (length vals) _ w₀ (length_normalise (csr n starts cols vals) mass) (h refl))
      go false h = refl

-- a job in the memory w₀: its generator passed, and what it stores is last of what the job needs
pub record Held (starts cols : List ℕ) (vals mass : List Float) (g : Shape) (d need : ℕ) (l : Layout) (w₀ : List Float) : Type 0 where
  pub passed : Passed (csr g.n starts cols vals) (given g.with_mass mass) g
  pub enough : need ≤ length w₀
  pub rows : l.n ≡ g.n
  pub chain : l.d ≡ d
  pub given_mass : l.mass ≡ g.with_mass
  pub behind : l.q + g.stored ≡ need

module _ {starts cols : List ℕ} {vals mass : List Float} {g : Shape} {d need : ℕ} {l : Layout} {w₀ : List Float} (h : Held starts cols vals mass g d need l w₀) where
  pub store_fits : g.with_mass ≡ true → l.q + length vals ≤ length w₀
  store_fits t = omega (arith, needed_with (csr g.n starts cols vals) g.with_mass mass t, h.passed.room, h.behind, h.enough)

  -- the quotients are written
  module _ {w₁ : List Float} (e₁ : w₁ ≡ splice l.q (stored (csr g.n starts cols vals) (given g.with_mass mass)) w₀) where
    pub long₁ : length w₁ ≡ length w₀
    long₁ = ap length e₁ ∙ length_splice _ _ w₀

    pub matrix_is : matrix_at l starts cols vals w₁ ≡ matrix_of g starts cols vals mass
    matrix_is = rw (e₁, h.rows, h.given_mass) (quotients_stored g.n starts cols vals g.with_mass mass l.q w₀ store_fits)

    pub matrix_valid : Valid (matrix_at l starts cols vals w₁)
    matrix_valid = rw matrix_is h.passed.quotients_are

    pub stored_in : l.mass ≡ true → l.q + length vals ≤ length w₁
    stored_in t = rw long₁ (store_fits (sym h.given_mass ∙ t))

    t₁ : Wrote l.q (quotient_need (csr g.n starts cols vals) (given g.with_mass mass)) (stored (csr g.n starts cols vals) (given g.with_mass mass)) w₀ w₁
    t₁ = wrote _ _ _ w₀ w₁ (length_stored (csr g.n starts cols vals) g.with_mass mass) e₁

    -- what stands before them is as it was
    pub front_is : (p m : ℕ) → p + m ≤ l.q → window p m w₁ ≡ window p m w₀
    front_is p m f = untouched t₁ p m (omega arith)

    -- what is needed is cleared in the end
    pub cleared_is : {w₂ w₃ : List Float} → Kept 0 l.q +0 w₁ w₂ → w₃ ≡ cleared need w₂ → w₃ ≡ cleared need w₀
    unfolding cleared
    cleared_is {w₂} {w₃} k e₃ =
        let k₁ : Kept 0 need +0 w₀ w₁ = kept_by (kept_all 0 need +0 w₀) t₁ (omega arith) (omega (arith, h.passed.room, h.behind)) in
        let k₂ : Kept 0 need +0 w₀ w₂ = kept_on k₁ (kept_wider k need (omega (arith, h.behind))) in
        e₃ ∙ k₂.outside

    module _ {c : Coupling} (vectors : List Float) (cp : Coupled c g.n d (length vectors)) where
      pub operator_is : operator_at l c starts cols vals vectors w₁ ≡ augmented (matrix_of g starts cols vals mass) d vectors c.places c.gains c.count
      operator_is = rw (matrix_is, h.chain) refl

      pub ready : Lined l → ReadyAt l c starts cols vals vectors w₁
      ready o =
          laid o matrix_valid cp.few (rw h.chain cp.chained) (rw h.rows cp.columns) (rw long₁ (omega (arith, o.then_product, h.behind, h.enough))) stored_in
