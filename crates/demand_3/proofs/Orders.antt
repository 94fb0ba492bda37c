-- The order in which the checks of each call are met, by number (documents 01 and 02). Assumes nothing.
use mathlib.Core.Path.{◌≡◌, refl}
use mathlib.Core.List.{List, [], ◌∷◌, map}
use mathlib.Core.Option.{none, some}
use Prim.Native.Nat.{ℕ}
use lib.Ieee.{Float}
use Rattle.checks.specs.First.{Check}
use Rattle.checks.specs.Reasons.{number}
use Rattle.general_operator.specs.Csr.{Csr}
use Rattle.generator_action.specs.Generator.{forward}
use Rattle.transpose.specs.Transpose.{Lent, transposed, open_transpose}
use Rattle.taylor_job.specs.Calls.{combination_checks, action_checks, open_calls}
use Rattle.krylov_job.specs.declared.KrylovPhiOptions.{KrylovPhiOptions}
use Rattle.krylov_job.specs.KrylovCall.{krylov_checks, open_krylov_call}

abbrev numbers : List Check → List ℕ
numbers cs = map (λ (c : Check). number c.reason) cs

module _ (a : Csr) (mass : List Float) (tau : Float) (cap count : ℕ) (w : List Float) (output wanted memory : ℕ) (o : KrylovPhiOptions) where
  combination : numbers (combination_checks (forward a none) tau cap count w output memory)
      ≡ 1 ∷ 2 ∷ 3 ∷ 4 ∷ 5 ∷ 6 ∷ 11 ∷ 12 ∷ 14 ∷ 33 ∷ 15 ∷ 16 ∷ 17 ∷ 21 ∷ 22 ∷ 24 ∷ 25 ∷ 26 ∷ []
  unfolding open_calls
  combination = refl

  combination_mass : numbers (combination_checks (forward a (some mass)) tau cap count w output memory)
      ≡ 1 ∷ 2 ∷ 3 ∷ 4 ∷ 5 ∷ 6 ∷ 7 ∷ 8 ∷ 9 ∷ 10 ∷ 12 ∷ 14 ∷ 33 ∷ 15 ∷ 16 ∷ 17 ∷ 21 ∷ 22 ∷ 24 ∷ 25 ∷ 26 ∷ []
  unfolding open_calls
  combination_mass = refl

  -- of an index `count`; of both action calls
  action : numbers (action_checks (forward a none) tau cap count w output wanted memory)
      ≡ 1 ∷ 2 ∷ 3 ∷ 4 ∷ 5 ∷ 6 ∷ 11 ∷ 13 ∷ 14 ∷ 33 ∷ 15 ∷ 16 ∷ 17 ∷ 24 ∷ 25 ∷ 26 ∷ []
  unfolding open_calls
  action = refl

  action_mass : numbers (action_checks (forward a (some mass)) tau cap count w output wanted memory)
      ≡ 1 ∷ 2 ∷ 3 ∷ 4 ∷ 5 ∷ 6 ∷ 7 ∷ 8 ∷ 9 ∷ 10 ∷ 13 ∷ 14 ∷ 33 ∷ 15 ∷ 16 ∷ 17 ∷ 24 ∷ 25 ∷ 26 ∷ []
  unfolding open_calls
  action_mass = refl

  -- Krylov makes no plan: neither 33 nor 25
  krylov : numbers (krylov_checks (forward a none) tau count w o output memory)
      ≡ 1 ∷ 2 ∷ 3 ∷ 4 ∷ 5 ∷ 6 ∷ 11 ∷ 12 ∷ 14 ∷ 15 ∷ 16 ∷ 17 ∷ 18 ∷ 19 ∷ 20 ∷ 21 ∷ 22 ∷ 24 ∷ 26 ∷ []
  unfolding open_krylov_call
  krylov = refl

  krylov_mass : numbers (krylov_checks (forward a (some mass)) tau count w o output memory)
      ≡ 1 ∷ 2 ∷ 3 ∷ 4 ∷ 5 ∷ 6 ∷ 7 ∷ 8 ∷ 9 ∷ 10 ∷ 12 ∷ 14 ∷ 15 ∷ 16 ∷ 17 ∷ 18 ∷ 19 ∷ 20 ∷ 21 ∷ 22 ∷ 24 ∷ 26 ∷ []
  unfolding open_krylov_call
  krylov_mass = refl

  -- ---- on the transposed matrix: 9 also without a mass, 30, and 11 for a column sum (document 02, N3)
  module _ (l : Lent) where
    combination_transposed : numbers (combination_checks (transposed a none l) tau cap count w output memory)
        ≡ 1 ∷ 2 ∷ 3 ∷ 4 ∷ 5 ∷ 6 ∷ 9 ∷ 11 ∷ 30 ∷ 11 ∷ 12 ∷ 14 ∷ 33 ∷ 15 ∷ 16 ∷ 17 ∷ 21 ∷ 22 ∷ 24 ∷ 25 ∷ 26 ∷ []
    unfolding open_calls open_transpose
    combination_transposed = refl

    combination_transposed_mass : numbers (combination_checks (transposed a (some mass) l) tau cap count w output memory)
        ≡ 1 ∷ 2 ∷ 3 ∷ 4 ∷ 5 ∷ 6 ∷ 7 ∷ 8 ∷ 9 ∷ 10 ∷ 30 ∷ 11 ∷ 12 ∷ 14 ∷ 33 ∷ 15 ∷ 16 ∷ 17 ∷ 21 ∷ 22 ∷ 24 ∷ 25 ∷ 26 ∷ []
    unfolding open_calls open_transpose
    combination_transposed_mass = refl

    action_transposed : numbers (action_checks (transposed a none l) tau cap count w output wanted memory)
        ≡ 1 ∷ 2 ∷ 3 ∷ 4 ∷ 5 ∷ 6 ∷ 9 ∷ 11 ∷ 30 ∷ 11 ∷ 13 ∷ 14 ∷ 33 ∷ 15 ∷ 16 ∷ 17 ∷ 24 ∷ 25 ∷ 26 ∷ []
    unfolding open_calls open_transpose
    action_transposed = refl

    action_transposed_mass : numbers (action_checks (transposed a (some mass) l) tau cap count w output wanted memory)
        ≡ 1 ∷ 2 ∷ 3 ∷ 4 ∷ 5 ∷ 6 ∷ 7 ∷ 8 ∷ 9 ∷ 10 ∷ 30 ∷ 11 ∷ 13 ∷ 14 ∷ 33 ∷ 15 ∷ 16 ∷ 17 ∷ 24 ∷ 25 ∷ 26 ∷ []
    unfolding open_calls open_transpose
    action_transposed_mass = refl

    krylov_transposed : numbers (krylov_checks (transposed a none l) tau count w o output memory)
        ≡ 1 ∷ 2 ∷ 3 ∷ 4 ∷ 5 ∷ 6 ∷ 9 ∷ 11 ∷ 30 ∷ 11 ∷ 12 ∷ 14 ∷ 15 ∷ 16 ∷ 17 ∷ 18 ∷ 19 ∷ 20 ∷ 21 ∷ 22 ∷ 24 ∷ 26 ∷ []
    unfolding open_krylov_call open_transpose
    krylov_transposed = refl

    krylov_transposed_mass : numbers (krylov_checks (transposed a (some mass) l) tau count w o output memory)
        ≡ 1 ∷ 2 ∷ 3 ∷ 4 ∷ 5 ∷ 6 ∷ 7 ∷ 8 ∷ 9 ∷ 10 ∷ 30 ∷ 11 ∷ 12 ∷ 14 ∷ 15 ∷ 16 ∷ 17 ∷ 18 ∷ 19 ∷ 20 ∷ 21 ∷ 22 ∷ 24 ∷ 26 ∷ []
    unfolding open_krylov_call open_transpose
    krylov_transposed_mass = refl
