-- What a job is made over: the generator -Q with its own refusals (document 01, 'Whoever builds the matrix'; generator_action.rs). Definitions only.
use Rattle.std.specs.Prelude.{List, ℕ}
use Rattle.checks.specs.First.{Check}
use Rattle.general_operator.specs.Csr.{Csr}
use Rattle.generator_action.specs.Mass.{Mass, quotients, quotient_need, generator_checks}

-- its refusals in the order in which they are met; Q; and the places of the working memory that it takes beside those of the job
pub record Generator : Type 0 where
  pub checks : List Check
  pub matrix : Csr
  pub stored : ℕ

-- of a matrix and a mass: 1 to 11, the quotients, and a place for each quotient
abbrev pub forward : Csr → Mass → Generator
forward a mass = record { checks = generator_checks a mass; matrix = quotients a mass; stored = quotient_need a mass }
