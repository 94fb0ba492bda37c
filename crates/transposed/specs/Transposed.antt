-- Whole calls on the transposed matrix, over lent buffers (document 02, N3): each is the call over the transposed generator. Definitions only.
use Rattle.std.specs.Prelude.{List, ℕ, Float}
use Rattle.general_operator.specs.Csr.{Csr}
use Rattle.generator_action.specs.Mass.{Mass}
use Rattle.transpose.specs.Transpose.{Buffers, lengths, buffers_after, transposed, open_transpose}
use Rattle.combination.specs.Call.{Call}
use Rattle.taylor_job.specs.Calls.{TaylorAnswer}
use Rattle.taylor_job.specs.Calls.{phi_combination, phi_action, phi_action_batched, open_calls}
use Rattle.krylov_job.specs.declared.KrylovPhiOptions.{KrylovPhiOptions}
use Rattle.krylov_job.specs.KrylovCall.{KrylovAnswer}
use Rattle.krylov_job.specs.KrylovCall.{phi_combination_krylov, open_krylov_call}

-- what a call leaves, and what the lent buffers hold at the end
pub record Lending (A : Type 0) : Type 0 where
  pub call : Call A
  pub buffers : Buffers

abbrev pub lends : {A : Type 0} → Call A → Buffers → Lending A
lends c b = record { call = c; buffers = b }

-- `phi_combination` on the transposed quotients
unfoldable pub phi_combination_transposed : Csr → Mass → Buffers → Float → ℕ → ℕ → List Float → List Float → List Float → Lending TaylorAnswer
phi_combination_transposed a mass b tau cap count w output memory = lends (phi_combination (transposed a mass (lengths b)) tau cap count w output memory) (buffers_after a mass b)

-- `phi_action`
unfoldable pub phi_action_transposed : Csr → Mass → Buffers → Float → ℕ → ℕ → List Float → List Float → List Float → Lending TaylorAnswer
phi_action_transposed a mass b tau cap k v output memory = lends (phi_action (transposed a mass (lengths b)) tau cap k v output memory) (buffers_after a mass b)

-- `phi_action_batched`
unfoldable pub phi_action_batched_transposed : Csr → Mass → Buffers → Float → ℕ → ℕ → List Float → List Float → List Float → Lending TaylorAnswer
phi_action_batched_transposed a mass b tau cap p v output memory = lends (phi_action_batched (transposed a mass (lengths b)) tau cap p v output memory) (buffers_after a mass b)

-- `phi_combination_krylov`
unfoldable pub phi_combination_krylov_transposed : Csr → Mass → Buffers → Float → ℕ → List Float → KrylovPhiOptions → List Float → List Float → Lending KrylovAnswer
phi_combination_krylov_transposed a mass b tau count w o output memory = lends (phi_combination_krylov (transposed a mass (lengths b)) tau count w o output memory) (buffers_after a mass b)

-- to compute: a line `unfolding open_transposed` opens every definition of this file and of those below it
unfoldable pub open_transposed : Unit {0}
unfolding phi_combination_transposed phi_action_transposed phi_action_batched_transposed phi_combination_krylov_transposed open_transpose open_calls open_krylov_call
open_transposed = tt
