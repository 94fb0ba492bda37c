-- One record of a soak under a changing ambient level (document 02, N12): a Taylor combination, w_1 being the load times the level. Definitions only.
use Rattle.std.specs.Prelude.{List, ◌++◌, ◌+◌, Float}
use Rattle.vectors.specs.Vectors.{scale}
use Rattle.generator_action.specs.Generator.{Generator}
use Rattle.expmv.specs.Select.{M_MAX}
use Rattle.combination.specs.Call.{Call}
use Rattle.taylor_job.specs.Calls.{phi_combination, open_calls}
use Rattle.taylor_job.specs.Calls.{TaylorAnswer}

-- n doubles more of working memory
abbrev pub wider : Generator → Generator
wider g = record { checks = g.checks; matrix = g.matrix; stored = g.stored + g.matrix.n }

-- the Taylor combination of the field and of the load times the level, entry by entry; a caller naming no highest degree passes 30 (N7)
unfoldable pub record_call : Generator → Float → Float → List Float → List Float → List Float → List Float → Call TaylorAnswer
record_call g duration level field load output memory = phi_combination (wider g) duration M_MAX 2 (field ++ scale level load) output memory

-- to compute
unfoldable pub open_record : Unit {0}
unfolding record_call scale open_calls
open_record = tt
