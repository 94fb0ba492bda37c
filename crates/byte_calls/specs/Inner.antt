-- What the functions behind the exported ones know and answer: cited by their contracts, and by no contract of an exported one. Definitions only.
use Rattle.std.specs.Prelude.{List, ℕ, Float}
use Rattle.generator_action.specs.Generator.{Generator}
use Rattle.combination.specs.Call.{Call}
use Rattle.taylor_job.specs.Calls.{phi_combination, phi_action, phi_action_batched}
use Rattle.krylov_job.specs.KrylovCall.{phi_combination_krylov}
use Rattle.phi_solver.specs.Combine.{answering}
use Rattle.answers.specs.Told.{Numbers, numbers, run_numbers, taylor_numbers, krylov_numbers, options}
use Rattle.byte_calls.specs.declared.Told.{Told}
use Rattle.byte_calls.specs.declared.PhiCall.{PhiCall}
use Rattle.byte_calls.specs.declared.PhiCall.TheVariants.{Combination, Action, Batch, Krylov}

-- the numbers of a Taylor call and those of a Krylov call
abbrev pub taylor_told : Told → Numbers
taylor_told t = numbers t.number t.value t.s t.m t.applications

abbrev pub krylov_told : Told → Numbers
krylov_told t = run_numbers t.number t.value t.substeps t.matvecs t.rejected t.shortest t.last

unfoldable pub told : PhiCall → Told → Numbers
told (Combination degree) = taylor_told
told (Action degree) = taylor_told
told (Batch degree) = taylor_told
told (Krylov tol m limit) = krylov_told

-- the four calls over a generator, told as numbers
unfoldable pub called : PhiCall → Generator → Float → ℕ → List Float → List Float → List Float → Call Numbers
called (Combination degree) g tau k v output memory = answering taylor_numbers (phi_combination g tau degree k v output memory)
called (Action degree) g tau k v output memory = answering taylor_numbers (phi_action g tau degree k v output memory)
called (Batch degree) g tau k v output memory = answering taylor_numbers (phi_action_batched g tau degree k v output memory)
called (Krylov tol m limit) g tau k v output memory = answering krylov_numbers (phi_combination_krylov g tau k v (options tol m limit) output memory)

-- the same with another double
abbrev pub revalued : Told → Float → Told
revalued t x =
    record {
      number = t.number;
      value = x;
      s = t.s;
      m = t.m;
      applications = t.applications;
      substeps = t.substeps;
      matvecs = t.matvecs;
      rejected = t.rejected;
      shortest = t.shortest;
      last = t.last;
    }
