-- A history of a unit, computed. Assumes nothing.
use mathlib.Core.Path.{◌≡◌, refl}
use mathlib.Core.Bool.{true, false}
use mathlib.Core.List.{List, [], ◌∷◌, map}
use mathlib.Core.Option.{none}
use Prim.Native.Nat.{ℕ, ◌+◌}
use lib.ListN.{replicate}
use lib.Ieee.{Float}
use Rattle.std.specs.Prelude.{None}
use Rattle.lists.specs.Find.{open_find}
use Rattle.lists.specs.Loop.{open_loop}
use Rattle.doubles.specs.F64.{bits, nat, 1f, +0}
use Rattle.general_operator.specs.Csr.{csr}
use Rattle.generator_action.specs.Generator.{forward}
use Rattle.krylov_job.specs.declared.KrylovPhiOptions.{KrylovPhiOptions}
use Rattle.paused_run.specs.Paused.{Job, open_paused}
use Rattle.rotation.specs.Unit.{empty, waiting, queue_of, next_place, lowest_free, room, admitted, join, turn_of, turn}
use Rattle.paused_claims.specs.Alike.{number_in}
use Rattle.rotation_claims.specs.History.{Act, joins, takes_turn, Event, joined, turned, unit_after, event_of, unit_from, events_from, unfinished_from, unfinished}
use Rattle.rotation_claims.specs.Order.{place_in}
use Rattle.checks.specs.Reasons.{number}
use Rattle.std.specs.Prelude.{Ok, Err}

-- 1e-10
abbrev tenth : Float
tenth = bits 0x3ddb_7cdf_d9d7_bdbb

abbrev options : KrylovPhiOptions
options = record { tol = tenth; m = 2; max_substeps = 9 }

-- n rows that do nothing: a run is over with its first substep
abbrev barrel : ℕ → Float → Job
barrel n x = record { g = forward (csr n (replicate (n + 1) 0) [] []) none; tau = 1f; count = 1; w = replicate n x }

abbrev comes : ℕ → Float → Act
comes n x = joins options (barrel n x) (replicate n (nat 7)) (replicate 60 (nat 9)) (replicate n (nat 9))

-- a turn with the matrix of n rows and the field of m
abbrev serves : ℕ → ℕ → Act
serves n m = takes_turn (record { tolerance = None; job = barrel n 1f; output = replicate n (nat 7); memory = replicate 60 (nat 9) }) (replicate m 1f)

-- three rows come, then two; zeros take no place; the first has its turn and ends; the second is brought the matrix of three rows (16), then goes on; one row takes place 0 again; both have
-- their turns; none waits
abbrev acts : List Act
acts = comes 3 1f ∷ comes 2 1f ∷ comes 2 +0 ∷ serves 3 3 ∷ serves 3 2 ∷ comes 1 1f ∷ serves 2 2 ∷ serves 1 1 ∷ serves 1 1 ∷ []

-- 0, or the refusal's number
abbrev number_of : Event → ℕ
number_of (joined o j q c) = elim c.answer [ Err r ↦ number r.reason | Ok s ↦ 0 ]
number_of (turned i y q c) = number_in c.answer

places : map place_in (events_from empty acts) ≡ 0 ∷ 1 ∷ 16 ∷ 0 ∷ 1 ∷ 0 ∷ 1 ∷ 0 ∷ 16 ∷ []
unfolding open_paused open_find open_loop empty waiting queue_of next_place lowest_free room admitted join turn_of turn unit_after event_of unit_from events_from
places = refl

numbers : map number_of (events_from empty acts) ≡ 0 ∷ 0 ∷ 0 ∷ 0 ∷ 16 ∷ 0 ∷ 0 ∷ 0 ∷ 31 ∷ []
unfolding open_paused open_find open_loop empty waiting queue_of next_place lowest_free room admitted join turn_of turn unit_after event_of unit_from events_from
numbers = refl

-- after the second barrel came both are unfinished; place 2 is free
after_two : (unfinished (comes 3 1f ∷ comes 2 1f ∷ []) 0 ≡ true) × (unfinished (comes 3 1f ∷ comes 2 1f ∷ []) 1 ≡ true) × (unfinished (comes 3 1f ∷ comes 2 1f ∷ []) 2 ≡ false)
unfolding open_paused open_find open_loop empty waiting queue_of next_place lowest_free room admitted join turn_of turn unit_after event_of unit_from events_from unfinished_from
after_two = (refl, refl, refl)
