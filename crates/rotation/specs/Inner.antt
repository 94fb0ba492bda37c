-- What the code's own contracts say. Definitions only.
use Rattle.std.specs.Prelude.{Bool, true, false, List, [], ◌∷◌, ◌++◌, ℕ, ◌+◌, ◌-◌, ltb, leb, get_or, replicate, if◌then◌else◌}
use Rattle.lists.specs.Find.{find}
use Rattle.lists.specs.Loop.{tabulate}
use Rattle.paused_run.specs.declared.PausedRun.{PausedRun}
use Rattle.rotation.specs.declared.Rotation.{Rotation}
use Rattle.rotation.specs.declared.Seat.{Seat}
use Rattle.rotation.specs.Unit.{vacant, run_at, lowest_free, room, seated, passed_on}

-- how many places wait
abbrev pub count_of : List ℕ → ℕ
count_of queue = find (λ k. leb 16 (get_or queue k 0)) 16

-- a queue's numbers in `from` to `to`, then `last` (16: none), then none
abbrev pub shifted : List ℕ → ℕ → ℕ → ℕ → List ℕ
shifted queue from to last = tabulate (to - from) (λ k. get_or queue (from + k) 0) ++ (last ∷ replicate (15 - (to - from)) 16)

-- the run in a place of 0 to 15
abbrev pub run_in_place : Rotation → ℕ → PausedRun
run_in_place u p = if ltb p 16 then run_at u p else vacant

-- a new run where there is room
abbrev pub seat_of : Rotation → PausedRun → Seat
seat_of u s = if room u then record { unit = seated u s; place = lowest_free u } else record { unit = u; place = 16 }

-- what a place whose turn is over puts at the end: 16, none, where its run has ended
abbrev pub end_of : ℕ → Bool → ℕ
end_of p true = 16
end_of p false = p

-- the first of those that wait after its turn
abbrev pub passed_of : Rotation → List ℕ → PausedRun → Rotation
passed_of u [] s = u
passed_of u (p ∷ l) s = passed_on u p l s
