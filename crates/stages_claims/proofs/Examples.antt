-- Soaks in stages, computed. Assumes nothing.
use mathlib.Core.Path.{◌≡◌, refl, sym, ap, subst}
use mathlib.Core.List.{List, [], ◌∷◌, ◌++◌}
use mathlib.Core.Option.{none}
use native.Mathlib.Omega.{arith}
use lib.ListN.{replicate}
use lib.Ieee.{Float, nan}
use Rattle.doubles.specs.F64.{bits, nat, 1f, +0}
use Rattle.general_operator.specs.Csr.{Csr, csr}
use Rattle.generator_action.specs.Mass.{quotients}
use Rattle.generator_action.specs.Generator.{forward}
use Rattle.checks.specs.First.{first}
use Rattle.combination.specs.Call.{Call, ends}
use Rattle.phi_solver.specs.Combine.{PhiAnswer}
use Rattle.phi_solver.specs.declared.PhiReport.TheVariants as phi
use Rattle.schedule_checks.specs.Inner.{schedule_of}
use Rattle.schedule_checks.specs.Schedule.{Schedule, schedule_checks, refused_at}
use Rattle.stage_calls.specs.Stages.{staged, open_stages}
use Rattle.stages_claims.specs.Ran.{vectors_before, Gave, total, call_at, Ran}
use Rattle.stages_claims.proofs.Answers.{complete_result}
use Rattle.checks.specs.Reasons.{refusal}
use Rattle.checks.specs.declared.Reason.TheVariants.{RowStartsLength, VectorLength, SubstepLimit, StageCount}
use Rattle.std.specs.Prelude.{Ok}

abbrev empty : Csr
empty = csr 1 (0 ∷ 0 ∷ []) [] []

-- three Taylor stages of two vectors each
abbrev three : Schedule
three = schedule_of (replicate 3 1f) (replicate 3 2) (replicate 3 0) (replicate 3 30) (replicate 3 nan) (replicate 3 0) (replicate 3 0)

-- a slice of one value is too short for stage 2: the field of stage 1, and its 3 + 2 doubles cleared; the sixth stays
too_short : staged (forward empty none) three (1f ∷ []) (nat 2 ∷ []) (nat 7 ∷ []) (replicate 6 (nat 9)) ≡ ends (refused_at (refusal VectorLength (nat 1)) 2) (nat 3 ∷ []) (replicate 5 +0 ++ (nat 9 ∷ []))
unfolding open_stages
too_short = refl

-- a slice of four is too long for the three, told at the last
too_long : staged (forward empty none) three (1f ∷ []) (nat 2 ∷ nat 3 ∷ nat 4 ∷ nat 5 ∷ []) (nat 7 ∷ []) (replicate 6 (nat 9)) ≡ ends (refused_at (refusal VectorLength (nat 4)) 3) (nat 6 ∷ []) (replicate 5 +0 ++ (nat 9 ∷ []))
unfolding open_stages
too_long = refl

-- a matrix of no rows: refused before any stage
no_rows : staged (forward (csr 0 (0 ∷ []) [] []) none) three (1f ∷ []) (nat 2 ∷ []) (nat 7 ∷ []) (replicate 6 (nat 9)) ≡ ends (refused_at (refusal RowStartsLength (nat 1)) 0) (nat 7 ∷ []) (replicate 6 (nat 9))
unfolding open_stages
no_rows = refl

-- no stages: 37, before any
no_stages : staged (forward empty none) (schedule_of [] [] [] [] [] [] []) (1f ∷ []) [] (nat 7 ∷ []) (replicate 6 (nat 9)) ≡ ends (refused_at (refusal StageCount nan) 0) (nat 7 ∷ []) (replicate 6 (nat 9))
unfolding open_stages
no_stages = refl

abbrev four : Csr
four =
    csr 4 (0 ∷ 1 ∷ 4 ∷ 7 ∷ 9 ∷ []) (0 ∷ 0 ∷ 1 ∷ 3 ∷ 1 ∷ 2 ∷ 3 ∷ 0 ∷ 1 ∷ [])
    (bits 0x3fe0000000000000 ∷ bits 0x400147ae147ae148 ∷ bits 0x3fe3851eb851eb85 ∷ bits 0x3ff9eb851eb851ec ∷ bits 0x3fc1eb851eb851ec ∷ bits 0xbffd70a3d70a3d71 ∷ bits 0xc0063d70a3d70a3d ∷ bits 0x3fec28f5c28f5c29 ∷ bits 0x3fd999999999999a ∷ [])

abbrev start : List Float
start = bits 0xc00199999999999a ∷ bits 0x3ffccccccccccccd ∷ bits 0x3fe6666666666666 ∷ bits 0xc00599999999999a ∷ []

abbrev heating : List Float
heating = bits 0xbff999999999999a ∷ bits 0xc004000000000000 ∷ bits 0x3fc999999999999a ∷ bits 0x4004cccccccccccd ∷ []

abbrev hundredth : Float
hundredth = bits 0x3f847ae147ae147b

abbrev small : Float
small = bits 0x3f70000000000000

-- the second stage is refused during its run: 27, with its first substep's field, and what it needed cleared
limited : staged (forward four none) (schedule_of (+0 ∷ 1f ∷ []) (1 ∷ 2 ∷ []) (0 ∷ 1 ∷ []) (30 ∷ 0 ∷ []) (nan ∷ hundredth ∷ []) (0 ∷ 3 ∷ []) (0 ∷ 1 ∷ [])) start heating (replicate 4 +0) (replicate 60 (nat 9))
    ≡ ends (refused_at (refusal SubstepLimit (bits 0x3e620310ebf08c7b)) 2) (bits 0xc001b9196788d1dc ∷ bits 0x3fff7a32475dbb61 ∷ bits 0x3fe02723fdd5eb38 ∷ bits 0xc004a90a6aa9d7d8 ∷ []) (replicate 59 +0 ++ (nat 9 ∷ []))
unfolding open_stages
limited = refl

-- Krylov, whose highest degree nobody looks at, then Taylor, whose tolerance, dimension and limit nobody looks at
abbrev both : Schedule
both = schedule_of (1f ∷ small ∷ []) (2 ∷ 2 ∷ []) (1 ∷ 0 ∷ []) (99 ∷ 20 ∷ []) (hundredth ∷ nan ∷ []) (3 ∷ 0 ∷ []) (100000 ∷ 0 ∷ [])

abbrev cooling : List Float
cooling = nat 1 ∷ nat 2 ∷ nat 3 ∷ nat 4 ∷ []

abbrev warm : List Float
warm = bits 0xc004be37c54d578d ∷ bits 0x40100db75367a3a9 ∷ bits 0xc01f8a209e0a0405 ∷ bits 0x3fe577663b04b216 ∷ []

abbrev cool : List Float
cool = bits 0xc004abdd406dcb87 ∷ bits 0x40101ddca1183941 ∷ bits 0xc01fb2ff77077d29 ∷ bits 0x3fe60cd0e5bcb03d ∷ []

-- the need of the first, 4 + 6 * 5 + 25 doubles, is cleared, and that of the second lies in it
abbrev after_both : List Float
after_both = replicate 59 +0 ++ (nat 9 ∷ [])

abbrev warmed : PhiAnswer
warmed = Ok (phi.Krylov (record { matvecs = 12; substeps = 3; rejected = 1; est_error = bits 0x3f78892100e98bcf; shortest = bits 0x3f9fbe76c8b43958; last = bits 0x3fdb74bc6a7ef9da }))

abbrev cooled : PhiAnswer
cooled = Ok (phi.Taylor (record { s = 3; m = 20; mu = +0; applications = 60 }))

warm_up : call_at (forward four none) both start (heating ++ cooling) (replicate 4 +0) (replicate 60 (nat 9)) 0 start (replicate 4 +0) (replicate 60 (nat 9)) ≡ ends warmed warm after_both
unfolding vectors_before open_stages
warm_up = refl

cool_down : call_at (forward four none) both start (heating ++ cooling) (replicate 4 +0) (replicate 60 (nat 9)) 1 warm warm after_both ≡ ends cooled cool after_both
unfolding vectors_before open_stages
cool_down = refl

-- 12 and 60 products, 3 substeps and 1 rejection
two_solvers : staged (forward four none) both start (heating ++ cooling) (replicate 4 +0) (replicate 60 (nat 9)) ≡ ends (Ok (record { applications = 72; substeps = 3; rejected = 1 })) cool after_both
unfolding Ran vectors_before total quotients
two_solvers =
    complete_result (forward four none) both start (heating ++ cooling) (replicate 4 +0) (replicate 60 (nat 9)) _ cool after_both
    (record {
      scheduled = unfold schedule_checks first in refl;
      answers = warmed ∷ cooled ∷ [];
      ran =
          record {
            field = warm;
            out = warm;
            lent = after_both;
            answers = warmed ∷ [];
            earlier =
                record {
                  field = start;
                  out = replicate 4 +0;
                  lent = replicate 60 (nat 9);
                  answers = [];
                  earlier = (refl, refl, refl, refl);
                  lies = omega arith;
                  gave = subst (λ (c : Call PhiAnswer). Gave c.answer) (sym warm_up) tt;
                  field_is = ap (λ (c : Call PhiAnswer). c.output) (sym warm_up);
                  output_is = ap (λ (c : Call PhiAnswer). c.output) (sym warm_up);
                  memory_is = ap (λ (c : Call PhiAnswer). c.memory) (sym warm_up);
                  answers_are = ap (λ (c : Call PhiAnswer). c.answer ∷ []) (sym warm_up);
                };
            lies = omega arith;
            gave = subst (λ (c : Call PhiAnswer). Gave c.answer) (sym cool_down) tt;
            field_is = ap (λ (c : Call PhiAnswer). c.output) (sym cool_down);
            output_is = ap (λ (c : Call PhiAnswer). c.output) (sym cool_down);
            memory_is = ap (λ (c : Call PhiAnswer). c.memory) (sym cool_down);
            answers_are = ap (λ (c : Call PhiAnswer). warmed ∷ c.answer ∷ []) (sym cool_down);
          };
      used_up = refl;
      counts = refl;
    })
