-- Paused runs, computed. Assumes nothing.
use mathlib.Core.Path.{◌≡◌, refl}
use mathlib.Core.Bool.{Bool, true, false}
use mathlib.Core.List.{List, [], ◌∷◌, ◌++◌}
use mathlib.Core.Option.{none}
use Prim.Native.Nat.{ℕ, ◌+◌}
use lib.ListN.{replicate}
use lib.Ieee.{Float, nan}
use Rattle.std.specs.Prelude.{Option, Some, None}
use Rattle.doubles.specs.F64.{bits, nat, 1f, +0}
use Rattle.general_operator.specs.Csr.{Csr, csr}
use Rattle.generator_action.specs.Generator.{forward}
use Rattle.krylov_job.specs.declared.KrylovPhiOptions.{KrylovPhiOptions}
use Rattle.checks.specs.First.{first}
use Rattle.krylov_advance.specs.declared.KrylovPhiReport.{KrylovPhiReport}
use Rattle.paused_run.specs.Paused.{Job, PausedCall, leaves, StartAnswer, start_checks, start, StepAnswer, StepRefused, Input, step, open_paused}
use Rattle.paused_run.specs.declared.PausedRun.{PausedRun}
use Rattle.paused_claims.specs.History.{run_in}
use Rattle.paused_claims.specs.Alike.{number_in, double_in}
use Rattle.checks.specs.Reasons.{Sound}
use Rattle.std.specs.Prelude.{Ok, Err}
use Rattle.checks.specs.declared.Reason.TheVariants.{NoInnerPlan, RunEnded}

-- the first step on what a start handed back; a refused start answers for it
abbrev first_step : PausedCall StartAnswer → Input → PausedCall StepAnswer
first_step c i = elim c.answer [ Err e ↦ leaves (StepRefused e.reason e.value nothing) c.output c.memory c.field | Ok s ↦ step s c.field i ]
  where
    nothing : PausedRun
    nothing =
        record {
          time = +0;
          next = +0;
          report = record { matvecs = 0; substeps = 0; rejected = 0; est_error = +0; shortest = +0; last = +0 };
          eta = 1f;
          factors = record { down = 1f; up = 1f };
          norm = +0;
          tol = +0;
          m = 0;
          limit = 0;
          n = 0;
          count = 0;
          ended = true;
        }

-- and the next on what that left
abbrev then_step : PausedCall StepAnswer → Input → PausedCall StepAnswer
then_step c i = step (run_in c.answer) c.field i

abbrev options : Float → ℕ → ℕ → KrylovPhiOptions
options tol m limit = record { tol = tol; m = m; max_substeps = limit }

-- 1e-10
abbrev tenth : Float
tenth = bits 0x3ddb_7cdf_d9d7_bdbb

abbrev job : Csr → Float → ℕ → List Float → Job
job a tau count w = record { g = forward a none; tau = tau; count = count; w = w }

abbrev input : Option Float → Job → List Float → List Float → Input
input t j output memory = record { tolerance = t; job = j; output = output; memory = memory }

abbrev empty : Csr
empty = csr 1 (0 ∷ 0 ∷ []) [] []

-- ---- the start's eta stays in the gains: with its own the step would hand out 1
own_gain : first_step (start (options tenth 30 100000) (job empty 1f 2 (+0 ∷ 1f ∷ [])) (nat 7 ∷ []) (replicate 27 (nat 9)) (replicate 2 (nat 9))) (input None (job empty 1f 2 (+0 ∷ nat 4 ∷ [])) (nat 7 ∷ []) (replicate 28 (nat 9)))
    ≡ leaves
    (Ok (record {
      time = 1f;
      next = +0;
      report = record { matvecs = 2; substeps = 1; rejected = 0; est_error = bits 0x3cc0_0000_0000_0000; shortest = 1f; last = 1f };
      eta = 1f;
      factors = record { down = 1f; up = 1f };
      norm = 1f;
      tol = tenth;
      m = 30;
      limit = 100000;
      n = 1;
      count = 2;
      ended = true;
    }))
    (nat 4 ∷ [])
    (replicate 27 +0 ++ (nat 9 ∷ []))
    (nat 4 ∷ 1f ∷ [])
unfolding open_paused
own_gain = refl

-- ---- and in 22: w_1 = 1e-305 gives the largest eta, 2 ^ 1000. With tau 1e10 the step's own would pass
abbrev tiny : Float
tiny = bits 0x009c_16c5_c525_3575

abbrev long_time : Float
long_time = bits 0x4202_a05f_2000_0000

own_22 : number_in (first_step (start (options tenth 30 100000) (job empty 1f 2 (+0 ∷ tiny ∷ [])) (nat 7 ∷ []) (replicate 27 (nat 9)) (replicate 2 (nat 9))) (input None (job empty long_time 2 (+0 ∷ tiny ∷ [])) (nat 7 ∷ []) (replicate 28 (nat 9)))).answer ≡ 22
unfolding open_paused
own_22 = refl

own_passes : first (start_checks (options tenth 30 100000) (job empty long_time 2 (+0 ∷ tiny ∷ [])) 1 27 2) ≡ Sound
unfolding open_paused
own_passes = refl

-- ---- another n and count than the start's, with as many values: 16 tells the vectors' length; with the start's output 15 comes first, and tells that
abbrev zero_rows : ℕ → Csr
zero_rows n = csr n (replicate (n + 1) 0) [] []

abbrev three_alone : PausedCall StartAnswer
three_alone = start (options tenth 2 9) (job (zero_rows 3) 1f 1 (1f ∷ 1f ∷ 1f ∷ [])) (replicate 3 (nat 7)) (replicate 34 (nat 9)) (replicate 3 (nat 9))

abbrev two_by_two : List Float → Input
two_by_two output = input None (job (zero_rows 2) 1f 2 (1f ∷ 1f ∷ 1f ∷ 1f ∷ [])) output (replicate 34 (nat 9))

other_16 : let a = (first_step three_alone (two_by_two (replicate 2 (nat 7)))).answer in (number_in a ≡ 16) × (double_in a ≡ nat 4)
unfolding open_paused
other_16 = (refl, refl)

other_15 : let a = (first_step three_alone (two_by_two (replicate 3 (nat 7)))).answer in (number_in a ≡ 15) × (double_in a ≡ nat 3)
unfolding open_paused
other_15 = (refl, refl)

-- ---- an all-zero start keeps the signs of its zeros, and a step on it is 31
abbrev -0 : Float
-0 = bits 0x8000_0000_0000_0000

abbrev zeros : Job
zeros = job (zero_rows 2) 1f 1 (-0 ∷ +0 ∷ [])

abbrev idle : PausedRun
idle =
    record {
      time = +0;
      next = +0;
      report = record { matvecs = 0; substeps = 0; rejected = 0; est_error = +0; shortest = +0; last = +0 };
      eta = 1f;
      factors = record { down = 1f; up = 1f };
      norm = +0;
      tol = tenth;
      m = 30;
      limit = 9;
      n = 2;
      count = 1;
      ended = true;
    }

signs_kept : start (options tenth 30 9) zeros (nat 7 ∷ nat 7 ∷ []) (replicate 29 (nat 9)) (nat 9 ∷ nat 9 ∷ [])
    ≡ leaves (Ok idle) (-0 ∷ +0 ∷ []) (replicate 28 +0 ++ (nat 9 ∷ [])) (-0 ∷ +0 ∷ [])
unfolding open_paused
signs_kept = refl

idle_31 : step idle (-0 ∷ +0 ∷ []) (input None zeros (nat 7 ∷ []) []) ≡ leaves (StepRefused RunEnded nan idle) (nat 7 ∷ []) [] (-0 ∷ +0 ∷ [])
unfolding open_paused
idle_31 = refl

-- ---- a new tol at the second step: 1e-3 after 1e-2, times the first norm, 1.1456..; it is kept, and the step rejects a length
abbrev ring : Job
ring = job (csr 3 (0 ∷ 1 ∷ 2 ∷ 3 ∷ []) (1 ∷ 2 ∷ 0 ∷ []) (1f ∷ nat 2 ∷ bits 0xbff0_0000_0000_0000 ∷ [])) 1f 1 (1f ∷ bits 0x3fe0_0000_0000_0000 ∷ bits 0x3fd0_0000_0000_0000 ∷ [])

abbrev hundredth : Float
hundredth = bits 0x3f84_7ae1_47ae_147b

abbrev thousandth : Float
thousandth = bits 0x3f50_624d_d2f1_a9fc

abbrev ring_begun : PausedCall StartAnswer
ring_begun = start (options hundredth 2 9) ring (replicate 3 (nat 7)) (replicate 34 (nat 9)) (replicate 3 (nat 9))

abbrev on_ring : Option Float → Input
on_ring t = input t ring (replicate 3 (nat 7)) (replicate 34 (nat 9))

abbrev ring_run : Float → Float → KrylovPhiReport → Float → Bool → PausedRun
ring_run time next report tol ended =
    record {
      time = time;
      next = next;
      report = report;
      eta = 1f;
      factors = record { down = 1f; up = 1f };
      norm = bits 0x3ff2_548e_b915_1e85;
      tol = tol;
      m = 2;
      limit = 9;
      n = 3;
      count = 1;
      ended = ended;
    }

tightened : then_step (first_step ring_begun (on_ring None)) (on_ring (Some thousandth))
    ≡ (let y = bits 0x3fee_f740_b4a3_7480 ∷ bits 0x3fdd_9212_b86d_25ba ∷ bits 0x3fd4_3767_1ac2_648d ∷ [] in
    leaves
    (Ok
    (ring_run (bits 0x3fb1_26e9_78d4_fdf4) (bits 0x3faa_1cac_0831_26ea)
    (record {
      matvecs = 6;
      substeps = 2;
      rejected = 1;
      est_error = bits 0x3f0a_2cbe_3aed_55bc;
      shortest = bits 0x3f90_624d_d2f1_a9fc;
      last = bits 0x3faa_1cac_0831_26ea;
    })
    thousandth false))
    y
    (replicate 34 +0)
    y)
unfolding open_paused
tightened = refl

-- ---- a short time: the step proposed is above 1, and stays so at the end, where alone the estimate is divided by the first norm
abbrev short : Job
short = record { g = ring.g; tau = bits 0x3fd0_0000_0000_0000; count = 1; w = ring.w }

abbrev short_step : Input
short_step = input None short (replicate 3 (nat 7)) (replicate 34 (nat 9))

abbrev short_first : PausedCall StepAnswer
short_first = first_step (start (options hundredth 2 9) short (replicate 3 (nat 7)) (replicate 34 (nat 9)) (replicate 3 (nat 9))) short_step

above_one : short_first.answer
    ≡ Ok
    (ring_run (bits 0x3f9f_be76_c8b4_3958) (bits 0x3ff4_cccc_cccc_cccd)
    (record { matvecs = 3; substeps = 1; rejected = 0; est_error = bits 0x3e86_7ae1_cf5f_8dfe; shortest = bits 0x3f9f_be76_c8b4_3958; last = bits 0x3f9f_be76_c8b4_3958 })
    hundredth false)
unfolding open_paused
above_one = refl

finished : (then_step short_first short_step).answer
    ≡ Ok
    (ring_run 1f (bits 0x3ff4_cccc_cccc_cccd)
    (record { matvecs = 6; substeps = 2; rejected = 0; est_error = bits 0x3f72_6e97_9028_9a8c; shortest = bits 0x3f9f_be76_c8b4_3958; last = bits 0x3fef_020c_49ba_5e35 })
    hundredth true)
unfolding open_paused
finished = refl

-- ---- the smallest tol of all: 29 tells NaN, and hands back the last accepted state, its tol the one before, marked as ended
met_29 : first_step ring_begun (on_ring (Some (bits 0x1)))
    ≡ (let y = 1f ∷ bits 0x3fe0_0000_0000_0000 ∷ bits 0x3fd0_0000_0000_0000 ∷ [] in
    leaves
    (StepRefused NoInnerPlan nan
    (ring_run +0 (bits 0x3f90_624d_d2f1_a9fc) (record { matvecs = 0; substeps = 0; rejected = 0; est_error = +0; shortest = +0; last = +0 }) hundredth true))
    y
    (replicate 34 +0)
    y)
unfolding open_paused
met_29 = refl
