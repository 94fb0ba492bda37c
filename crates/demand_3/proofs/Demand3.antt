-- Demand 3, one claim on whole runs of the four calls (document 01, 'What demand 3 counts'). Assumes nothing.
use mathlib.Core.Path.{◌≡◌, refl, sym, ap, ◌∙◌, subst}
use mathlib.Core.Bool.{Bool, true, false}
use mathlib.Core.List.{List, []}
use mathlib.Core.Option.{none, some}
use Prim.Native.Nat.{ℕ, zero, ◌+◌, ◌-◌, ◌<◌}
use native.Mathlib.Omega.{arith}
use lib.ListN.{length}
use lib.Dec.{ltb}
use lib.Ieee.{Float, nan}
use Rattle.lists.specs.Window.{window}
use Rattle.doubles.specs.F64.{+0}
use Rattle.expmv.specs.Select.{degrees, thetas, decimal, degree, quotient, sweeps, cost}
use Rattle.expmv.proofs.Rows.{degree_bounds}
use Rattle.demand_3.specs.Taylor.{Rows}
use borrow.Author.Tests.{eqb-false}
use Rattle.checks.specs.First.{Check, first, before}
use Rattle.checks.specs.First.{Checked}
use Rattle.checks.proofs.First.{err_is, ok_is, same_reason, unless, first_cons, sound_cons, sound_append}
use Rattle.checks.proofs.Numbers.{before_append, not_by, refused_past}
use Rattle.general_operator.specs.Csr.{Csr, row_sum_norm}
use Rattle.general_operator.specs.Checks.{shape_checks, row_checks, entry_checks, matrix_checks}
use Rattle.generator_action.specs.Mass.{Mass, generator_checks, bound_checks as sums-checks, mass_checks, sum_checks, norm_checks}
use Rattle.phi_action_helpers.specs.Augmented.{Augmented, aug_matvec}
use Rattle.phi_action_helpers.specs.declared.Scales.{Scales}
use Rattle.generator_action.specs.Generator.{Generator, forward}
use Rattle.transpose.specs.Transpose.{Lent, start_checks, forward_checks, lent_checks, before_transposing, transposed_checks, transposed}
use Rattle.combination.specs.Call.{Call, unless_refused}
use Rattle.combination.specs.Combination.{further}
use Rattle.combination.specs.Checks.{out_of_range, count_checks, time_checks, length_checks, finite_checks, magnitude_checks, memory_checks, vector_checks_by, vector_checks}
use Rattle.combination.proofs.Range.{no_23}
use Rattle.taylor_schedule.proofs.Admitted.{vectors_known, first_within, length_start}
use Rattle.gram_schmidt.specs.Basis.{norm2}
use Rattle.krylov_advance.specs.Run.{State, End, finished, refused, clamp_m, idle}
use Rattle.krylov_advance.specs.declared.KrylovPhiReport.{KrylovPhiReport}
use Rattle.krylov_job.specs.KrylovCall.{dimension, option_checks, bound_checks, run_checks, krylov_need, krylov_checks_by, krylov_checks, after_run, combination_run_krylov, phi_combination_krylov}
use Rattle.krylov_job.specs.declared.KrylovPhiOptions.{KrylovPhiOptions}
use Rattle.krylov_job.specs.KrylovCall.{KrylovAnswer}
use Rattle.demand_3.specs.Krylov.{Zeros, KrylovCost, AtLimit, Exactly27}
use Rattle.demand_3.specs.Demand3.{start_of, krylov_run, clamped, OneProduct, Demand3}
use Rattle.demand_3.proofs.Start.{vectors_finite, start_finite}
use Rattle.demand_3.proofs.Krylov.{expv_cost, expv_only_27, expv_if_27, expv_idle, expv_late}
use Rattle.demand_3.proofs.Never23.{transposed_in_range}
use Rattle.demand_3.proofs.Taylor.{fits_is, combination_claim, action_claim, batch_claim}
use Rattle.checks.specs.Reasons.{Sound, Refused}
use Rattle.std.specs.Prelude.{Ok, Err}
use Rattle.checks.specs.declared.Reason.{Reason}
use Rattle.checks.specs.declared.Reason.TheVariants.{VectorNotFinite, NoAdmissibleRow, WorkLength, SubstepLimit, DegreeRange}
use Rattle.checks.specs.Reasons.{number as numbered}
use Rattle.checks.specs.declared.Refusal.{Refusal}

-- ---- a Krylov call
module _
    (g : Generator)
    (none_25 : before NoAdmissibleRow g.checks ≡ g.checks)
    (none_27 : before SubstepLimit g.checks ≡ g.checks)
    (none_33 : before DegreeRange g.checks ≡ g.checks)
    (tau : Float)
    (count : ℕ)
    (w : List Float)
    (o : KrylovPhiOptions)
    (output memory : List Float) where
  abbrev n : ℕ
  n = g.matrix.n

  abbrev checks : List Check
  checks = krylov_checks g tau count w o (length output) (length memory)

  abbrev call : Call KrylovAnswer
  call = phi_combination_krylov g tau count w o output memory

  abbrev M : ℕ
  M = dimension n (count - 1) o.m

  -- ---- what the checks leave
  -- none is numbered 27
  low : before SubstepLimit checks ≡ checks
  unfolding before krylov_checks krylov_checks_by vector_checks vector_checks_by count_checks time_checks length_checks finite_checks option_checks run_checks magnitude_checks bound_checks memory_checks
  low = before_append SubstepLimit g.checks _ none_27

  -- 12 to 17, and 18 on
  vectors_sound : Sound ≡ first checks → Sound ≡ first (vector_checks n (time_checks tau) count w (length output))
  unfolding krylov_checks krylov_checks_by vector_checks
  vectors_sound e = (sound_append (vector_checks n (time_checks tau) count w (length output)) _ (sound_append g.checks _ e).1).0

  start_long : Sound ≡ first checks → clamp_m o.m (length (start_of g tau count w)) ≡ M
  unfolding dimension
  start_long e =
      let s = vectors_known n (time_checks tau) count w (length output) refl (vectors_sound e) in
      ap (clamp_m o.m) (length_start n w (count - 1) _ (first_within s))

  some_limit : Sound ≡ first checks → 0 < o.max_substeps
  unfolding krylov_checks krylov_checks_by vector_checks option_checks
  some_limit e =
      let v = sound_append (vector_checks n (time_checks tau) count w (length output)) _ (sound_append g.checks _ e).1 in
      let p = sound_append (option_checks o M) _ v.1 in
      let n = eqb-false o.max_substeps 0 (sound_cons _ _ _ _ (sound_cons _ _ _ _ p.0).1).0 in
      omega (arith, n)

  -- ---- a result is that of a job that no check refuses, and of a run that finished
  accepted : (c : Checked) (e : End) (need : ℕ) {r : KrylovPhiReport} → (unless_refused Refused c output memory (after_run n need memory e)).answer ≡ Ok r
      → (Sound ≡ c) × ((s : State) × ((e ≡ finished s) × (s.report ≡ r) × (window 0 n s.y ≡ (unless_refused Refused c output memory (after_run n need memory e)).output)))
  unfolding unless_refused after_run
  accepted (Ok _) (finished s) need f = (refl, (s, (refl, same f, refl)))
    where
      same : {x y : KrylovPhiReport} → ◌≡◌ {A = KrylovAnswer} (Ok x) (Ok y) → x ≡ y
      same g = ok_is g
  accepted (Ok _) (refused k x s) need f = let z : zero ≡ 1 = cc in absurd (omega (arith, z))
  accepted (Err r) e need f = let z : zero ≡ 1 = cc in absurd (omega (arith, z))

  pub krylov_cost : {r : KrylovPhiReport} → call.answer ≡ Ok r → KrylovCost n M o.max_substeps (start_of g tau count w) call.output (krylov_run g tau count w o) r
  unfolding combination_run_krylov phi_combination_krylov
  krylov_cost {r} e =
      let h = accepted (first checks) _ _ e in
      let v = vectors_known n (time_checks tau) count w (length output) refl (vectors_sound h.0) in
      let f = start_finite n w (further n w) tau (count - 1) (first_within v) (vectors_finite n (time_checks tau) count w (length output) (vectors_sound h.0)) in
      let c = expv_cost _ tau _ o.tol o.m o.max_substeps (start_of g tau count w) f h.1.1.0 in
      let u = krylov_run g tau count w o in
      let of_M = subst (λ (k : ℕ). KrylovCost n k o.max_substeps (start_of g tau count w) (window 0 n h.1.0.y) u h.1.0.report) (start_long h.0) c in
      let of_r = subst (λ (x : KrylovPhiReport). KrylovCost n M o.max_substeps (start_of g tau count w) (window 0 n h.1.0.y) u x) h.1.1.1 of_M in
      subst (λ (x : List Float). KrylovCost n M o.max_substeps (start_of g tau count w) x u r) h.1.1.2 of_r

  -- ---- 27 is not of the checks
  refused_run : (c : Checked) (e : End) (need : ℕ) {x : Float} → c ≡ first checks → (unless_refused Refused c output memory (after_run n need memory e)).answer ≡ Refused SubstepLimit x
      → (Sound ≡ c) × ((s : State) × (e ≡ refused SubstepLimit x s))
  unfolding unless_refused after_run
  refused_run (Ok _) (finished s) need d f = let z : zero ≡ 1 = cc in absurd (omega (arith, z))
  refused_run (Ok _) (refused k y s) need d f = (refl, (s, same f))
    where
      same : {i j : Reason} {x y : Float} → Refused {A = KrylovPhiReport} i x ≡ Refused j y → refused i x s ≡ refused j y s
      same g = ap (λ (e : Refusal). refused e.reason e.value s) (err_is g)
  refused_run (Err r) e need {x} d f = let n : r.reason ≡ SubstepLimit = same_reason f in absurd (not_by SubstepLimit checks low (subst (λ (i : Reason). Refused i r.value ≡ first checks) n d))

  only_27 : (x : Float) → call.answer ≡ Refused SubstepLimit x → AtLimit checks o.max_substeps (krylov_run g tau count w o) x
  unfolding combination_run_krylov phi_combination_krylov norm2
  only_27 x e =
      let h = refused_run (first checks) _ _ refl e in
      let l = expv_only_27 _ tau _ o.tol o.m o.max_substeps (start_of g tau count w) (some_limit h.0) h.1.1 in
      record { passed = h.0; substeps = l.0; below_one = l.1; norm_left = l.2; told = l.3 }

  if_27 : (x : Float) → AtLimit checks o.max_substeps (krylov_run g tau count w o) x → call.answer ≡ Refused SubstepLimit x
  unfolding combination_run_krylov phi_combination_krylov unless_refused after_run norm2
  if_27 x h =
      let l = expv_if_27 _ tau _ o.tol o.m o.max_substeps (start_of g tau count w) (some_limit h.passed) (h.substeps, h.below_one, h.norm_left, h.told) in
      rw (← h.passed, l.1) refl

  pub exactly_27 : Exactly27 call checks o.max_substeps (krylov_run g tau count w o)
  exactly_27 x = (only_27 x, if_27 x)

  -- ---- 25 is not of a Krylov call
  not_of_memory : {x : Float} → Refused NoAdmissibleRow x ≡ first (memory_checks (length memory) (krylov_need n (count - 1) M g.stored)) → ⊥
  unfolding memory_checks first
  not_of_memory {x} e = go (ltb (length memory) (krylov_need n (count - 1) M g.stored)) (e ∙ first_cons WorkLength (ltb (length memory) (krylov_need n (count - 1) M g.stored)) nan [])
    where
      go : (b : Bool) → Refused NoAdmissibleRow x ≡ unless b WorkLength nan Sound → ⊥
      go true e = let n : 25 ≡ 26 = ap numbered (same_reason e) in absurd (omega (arith, n))
      go false e = let z : zero ≡ 1 = cc in absurd (omega (arith, z))

  low_vectors : before NoAdmissibleRow (vector_checks n (time_checks tau) count w (length output)) ≡ vector_checks n (time_checks tau) count w (length output)
  unfolding before vector_checks vector_checks_by count_checks time_checks length_checks finite_checks
  low_vectors = refl

  low_options : before NoAdmissibleRow (option_checks o M) ≡ option_checks o M
  unfolding before option_checks
  low_options = refl

  low_magnitude : (f : List Float) (eta : Float) → before NoAdmissibleRow (magnitude_checks n f tau (count - 1) eta) ≡ magnitude_checks n f tau (count - 1) eta
  unfolding before magnitude_checks
  low_magnitude f eta = refl

  low_bound : (anorm : Float) → before NoAdmissibleRow (bound_checks anorm) ≡ bound_checks anorm
  unfolding before bound_checks
  low_bound anorm = refl

  checks_25 : {x : Float} → Refused NoAdmissibleRow x ≡ first checks → ⊥
  unfolding krylov_checks krylov_checks_by vector_checks run_checks
  checks_25 e =
      let v = refused_past NoAdmissibleRow _ _ low_vectors (refused_past NoAdmissibleRow _ _ none_25 e).1 in
      let r = refused_past NoAdmissibleRow _ _ (low_magnitude _ _) (refused_past NoAdmissibleRow _ _ low_options v.1).1 in
      not_of_memory (refused_past NoAdmissibleRow _ _ (low_bound _) r.1).1

  low_33 : before DegreeRange checks ≡ checks
  unfolding before krylov_checks krylov_checks_by vector_checks vector_checks_by count_checks time_checks length_checks finite_checks option_checks run_checks magnitude_checks bound_checks memory_checks
  low_33 = before_append DegreeRange g.checks _ none_33

  -- no run refuses by j, and no check does
  refused_by_none : (j : Reason) → ((x : Float) → Refused j x ≡ first checks → ⊥) → ((k : Reason) → 26 < numbered k → numbered k < 30 → k ≡ j → ⊥) → (c : Checked) (e : End) (need : ℕ) {x : Float} → c ≡ first checks
      → ((r : Reason) (z : Float) (s : State) → e ≡ refused r z s → (26 < numbered r) × (numbered r < 30))
      → (unless_refused Refused c output memory (after_run n need memory e)).answer ≡ Refused j x → ⊥
  unfolding unless_refused after_run
  refused_by_none j h other (Ok _) (finished s) need d late f = let z : zero ≡ 1 = cc in absurd (omega (arith, z))
  refused_by_none j h other (Ok _) (refused k y s) need d late f = other k (late _ _ _ refl).0 (late _ _ _ refl).1 (same_reason f)
  refused_by_none j h other (Err r) e need {x} d late f = h x (same f ∙ d)
    where
      same : {i j : Reason} {x y : Float} → Refused {A = KrylovPhiReport} i x ≡ Refused j y → Refused {A = Unit} j y ≡ Refused i x
      same g = ap Err (sym (err_is g))

  pub krylov_no_25 : (x : Float) → call.answer ≡ Refused NoAdmissibleRow x → ⊥
  unfolding combination_run_krylov phi_combination_krylov
  krylov_no_25 x e = refused_by_none NoAdmissibleRow (λ y. checks_25) (λ k l m n. absurd (omega (arith, l, ap numbered n))) (first checks) _ _ refl (λ r z s. expv_late _ tau _ o.tol o.m o.max_substeps (start_of g tau count w)) e

  pub krylov_no_33 : (x : Float) → call.answer ≡ Refused DegreeRange x → ⊥
  unfolding combination_run_krylov phi_combination_krylov
  krylov_no_33 x e = refused_by_none DegreeRange (λ y. not_by DegreeRange checks low_33) (λ k l m n. absurd (omega (arith, m, ap numbered n))) (first checks) _ _ refl (λ r z s. expv_late _ tau _ o.tol o.m o.max_substeps (start_of g tau count w)) e

  pub zeros_idle : Sound ≡ first checks → Zeros (start_of g tau count w) → call.answer ≡ Ok (record { matvecs = 0; substeps = 0; rejected = 0; est_error = +0; shortest = +0; last = +0 })
  unfolding combination_run_krylov phi_combination_krylov unless_refused after_run idle
  zeros_idle e z = rw (← e, expv_idle _ tau _ o.tol o.m o.max_substeps (start_of g tau count w) z) refl

  -- M as it is clamped
  pub krylov_claim : {r : KrylovPhiReport} → call.answer ≡ Ok r → KrylovCost n (clamped o.m (n + (count - 1))) o.max_substeps (start_of g tau count w) call.output (krylov_run g tau count w o) r
  unfolding dimension clamp_m
  krylov_claim e = krylov_cost e

one_each : (b : Augmented) (k : Scales) (x : List Float) → OneProduct b k x
unfolding aug_matvec
one_each b k x = refl

-- the rows
the_rows : Rows
unfolding degrees thetas decimal sweeps quotient cost degree
the_rows = record { degrees_are = refl; thetas_are = refl; fits = fits_is; all_at_30 = λ j l. (degree_bounds j l).1; sweeps_are = λ arg j. refl; costs = λ arg j. refl }

-- ---- all four calls, of a generator none of whose checks is numbered 17, 25, 27 or 33, and whose norm is in range where they pass
pub demand_3_of : (g : Generator) → (Sound ≡ first g.checks → out_of_range (row_sum_norm g.matrix) ≡ false) → before NoAdmissibleRow g.checks ≡ g.checks → before SubstepLimit g.checks ≡ g.checks → before VectorNotFinite g.checks ≡ g.checks → before DegreeRange g.checks ≡ g.checks → (tau : Float) (output memory : List Float) → Demand3 g tau output memory
demand_3_of g ranged_norm none_25 none_27 none_17 none_33 tau output memory =
    record {
      one_product = one_each;
      rows = the_rows;
      combination = λ cap count w. combination_claim g ranged_norm none_25 none_27 none_17 none_33 tau cap count w output memory;
      action = λ cap k v. action_claim g ranged_norm none_25 none_27 none_17 none_33 tau cap k v output memory;
      batch = λ cap p v. batch_claim g ranged_norm none_25 none_27 none_17 none_33 tau cap p v output memory;
      krylov = λ count w o. krylov_claim g none_25 none_27 none_33 tau count w o output memory;
      at_limit = λ count w o. exactly_27 g none_25 none_27 none_33 tau count w o output memory;
      zeros = λ count w o. zeros_idle g none_25 none_27 none_33 tau count w o output memory;
      no_25 = λ count w o. krylov_no_25 g none_25 none_27 none_33 tau count w o output memory;
      no_33 = λ count w o. krylov_no_33 g none_25 none_27 none_33 tau count w o output memory;
    }

-- a matrix and a mass have the checks 1 to 11
forward_25 : (a : Csr) (mass : Mass) → before NoAdmissibleRow (generator_checks a mass) ≡ generator_checks a mass
unfolding before generator_checks matrix_checks shape_checks row_checks entry_checks sums-checks mass_checks sum_checks norm_checks
forward_25 a none = refl
forward_25 a (some mass) = refl

forward_27 : (a : Csr) (mass : Mass) → before SubstepLimit (generator_checks a mass) ≡ generator_checks a mass
unfolding before generator_checks matrix_checks shape_checks row_checks entry_checks sums-checks mass_checks sum_checks norm_checks
forward_27 a none = refl
forward_27 a (some mass) = refl

forward_17 : (a : Csr) (mass : Mass) → before VectorNotFinite (generator_checks a mass) ≡ generator_checks a mass
unfolding before generator_checks matrix_checks shape_checks row_checks entry_checks sums-checks mass_checks sum_checks norm_checks
forward_17 a none = refl
forward_17 a (some mass) = refl

forward_33 : (a : Csr) (mass : Mass) → before DegreeRange (generator_checks a mass) ≡ generator_checks a mass
unfolding before generator_checks matrix_checks shape_checks row_checks entry_checks sums-checks mass_checks sum_checks norm_checks
forward_33 a none = refl
forward_33 a (some mass) = refl

pub demand_3 : (a : Csr) (mass : Mass) (tau : Float) (output memory : List Float) → Demand3 (forward a mass) tau output memory
demand_3 a mass tau output memory = demand_3_of (forward a mass) (no_23 a mass) (forward_25 a mass) (forward_27 a mass) (forward_17 a mass) (forward_33 a mass) tau output memory

-- the transposed one has 1 to 11 and 30
transposed_none : (a : Csr) (mass : Mass) (l : Lent)
    → let cs = transposed_checks a mass l in (before NoAdmissibleRow cs ≡ cs) × (before SubstepLimit cs ≡ cs) × (before VectorNotFinite cs ≡ cs) × (before DegreeRange cs ≡ cs)
unfolding before transposed_checks before_transposing forward_checks start_checks lent_checks matrix_checks shape_checks row_checks entry_checks mass_checks sum_checks norm_checks
transposed_none a none l = (refl, refl, refl, refl)
transposed_none a (some mass) l = (refl, refl, refl, refl)

-- of every matrix and mass, and of buffers of any lengths (document 02, N3)
pub demand_3_transposed : (a : Csr) (mass : Mass) (l : Lent) (tau : Float) (output memory : List Float) → Demand3 (transposed a mass l) tau output memory
demand_3_transposed a mass l tau output memory =
    let h = transposed_none a mass l in
    demand_3_of (transposed a mass l) (transposed_in_range a mass l).ranged h.0 h.1 h.2 h.3 tau output memory
