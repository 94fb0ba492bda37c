-- Loads times a power of two give the field times it, bit for bit (document 02, N9). Assumes nothing.
use Rattle.std.specs.Prelude.{Option, Some, None}
use mathlib.Core.Path.{◌≡◌, refl, sym, ap, ◌∙◌, subst}
use mathlib.Core.List.{List}
use Prim.Native.Nat.{ℕ, zero, ◌+◌, ◌-◌, ◌*◌, ◌≤◌, ◌<◌}
use native.Mathlib.Nat.{zero-add, suc-mul}
use native.Mathlib.Numerals.{add-one}
use native.Mathlib.Omega.{arith}
use lib.IntN.{ℤ}
use lib.Dec.{T}
use lib.ListN.{length}
use lib.Seq.{ext_get_or}
use lib.Ieee.{Float, nan, binary64, fits}
use Rattle.lists.specs.Window.{window}
use Rattle.lists.proofs.Bounds.{column_within}
use Rattle.lists.proofs.Window.{get_d_window, length_window}
use Rattle.doubles.specs.F64.{◌⊗◌, at}
use Rattle.doubles.specs.Units.{Doubles}
use Rattle.doubles.proofs.Scaled.{Scaled}
use Rattle.doubles.proofs.PowerOfTwo.{lift, sink, times_scaled, scaled_times}
use Rattle.vectors.proofs.Laws.{length_scale, scale_at}
use Rattle.pow2.specs.Pow2.{exact_pow2}
use Rattle.checks.specs.First.{first}
use Rattle.checks.specs.First.{Checked}
use Rattle.checks.proofs.First.{sound_append}
use Rattle.general_operator.specs.Csr.{Csr, Valid, row_sum_norm}
use Rattle.general_operator.specs.Checks.{matrix_checks}
use Rattle.general_operator.proofs.Sound.{sound_valid}
use Rattle.generator_action.specs.Mass.{Mass, quotients, generator_checks, bound_checks}
use Rattle.generator_action.specs.Generator.{Generator, forward}
use Rattle.generator_action.proofs.Quotients.{quotients_valid, quotients_doubles}
use Rattle.transpose.specs.Transpose.{Lent, transposed}
use Rattle.transpose.proofs.Passed.{transposable, transposed_valid, before_sound}
use Rattle.transpose.proofs.Entries.{transpose_doubles}
use Rattle.phi_action_helpers.specs.declared.SweepPlan.{SweepPlan}
use Rattle.phi_action_helpers.specs.Sweeps.{run_sweeps}
use Rattle.phi_action_helpers.proofs.Counts.{run_counted, run_long}
use Rattle.phi_shift.specs.Plan.{sweep_plan}
use Rattle.combination.specs.Combination.{combination_operator}
use Rattle.combination.specs.Call.{Call, unless_refused}
use Rattle.combination.specs.Checks.{plan_checks, vector_checks}
use Rattle.taylor_schedule.proofs.Admitted.{Vectors, vectors_known, further_within, first_within, length_start}
use Rattle.taylor_job.specs.declared.TaylorReport.{TaylorReport}
use Rattle.taylor_job.specs.Calls.{TaylorAnswer}
use Rattle.taylor_job.specs.Calls.{Fields, report, after_plan, swept_fields, combination_checks, combination_run, phi_combination}
use Rattle.scaling.specs.Doubled.{doubled, CleanDoubled, operator_of, start_of, CleanJob, DoubledOutput, DoubledReport}
use Rattle.scaling.proofs.Run.{run_scaled}
use Rattle.scaling.proofs.Weights.{operators_scaled, start_scaled}
use Rattle.checks.specs.Reasons.{Sound, Refused}
use Rattle.std.specs.Prelude.{Ok, Err}

-- ---- the vectors
length_doubled : (j : ℤ) (x : List Float) → length (doubled j x) ≡ length x
unfolding doubled
length_doubled j x = length_scale _ x

doubled_at : (j : ℤ) (x : List Float) (i : ℕ) → i < length x → at (doubled j x) i ≡ at x i ⊗ exact_pow2 j
unfolding doubled
doubled_at j x i l = scale_at _ x i l

-- under the condition each of them is exactly 2 ^ j times the other, of its sign
pub doubled_exact : (j : ℤ) (x : List Float) → Doubles x → CleanDoubled j x → (i : ℕ) → i < length x → Scaled (lift j) (sink j) (at x i) (at (doubled j x) i)
doubled_exact j x d c i l = rw (doubled_at j x i l) (times_scaled j (at x i) (d i) (c i l))

-- and so is a list whose values are
doubled_is : (j : ℤ) (n : ℕ) (x x' : List Float) → length x ≡ n → length x' ≡ n → ((i : ℕ) → i < n → Scaled (lift j) (sink j) (at x i) (at x' i)) → x' ≡ doubled j x
doubled_is j n x x' l l' h =
    ext_get_or nan x' (doubled j x) (l' ∙ sym (length_doubled j x ∙ l)) (λ i m. scaled_times j (at x i) (at x' i) (h i (rw l' at m)) ∙ sym (doubled_at j x i (rw l (rw l' at m))))

-- ---- an accepted job
accepted : (x : Checked) (output memory : List Float) (end : Call TaylorAnswer) {r : TaylorReport} → (unless_refused Refused x output memory end).answer ≡ Ok r → (Sound ≡ x) × (unless_refused Refused x output memory end ≡ end)
unfolding unless_refused
accepted (Ok _) output memory end e = (refl, refl)
accepted (Err r) output memory end e = let z : zero ≡ 1 = cc in absurd (omega (arith, z))

planned : (need : ℕ) (tau norm : Float) (output memory : List Float) (x : Option SweepPlan) (run : SweepPlan → Fields) {r : TaylorReport} → (after_plan need tau norm output memory x run).answer ≡ Ok r
    → (p : SweepPlan) × (x ≡ Some p) × ((after_plan need tau norm output memory x run).output ≡ (run p).fields) × ((after_plan need tau norm output memory x run).answer ≡ report p (run p).applied)
unfolding after_plan
planned need tau norm output memory None run e = let z : zero ≡ 1 = cc in absurd (omega (arith, z))
planned need tau norm output memory (Some p) run e = (p, refl, refl, refl)

same_plan : (p q : SweepPlan) (x : Option SweepPlan) → x ≡ Some p → x ≡ Some q → p ≡ q
same_plan p q x e f = cc

-- the field after the sweeps
abbrev ran : Csr → Float → ℕ → List Float → SweepPlan → List Float
ran q tau count w p = (run_sweeps (operator_of q tau count w) tau p (start_of q tau count w)).y

-- what an accepted job over Q says
record Accepted (g : Generator) (q : Csr) (tau : Float) (cap count : ℕ) (w output memory : List Float) : Type 0 where
  p : SweepPlan
  plan : sweep_plan cap tau q (row_sum_norm q) ≡ Some p
  out : (phi_combination g tau cap count w output memory).output ≡ window 0 q.n (ran q tau count w p)
  told : (phi_combination g tau cap count w output memory).answer ≡ report p (p.s * p.m)
  passed : Sound ≡ first g.checks
  vectors : Vectors q.n count (length w) (length output)

module _ (g : Generator) (tau : Float) (cap count : ℕ) (w output memory : List Float) where
  abbrev fields : SweepPlan → Fields
  fields p = swept_fields (operator_of g.matrix tau count w) tau (start_of g.matrix tau count w) p

  made : (p : SweepPlan) → ((fields p).fields ≡ window 0 g.matrix.n (ran g.matrix tau count w p)) × ((fields p).applied ≡ p.s * p.m)
  unfolding swept_fields combination_operator
  made p = (refl, run_counted _ tau p _)

  known : {r : TaylorReport} → (phi_combination g tau cap count w output memory).answer ≡ Ok r → Accepted g g.matrix tau cap count w output memory
  unfolding phi_combination combination_checks combination_run
  known e =
      let a = accepted _ output memory _ e in
      let p = planned _ tau _ output memory _ fields (ap (λ (c : Call TaylorAnswer). c.answer) (sym a.1) ∙ e) in
      let s = sound_append g.checks _ a.0 in
      let v = sound_append (vector_checks g.matrix.n (plan_checks tau cap) count w (length output)) _ s.1 in
      record {
        p = p.0;
        plan = p.1;
        out = ap (λ (c : Call TaylorAnswer). c.output) a.1 ∙ p.2 ∙ (made p.0).0;
        told = ap (λ (c : Call TaylorAnswer). c.answer) a.1 ∙ p.3 ∙ ap (report p.0) (made p.0).1;
        passed = s.0;
        vectors = vectors_known g.matrix.n (plan_checks tau cap) count w (length output) refl v.0;
      }

-- ---- two runs under one plan, from vectors that fill their slice
run_doubled : (j : ℤ) (q : Csr) (tau : Float) (cap count : ℕ) (w : List Float) (long : ℕ) (p : SweepPlan) → sweep_plan cap tau q (row_sum_norm q) ≡ Some p → Valid q → Doubles q.entries → T (fits binary64 tau) → Doubles w
    → Vectors q.n count (length w) long → CleanDoubled j w → CleanJob q tau cap count w → CleanJob q tau cap count (doubled j w)
    → window 0 q.n (ran q tau count (doubled j w) p) ≡ doubled j (window 0 q.n (ran q tau count w p))
unfolding combination_operator
run_doubled j q tau cap count w long p plan valid doubles time dw vectors cd c c' =
    let n = q.n in
    let d = count - 1 in
    let w' = doubled j w in
    let some = vectors.some in
    let most = vectors.most in
    let lw = length_doubled j w in
    let in_w : (d + 1) * n ≤ length w = omega (arith, further_within vectors, first_within vectors, suc-mul d n, ap (λ (z : ℕ). z * n) (add-one d)) in
    let in_w' : (d + 1) * n ≤ length w' = omega arith in
    let first : n ≤ (d + 1) * n = let b = column_within 0 (d + 1) n (omega arith) in omega arith in
    let few : d ≤ 3 = omega arith in
    let h : (i : ℕ) → i < (d + 1) * n → Scaled (lift j) (sink j) (at w i) (at w' i) = λ i l. doubled_exact j w dw cd i (omega arith) in
    let o = operators_scaled (lift j) (sink j) n d w w' tau time few in_w in_w' h q refl valid doubles (λ k a b. c.gains k a (omega arith)) (λ k a b. c'.gains k a (omega arith)) in
    let y = start_of q tau count w in
    let y' = start_of q tau count w' in
    let ly : length y ≡ n + d = length_start n w d _ (omega arith) in
    let ly' : length y' ≡ n + d = length_start n w' d _ (omega arith) in
    let r = run_scaled o tau p y y' ly ly' (start_scaled (lift j) (sink j) n d w w' tau time few in_w in_w' h) (c.sweeps p plan) (c'.sweeps p plan) in
    let z = ran q tau count w p in
    let z' = ran q tau count w' p in
    let lz : length z ≡ n + d = run_long (operator_of q tau count w) tau p y ly in
    let lz' : length z' ≡ n + d = run_long (operator_of q tau count w') tau p y' ly' in
    doubled_is j n (window 0 n z) (window 0 n z') (length_window 0 n z (omega arith)) (length_window 0 n z' (omega arith)) (λ i l. rw (get_d_window 0 n z i nan l, get_d_window 0 n z' i nan l) (rw (zero-add i) (r.field i l)))

-- ---- the theorem, over any generator whose matrix is valid where its checks pass, and holds doubles
module _ (g g' : Generator) (same : g'.matrix ≡ g.matrix) where
  known_same : (tau : Float) (cap count : ℕ) (w output memory : List Float) {r : TaylorReport} → (phi_combination g' tau cap count w output memory).answer ≡ Ok r → Accepted g' g.matrix tau cap count w output memory
  known_same tau cap count w output memory e = subst (λ (q : Csr). Accepted g' q tau cap count w output memory) same (known g' tau cap count w output memory e)

  pub doubled_output : (Sound ≡ first g.checks → Valid g.matrix) → Doubles g.matrix.entries → DoubledOutput g g'
  doubled_output valid doubles j tau cap count w output memory output' memory' r r' time dw e e' cd c c' =
      let k = known g tau cap count w output memory e in
      let k' = known_same tau cap count (doubled j w) output' memory' e' in
      k'.out ∙ ap (λ (p : SweepPlan). window 0 g.matrix.n (ran g.matrix tau count (doubled j w) p)) (same_plan k'.p k.p _ k'.plan k.plan)
      ∙ run_doubled j g.matrix tau cap count w (length output) k.p k.plan (valid k.passed) doubles time dw k.vectors cd c c'
      ∙ sym (ap (doubled j) k.out)

  pub doubled_report : DoubledReport g g'
  doubled_report j tau cap count w output memory output' memory' r r' e e' =
      let k = known g tau cap count w output memory e in
      let k' = known_same tau cap count (doubled j w) output' memory' e' in
      k'.told ∙ ap (λ (p : SweepPlan). report p (p.s * p.m)) (same_plan k'.p k.p _ k'.plan k.plan) ∙ sym k.told

-- ---- forward jobs, with a mass and without, and transposed ones (document 02, N3): of the generator only that the entries are doubles, which a slice's are
forward_valid : (a : Csr) (mass : Mass) → Sound ≡ first (generator_checks a mass) → Valid (quotients a mass)
unfolding generator_checks
forward_valid a mass e = quotients_valid (sound_valid a (sound_append (matrix_checks a) (bound_checks a mass) e).0) mass

pub doubled_forward : (a : Csr) (mass : Mass) → Doubles a.entries → DoubledOutput (forward a mass) (forward a mass)
doubled_forward a mass d = doubled_output (forward a mass) (forward a mass) refl (forward_valid a mass) (quotients_doubles a mass d)

-- the two may be lent buffers of other lengths
pub doubled_transposed : (a : Csr) (mass : Mass) (l l' : Lent) → Doubles a.entries → DoubledOutput (transposed a mass l) (transposed a mass l')
doubled_transposed a mass l l' d =
    doubled_output (transposed a mass l) (transposed a mass l') refl (λ e. transposed_valid (transposable a mass l (before_sound a mass l e))) (transpose_doubles (quotients a mass) (quotients_doubles a mass d))
