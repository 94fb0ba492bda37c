-- The checks of the four calls as one list: of the matrix; of the number of vectors or the index, of the time, of two lengths; and others. Assumes nothing.
use mathlib.Core.Bool.{Bool, true, false, not, ◌||◌}
use mathlib.Core.List.{List, [], ◌∷◌, ◌++◌}
use mathlib.Core.Path.{◌≡◌, refl, ap}
use native.Mathlib.Omega.{arith}
use native.Mathlib.Nat.{mul-le-mul}
use Prim.Native.Nat.{ℕ, suc, ◌-◌, ◌*◌, ◌≤◌}
use lib.Dec.{eqb, ltb}
use lib.ListN.{length}
use lib.Ieee.{Float}
use borrow.Author.Tests.{ltb-false}
use Rattle.doubles.specs.F64.{nat}
use Rattle.checks.specs.First.{Check, refuse, first, before}
use Rattle.checks.specs.First.{Checked}
use Rattle.general_operator.specs.Csr.{row_sum_norm}
use Rattle.general_operator.proofs.Sound.{or_false}
use Rattle.generator_action.specs.Mass.{Mass, given}
use Rattle.generator_action.specs.Generator.{Generator}
use Rattle.combination.specs.Call.{Call, ends, unless_refused}
use Rattle.combination.specs.Combination.{further, eta_of}
use Rattle.combination.specs.Checks.{count_checks, index_checks, time_checks, degree_checks, plan_checks, length_checks, finite_checks, schedule_checks, memory_checks, taylor_need, vector_checks_by, vector_checks, sweep_checks, job_checks}
use Rattle.taylor_job.specs.Calls.{combination_checks, action_checks, phi_combination, phi_action, phi_action_batched}
use Rattle.krylov_job.specs.KrylovCall.{bound, dimension, option_checks, run_checks, krylov_need, krylov_checks_by, krylov_checks, phi_combination_krylov}
use Rattle.phi_solver.specs.Combine.{answering}
use Rattle.answers.specs.Told.{Numbers, numbers, taylor_numbers, krylov_numbers, options}
use Rattle.byte_arrays.proofs.Parts.{Part, Columns}
use Rattle.byte_arrays.proofs.Cuts.{Refuses, Recut, Uncut, job_cut}
use Rattle.byte_calls.specs.Inner.{called}
use Rattle.byte_calls.specs.declared.PhiCall.{PhiCall}
use Rattle.byte_calls.specs.declared.PhiCall.TheVariants.{Combination, Action, Batch, Krylov}
use Rattle.checks.specs.Reasons.{Refused, number}
use Rattle.checks.specs.declared.Reason.TheVariants.{VectorCount, IndexRange, OutputLength, VectorLength}
use Rattle.checks.specs.declared.Reason.{Reason}

limit : PhiCall → ℕ → Check
limit (Combination degree) k = refuse VectorCount (eqb k 0 || ltb 4 k) (nat k)
limit (Action degree) k = refuse IndexRange (ltb 3 k) (nat k)
limit (Batch degree) k = refuse IndexRange (ltb 3 k) (nat k)
limit (Krylov tol m most) k = refuse VectorCount (eqb k 0 || ltb 4 k) (nat k)

wanted : PhiCall → ℕ → ℕ → ℕ
wanted (Combination degree) n k = n
wanted (Action degree) n k = n
wanted (Batch degree) n k = suc k * n
wanted (Krylov tol m most) n k = n

expected : PhiCall → ℕ → ℕ → ℕ
expected (Combination degree) n k = k * n
expected (Action degree) n k = n
expected (Batch degree) n k = n
expected (Krylov tol m most) n k = k * n

others : PhiCall → Generator → Float → ℕ → List Float → ℕ → List Check
others (Combination degree) g tau k v memory =
    let n = g.matrix.n in
    finite_checks v ++ sweep_checks n tau degree (k - 1) (further n v) (row_sum_norm g.matrix) memory (taylor_need n (k - 1) g.stored)
others (Action degree) g tau k v memory = finite_checks v ++ (schedule_checks degree (row_sum_norm g.matrix) tau ++ memory_checks memory (taylor_need g.matrix.n 3 g.stored))
others (Batch degree) g tau k v memory = finite_checks v ++ (schedule_checks degree (row_sum_norm g.matrix) tau ++ memory_checks memory (taylor_need g.matrix.n 3 g.stored))
others (Krylov tol m most) g tau k v memory =
    let n = g.matrix.n in
    let M = dimension n (k - 1) m in
    finite_checks v
    ++ (option_checks (options tol m most) M
    ++ run_checks n tau (k - 1) (further n v) (eta_of n (further n v) tau (k - 1)).eta (bound tau (row_sum_norm g.matrix)) memory (krylov_need n (k - 1) M g.stored))

-- 14, and of a Taylor call 33
times : PhiCall → Float → List Check
times (Combination degree) tau = plan_checks tau degree
times (Action degree) tau = plan_checks tau degree
times (Batch degree) tau = plan_checks tau degree
times (Krylov tol m most) tau = time_checks tau

pub checks : PhiCall → Generator → Float → ℕ → List Float → ℕ → ℕ → List Check
checks call g tau k v output memory =
    g.checks
    ++ (limit call k
    ∷ (times call tau
    ++ (refuse OutputLength (not (eqb output (wanted call g.matrix.n k))) (nat output)
    ∷ refuse VectorLength (not (eqb (length v) (expected call g.matrix.n k))) (nat (length v))
    ∷ others call g tau k v memory)))

-- ---- a refused call changes nothing
refused_by : {A : Type 0} (tell : A → Numbers) (refusal : Reason → Float → A) {c : Checked} {j : Reason} {x : Float} (output memory : List Float) (run : Call A) → tell (refusal j x) ≡ numbers (number j) x 0 0 0 → c ≡ Refused j x → answering tell (unless_refused refusal c output memory run) ≡ ends (numbers (number j) x 0 0 0) output memory
unfolding answering unless_refused
refused_by tell refusal {c} output memory run t e = rw e (ap (λ (r : Numbers). ends r output memory) t)

taylor_refusal : (j : Reason) (x : Float) → taylor_numbers (Refused j x) ≡ numbers (number j) x 0 0 0
unfolding taylor_numbers
taylor_refusal j x = refl

krylov_refusal : (j : Reason) (x : Float) → krylov_numbers (Refused j x) ≡ numbers (number j) x 0 0 0
unfolding krylov_numbers
krylov_refusal j x = refl

pub refused : (call : PhiCall) (g : Generator) (tau : Float) (k : ℕ) (v output memory : List Float) {j : Reason} {x : Float} → first (checks call g tau k v (length output) (length memory)) ≡ Refused j x → called call g tau k v output memory ≡ ends (numbers (number j) x 0 0 0) output memory
unfolding checks times limit wanted expected others called combination_checks action_checks krylov_checks krylov_checks_by vector_checks vector_checks_by job_checks count_checks index_checks plan_checks time_checks degree_checks length_checks finite_checks phi_combination phi_action phi_action_batched phi_combination_krylov
refused (Combination degree) g tau k v output memory e = refused_by taylor_numbers Refused output memory _ (taylor_refusal _ _) e
refused (Action degree) g tau k v output memory e = refused_by taylor_numbers Refused output memory _ (taylor_refusal _ _) e
refused (Batch degree) g tau k v output memory e = refused_by taylor_numbers Refused output memory _ (taylor_refusal _ _) e
refused (Krylov tol m most) g tau k v output memory e = refused_by krylov_numbers Refused output memory _ (krylov_refusal _ _) e

-- ---- lists that are too long
low_limit : (call : PhiCall) (k : ℕ) → number (limit call k).reason ≤ 13
unfolding limit
low_limit (Combination degree) k = omega arith
low_limit (Action degree) k = omega arith
low_limit (Batch degree) k = omega arith
low_limit (Krylov tol m most) k = omega arith

time_not_15 : (call : PhiCall) (tau : Float) → before OutputLength (times call tau) ≡ times call tau
unfolding before times plan_checks time_checks degree_checks
time_not_15 (Combination degree) tau = refl
time_not_15 (Action degree) tau = refl
time_not_15 (Batch degree) tau = refl
time_not_15 (Krylov tol m most) tau = refl

output_not_16 : (call : PhiCall) (tau : Float) (c : Check) → before VectorLength (times call tau ++ (refuse OutputLength c.holds c.reported ∷ [])) ≡ times call tau ++ (refuse OutputLength c.holds c.reported ∷ [])
unfolding before times plan_checks time_checks degree_checks
output_not_16 (Combination degree) tau c = refl
output_not_16 (Action degree) tau c = refl
output_not_16 (Batch degree) tau c = refl
output_not_16 (Krylov tol m most) tau c = refl

product : (a b : ℕ) → a ≤ 4 → b ≤ 64 → a * b ≤ 256
product a b la lb = mul-le-mul la lb

few_wanted : (call : PhiCall) (n k : ℕ) → n ≤ 64 → (limit call k).holds ≡ false → wanted call n k ≤ 256
unfolding limit wanted
few_wanted (Combination degree) n k l e = omega (arith, l)
few_wanted (Action degree) n k l e = omega (arith, l)
few_wanted (Batch degree) n k l e = product (suc k) n (omega (arith, ltb-false 3 k e)) l
few_wanted (Krylov tol m most) n k l e = omega (arith, l)

few_expected : (call : PhiCall) (n k : ℕ) → n ≤ 64 → (limit call k).holds ≡ false → expected call n k ≤ 256
unfolding limit expected
few_expected (Combination degree) n k l e = product k n (ltb-false 4 k (or_false (eqb k 0) (ltb 4 k) e).1) l
few_expected (Action degree) n k l e = omega (arith, l)
few_expected (Batch degree) n k l e = omega (arith, l)
few_expected (Krylov tol m most) n k l e = product k n (ltb-false 4 k (or_false (eqb k 0) (ltb 4 k) e).1) l

-- a call over a matrix of at most 64 rows and 512 entries, whose slices were cut
module _ (call : PhiCall) (entries : ℕ) (few : entries ≤ 512) (G : List ℕ → List ℕ → Mass → Generator) (R : Refuses entries (λ s cols mass. (G s cols mass).checks)) (rows : (s cols : List ℕ) (mass : Mass) → (G s cols mass).matrix.n ≤ 64) (tau : Float) (k memory : ℕ) where
  pub checks_cut : {cs cm co cv : ℕ} {s s₁ cols cols₁ : List ℕ} {m m₁ v v₁ o o₁ : List Float} (b : Bool) → Part cs s s₁ → Columns cols cols₁ → (b ≡ true → Part cm m m₁) → (b ≡ false → cm ≤ 512) → Part co o o₁ → Part cv v v₁
      → Recut cs cm co cv (first (checks call (G s cols (given b m)) tau k v (length o) memory)) (first (checks call (G s₁ cols₁ (given b m₁)) tau k v₁ (length o₁) memory)) (Uncut s s₁ cols cols₁ (given b m) (given b m₁) cs cm × (v₁ ≡ v))
  unfolding before checks
  checks_cut b hs hc hm hm' ho hv =
      job_cut entries few (λ s cols mass. (G s cols mass).checks) R [] (refl, refl, refl, refl) (limit call k) (low_limit call k) (times call tau) (time_not_15 call tau) (output_not_16 call tau)
      (λ s cols mass. wanted call (G s cols mass).matrix.n k) (λ s cols mass. expected call (G s cols mass).matrix.n k) (λ s cols mass. few_wanted call _ k (rows s cols mass)) (λ s cols mass. few_expected call _ k (rows s cols mass))
      (λ s cols mass v. others call (G s cols mass) tau k v memory) b hs hc hm hm' ho hv
