-- The checks of a Krylov call, piece by piece: a job that passes them does with another limit, output and working memory too. Assumes nothing.
use mathlib.Core.Path.{◌≡◌, refl}
use mathlib.Core.List.{List, ◌++◌}
use Prim.Native.Nat.{ℕ, ◌*◌, ◌≤◌, ◌<◌}
use native.Mathlib.Omega.{arith}
use borrow.Author.Tests.{ne_eqb, le-ltb}
use lib.ListN.{length}
use Rattle.checks.specs.First.{Check, first}
use Rattle.checks.proofs.First.{sound_cons, sound_append, sound_on, passes, ends_sound, not_eq}
use Rattle.general_operator.specs.Csr.{row_sum_norm}
use Rattle.combination.specs.Combination.{further}
use Rattle.combination.specs.Checks.{count_checks, time_checks, length_checks, finite_checks, magnitude_checks, memory_checks, vector_checks_by}
use Rattle.krylov_job.specs.KrylovCall.{bound, dimension, option_checks, bound_checks, run_checks, krylov_need, krylov_checks_by, krylov_checks}
use Rattle.krylov_job.specs.declared.KrylovPhiOptions.{KrylovPhiOptions}
use Rattle.krylov_job.proofs.Calls.{options_known}
use Rattle.paused_run.specs.Paused.{Job, rows, degree}
use Rattle.paused_claims.specs.History.{own_eta}
use Rattle.checks.specs.Reasons.{Sound}
use Rattle.checks.specs.declared.Reason.TheVariants.{OutputLength, TolRange, NoSubsteps, OptionTooLarge, WorkLength}

abbrev M_of : KrylovPhiOptions → Job → ℕ
M_of o j = dimension (rows j) (degree j) o.m

pub record Pieces (o : KrylovPhiOptions) (j : Job) (output memory : ℕ) : Type 0 where
  pub of_generator : Sound ≡ first j.g.checks
  pub of_count : Sound ≡ first (count_checks j.count)
  pub of_time : Sound ≡ first (time_checks j.tau)
  pub of_lengths : Sound ≡ first (length_checks output (rows j) (length j.w) (j.count * rows j))
  pub of_values : Sound ≡ first (finite_checks j.w)
  pub of_options : Sound ≡ first (option_checks o (M_of o j))
  pub of_magnitude : Sound ≡ first (magnitude_checks (rows j) (further (rows j) j.w) j.tau (degree j) (own_eta j))
  pub of_bound : Sound ≡ first (bound_checks (bound j.tau (row_sum_norm j.g.matrix)))
  pub of_memory : Sound ≡ first (memory_checks memory (krylov_need (rows j) (degree j) (M_of o j) j.g.stored))

pub pieces : (o : KrylovPhiOptions) (j : Job) (output memory : ℕ) → Sound ≡ first (krylov_checks j.g j.tau j.count j.w o output memory) → Pieces o j output memory
unfolding krylov_checks krylov_checks_by vector_checks_by run_checks
pieces o j output memory e =
    let g = sound_append j.g.checks _ e in
    let v = sound_append _ _ g.1 in
    let c = sound_append (count_checks j.count) _ v.0 in
    let t = sound_append (time_checks j.tau) _ c.1 in
    let l = sound_append (length_checks output (rows j) (length j.w) (j.count * rows j)) _ t.1 in
    let p = sound_append (option_checks o (M_of o j)) _ v.1 in
    let m = sound_append (magnitude_checks (rows j) (further (rows j) j.w) j.tau (degree j) (own_eta j)) _ p.1 in
    let b = sound_append (bound_checks (bound j.tau (row_sum_norm j.g.matrix))) _ m.1 in
    record { of_generator = g.0; of_count = c.0; of_time = t.0; of_lengths = l.0; of_values = l.1; of_options = p.0; of_magnitude = m.0; of_bound = b.0; of_memory = b.1 }

both : (xs ys : List Check) → Sound ≡ first xs → Sound ≡ first ys → Sound ≡ first (xs ++ ys)
both xs ys e f = sound_on xs ys {s = Sound} refl e f

pub together : (o : KrylovPhiOptions) (j : Job) (output memory : ℕ) → Pieces o j output memory → Sound ≡ first (krylov_checks j.g j.tau j.count j.w o output memory)
unfolding krylov_checks krylov_checks_by vector_checks_by run_checks
together o j output memory p =
    both j.g.checks _ p.of_generator
    (both _ _ (both (count_checks j.count) _ p.of_count (both (time_checks j.tau) _ p.of_time (both (length_checks output (rows j) (length j.w) (j.count * rows j)) (finite_checks j.w) p.of_lengths p.of_values)))
    (both (option_checks o (M_of o j)) _ p.of_options
    (both (magnitude_checks (rows j) (further (rows j) j.w) j.tau (degree j) (own_eta j)) _ p.of_magnitude
    (both (bound_checks (bound j.tau (row_sum_norm j.g.matrix))) _ p.of_bound p.of_memory))))

-- with another limit
abbrev pub limited : KrylovPhiOptions → ℕ → KrylovPhiOptions
limited o k = record { tol = o.tol; m = o.m; max_substeps = k }

limit_passes : (o : KrylovPhiOptions) (j : Job) (k : ℕ) → 0 < k → k ≤ 1000000 → Sound ≡ first (option_checks o (M_of o j)) → Sound ≡ first (option_checks (limited o k) (M_of o j))
unfolding option_checks
limit_passes o j k l most e =
    let M = (options_known o (M_of o j) refl e).0 in
    passes TolRange _ _ (sound_cons _ _ _ _ e).0
    (passes NoSubsteps _ _ (ne_eqb k 0 (λ z. omega (arith, l, z)))
    (passes OptionTooLarge _ _ (rw (le-ltb 128 (M_of o j) M, le-ltb 1000000 k most) refl) ends_sound))

pub with_limit : (o : KrylovPhiOptions) (j : Job) (k output memory : ℕ) → 0 < k → k ≤ 1000000 → Pieces o j output memory → Pieces (limited o k) j output memory
with_limit o j k output memory l most p =
    record { of_generator = p.of_generator; of_count = p.of_count; of_time = p.of_time; of_lengths = p.of_lengths; of_values = p.of_values; of_options = limit_passes o j k l most p.of_options; of_magnitude = p.of_magnitude; of_bound = p.of_bound; of_memory = p.of_memory }

-- with an output of n and enough working memory
pub with_slices : (o : KrylovPhiOptions) (j : Job) (output memory output₁ memory₁ : ℕ) → output₁ ≡ rows j → krylov_need (rows j) (degree j) (M_of o j) j.g.stored ≤ memory₁ → Pieces o j output memory → Pieces o j output₁ memory₁
unfolding length_checks memory_checks
with_slices o j output memory output₁ memory₁ e l p =
    record {
      of_generator = p.of_generator;
      of_count = p.of_count;
      of_time = p.of_time;
      of_lengths = passes OutputLength _ _ (not_eq e) (sound_cons _ _ _ _ p.of_lengths).1;
      of_values = p.of_values;
      of_options = p.of_options;
      of_magnitude = p.of_magnitude;
      of_bound = p.of_bound;
      of_memory = passes WorkLength _ _ (le-ltb memory₁ (krylov_need (rows j) (degree j) (M_of o j) j.g.stored) l) ends_sound;
    }
