-- What the checks of a job leave, and the first field of a combination. Assumes nothing.
use Rattle.std.specs.Prelude.{Option, Some, None}
use mathlib.Core.Path.{◌≡◌, refl, sym, ap, ◌∙◌}
use mathlib.Core.Bool.{false}
use mathlib.Core.List.{List, [], ◌∷◌, ◌++◌}
use Prim.Native.Nat.{ℕ, zero, suc, ◌+◌, ◌-◌, ◌*◌, ◌≤◌, ◌<◌}
use native.Mathlib.Omega.{arith}
use native.Mathlib.Nat.{zero-mul, suc-mul}
use lib.Dec.{eqb, ltb}
use lib.ListN.{length, get_or, replicate, set, length-replicate, length-append, length-set}
use lib.Ieee.{Float}
use borrow.Author.Tests.{eqb-true, eqb-false, not-false, ltb-false, lt-ltb}
use Rattle.lists.specs.Window.{window}
use Rattle.lists.proofs.Bounds.{column_within}
use Rattle.lists.proofs.Loop.{get_d_tabulate}
use Rattle.lists.proofs.Window.{length_window}
use Rattle.doubles.specs.F64.{+0}
use Rattle.checks.specs.First.{Check, first}
use Rattle.checks.proofs.First.{sound_cons, sound_append}
use Rattle.checks.specs.First.{Checked}
use Rattle.general_operator.proofs.Sound.{or_false}
use Rattle.expmv.specs.Select.{select_s_m}
use Rattle.expmv.specs.declared.Row.{Row}
use Rattle.phi_shift.specs.Plan.{argument}
use Rattle.combination.specs.Combination.{vector, eta_of, column_places, combination_start, init_aug_vector}
use Rattle.combination.specs.Checks.{no_row, count_checks, index_checks, plan_checks, length_checks, finite_checks, magnitude_checks, schedule_checks, memory_checks, vector_checks_by, vector_checks, sweep_checks, job_checks}
use Rattle.taylor_schedule.specs.Inner.{row_of, one_column, Coupled}
use Rattle.checks.specs.Reasons.{Sound}

-- ---- 12 to 17
pub record Vectors (n count long output : ℕ) : Type 0 where
  pub some : 1 ≤ count
  pub most : count ≤ 4
  pub out : output ≡ n
  pub flat : long ≡ count * n

above_0 : (k : ℕ) → (k ≡ 0 → zero ≡ 1) → 1 ≤ k
above_0 zero h = absurd (omega (arith, h refl))
above_0 (suc k) h = omega arith

pub vectors_known : (n : ℕ) (ts : List Check) (count : ℕ) (w : List Float) (output : ℕ) {r : Checked} → r ≡ Sound → r ≡ first (vector_checks n ts count w output)
    → Vectors n count (length w) output
unfolding vector_checks vector_checks_by count_checks length_checks
vectors_known n ts count w output e f =
    let s = sound_append (count_checks count) _ (sym e ∙ f) in
    let c = or_false (eqb count 0) (ltb 4 count) (sound_cons _ _ _ _ s.0).0 in
    let t = sound_append ts _ s.1 in
    let l = sound_append (length_checks output n (length w) (count * n)) (finite_checks w) t.1 in
    let a = sound_cons _ _ _ _ l.0 in
    let b = sound_cons _ _ _ _ a.1 in
    record {
      some = above_0 count (λ z. absurd (eqb-false count 0 c.0 z));
      most = ltb-false 4 count c.1;
      out = eqb-true output n (not-false _ a.0);
      flat = eqb-true (length w) (count * n) (not-false _ b.0);
    }

-- with nothing between 16 and 17
pub of_one_slice : (n : ℕ) (ts : List Check) (count : ℕ) (w : List Float) (output : ℕ) {r : Checked}
    → r ≡ first (vector_checks_by ts (length_checks output n (length w) (count * n) ++ []) count w)
    → r ≡ first (vector_checks n ts count w output)
unfolding vector_checks length_checks
of_one_slice n ts count w output e = e

-- d = count - 1: w_0 and the vectors from w_1 to w_d fill the slice
vectors_fill : (count n : ℕ) → 1 ≤ count → (count - 1) * n + n ≡ count * n
vectors_fill zero n h = absurd (omega arith)
vectors_fill (suc d) n h = ap (λ (k : ℕ). k * n + n) (omega arith) ∙ sym (suc-mul d n)

module _ {n count long output : ℕ} (v : Vectors n count long output) where
  pub further_within : (count - 1) * n ≤ long - n
  further_within = omega (arith, vectors_fill count n v.some, v.flat)

  pub first_within : n ≤ long
  first_within = omega (arith, vectors_fill count n v.some, v.flat)

-- the columns lie in the slice
columns_in : (n d long : ℕ) → d * n ≤ long → d ≤ 3 → (j : ℕ) → j < d → get_or (column_places n d) j 0 + n ≤ long
unfolding column_places
columns_in n d long h few j l =
    let w = column_within (d - j - 1) d n (omega arith) in
    rw (get_d_tabulate {A = ℕ} 3 _ j 0 (omega arith), lt-ltb j d l) (omega (arith, w))

pub coupled_in : (n d long : ℕ) (gains : List Float) → d * n ≤ long → d ≤ 3 → Coupled (record { places = column_places n d; gains = gains; count = d }) n d long
coupled_in n d long gains h few = record { few = few; chained = omega arith; short = few; columns = columns_in n d long h few }

pub coupled_one : (n long : ℕ) (eta : Float) → long ≡ n → Coupled (one_column eta) n 3 long
coupled_one n long eta e = record { few = omega arith; chained = omega arith; short = omega arith; columns = first_only }
  where
    first_only : (j : ℕ) → j < 1 → get_or (one_column eta).places j 0 + n ≤ long
    first_only zero h = omega arith
    first_only (suc j) h = absurd (omega arith)

-- ---- 24 to 26
row_is : (r : Option Row) → no_row r ≡ false → r ≡ Some (row_of r)
row_is None h = cc
row_is (Some r) h = refl

-- the schedule has a row, and the memory is long enough
pub record Planned (tau : Float) (cap : ℕ) (norm : Float) (memory need : ℕ) : Type 0 where
  pub row : select_s_m cap (argument tau norm) ≡ Some (row_of (select_s_m cap (argument tau norm)))
  pub room : need ≤ memory

pub enough_known : (memory need : ℕ) → Sound ≡ first (memory_checks memory need) → need ≤ memory
unfolding memory_checks
enough_known memory need e = ltb-false memory need (sound_cons _ _ _ _ e).0

pub planned_known : (norm tau : Float) (cap memory need : ℕ) → Sound ≡ first (schedule_checks cap norm tau ++ memory_checks memory need) → Planned tau cap norm memory need
unfolding schedule_checks
planned_known norm tau cap memory need e =
    let t = sound_append (schedule_checks cap norm tau) (memory_checks memory need) e in
    let a = sound_cons _ _ _ _ t.0 in
    record { row = row_is _ (sound_cons _ _ _ _ a.1).0; room = enough_known memory need t.1 }

-- ---- 21, 22 and 24 to 26 of a combination
pub sweeps_known : (n : ℕ) (tau : Float) (cap d : ℕ) (f : List Float) (norm : Float) (memory need : ℕ) → Sound ≡ first (sweep_checks n tau cap d f norm memory need) → Planned tau cap norm memory need
unfolding sweep_checks
sweeps_known n tau cap d f norm memory need e = planned_known norm tau cap memory need (sound_append (magnitude_checks n f tau d (eta_of n f tau d).eta) _ e).1

-- ---- 13 to 17, 33 and 24 to 26 of an action
pub index_known : (k : ℕ) {r : Checked} → r ≡ Sound → r ≡ first (index_checks k) → k ≤ 3
unfolding index_checks
index_known k e f = ltb-false 3 k (sound_cons _ _ _ _ (sym e ∙ f)).0

pub record Action (k : ℕ) (tau : Float) (cap : ℕ) (norm : Float) (output wanted long n memory need : ℕ) : Type 0 where
  pub index : k ≤ 3
  pub out : output ≡ wanted
  pub whole : long ≡ n
  pub planned : Planned tau cap norm memory need

pub action_known : (k : ℕ) (tau : Float) (cap : ℕ) (norm : Float) (output wanted : ℕ) (v : List Float) (n memory need : ℕ) → Sound ≡ first (job_checks k tau cap output wanted v n norm memory need)
    → Action k tau cap norm output wanted (length v) n memory need
unfolding job_checks length_checks
action_known k tau cap norm output wanted v n memory need e =
    let i = sound_append (index_checks k) _ e in
    let t = sound_append (plan_checks tau cap) _ i.1 in
    let l = sound_append (length_checks output wanted (length v) n) (finite_checks v ++ (schedule_checks cap norm tau ++ memory_checks memory need)) t.1 in
    let f = sound_append (finite_checks v) (schedule_checks cap norm tau ++ memory_checks memory need) l.1 in
    let a = sound_cons _ _ _ _ l.0 in
    let b = sound_cons _ _ _ _ a.1 in
    record {
      index = index_known k refl i.0;
      out = eqb-true output wanted (not-false _ a.0);
      whole = eqb-true (length v) n (not-false _ b.0);
      planned = planned_known norm tau cap memory need f.1;
    }

-- ---- the first field
pub length_start : (n : ℕ) (w : List Float) (d : ℕ) (inv : Float) → n ≤ length w → length (combination_start n w d inv) ≡ n + d
unfolding combination_start vector
length_start n w zero inv h = length_window (0 * n) n w (rw (zero-mul n) (omega arith)) ∙ omega arith
length_start n w (suc d) inv h =
    let v = length_window (0 * n) n w (rw (zero-mul n) (omega arith)) in
    let z = length-replicate d +0 in
    length-append (window (0 * n) n w) _ ∙ rw (v, length-append (replicate d +0) (inv ∷ []), z) (omega arith)

pub length_init : (n : ℕ) (v : List Float) (inv : Float) (k : ℕ) → length v ≡ n → length (init_aug_vector n v inv k) ≡ n + 3
unfolding init_aug_vector
length_init n v inv zero e = length-append v (replicate 3 +0) ∙ rw (e, length-replicate 3 +0) refl
length_init n v inv (suc k) e = length-append (replicate n +0) (set (replicate 3 +0) k inv) ∙ rw (length-replicate n +0, length-set (replicate 3 +0) k inv, length-replicate 3 +0) refl
