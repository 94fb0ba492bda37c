-- What holds of a run at every moment, whatever setting each of its substeps has (document 02, N5): its counts are those of what it did, and bounded; and where it stands. Assumes nothing.
use mathlib.Core.Path.{◌≡◌, refl, sym, ap, ◌∙◌, subst}
use mathlib.Core.Logic.{inl, inr}
use mathlib.Core.Bool.{true, false, true≢false}
use mathlib.Core.List.{List, [], ◌∷◌}
use Prim.Native.Nat.{ℕ, ◌+◌, ◌≤◌, ◌<◌, zero-le}
use native.Mathlib.Nat.{le_trans, le_of_eq, lt_irrefl}
use native.Mathlib.Omega.{arith}
use lib.Dec.{T}
use lib.ListN.{length}
use lib.Ieee.{Float, lt, eq, of_bits}
use Rattle.std.specs.Prelude.{Option, Some, None}
use Rattle.lists.specs.Walk.{Turn, on, out}
use Rattle.lists.specs.Window.{window}
use Rattle.lists.proofs.Walk.{Kept}
use Rattle.doubles.specs.F64.{◌⊘◌, ◌⋖◌, +0, 1f}
use Rattle.vectors.specs.Vectors.{scale}
use Rattle.pow2.specs.declared.Scale.{Scale}
use Rattle.gram_schmidt.specs.Basis.{Setting, len, norm2}
use Rattle.krylov_advance.specs.Run.{State, End, finished, refused, unfinished, substep, empty_report, started, relative_report}
use Rattle.krylov_advance.proofs.Long.{FieldLong, substep_long}
use Rattle.krylov_advance.specs.declared.KrylovPhiReport.{KrylovPhiReport}
use Rattle.demand_3.specs.Trace.{runs, trace, attempts, total, last_after, field_after, estimate_after, Run, unscaled, relative, status_of, accepted_by, tried_by, time_of, field_of, estimate_of}
use Rattle.demand_3.specs.Krylov.{euclidean, Each, Zeros, Shortest, Steps, Counted, GoesOn, Finished, Failed, KrylovCost}
use Rattle.demand_3.proofs.Runs.{trace_settings}
use Rattle.demand_3.proofs.Counts.{reached, Recorded, run_recorded, trace_products, trace_few}
use Rattle.demand_3.proofs.Limit.{Going, Over, run_kept}
use Rattle.demand_3.proofs.Lengths.{Timed, run_timed, finished_time, norm_left, trace_steps, attempts_short, started_timed}
use Rattle.demand_3.proofs.Attempts.{Judged, run_judged, run_told}
use Rattle.demand_3.proofs.Shortest.{shortest_is}
use Rattle.checks.specs.declared.Reason.{Reason}

reached_long : (n : ℕ) (o : Turn State End) → FieldLong n o → length (reached o).y ≡ n
reached_long n (on s) h = h
reached_long n (out (finished s)) h = h
reached_long n (out (refused k x s)) h = h

pub runs_long : (n : ℕ) (ps : List Setting) (o : Turn State End) → Each (λ p. len p ≡ n) ps → length (reached o).y ≡ n → length (reached (runs ps o)).y ≡ n
unfolding runs
runs_long n [] o ls e = e
runs_long n (p ∷ ps) (on s) ls e = runs_long n ps (substep p s) ls.1 (reached_long n (substep p s) (subst (λ (m : ℕ). FieldLong m (substep p s)) ls.0 (substep_long p s (e ∙ sym ls.0))))
runs_long n (p ∷ ps) (out e) ls h = h

module _ (u : Run) where
  -- the state that it reached: the last one accepted
  abbrev pub state_of : State
  state_of = reached (status_of u)

  -- ---- the counts
  pub run_steps : Steps +0 u.field (accepted_by u)
  run_steps = unfold started in trace_steps u.settings (on (started u.first u.field)) (started_timed u.first u.field) refl

  -- with at most `limit` settings, each of dimension M
  pub run_counted : (M limit : ℕ) → Each (λ p. p.m ≡ M) u.settings → length u.settings ≤ limit → Counted M limit u state_of.report
  run_counted M limit ms few =
      let c = run_recorded u in
      let j = run_told u in
      record {
        substeps = c.substeps;
        applications = c.matvecs;
        rejections = omega (arith, j);
        few_substeps = le_trans (le_of_eq c.substeps) (le_trans (trace_few u.settings (on (started u.first u.field))) few);
        few_applications = rw (c.matvecs, c.substeps) (trace_products M u.settings (on (started u.first u.field)) ms);
        few_rejections = rw c.substeps c.rejected;
        settings = trace_settings u.settings (on (started u.first u.field));
        short = attempts_short u.settings (on (started u.first u.field)) (started_timed u.first u.field);
        steps = run_steps;
        shortest = subst (Shortest (accepted_by u)) (sym c.shortest) (shortest_is +0 u.field (accepted_by u) run_steps);
        last = c.last;
      }

  -- the division of the estimate leaves all else as it is
  pub counted_relative : {M limit : ℕ} {r : KrylovPhiReport} (beta₀ : Float) → Counted M limit u r → Counted M limit u (relative_report r beta₀)
  unfolding relative_report
  counted_relative beta₀ h =
      record {
        substeps = h.substeps;
        applications = h.applications;
        rejections = h.rejections;
        few_substeps = h.few_substeps;
        few_applications = h.few_applications;
        few_rejections = h.few_rejections;
        settings = h.settings;
        short = h.short;
        steps = h.steps;
        shortest = h.shortest;
        last = h.last;
      }

  -- ---- the field keeps its number of values, where each setting is of as many
  pub run_long : (n : ℕ) → Each (λ p. len p ≡ n) u.settings → length u.field ≡ n → length state_of.y ≡ n
  run_long n ls e = runs_long n u.settings (on (started u.first u.field)) ls (unfold started in e)

  -- ---- where it stands
  abbrev pub Stands : Turn State End → Type 0
  Stands (on s) = GoesOn u
  Stands (out (finished s)) = Finished u
  Stands (out (refused k x s)) = Failed u k

  pub run_stands : Stands (status_of u)
  unfolding norm2
  run_stands = go (status_of u) (run_kept u) (run_recorded u) (run_timed u) (run_judged u) (run_told u)
    where
      norm_after : (s : State) → Recorded u.field (accepted_by u) s → (0 < s.report.substeps → unfinished s ≡ true) → 0 < length (accepted_by u) → eq (norm2 (field_of u)) +0 ≡ false
      norm_after s c h l = subst (λ (b : Float). eq b +0 ≡ false) c.norm (norm_left s (h (subst (λ (n : ℕ). 0 < n) (sym c.substeps) l)))

      go : (o : Turn State End) → Kept Going Over (length u.settings) o → Recorded u.field (accepted_by u) (reached o) → Timed o → Judged (length (tried_by u)) o
          → (reached o).report.rejected + (reached o).report.substeps ≡ total (λ a. length a.tried) (accepted_by u) → Stands o
      go (on s) h c t j k =
          record {
            all = sym c.substeps ∙ h.0;
            below_one = subst (λ (x : Float). T (x ⋖ 1f)) c.time t.1;
            norm_left = norm_after s c (λ l. h.1 (subst (λ (n : ℕ). 0 < n) h.0 l));
          }
      go (out (finished s)) h c t j k =
          record {
            some = subst (λ (n : ℕ). 0 < n) c.substeps h.0;
            reached = elim (finished_time s t h.2) [
              | inl z ↦ inl (subst (λ (b : Float). eq b +0 ≡ true) c.norm z)
              | inr e ↦ inr (sym c.time ∙ e)
            ];
          }
      go (out (refused r x s)) h c t j k =
          record {
            number = h.0;
            eleven = λ e. sym (j.0 e) ∙ ap (λ (n : ℕ). n + 11) k;
            fewer = subst (λ (n : ℕ). n < length u.settings) c.substeps h.1;
            below_one = subst (λ (x : Float). T (x ⋖ 1f)) c.time t.1;
            norm_left = norm_after s c h.2;
          }

  -- no two of them hold
  below_not_reached : T (time_of u ⋖ 1f) → (0 < length (accepted_by u) → eq (euclidean (field_of u)) +0 ≡ false) → Finished u → ⊥
  unfolding lt of_bits
  below_not_reached t n h = elim h.reached [
    | inl z ↦ absurd (true≢false (sym z ∙ n h.some))
    | inr e ↦ subst (λ (x : Float). T (x ⋖ 1f)) e t
  ]

  going_not_finished : GoesOn u → Finished u → ⊥
  going_not_finished g = below_not_reached g.below_one g.norm_left

  failed_not_finished : {k : Reason} → Failed u k → Finished u → ⊥
  failed_not_finished g = below_not_reached g.below_one g.norm_left

  going_not_failed : {k : Reason} → GoesOn u → Failed u k → ⊥
  going_not_failed g h = lt_irrefl _ (subst (λ (n : ℕ). n < length u.settings) g.all h.fewer)

  -- so each says where the run stands
  pub goes_on : GoesOn u → status_of u ≡ on state_of
  goes_on g = go (status_of u) run_stands
    where
      go : (o : Turn State End) → Stands o → o ≡ on (reached o)
      go (on s) h = refl
      go (out (finished s)) h = absurd (going_not_finished g h)
      go (out (refused k x s)) h = absurd (going_not_failed g h)

  pub finishes : Finished u → status_of u ≡ out (finished state_of)
  finishes g = go (status_of u) run_stands
    where
      go : (o : Turn State End) → Stands o → o ≡ out (finished (reached o))
      go (on s) h = absurd (going_not_finished h g)
      go (out (finished s)) h = refl
      go (out (refused k x s)) h = absurd (failed_not_finished h g)

  -- ---- a run that ended with a result: the report divides the estimate by the first norm, the output is the field scaled back
  pub finished_cost : (n M limit : ℕ) (start : List Float) (f : Scale) → u.prescale ≡ Some f → Each (λ p. p.m ≡ M) u.settings → length u.settings ≤ limit → (Zeros start → ⊥) → Finished u
      → KrylovCost n M limit start (window 0 n (scale f.up state_of.y)) u (relative_report state_of.report (norm2 u.field))
  unfolding relative_report relative unscaled norm2
  finished_cost n M limit start f by ms few nonzero h =
      let c = run_recorded u in
      record {
        counted = counted_relative (norm2 u.field) (run_counted M limit ms few);
        idle = ((λ g. absurd (no_none g)), (λ z. absurd (nonzero z)));
        reached = inr h.reached;
        estimate = ap (λ (e : Float). e ⊘ norm2 u.field) c.estimate ∙ ap (relative (estimate_of u) u.field) (sym by);
        fields = ap (λ (x : List Float). window 0 n (scale f.up x)) c.field ∙ ap (λ (g : Option Scale). window 0 n (unscaled (field_of u) g)) (sym by);
      }
    where
      no_none : accepted_by u ≡ [] → ⊥
      no_none g = let e : length (accepted_by u) ≡ 0 = ap length g in let l = h.some in absurd (omega (arith, l, e))

-- a start of zeros: no substep, and nothing tried
pub idle_cost : (n M limit : ℕ) (p : Setting) (y : List Float) → Zeros y → KrylovCost n M limit y (window 0 n y) (record { first = p; settings = []; field = y; prescale = None }) empty_report
unfolding unscaled relative trace attempts total field_after estimate_after last_after
idle_cost n M limit p y z =
    record {
      counted = record {
        substeps = refl;
        applications = refl;
        rejections = refl;
        few_substeps = zero-le;
        few_applications = zero-le;
        few_rejections = zero-le;
        settings = refl;
        short = tt;
        steps = tt;
        shortest = refl;
        last = refl;
      };
      idle = ((λ _. z), (λ _. refl));
      reached = inl z;
      estimate = refl;
      fields = refl;
    }
