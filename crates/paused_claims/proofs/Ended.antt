-- When a run as it was left has ended, both ways (document 02, N5). Assumes nothing.
use mathlib.Core.Path.{◌≡◌, refl, sym, ap, ◌∙◌, subst}
use mathlib.Core.Logic.{◌⊎◌, inl, inr}
use mathlib.Core.Bool.{true, false, true≢false}
use mathlib.Core.List.{List, [], ◌∷◌, ◌++◌}
use Prim.Native.Nat.{ℕ, ◌<◌}
use native.Mathlib.Omega.{arith}
use lib.Dec.{T}
use lib.ListN.{length}
use lib.Ieee.{Float, lt, eq, of_bits, nan}
use Rattle.std.specs.Prelude.{Option, None}
use Rattle.std.specs.declared.option.Option.TheVariants as option
use Rattle.lists.specs.Walk.{Turn, on, out}
use Rattle.doubles.specs.F64.{◌⋖◌, +0, 1f}
use Rattle.pow2.specs.declared.Scale.{Scale}
use Rattle.pow2.specs.Pow2.{pow2_scale}
use Rattle.checks.specs.First.{first, Checked}
use Rattle.krylov_advance.specs.Run.{State, End}
use Rattle.combination.specs.Combination.{further}
use Rattle.taylor_schedule.proofs.Admitted.{first_within}
use Rattle.gram_schmidt.specs.Basis.{norm2}
use Rattle.krylov_job.specs.KrylovCall.{krylov_checks}
use Rattle.krylov_job.specs.declared.KrylovPhiOptions.{KrylovPhiOptions}
use Rattle.paused_run.specs.Paused.{Job, rows, degree, PausedCall, leaves, start, StepAnswer, StepRefused, Input, step_unless, step}
use Rattle.paused_run.specs.declared.PausedRun.{PausedRun}
use Rattle.demand_3.specs.Trace.{Accepted, field_after, Run, status_of, accepted_by, time_of, field_of}
use Rattle.demand_3.specs.Krylov.{euclidean, Each}
use Rattle.demand_3.proofs.Counts.{run_recorded}
use Rattle.demand_3.proofs.Krylov.{none_zeros, by_not_zeros}
use Rattle.demand_3.proofs.Moments.{Stands, run_stands}
use Rattle.paused_claims.specs.History.{whole, Past, call_on, checked, run_in, made_with, in_force, at_start, next, Left, run_so_far}
use Rattle.paused_claims.specs.History as history
use Rattle.paused_claims.specs.Start.{values_of, StartClaim}
use Rattle.paused_claims.specs.Early.{Plain}
use Rattle.paused_claims.specs.Steps.{Outcome, Done}
use Rattle.paused_claims.specs.Ended.{Met, Some, Causes, Doubles, EndedClaim}
use Rattle.paused_claims.proofs.Known.{vectors, finite}
use Rattle.paused_claims.proofs.Doubles.{start_doubles}
use Rattle.paused_claims.proofs.FirstNorm.{first_norm_left}
use Rattle.paused_claims.proofs.Start.{the_start}
use Rattle.paused_claims.proofs.Standing.{ended_by, whole_is, Moving, left_sound, left_stands}
use Rattle.paused_claims.proofs.Early.{early_number, if_31}
use Rattle.paused_claims.proofs.Steps.{step_done}
use Rattle.checks.specs.Reasons.{Sound, Refused}
use Rattle.std.specs.Prelude.{Ok, Err}
use Rattle.checks.specs.declared.Reason.{Reason}
use Rattle.checks.specs.declared.Reason.TheVariants.{RunEnded}

-- ---- lists
some_front : {A : Type 0} (P : A → Type 0) (l l' : List A) → Some P l → Some P (l ++ l')
some_front P [] l' h = absurd h
some_front P (a ∷ l) l' (inl h) = inl h
some_front P (a ∷ l) l' (inr h) = inr (some_front P l l' h)

some_last : {A : Type 0} (P : A → Type 0) (l : List A) (a : A) → P a → Some P (l ++ (a ∷ []))
some_last P [] a h = inl h
some_last P (b ∷ l) a h = inr (some_last P l a h)

some_split : {A : Type 0} (P : A → Type 0) (l : List A) (a : A) → Some P (l ++ (a ∷ [])) → Some P l ⊎ P a
some_split P [] a (inl h) = inr h
some_split P [] a (inr h) = absurd h
some_split P (b ∷ l) a (inl h) = inl (inl h)
some_split P (b ∷ l) a (inr h) = elim (some_split P l a h) [ inl k ↦ inl (inr k) | inr k ↦ inr k ]

each_split : {A : Type 0} (P : A → Type 0) (l : List A) (a : A) → Each P (l ++ (a ∷ [])) → Each P l × P a
each_split P [] a h = (tt, h.0)
each_split P (b ∷ l) a h = let k = each_split P l a h.1 in ((h.0, k.0), k.1)

-- ---- one step
early_same : (p : Past) (i : Input) (k : Reason) (x : Float) → checked p i ≡ Refused k x → call_on p i ≡ leaves (StepRefused k x p.run) i.output i.memory p.field
unfolding step step_unless
early_same p i k x e = ap (λ (c : Checked). step_unless c p.run p.field i) e

module _ {o : KrylovPhiOptions} {j : Job} {p : Past} (l : Left o j p) (i : Input) where
  -- it ended the run
  ended_by_step : Sound ≡ checked p i → (run_in (call_on p i).answer).ended ≡ true → Causes j (next o j p i)
  ended_by_step e h = go (call_on p i).answer refl (step_done l i e).outcome
    where
      d : Done o j p i (run_so_far o j (next o j p i)) (call_on p i)
      d = step_done l i e

      go : (a : StepAnswer) → (call_on p i).answer ≡ a → Outcome o.max_substeps (made_with o j (in_force i.tolerance p.tol) i.job) (run_so_far o j p) (run_so_far o j (next o j p i)) p.run a → Causes j (next o j p i)
      go (Ok s) q (inl g) = absurd (true≢false (sym h ∙ ap (λ (x : StepAnswer). (run_in x).ended) q ∙ g.ended))
      go (Ok s) q (inr g) = elim g.finished.reached [
        | inl z ↦ inr (inl (ap (λ (y : List Float). eq (euclidean y) +0) d.field ∙ z))
        | inr z ↦ inl (d.time ∙ z)
      ]
      go (Err r) q (inl g) = inr (inr (inr (some_last Met p.answers (call_on p i).answer (subst Met (sym q) (inl g.number)))))
      go (Err r) q (inr g) = inr (inr (inr (some_last Met p.answers (call_on p i).answer (subst Met (sym q) (inr g.failed.number)))))

  -- an early refusal leaves the causes
  kept : (k : Reason) (x : Float) → checked p i ≡ Refused k x → Causes j p → Causes j (next o j p i)
  kept k x e = let c = early_same p i k x e in go c
    where
      go : call_on p i ≡ leaves (StepRefused k x p.run) i.output i.memory p.field → Causes j p → Causes j (next o j p i)
      go c (inl h) = inl (ap (λ (z : PausedCall StepAnswer). (run_in z.answer).time) c ∙ h)
      go c (inr (inl h)) = inr (inl (ap (λ (z : PausedCall StepAnswer). eq (euclidean z.field) +0) c ∙ h))
      go c (inr (inr (inl h))) = inr (inr (inl h))
      go c (inr (inr (inr h))) = inr (inr (inr (some_front Met p.answers _ h)))

  -- 27 to 29 end it
  met_ends : Plain i.job.g → Met (call_on p i).answer → (run_in (call_on p i).answer).ended ≡ true
  met_ends plain h = go (checked p i) refl
    where
      answered : (a : StepAnswer) → (call_on p i).answer ≡ a → Met a → Outcome o.max_substeps (made_with o j (in_force i.tolerance p.tol) i.job) (run_so_far o j p) (run_so_far o j (next o j p i)) p.run a → (run_in (call_on p i).answer).ended ≡ true
      answered (Ok s) q h g = absurd h
      answered (Err r) q h (inl g) = ap (λ (z : StepAnswer). (run_in z).ended) q ∙ g.ended
      answered (Err r) q h (inr g) = ap (λ (z : StepAnswer). (run_in z).ended) q ∙ g.marked.ended

      go : (c : Checked) → checked p i ≡ c → (run_in (call_on p i).answer).ended ≡ true
      go (Ok _) e = answered (call_on p i).answer refl h (step_done l i (sym e)).outcome
      go (Err r) e = absurd (early_number p.run (length p.field) i plain r.reason r.value (sym e) (subst Met (ap (λ (z : PausedCall StepAnswer). z.answer) (early_same p i r.reason r.value e)) h))

  -- an ended run stays so
  pub stays_ended : p.run.ended ≡ true → (run_in (call_on p i).answer).ended ≡ true
  stays_ended h = ap (λ (z : PausedCall StepAnswer). (run_in z.answer).ended) (early_same p i RunEnded nan (if_31 l i h)) ∙ h

-- ---- ended, so by one of the causes
pub only_causes : {o : KrylovPhiOptions} {j : Job} {p : Past} → Left o j p → p.run.ended ≡ true → Causes j p
only_causes {o} {j} (history.started output memory field {s} e) h = go (pow2_scale (values_of j)) refl
  where
    claim : StartClaim o j output memory field (start o j output memory field)
    claim = the_start o j output memory field

    go : (f : Option Scale) → pow2_scale (values_of j) ≡ f → Causes j (at_start o s (start o j output memory field).field)
    go None q = inr (inr (inl (none_zeros (values_of j) (finite o j (length output) (length memory) (claim.only_accepted e).0) q)))
    go (option.Some f) q = absurd (true≢false (sym h ∙ (claim.ready e (by_not_zeros (values_of j) f q)).ended))
only_causes {o} {j} (history.stepped {p} l i) h = go (λ k. only_causes l k) (checked p i) refl
  where
    go : (p.run.ended ≡ true → Causes j p) → (c : Checked) → checked p i ≡ c → Causes j (next o j p i)
    go earlier (Ok _) e = ended_by_step l i (sym e) h
    go earlier (Err r) e = kept l i r.reason r.value e (earlier (sym (ap (λ (z : PausedCall StepAnswer). (run_in z.answer).ended) (early_same p i r.reason r.value e)) ∙ h))

-- ---- each of the causes ends it
met_ended : {o : KrylovPhiOptions} {j : Job} {p : Past} → Left o j p → Each (λ i. Plain i.job.g) p.inputs → Some Met p.answers → p.run.ended ≡ true
met_ended (history.started output memory field e) plain h = absurd h
met_ended (history.stepped {p} l i) plain h =
    let a = each_split (λ i. Plain i.job.g) p.inputs i plain in
    elim (some_split Met p.answers (call_on p i).answer h) [
      | inl m ↦ stays_ended l i (met_ended l a.0 m)
      | inr m ↦ met_ends l i a.1 m
    ]

-- of a run that is not idle: it has ended, or goes on
module _ (o : KrylovPhiOptions) (j : Job) (p : Past) (h : Moving o j p) where
  abbrev u : Run
  u = run_so_far o j p

  ended_or : (st : Turn State End) → status_of u ≡ st → Stands u st → (T (time_of u ⋖ 1f) → (0 < length (accepted_by u) → eq (euclidean (field_of u)) +0 ≡ false) → ⊥) → p.run.ended ≡ true
  ended_or (on z) e g n = absurd (n g.below_one g.norm_left)
  ended_or (out z) e g n = ap (λ (r : PausedRun). r.ended) h.stood.run ∙ ap (ended_by o.max_substeps) e

  time_is : p.run.time ≡ time_of u
  time_is = ap (λ (r : PausedRun). r.time) h.stood.run ∙ (run_recorded u).time

  field_is : p.field ≡ field_of u
  field_is = h.stood.field ∙ (run_recorded u).field

  at_one : p.run.time ≡ 1f → p.run.ended ≡ true
  unfolding lt of_bits
  at_one e = ended_or (status_of u) refl (run_stands u) (λ t n. subst (λ (x : Float). T (x ⋖ 1f)) (sym time_is ∙ e) t)

  -- the first norm is not 0
  whole_norm : (output memory : ℕ) → Sound ≡ first (krylov_checks j.g j.tau j.count j.w o output memory) → Doubles j.w → eq (euclidean (whole o j).field) +0 ≡ false
  unfolding norm2
  whole_norm output memory e doubles = ap (λ (w : Run). eq (euclidean w.field) +0) (whole_is o j h.factors h.by) ∙ first_norm_left (values_of j) h.factors (start_doubles (rows j) j.w (further (rows j) j.w) j.tau (degree j) (first_within (vectors o j output memory e)) doubles) (finite o j output memory e) h.by

  at_zero : eq (euclidean (whole o j).field) +0 ≡ false → eq (euclidean p.field) +0 ≡ true → p.run.ended ≡ true
  unfolding field_after
  at_zero first e = ended_or (status_of u) refl (run_stands u) (λ t n. go (accepted_by u) refl n)
    where
      go : (l : List Accepted) → accepted_by u ≡ l → (0 < length (accepted_by u) → eq (euclidean (field_of u)) +0 ≡ false) → ⊥
      go [] q n = absurd (true≢false (sym e ∙ ap (λ (y : List Float). eq (euclidean y) +0) (field_is ∙ ap (field_after u.field) q) ∙ first))
      go (a ∷ l) q n = absurd (true≢false (sym e ∙ ap (λ (y : List Float). eq (euclidean y) +0) field_is ∙ n (subst (λ (k : List Accepted). 0 < length k) (sym q) (omega arith))))

pub if_causes : {o : KrylovPhiOptions} {j : Job} {p : Past} → Left o j p → Doubles j.w → Each (λ i. Plain i.job.g) p.inputs → Causes j p → p.run.ended ≡ true
if_causes {o} {j} {p} l doubles plain c = elim (left_stands l) [
  | inl h ↦ ap (λ (r : PausedRun). r.ended) h.run
  | inr h ↦ go h c
]
  where
    go : Moving o j p → Causes j p → p.run.ended ≡ true
    go h (inl e) = at_one o j p h e
    go h (inr (inl e)) = let s = left_sound l in at_zero o j p h (whole_norm o j p h (length s.0) (length s.1) s.2 doubles) e
    go h (inr (inr (inl z))) = absurd (by_not_zeros (values_of j) h.factors h.by z)
    go h (inr (inr (inr m))) = met_ended l plain m

pub ended_exactly : {o : KrylovPhiOptions} {j : Job} {p : Past} → Left o j p → EndedClaim j p
ended_exactly l doubles plain = (only_causes l, if_causes l doubles plain)
