-- The start of a paused run, both ways (document 02, N5). Assumes nothing.
use mathlib.Core.Path.{◌≡◌, refl, sym, ap, ◌∙◌, subst}
use mathlib.Core.Logic.{inl, inr}
use mathlib.Core.Bool.{Bool, true, false, not}
use mathlib.Core.List.{List, []}
use Prim.Native.Nat.{ℕ, zero}
use native.Mathlib.Omega.{arith}
use borrow.Author.Tests.{eqb-true, eqb-false, eq-eqb, ne_eqb, not-false}
use lib.Dec.{eqb}
use lib.ListN.{length}
use lib.Ieee.{Float, nan}
use Rattle.std.specs.Prelude.{Option, Some, None}
use Rattle.vectors.specs.Vectors.{scale}
use Rattle.pow2.specs.Pow2.{pow2_scale}
use Rattle.pow2.specs.declared.Scale.{Scale}
use Rattle.checks.specs.First.{first, Checked}
use Rattle.checks.proofs.First.{and_then, unless, first_cons, first_none, first_append, err_is, ok_is, same_reason, same_double, sound_cons, sound_append}
use Rattle.combination.specs.Call.{cleared}
use Rattle.gram_schmidt.specs.Basis.{norm2}
use Rattle.krylov_advance.specs.Run.{clamp_m}
use Rattle.krylov_job.specs.KrylovCall.{dimension}
use Rattle.krylov_job.specs.declared.KrylovPhiOptions.{KrylovPhiOptions}
use Rattle.paused_run.specs.Paused.{Job, PausedCall, leaves, StartAnswer, need_of, fresh, idle_run, first_run, field_checks, start_checks, begun, start_unless, start}
use Rattle.paused_run.specs.declared.PausedRun.{PausedRun}
use Rattle.demand_3.specs.Krylov.{Zeros}
use Rattle.demand_3.proofs.Krylov.{none_zeros, zeros_none}
use Rattle.paused_claims.specs.History.{values_in}
use Rattle.paused_claims.specs.Start.{values_of, job_checks, Refuses, Unstepped, Idle, Ready, StartClaim}
use Rattle.paused_claims.proofs.Known.{finite}
use Rattle.checks.specs.Reasons.{Sound, Refused}
use Rattle.std.specs.Prelude.{Ok, Err}
use Rattle.checks.specs.declared.Reason.TheVariants.{WorkLength}
use Rattle.checks.specs.declared.Reason.{Reason}
use Rattle.checks.specs.declared.Refusal.{Refusal}

-- ---- the field's length
field_told : (long wanted : ℕ) → first (field_checks long wanted) ≡ unless (not (eqb long wanted)) WorkLength nan Sound
unfolding field_checks
field_told long wanted = first_cons WorkLength (not (eqb long wanted)) nan [] ∙ ap (unless (not (eqb long wanted)) WorkLength nan) first_none

pub field_sound : (long wanted : ℕ) → Sound ≡ first (field_checks long wanted) → long ≡ wanted
unfolding field_checks
field_sound long wanted e = eqb-true long wanted (not-false _ (sound_cons _ _ _ _ e).0)

pub field_passes : (long wanted : ℕ) → long ≡ wanted → Sound ≡ first (field_checks long wanted)
field_passes long wanted e = sym (field_told long wanted ∙ ap (λ (b : Bool). unless (not b) WorkLength nan Sound) (eq-eqb long wanted e))

field_stops : (long wanted : ℕ) → (long ≡ wanted → ⊥) → first (field_checks long wanted) ≡ Refused WorkLength nan
field_stops long wanted n = field_told long wanted ∙ ap (λ (b : Bool). unless (not b) WorkLength nan Sound) (ne_eqb long wanted n)

module _ (o : KrylovPhiOptions) (j : Job) (output memory field : List Float) where
  abbrev c : PausedCall StartAnswer
  c = start o j output memory field

  abbrev all : Checked
  all = first (start_checks o j (length output) (length memory) (length field))

  split : all ≡ and_then (first (job_checks o j output memory)) (first (field_checks (length field) (values_in j)))
  unfolding start_checks
  split = first_append (job_checks o j output memory) (field_checks (length field) (values_in j))

  -- ---- refused
  only_refused : (k : Reason) (x : Float) → c.answer ≡ Refused k x → Refuses o j output memory field k x
  unfolding start start_unless begun and_then
  only_refused k x e = go (first (job_checks o j output memory)) (eqb (length field) (values_in j)) refl refl all (split ∙ ap (and_then (first (job_checks o j output memory))) (field_told (length field) (values_in j))) e
    where
      not_started : (f : Option Scale) (y m : List Float) → (begun o j y m f).answer ≡ Refused k x → ⊥
      not_started None y m g = let z : zero ≡ 1 = cc in omega (arith, z)
      not_started (Some f) y m g = let z : zero ≡ 1 = cc in omega (arith, z)

      same : {d e : Refusal} → ◌≡◌ {A = StartAnswer} (Err d) (Err e) → ◌≡◌ {A = Checked} (Err e) (Err d)
      same g = ap Err (sym (err_is g))

      both : {i l : Reason} {a b : Float} → Refused {A = PausedRun} i a ≡ Refused {A = PausedRun} l b → (l ≡ i) × (b ≡ a)
      both g = (sym (same_reason g), sym (same_double g))

      go : (a : Checked) (t : Bool) → first (job_checks o j output memory) ≡ a → eqb (length field) (values_in j) ≡ t → (r : Checked) → r ≡ and_then a (unless (not t) WorkLength nan Sound)
          → (start_unless r o j output memory field).answer ≡ Refused k x → Refuses o j output memory field k x
      go (Err e) t ea et r er h = inl (same (subst (λ (z : Checked). (start_unless z o j output memory field).answer ≡ Refused k x) er h) ∙ sym ea)
      go (Ok _) true ea et r er h = absurd (not_started (pow2_scale (values_of j)) _ _ (subst (λ (z : Checked). (start_unless z o j output memory field).answer ≡ Refused k x) er h))
      go (Ok _) false ea et r er h =
          let b = both (subst (λ (z : Checked). (start_unless z o j output memory field).answer ≡ Refused k x) er h) in
          inr (sym ea, eqb-false _ _ et, b.0, b.1)

  if_refused : (k : Reason) (x : Float) → Refuses o j output memory field k x → c ≡ leaves (Refused k x) output memory field
  unfolding start start_unless and_then
  if_refused k x (inl e) = ap (λ (r : Checked). start_unless r o j output memory field) (split ∙ ap (λ (r : Checked). and_then r (first (field_checks (length field) (values_in j)))) (sym e))
  if_refused k x (inr (s, n, a, b)) =
      ap (λ (r : Checked). start_unless r o j output memory field)
      (split ∙ ap (λ (r : Checked). and_then r (first (field_checks (length field) (values_in j)))) (sym s) ∙ field_stops (length field) (values_in j) n ∙ (λ i. Refused (sym a i) (sym b i)))

  -- ---- accepted
  only_accepted : {s : PausedRun} → c.answer ≡ Ok s → (Sound ≡ first (job_checks o j output memory)) × (length field ≡ values_in j)
  unfolding start start_unless start_checks
  only_accepted {s} e =
      let p = sound_append (job_checks o j output memory) (field_checks (length field) (values_in j)) (go all e) in
      (p.0, field_sound (length field) (values_in j) p.1)
    where
      go : (r : Checked) → (start_unless r o j output memory field).answer ≡ Ok s → Sound ≡ r
      go (Ok _) h = refl
      go (Err r) h = let z : zero ≡ 1 = cc in absurd (omega (arith, z))

  all_sound : Sound ≡ first (job_checks o j output memory) → length field ≡ values_in j → Sound ≡ all
  unfolding and_then
  all_sound e l = sym (split ∙ ap (λ (r : Checked). and_then r (first (field_checks (length field) (values_in j)))) (sym e) ∙ sym (field_passes (length field) (values_in j) l))

  -- what it then leaves
  pub started_is : {s : PausedRun} → c.answer ≡ Ok s → c ≡ begun o j (values_of j) (cleared (need_of j o.m) memory) (pow2_scale (values_of j))
  unfolding start start_unless
  started_is e = let a = only_accepted e in ap (λ (r : Checked). start_unless r o j output memory field) (sym (all_sound a.0 a.1))

  if_accepted : Sound ≡ first (job_checks o j output memory) → length field ≡ values_in j → (s : PausedRun) × (c.answer ≡ Ok s)
  unfolding start start_unless begun
  if_accepted e l = subst (λ (r : Checked). (s : PausedRun) × ((start_unless r o j output memory field).answer ≡ Ok s)) (all_sound e l) (go (pow2_scale (values_of j)))
    where
      go : (f : Option Scale) → (s : PausedRun) × ((begun o j (values_of j) (cleared (need_of j o.m) memory) f).answer ≡ Ok s)
      go None = (_, refl)
      go (Some f) = (_, refl)

  -- ---- every field of what it hands back
  same_run : {s t : PausedRun} → ◌≡◌ {A = StartAnswer} (Ok s) (Ok t) → s ≡ t
  same_run e = ok_is e

  abbrev left : Option Scale → PausedCall StartAnswer
  left = begun o j (values_of j) (cleared (need_of j o.m) memory)

  no_substep : (f : Scale) (norm next : Float) (ended : Bool) → Unstepped o j (fresh o j f norm next ended)
  no_substep f norm next ended = record { time = refl; report = refl; eta = refl; tol = refl; m = refl; limit = refl; n = refl; count = refl }

  idle_is : Idle o j (idle_run o j) (left None) memory
  unfolding begun dimension clamp_m
  idle_is = record { unstepped = no_substep _ _ _ _; down = refl; up = refl; norm = refl; next = refl; ended = refl; field = refl; output = refl; cleared_memory = refl }

  ready_is : (f : Scale) → pow2_scale (values_of j) ≡ Some f → Ready o j (first_run o j f (norm2 (scale f.down (values_of j)))) (left (Some f)) memory
  unfolding begun dimension clamp_m norm2
  ready_is f e = record { unstepped = no_substep _ _ _ _; factors = e; field = refl; norm = refl; next = refl; ended = refl; output = refl; cleared_memory = refl }

  idle : {s : PausedRun} → c.answer ≡ Ok s → Zeros (values_of j) → Idle o j s c memory
  unfolding begun
  idle {s} e z =
      let i : c ≡ left None = started_is e ∙ ap left (zeros_none (values_of j) z) in
      let r : idle_run o j ≡ s = same_run (sym (ap (λ (x : PausedCall StartAnswer). x.answer) i) ∙ e) in
      subst (λ (x : PausedCall StartAnswer). Idle o j s x memory) (sym i) (subst (λ (x : PausedRun). Idle o j x (left None) memory) r idle_is)

  ready : {s : PausedRun} → c.answer ≡ Ok s → (Zeros (values_of j) → ⊥) → Ready o j s c memory
  unfolding begun
  ready {s} e n = go (pow2_scale (values_of j)) refl
    where
      go : (f : Option Scale) → pow2_scale (values_of j) ≡ f → Ready o j s c memory
      go None h = absurd (n (none_zeros (values_of j) (finite o j (length output) (length memory) (only_accepted e).0) h))
      go (Some f) h =
          let i : c ≡ left (Some f) = started_is e ∙ ap left h in
          let r : first_run o j f (norm2 (scale f.down (values_of j))) ≡ s = same_run (sym (ap (λ (x : PausedCall StartAnswer). x.answer) i) ∙ e) in
          subst (λ (x : PausedCall StartAnswer). Ready o j s x memory) (sym i) (subst (λ (x : PausedRun). Ready o j x (left (Some f)) memory) r (ready_is f h))

  pub the_start : StartClaim o j output memory field c
  the_start = record { only_refused = only_refused; if_refused = if_refused; if_accepted = if_accepted; only_accepted = only_accepted; idle = idle; ready = ready }
