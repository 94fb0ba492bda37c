-- The other runs exchanged for any others (document 02, N6). Assumes nothing.
use mathlib.Core.Path.{◌≡◌, refl, sym, ap, ◌∙◌, subst}
use mathlib.Core.List.{List, [], ◌∷◌}
use Prim.Native.Nat.{ℕ, zero}
use native.Mathlib.Omega.{arith}
use lib.ListN.{length}
use lib.Ieee.{Float}
use Rattle.std.specs.Prelude.{Option, Some, None}
use Rattle.pow2.specs.declared.Scale.{Scale}
use Rattle.pow2.specs.Pow2.{pow2_scale}
use Rattle.checks.specs.First.{first, Checked}
use Rattle.combination.specs.Call.{cleared}
use Rattle.krylov_job.specs.declared.KrylovPhiOptions.{KrylovPhiOptions}
use Rattle.paused_run.specs.Paused.{Job, PausedCall, StartAnswer, need_of, begun, StepAnswer, step_checks, step}
use Rattle.paused_run.specs.declared.PausedRun.{PausedRun}
use Rattle.paused_claims.specs.History.{run_in}
use Rattle.paused_claims.specs.Start.{values_of}
use Rattle.paused_claims.proofs.Start.{started_is}
use Rattle.paused_claims.proofs.Alike.{blind}
use Rattle.rotation_claims.specs.Isolation.{OwnTurn, checked_on, Back, left_in, AsLeft, Stay, arrival, turns_in, Stays, Given, Told, told_of, unless_early, given_from, told_from, ExchangedClaim}
use Rattle.rotation_claims.proofs.Isolation.{Chain, at_start_is, stay_chain, early_same}
use Rattle.paused_claims.proofs.Standing.{same_run as same-started}
use Rattle.checks.specs.Reasons.{Sound, Refused}
use Rattle.std.specs.Prelude.{Ok, Err}
use Rattle.checks.specs.declared.Reason.{Reason}

abbrev given_of : OwnTurn → Given
given_of t = record { tolerance = t.given.tolerance; job = t.given.job }

no_more : {A : Type 0} {a : A} {l : List A} → (a ∷ l) ≡ [] → ⊥
no_more e = let z : zero ≡ 1 = cc in absurd (omega (arith, z))

heads : {A : Type 0} {a b : A} {l m : List A} → (a ∷ l) ≡ (b ∷ m) → a ≡ b
heads e = cc

tails : {A : Type 0} {a b : A} {l m : List A} → (a ∷ l) ≡ (b ∷ m) → l ≡ m
tails e = cc

-- refused early, the run and its field stay
stays_at : (t : OwnTurn) (s : PausedRun) {k : Reason} {x : Float} → t.call ≡ step s t.lent t.given → checked_on s t ≡ Refused k x → run_in t.call.answer ≡ s
stays_at t s ec e = ap (λ (c : PausedCall StepAnswer). run_in c.answer) ec ∙ early_same s t.lent t.given e

-- ---- turns all refused early tell nothing
none_told : (m : List OwnTurn) (s : PausedRun) → Chain s m → given_from s m ≡ [] → told_from s m ≡ []
unfolding given_from told_from
none_told [] s h e = refl
none_told (t ∷ m) s h e = go (checked_on s t) e (none_told m (run_in t.call.answer) h.2)
  where
    go : (c : Checked) → unless_early c (given_of t) (given_from (run_in t.call.answer) m) ≡ [] → (given_from (run_in t.call.answer) m ≡ [] → told_from (run_in t.call.answer) m ≡ [])
        → unless_early c (told_of t.call) (told_from (run_in t.call.answer) m) ≡ []
    go (Err r) e ih = ih e
    go (Ok _) e ih = absurd (no_more e)

-- ---- the same steps: told alike
abbrev Alike : List OwnTurn → Type 0
Alike l = (s : PausedRun) (y : List Float) (m : List OwnTurn) → Chain s l → Chain s m → AsLeft s y l → AsLeft s y m → given_from s l ≡ given_from s m → told_from s l ≡ told_from s m

module _ (t : OwnTurn) (l : List OwnTurn) (s : PausedRun) (y : List Float) (ec : t.call ≡ step s t.lent t.given) (h : Chain (run_in t.call.answer) l) (e : checked_on s t ≡ Sound) (lent : t.lent ≡ y)
    (a : AsLeft (run_in t.call.answer) t.call.field l) (ih : Alike l) where
  passes : Sound ≡ first (step_checks s (length y) t.given)
  passes = sym e ∙ ap (λ (x : List Float). first (step_checks s (length x) t.given)) lent

  call_is : t.call ≡ step s y t.given
  call_is = ec ∙ ap (λ (x : List Float). step s x t.given) lent

  -- the step that the other history gives it
  with_turn : (r : OwnTurn) (m : List OwnTurn) → r.call ≡ step s r.lent r.given → Chain (run_in r.call.answer) m → checked_on s r ≡ Sound → r.lent ≡ y → AsLeft (run_in r.call.answer) r.call.field m
      → (given_of t ∷ given_from (run_in t.call.answer) l) ≡ (given_of r ∷ given_from (run_in r.call.answer) m)
      → (told_of t.call ∷ told_from (run_in t.call.answer) l) ≡ (told_of r.call ∷ told_from (run_in r.call.answer) m)
  with_turn r m ecr hm er lr am g =
      let first_given = heads g in
      let other : r.call ≡ step s y r.given = ecr ∙ ap (λ (x : List Float). step s x r.given) lr in
      let same = blind s y t.given r.given (ap (λ (x : Given). x.tolerance) first_given) (ap (λ (x : Given). x.job) first_given) passes (sym er ∙ ap (λ (x : List Float). first (step_checks s (length x) r.given)) lr) in
      let answer : t.call.answer ≡ r.call.answer = ap (λ (c : PausedCall StepAnswer). c.answer) call_is ∙ same.answer ∙ sym (ap (λ (c : PausedCall StepAnswer). c.answer) other) in
      let output : t.call.output ≡ r.call.output = ap (λ (c : PausedCall StepAnswer). c.output) call_is ∙ same.output ∙ sym (ap (λ (c : PausedCall StepAnswer). c.output) other) in
      let field : t.call.field ≡ r.call.field = ap (λ (c : PausedCall StepAnswer). c.field) call_is ∙ same.field ∙ sym (ap (λ (c : PausedCall StepAnswer). c.field) other) in
      let run : run_in r.call.answer ≡ run_in t.call.answer = ap run_in (sym answer) in
      let rest : told_from (run_in t.call.answer) l ≡ told_from (run_in t.call.answer) m = ih (run_in t.call.answer) t.call.field m h (subst (λ (x : PausedRun). Chain x m) run hm) a (subst (λ (z : List Float). AsLeft (run_in t.call.answer) z m) (sym field) (subst (λ (x : PausedRun). AsLeft x r.call.field m) run am)) (tails g ∙ ap (λ (x : PausedRun). given_from x m) run) in
      (λ n. record { answer = answer n; output = output n; field = field n } ∷ (rest ∙ ap (λ (x : PausedRun). told_from x m) (sym run)) n)

  against : (m : List OwnTurn) → Chain s m → AsLeft s y m → (given_of t ∷ given_from (run_in t.call.answer) l) ≡ given_from s m → (told_of t.call ∷ told_from (run_in t.call.answer) l) ≡ told_from s m
  unfolding given_from told_from AsLeft
  against [] hm am g = absurd (no_more g)
  against (r ∷ m) hm am g = go (checked_on s r) refl am.0 am.1 g (against m)
    where
      go : (c : Checked) → checked_on s r ≡ c → Back c y r → AsLeft (run_in r.call.answer) (left_in c y r) m
          → (given_of t ∷ given_from (run_in t.call.answer) l) ≡ unless_early c (given_of r) (given_from (run_in r.call.answer) m)
          → (Chain s m → AsLeft s y m → (given_of t ∷ given_from (run_in t.call.answer) l) ≡ given_from s m → (told_of t.call ∷ told_from (run_in t.call.answer) l) ≡ told_from s m)
          → (told_of t.call ∷ told_from (run_in t.call.answer) l) ≡ unless_early c (told_of r.call) (told_from (run_in r.call.answer) m)
      go (Err e) er br ar gr next =
          let run = stays_at r s hm.1 er in
          next (subst (λ (z : PausedRun). Chain z m) run hm.2) (subst (λ (z : PausedRun). AsLeft z y m) run ar) (gr ∙ ap (λ (z : PausedRun). given_from z m) run) ∙ ap (λ (z : PausedRun). told_from z m) (sym run)
      go (Ok _) er br ar gr next = with_turn r m hm.1 hm.2 er br ar gr

told_alike : (l : List OwnTurn) → Alike l
unfolding given_from told_from AsLeft
told_alike [] s y m hl hm al am g = sym (none_told m s hm (sym g))
told_alike (t ∷ l) s y m hl hm al am g = go (checked_on s t) refl al.0 al.1 g (told_alike l)
  where
    go : (c : Checked) → checked_on s t ≡ c → Back c y t → AsLeft (run_in t.call.answer) (left_in c y t) l
        → unless_early c (given_of t) (given_from (run_in t.call.answer) l) ≡ given_from s m
        → Alike l
        → unless_early c (told_of t.call) (told_from (run_in t.call.answer) l) ≡ told_from s m
    go (Err r) e b a g ih =
        let run = stays_at t s hl.1 e in
        ih (run_in t.call.answer) y m hl.2 (subst (λ (z : PausedRun). Chain z m) (sym run) hm) a (subst (λ (z : PausedRun). AsLeft z y m) (sym run) am) (g ∙ ap (λ (z : PausedRun). given_from z m) (sym run)) ∙ ap (λ (z : PausedRun). told_from z m) run
    go (Ok _) e b a g ih = against t l s y hl.1 hl.2 e b a ih m hm am g

-- ---- the start
begun_alike : (o : KrylovPhiOptions) (j : Job) (y memory other : List Float) (p : Option Scale) → told_of (begun o j y memory p) ≡ told_of (begun o j y other p)
unfolding begun
begun_alike o j y memory other None = refl
begun_alike o j y memory other (Some f) = refl

module _ (v w : Stay) (s t : PausedRun) (eo : v.o ≡ w.o) (ej : v.j ≡ w.j) (hv : Stays v s) (hw : Stays w t) where
  began_as : (x : Stay) (r : PausedRun) → Stays x r → told_of (arrival x).call ≡ told_of (begun x.o x.j (values_of x.j) (cleared (need_of x.j x.o.m) x.memory) (pow2_scale (values_of x.j)))
  began_as x r h =
      let is = at_start_is x r h.takes in
      ap told_of (is ∙ started_is x.o x.j x.output x.memory x.field (sym (ap (λ (c : PausedCall StartAnswer). c.answer) is) ∙ h.takes.began))

  pub starts_alike : told_of (arrival v).call ≡ told_of (arrival w).call
  starts_alike =
      began_as v s hv
      ∙ begun_alike v.o v.j (values_of v.j) _ (cleared (need_of w.j w.o.m) w.memory) (pow2_scale (values_of v.j))
      ∙ (λ n. told_of (begun (eo n) (ej n) (values_of (ej n)) (cleared (need_of w.j w.o.m) w.memory) (pow2_scale (values_of (ej n)))))
      ∙ sym (began_as w t hw)

  same_run : t ≡ s
  same_run = same-started (sym hw.takes.began ∙ sym (ap (λ (x : Told StartAnswer). x.answer) starts_alike) ∙ hv.takes.began)

  same_field : (arrival w).call.field ≡ (arrival v).call.field
  same_field = sym (ap (λ (x : Told StartAnswer). x.field) starts_alike)

pub exchanged : ExchangedClaim
exchanged v w s t eo ej hv hw g =
    let run = same_run v w s t eo ej hv hw in
    let chain = stay_chain w t hw.takes in
    record {
      at_start = starts_alike v w s t eo ej hv hw;
      at_turns =
          told_alike (turns_in v) s (arrival v).call.field (turns_in w) (stay_chain v s hv.takes) (subst (λ (x : PausedRun). Chain x (turns_in w)) run chain) hv.as_left
          (subst (λ (x : PausedRun). AsLeft x (arrival v).call.field (turns_in w)) run (subst (λ (z : List Float). AsLeft t z (turns_in w)) (same_field v w s t eo ej hv hw) hw.as_left))
          (g ∙ ap (λ (x : PausedRun). given_from x (turns_in w)) run)
          ∙ ap (λ (x : PausedRun). told_from x (turns_in w)) (sym run);
    }
