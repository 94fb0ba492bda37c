-- A join and a turn as the code makes them. Assumes nothing.
use Rattle.std.specs.Prelude.{if◌then◌else◌, Option, Some, None}
use mathlib.Core.Path.{◌≡◌, refl, sym, ap, ◌∙◌}
use mathlib.Core.Logic.{◌⊎◌, inl, inr}
use mathlib.Core.Bool.{Bool, true, false}
use mathlib.Core.List.{List, [], ◌∷◌}
use Prim.Native.Nat.{ℕ, zero, suc, ◌-◌, ◌<◌}
use native.Mathlib.Omega.{arith}
use lib.ListN.{get_or}
use lib.Ieee.{Float, nan}
use borrow.Author.Tests.{lt-ltb}
use Rattle.lists.specs.Loop.{tabulate}
use Rattle.pow2.specs.declared.Scale.{Scale}
use Rattle.pow2.specs.Pow2.{pow2_scale}
use Rattle.checks.specs.First.{first}
use Rattle.checks.specs.First.{Checked}
use Rattle.krylov_job.specs.declared.KrylovPhiOptions.{KrylovPhiOptions}
use Rattle.paused_run.specs.Paused.{Job, Input, PausedCall, leaves, StartAnswer, begun, start_unless, start, StepAnswer, StepRefused, step}
use Rattle.paused_run.specs.declared.PausedRun.{PausedRun}
use Rattle.rotation.specs.Unit.{vacant, run_at, waiting, first_of, next_place, UnitCall, unit_call, lowest_free, room, seated, admitted_by, admitted, join, run_left, passed_on, turn_of, turn}
use Rattle.rotation.specs.Inner.{count_of, run_in_place, seat_of, passed_of}
use Rattle.rotation.specs.declared.Rotation.{Rotation}
use Rattle.rotation.specs.declared.Seat.{Seat}
use Rattle.rotation.proofs.Queue.{waits_none, waits_some, place_below}
use Rattle.rotation_joins.specs.Inner.{full_answer, admitted_of}
use Rattle.rotation_joins.specs.declared.Joined.{Joined}
use Rattle.checks.specs.Reasons.{Sound, Refused}
use Rattle.std.specs.Prelude.{Ok, Err}
use Rattle.checks.specs.declared.Reason.TheVariants.{RunEnded, UnitFull}
use Rattle.checks.specs.declared.Refusal.{Refusal}
use Rattle.checks.proofs.First.{err_is}

-- ---- a join
not_sound : {e : Refusal} → ◌≡◌ {A = Checked} (Err e) Sound → ⊥
not_sound {e} s =
    let z : zero ≡ 1 = cc in
    absurd (omega (arith, z))

-- by the start's answer
module _ (u : Rotation) where
  abbrev seat_if : PausedRun → Bool → Seat
  seat_if s b = if b then record { unit = seated u s; place = lowest_free u } else record { unit = u; place = 16 }

  abbrev joined_if : PausedRun → Bool → Seat → Joined
  joined_if s d seat = if d then record { unit = u; place = 16; answer = Ok s } else record { unit = seat.unit; place = seat.place; answer = Ok s }

  seat_by : (s : PausedRun) (c full : PausedCall StartAnswer) (d b : Bool) → Sound ≡ (if b then Sound else (if d then Sound else Refused UnitFull nan))
      → unit_call (joined_if s d (seat_if s b)).unit (joined_if s d (seat_if s b)).place c ≡ admitted_by d b u s c full
  seat_by s c full true b h = refl
  seat_by s c full false true h = refl
  seat_by s c full false false h = absurd (not_sound (sym h))

  served_by : (a : StartAnswer) (c full : PausedCall StartAnswer) → Sound ≡ (if room u then Sound else full_answer a) → unit_call (admitted_of u a).unit (admitted_of u a).place c ≡ admitted u a c full
  unfolding admitted
  served_by (Err r) c full h = refl
  served_by (Ok s) c full h = seat_by s c full s.ended (room u) h

  answer_kept : (a : StartAnswer) → (admitted_of u a).answer ≡ a
  answer_kept (Err r) = refl
  answer_kept (Ok s) = go s.ended
    where
      go : (d : Bool) → (joined_if s d (seat_of u s)).answer ≡ Ok s
      go true = refl
      go false = refl

  pub told_ended : {a : StartAnswer} (s : PausedRun) → a ≡ Ok s → s.ended ≡ true → record { unit = u; place = 16; answer = Ok s } ≡ admitted_of u a
  told_ended s e d = ap (λ (x : Bool). joined_if s x (seat_of u s)) (sym d) ∙ ap (admitted_of u) (sym e)

  pub told_seated : {a : StartAnswer} (s : PausedRun) {seat : Seat} → a ≡ Ok s → s.ended ≡ false → seat ≡ seat_of u s → record { unit = seat.unit; place = seat.place; answer = Ok s } ≡ admitted_of u a
  told_seated s e d es = ap (joined_if s false) es ∙ ap (λ (x : Bool). joined_if s x (seat_of u s)) (sym d) ∙ ap (admitted_of u) (sym e)

module _ (u : Rotation) (o : KrylovPhiOptions) (j : Job) (out w₀ field : List Float) where
  abbrev refuses : Refusal → UnitCall StartAnswer
  refuses e = unit_call u 16 (leaves (Err e) out w₀ field)

  abbrev answers : PausedCall StartAnswer → UnitCall StartAnswer
  answers c = admitted u c.answer c (leaves (Refused UnitFull nan) out w₀ field)

  -- refused before the start
  refused_start : (memory y : List Float) (p : Option Scale) {e : Refusal} → room u ≡ false → Err e ≡ full_answer (begun o j y memory p).answer → refuses e ≡ answers (begun o j y memory p)
  unfolding begun admitted
  refused_start memory y None eb h = absurd (not_sound h)
  refused_start memory y (Some f) eb h = ap refuses (err_is h) ∙ rw eb refl

  refused_by : (r : Checked) {e : Refusal} → room u ≡ false → Err e ≡ full_answer (start_unless r o j out w₀ field).answer → refuses e ≡ answers (start_unless r o j out w₀ field)
  unfolding start_unless admitted
  refused_by (Err r) eb h = ap refuses (err_is h)
  refused_by (Ok _) eb h = refused_start _ _ (pow2_scale _) eb h

  pub join_refused : {r : Checked} {e : Refusal} → r ≡ (if room u then Sound else full_answer (start o j out w₀ field).answer) → r ≡ Err e → unit_call u 16 (leaves (Err e) out w₀ field) ≡ join u o j out w₀ field
  unfolding join start
  join_refused {r} {e} h er = go (room u) refl (sym er ∙ h)
    where
      go : (b : Bool) → room u ≡ b → Err e ≡ (if b then Sound else full_answer (start o j out w₀ field).answer) → refuses e ≡ join u o j out w₀ field
      go true eb h = absurd (not_sound h)
      go false eb h = refused_by (first _) eb h

  -- and after it
  pub join_served : {a : StartAnswer} {r : Joined} {out₁ w₁ y₁ : List Float} {f : Checked}
      → f ≡ (if room u then Sound else full_answer (start o j out w₀ field).answer)
      → f ≡ Sound
      → leaves a out₁ w₁ y₁ ≡ start o j out w₀ field
      → r ≡ admitted_of u a
      → unit_call r.unit r.place (leaves r.answer out₁ w₁ y₁) ≡ join u o j out w₀ field
  unfolding join
  join_served {a} {r} {out₁} {w₁} {y₁} ef e es er =
      let same : a ≡ (start o j out w₀ field).answer = ap (λ (c : PausedCall StartAnswer). c.answer) es in
      let h = sym e ∙ ef ∙ ap (λ (x : StartAnswer). if room u then Sound else full_answer x) (sym same) in
      ap (λ (x : Joined). unit_call x.unit x.place (leaves x.answer out₁ w₁ y₁)) er
      ∙ ap (λ (x : StartAnswer). unit_call (admitted_of u a).unit (admitted_of u a).place (leaves x out₁ w₁ y₁)) (answer_kept u a)
      ∙ served_by u a (leaves a out₁ w₁ y₁) (leaves (Refused UnitFull nan) out w₀ field) h
      ∙ ap answers es

-- ---- a turn
-- some run waits
pub record Waits (u : Rotation) : Type 0 where
  pub others : List ℕ
  pub is : waiting u ≡ next_place u ∷ others
  pub below : next_place u < 16

pub none_or_some : (u : Rotation) → (waiting u ≡ []) ⊎ Waits u
unfolding next_place
none_or_some u = go (count_of u.queue) refl
  where
    go : (k : ℕ) → count_of u.queue ≡ k → (waiting u ≡ []) ⊎ Waits u
    go zero e = inl (waits_none u e)
    go (suc k) e =
        let is = waits_some u (λ z. absurd (omega (arith, z, e))) in
        let next : next_place u ≡ get_or u.queue 0 0 = ap first_of is in
        let rest : List ℕ = tabulate (count_of u.queue - 1) (λ k. get_or u.queue (suc k) 0) in
        inr (record { others = rest; is = is ∙ ap (λ (p : ℕ). p ∷ rest) (sym next); below = omega (arith, next, place_below u 0 (omega (arith, e))) })

module _ (u : Rotation) (y : List Float) (i : Input) where
  pub turn_none : {p : ℕ} {x : Float} {s : PausedRun} → p ≡ next_place u → p ≡ 16 → x ≡ nan → s ≡ vacant
      → unit_call u 16 (leaves (StepRefused RunEnded x s) i.output i.memory y) ≡ turn u y i
  unfolding turn turn_of
  turn_none ep e ex es = elim (none_or_some u) [
    | inl n ↦ (λ k. unit_call u 16 (leaves (StepRefused RunEnded (ex k) (es k)) i.output i.memory y)) ∙ sym (ap (λ (l : List ℕ). turn_of l u y i) n)
    | inr w ↦ absurd (omega (arith, ep, e, w.below))
  ]

  pub turn_some : {p : ℕ} {run left : PausedRun} {v : Rotation} {c : PausedCall StepAnswer}
      → p ≡ next_place u
      → (p ≡ 16 → ⊥)
      → run ≡ run_in_place u p
      → c ≡ step run y i
      → left ≡ run_left c.answer
      → v ≡ passed_of u (waiting u) left
      → unit_call v p c ≡ turn u y i
  unfolding turn turn_of next_place
  turn_some {p} {run} {left} {v} {c} ep ne er ec el ev = elim (none_or_some u) [
    | inl n ↦ absurd (ne (ep ∙ ap first_of n))
    | inr w ↦
        let q = next_place u in
        let run_is : run ≡ run_at u q = er ∙ ap (run_in_place u) ep ∙ ap (λ (b : Bool). if b then run_at u q else vacant) (lt-ltb q 16 w.below) in
        let call_is : c ≡ step (run_at u q) y i = ec ∙ ap (λ (s : PausedRun). step s y i) run_is in
        let left_is : left ≡ run_left (step (run_at u q) y i).answer = el ∙ ap (λ (x : PausedCall StepAnswer). run_left x.answer) call_is in
        let unit_is : v ≡ passed_on u q w.others (run_left (step (run_at u q) y i).answer) = ev ∙ ap (λ (l : List ℕ). passed_of u l left) w.is ∙ ap (passed_on u q w.others) left_is in
        (λ k. unit_call (unit_is k) (ep k) (call_is k)) ∙ sym (ap (λ (l : List ℕ). turn_of l u y i) w.is)
  ]
