-- A join and a turn as they are told. Assumes nothing.
use Rattle.std.specs.Prelude.{if◌then◌else◌, Option}
use mathlib.Core.Path.{◌≡◌, refl, sym, ap, ◌∙◌}
use mathlib.Core.Bool.{Bool, true, false, ◌&&◌, true≢false}
use mathlib.Core.List.{List, [], ◌∷◌, ◌++◌}
use Prim.Native.Nat.{ℕ, zero, ◌-◌, ◌<◌}
use native.Mathlib.Omega.{arith}
use lib.Dec.{ltb}
use lib.ListN.{length, take, drop}
use lib.Seq.{take_all}
use lib.Ieee.{Float, nan}
use borrow.Author.Tests.{eq-eqb}
use Rattle.lists.specs.Find.{find}
use Rattle.lists.specs.Loop.{tabulate}
use Rattle.lists.specs.Window.{window, splice}
use Rattle.lists.proofs.Window.{splice_whole, splice_nil}
use Rattle.checks.specs.First.{first}
use Rattle.checks.specs.First.{Checked}
use Rattle.krylov_job.specs.KrylovCall.{krylov_checks}
use Rattle.krylov_job.specs.declared.KrylovPhiOptions.{KrylovPhiOptions}
use Rattle.paused_run.specs.Paused.{Job, Input, PausedCall, leaves, rows, start_checks, StartAnswer, start_unless, start, StepAnswer}
use Rattle.paused_run.specs.declared.PausedRun.{PausedRun}
use Rattle.rotation.specs.Unit.{empty, waiting, next_place, UnitCall, unit_call, lowest_free, room, admitted_by, admitted, join, turn_of, turn}
use Rattle.rotation.specs.declared.Rotation.{Rotation}
use Rattle.rotation_joins.specs.declared.Joined.{Joined}
use Rattle.rotation_turns.specs.declared.Turned.{Turned}
use Rattle.exports_paused.specs.Told.{fits, State, start_state, step_state, told, state_checks}
use Rattle.exports_paused.proofs.Calls.{checks_fit, checks_not}
use Rattle.exports_rotation.specs.Told.{unit_numbers, unit_counts, unit_fits, no_unit, unit_of, UnitTold, unit_told, kept_or, told_by, join_told, turn_told, next_told, cleared, clear_told}
use Rattle.checks.specs.Reasons.{Sound, Refused}
use Rattle.std.specs.Prelude.{Ok, Err}
use Rattle.checks.specs.declared.Reason.TheVariants.{UnitFull}

-- ---- which is next, by the queue alone
pub next_by : (queues : List ℕ) (places : List PausedRun) {queue : List ℕ} {p : ℕ} → length queues ≡ 144 → queue ≡ window 128 16 queues → p ≡ next_place (record { places = places; queue = queue }) → p ≡ next_told queues
unfolding next_told next_place waiting
next_by queues places e eq ep = ep ∙ ap (λ (q : List ℕ). next_place (record { places = places; queue = q })) eq ∙ rw (eq-eqb _ _ e) refl

-- ---- the empty unit
module _ (units : List Float) (queues : List ℕ) where
  pub clear_is : {u : Rotation} {units₁ : List Float} {queues₁ : List ℕ} → unit_fits units queues ≡ true → u ≡ empty
      → units₁ ≡ kept_or (ltb 0 16 && unit_fits units queues) (unit_numbers u) units
      → queues₁ ≡ kept_or (ltb 0 16 && unit_fits units queues) (unit_counts u) queues
      → cleared 0 units₁ queues₁ ≡ clear_told units queues
  unfolding clear_told
  clear_is e eu en eq =
      let en' = rw (e, eu) at en in
      let eq' = rw (e, eu) at eq in
      (λ k. cleared 0 (en' k) (eq' k)) ∙ ap (λ (b : Bool). if b then cleared 0 (unit_numbers empty) (unit_counts empty) else cleared 26 units queues) (sym e)

  pub clear_not : unit_fits units queues ≡ false → cleared 26 units queues ≡ clear_told units queues
  unfolding clear_told
  clear_not e = ap (λ (b : Bool). if b then cleared 0 (unit_numbers empty) (unit_counts empty) else cleared 26 units queues) (sym e)

-- ---- slices that hold no unit: no place is taken, and none has a turn
no_room : room no_unit ≡ false
unfolding room lowest_free waiting find tabulate
no_room = refl

none_waits : waiting no_unit ≡ []
unfolding waiting find tabulate
none_waits = refl

module _ (units : List Float) (queues : List ℕ) where
  is_none : unit_fits units queues ≡ false → unit_of units queues ≡ no_unit
  unfolding unit_of
  is_none e = rw e refl

  by_none : (d b : Bool) → b ≡ false → (u : Rotation) (s : PausedRun) (c full : PausedCall StartAnswer) → (admitted_by d b u s c full).place ≡ 16
  by_none true b e u s c full = refl
  by_none false true e u s c full = absurd (true≢false e)
  by_none false false e u s c full = refl

  pub joins_none : unit_fits units queues ≡ false → (a : StartAnswer) (c full : PausedCall StartAnswer) → (admitted (unit_of units queues) a c full).place ≡ 16
  unfolding admitted
  joins_none e (Err r) c full = refl
  joins_none e (Ok s) c full = by_none s.ended (room (unit_of units queues)) (ap room (is_none e) ∙ no_room) (unit_of units queues) s c full

  pub turns_none : unit_fits units queues ≡ false → (y : List Float) (i : Input) → (turn (unit_of units queues) y i).place ≡ 16
  unfolding turn turn_of
  turns_none e y i = ap (λ (u : Rotation). (turn_of (waiting u) u y i).place) (is_none e) ∙ ap (λ (l : List ℕ). (turn_of l no_unit y i).place) none_waits

  -- so the unit is written where it fits
  kept_by : {A : Type 0} (p : ℕ) (b : Bool) → (b ≡ false → p ≡ 16) → (after before : A) → kept_or (ltb p 16 && b) after before ≡ kept_or (ltb p 16) after before
  kept_by p true h after before = ap (λ (x : Bool). kept_or x after before) (and_true (ltb p 16))
    where
      and_true : (a : Bool) → (a && true) ≡ a
      and_true true = refl
      and_true false = refl
  kept_by p false h after before = rw (h refl) refl

  pub told_call : {A : Type 0} (r : UnitCall A) {st s : State} {out₁ w₁ y₁ : List Float} {place : ℕ} {units₁ : List Float} {queues₁ : List ℕ}
      → (unit_fits units queues ≡ false → r.place ≡ 16)
      → st ≡ s
      → out₁ ≡ r.call.output
      → w₁ ≡ r.call.memory
      → y₁ ≡ r.call.field
      → place ≡ r.place
      → units₁ ≡ kept_or (ltb r.place 16 && unit_fits units queues) (unit_numbers r.unit) units
      → queues₁ ≡ kept_or (ltb r.place 16 && unit_fits units queues) (unit_counts r.unit) queues
      → unit_told (told st out₁ w₁ y₁) place units₁ queues₁ ≡ told_by r s units queues
  unfolding told_by
  told_call r h es eo ew ey ep eu eq =
      let eu' = eu ∙ kept_by r.place (unit_fits units queues) h (unit_numbers r.unit) units in
      let eq' = eq ∙ kept_by r.place (unit_fits units queues) h (unit_counts r.unit) queues in
      λ k. unit_told (told (es k) (eo k) (ew k) (ey k)) (ep k) (eu' k) (eq' k)

  -- ---- a turn
  pub told_turn : (i : Input) (field numbers : List Float) (counts : List ℕ) {u : Rotation} {t : Option Float} {r : Turned} {st : State} {out₁ w₁ y₁ : List Float} {place : ℕ} {units₁ : List Float} {queues₁ : List ℕ}
      → u ≡ unit_of units queues
      → t ≡ i.tolerance
      → unit_call r.unit r.place (leaves r.answer out₁ w₁ y₁) ≡ turn u field (record { tolerance = t; job = i.job; output = i.output; memory = i.memory })
      → place ≡ r.place
      → units₁ ≡ kept_or (ltb r.place 16 && unit_fits units queues) (unit_numbers r.unit) units
      → queues₁ ≡ kept_or (ltb r.place 16 && unit_fits units queues) (unit_counts r.unit) queues
      → st ≡ step_state r.answer numbers counts
      → unit_told (told st out₁ w₁ y₁) place units₁ queues₁ ≡ turn_told i field units queues numbers counts
  unfolding turn_told
  told_turn i field numbers counts {r = r} {out₁ = out₁} {w₁ = w₁} {y₁ = y₁} eu et h ep en eq es =
      let e : unit_call r.unit r.place (leaves r.answer out₁ w₁ y₁) ≡ turn (unit_of units queues) field i = rw (eu, et) at h in
      told_call (unit_call r.unit r.place (leaves r.answer out₁ w₁ y₁)) (λ f. ap (λ (x : UnitCall StepAnswer). x.place) e ∙ turns_none f field i) es refl refl refl ep en eq
      ∙ ap (λ (x : UnitCall StepAnswer). told_by x (step_state x.call.answer numbers counts) units queues) e

  -- ---- a join
  module _ (o : KrylovPhiOptions) (j : Job) (out w₀ field numbers : List Float) (counts : List ℕ) where
    abbrev call_by : Checked → List Float → UnitCall StartAnswer
    call_by r y =
        let c = start_unless r o j out w₀ y in
        admitted (unit_of units queues) c.answer c (leaves (Refused UnitFull nan) out w₀ y)

    abbrev told_of : UnitCall StartAnswer → List Float → UnitTold
    told_of r y = told_by (unit_call r.unit r.place (leaves r.call.answer r.call.output r.call.memory y)) (start_state r.call.answer numbers counts) units queues

    -- refused alike on no field
    alike : (r : Checked) → (Sound ≡ r → ⊥) → told_of (call_by r []) field ≡ told_of (call_by r field) field
    unfolding start_unless admitted
    alike (Err r) h = refl
    alike (Ok _) h = absurd (h refl)

    same_field : (r : Checked) → (Sound ≡ r → ⊥) → (call_by r field).call.field ≡ field
    unfolding start_unless admitted
    same_field (Err r) h = refl
    same_field (Ok _) h = absurd (h refl)

    module _ {u : Rotation} {r : Joined} {st : State} {to : ℕ} {out₁ w₁ ys y₁ : List Float} {place : ℕ} {units₁ : List Float} {queues₁ : List ℕ}
        (eu : u ≡ unit_of units queues)
        (et : to ≡ (if fits numbers counts then length field else zero))
        (ly : length ys ≡ length (take (to - 0) (drop 0 field)))
        (some : Sound ≡ first (krylov_checks j.g j.tau j.count j.w o (length out) (length w₀)) → 0 < rows j)
        (h : unit_call r.unit r.place (leaves r.answer out₁ w₁ ys) ≡ join u o j out w₀ (take (to - 0) (drop 0 field)))
        (ey : y₁ ≡ splice 0 ys field)
        (ep : place ≡ r.place)
        (en : units₁ ≡ kept_or (ltb r.place 16 && unit_fits units queues) (unit_numbers r.unit) units)
        (eq : queues₁ ≡ kept_or (ltb r.place 16 && unit_fits units queues) (unit_counts r.unit) queues)
        (es : st ≡ start_state r.answer numbers counts) where
      lent : (n : ℕ) → to ≡ n → take (to - 0) (drop 0 field) ≡ take n field
      lent n e =
          let e₀ : to - 0 ≡ n = omega (arith, e) in
          ap (λ (x : ℕ). take x field) e₀

      none_left : (l : List Float) → length l ≡ zero → l ≡ []
      none_left [] e = refl
      none_left (x ∷ l) e = absurd (omega (arith, e))

      -- with the field z lent
      went : (z : List Float) → take (to - 0) (drop 0 field) ≡ z → (c : Checked) → first (start_checks o j (length out) (length w₀) (length z)) ≡ c
          → unit_call r.unit r.place (leaves r.answer out₁ w₁ ys) ≡ call_by c z
      went z ez c ec = unfold join start in rw (eu, ez, ec) at h

      -- the field y handed back
      back : (z y : List Float) (c : Checked) → unit_call r.unit r.place (leaves r.answer out₁ w₁ ys) ≡ call_by c z → y₁ ≡ y
          → unit_told (told st out₁ w₁ y₁) place units₁ queues₁ ≡ told_by (unit_call r.unit r.place (leaves r.answer out₁ w₁ y)) (start_state r.answer numbers counts) units queues
      back z y c e ey = told_call (unit_call r.unit r.place (leaves r.answer out₁ w₁ y)) (λ f. ap (λ (x : UnitCall StartAnswer). x.place) e ∙ joins_none f _ _ _) es refl refl ey ep en eq

      abbrev told_all : UnitCall StartAnswer → UnitTold
      told_all x = told_by x (start_state x.call.answer numbers counts) units queues

      pub join_is : unit_told (told st out₁ w₁ y₁) place units₁ queues₁ ≡ join_told o j out w₀ field units queues numbers counts
      unfolding join_told
      join_is = go (fits numbers counts) refl
        where
          go : (b : Bool) → fits numbers counts ≡ b → unit_told (told st out₁ w₁ y₁) place units₁ queues₁ ≡ join_told o j out w₀ field units queues numbers counts
          go true e =
              let to_is : to ≡ length field = rw e at et in
              let whole : take (to - 0) (drop 0 field) ≡ field = lent _ to_is ∙ take_all (length field) field (omega arith) in
              let c = first (start_checks o j (length out) (length w₀) (length field) ++ state_checks numbers counts) in
              let w = went field whole c (sym (checks_fit o j out w₀ field numbers counts e)) in
              back field ys c w (ey ∙ splice_whole ys field (ly ∙ ap length whole)) ∙ ap told_all w
          go false e =
              let to_is : to ≡ zero = rw e at et in
              let empty : take (to - 0) (drop 0 field) ≡ [] = lent _ to_is in
              let b = checks_not o j out w₀ field numbers counts e some in
              let w = went [] empty b.by b.without in
              back [] field b.by w (ey ∙ ap (λ (x : List Float). splice 0 x field) (none_left ys (ly ∙ ap length empty)) ∙ splice_nil 0 field)
              ∙ ap (λ (x : UnitCall StartAnswer). told_of x field) w
              ∙ alike b.by b.refused
              ∙ ap (told_of (call_by b.by field)) (sym (same_field b.by b.refused))
              ∙ ap (λ (x : Checked). told_all (call_by x field)) (sym b.with_all)
