-- What a turn leaves, and what a place holds (document 02, N6). Assumes nothing.
use Rattle.std.specs.Prelude.{if◌then◌else◌}
use mathlib.Core.Path.{◌≡◌, refl, sym, ap, ◌∙◌}
use mathlib.Core.Logic.{inl, inr}
use mathlib.Core.Bool.{Bool, true, false, not}
use mathlib.Core.List.{List, [], ◌∷◌, ◌++◌, append-nil}
use Prim.Native.Nat.{ℕ, ◌<◌}
use native.Mathlib.Omega.{arith}
use lib.Ieee.{Float}
use borrow.Author.Tests.{eq-eqb, ne_eqb}
use Rattle.paused_run.specs.Paused.{Input, StartAnswer, StepAnswer, step}
use Rattle.paused_run.specs.declared.PausedRun.{PausedRun}
use Rattle.rotation.specs.Unit.{run_at, waiting, UnitCall, lowest_free, back}
use Rattle.rotation.specs.declared.Rotation.{Rotation}
use Rattle.paused_claims.specs.History.{run_in}
use Rattle.rotation_claims.specs.History.{Act, left_by, unfinished}
use Rattle.rotation_claims.specs.Admission.{Coming, join_to, start_of, Unfinished, AnyTurn, turn_on, ended_in, LeavesClaim, HoldsClaim}
use Rattle.rotation_claims.proofs.Cases.{join_cases, place_is, Served, turn_cases, same_run, first_below, held_there, held_else}
use Rattle.rotation_claims.proofs.Orderly.{orderly, orderly_turn}
use Rattle.rotation_claims.proofs.Order.{turn_named, ended_of, turned_waits}
use Rattle.paused_claims.proofs.Standing.{same_run as same-started}
use Rattle.rotation_claims.proofs.Admission.{takes}
use Rattle.std.specs.Prelude.{Ok}

-- ---- any unit
pub any_turn : (u : Rotation) (i : Input) (y : List Float) → AnyTurn u i y
any_turn u i y =
    record {
      named = turn_named u y i;
      one_step = λ l. elim (turn_cases u y i) [
        | inl k ↦ ap (λ (r : UnitCall StepAnswer). r.call) k.is ∙ ap (λ (p : ℕ). step (run_at u p) y i) (sym (ap (λ (r : UnitCall StepAnswer). r.place) k.is) ∙ turn_named u y i)
        | inr k ↦ absurd (omega (arith, sym (turn_named u y i) ∙ ap (λ (r : UnitCall StepAnswer). r.place) k.is, l))
      ];
      none = λ e. elim (turn_cases u y i) [
        | inl k ↦ absurd (omega (arith, e, sym (turn_named u y i) ∙ ap (λ (r : UnitCall StepAnswer). r.place) k.is, first_below u k.p k.others k.waits))
        | inr k ↦ k.is
      ];
    }

-- ---- a unit that was left
module _ (h : List Act) (i : Input) (y : List Float) where
  abbrev u : Rotation
  u = left_by h

  abbrev r : UnitCall StepAnswer
  r = turn_on h i y

  served : r.place < 16 → Served u y i r
  served l = elim (turn_cases u y i) [
    | inl k ↦ k
    | inr k ↦ absurd (omega (arith, ap (λ (x : UnitCall StepAnswer). x.place) k.is, l))
  ]

  module _ (k : Served u y i r) where
    place : r.place ≡ k.p
    place = ap (λ (x : UnitCall StepAnswer). x.place) k.is

    ended : ended_in r ≡ ended_of u y i k.p
    ended = ap ended_in k.is ∙ ap (λ (s : PausedRun). s.ended) (sym (same_run (step (run_at u k.p) y i).answer))

    after : (b : Bool) → ended_in r ≡ b → waiting r.unit ≡ k.others ++ back k.p b
    after b e = turned_waits u y i k ∙ ap (λ (x : Bool). k.others ++ back k.p x) (sym ended ∙ e)

    moves : ended_in r ≡ true → waiting u ≡ r.place ∷ waiting r.unit
    moves e = k.waits ∙ (λ n. sym place n ∷ sym (after true e ∙ append-nil k.others) n)

    passes_on : ended_in r ≡ false → (r.place ∷ waiting r.unit) ≡ waiting u ++ (r.place ∷ [])
    passes_on e = (λ n. place n ∷ after false e n) ∙ (λ n. sym k.waits n ++ (sym place n ∷ []))

  again : r.place < 16 → ended_in r ≡ true → ((q : ℕ) → q < r.place → unfinished h q ≡ true) → (c : Coming) → Unfinished c → ((join_to r.unit c).place ≡ r.place) × ((join_to r.unit c).call ≡ start_of c)
  again l e lower c k =
      takes (orderly_turn (orderly h) y i) c k r.place l
      (ap (λ (b : Bool). if b then not (ended_in r) else unfinished h r.place) (eq-eqb r.place r.place refl) ∙ ap not e)
      (λ q m. ap (λ (b : Bool). if b then not (ended_in r) else unfinished h q) (ne_eqb r.place q (λ x. absurd (omega (arith, x, m)))) ∙ lower q m)

  pub leaves : LeavesClaim h i y
  leaves = record { moves = λ l e. moves (served l) e; passes_on = λ l e. passes_on (served l) e; again = again }

-- ---- what a place holds
module _ (h : List Act) where
  abbrev unit : Rotation
  unit = left_by h

  by_join : (c : Coming) (s : PausedRun) → (join_to unit c).place < 16 → (join_to unit c).call.answer ≡ Ok s → run_at (join_to unit c).unit (join_to unit c).place ≡ s
  by_join c s l e = elim (join_cases unit c.o c.j c.output c.memory c.field) [
    | inl k ↦
        ap (λ (x : UnitCall StartAnswer). run_at x.unit x.place) k.is
        ∙ held_there unit.places (lowest_free unit) k.s (orderly h).runs (place_is unit k.room)
        ∙ same-started (sym k.started ∙ sym (ap (λ (x : UnitCall StartAnswer). x.call.answer) k.is) ∙ e)
    | inr k ↦ absurd (omega (arith, k.place, l))
  ]

  by_turn : (i : Input) (y : List Float) → (turn_on h i y).place < 16 → run_at (turn_on h i y).unit (turn_on h i y).place ≡ run_in (turn_on h i y).call.answer
  by_turn i y l =
      let k = served h i y l in
      ap (λ (x : UnitCall StepAnswer). run_at x.unit x.place) k.is
      ∙ held_there unit.places k.p _ (orderly h).runs (first_below unit k.p k.others k.waits)
      ∙ same_run (step (run_at unit k.p) y i).answer
      ∙ sym (ap (λ (x : UnitCall StepAnswer). run_in x.call.answer) k.is)

  others_join : (c : Coming) (q : ℕ) → (q ≡ (join_to unit c).place → ⊥) → run_at (join_to unit c).unit q ≡ run_at unit q
  others_join c q n = elim (join_cases unit c.o c.j c.output c.memory c.field) [
    | inl k ↦ ap (λ (x : UnitCall StartAnswer). run_at x.unit q) k.is ∙ held_else unit.places (lowest_free unit) q k.s (λ e. n (e ∙ sym (ap (λ (x : UnitCall StartAnswer). x.place) k.is)))
    | inr k ↦ ap (λ (x : Rotation). run_at x q) k.unit
  ]

  others_turn : (i : Input) (y : List Float) (q : ℕ) → (q ≡ (turn_on h i y).place → ⊥) → run_at (turn_on h i y).unit q ≡ run_at unit q
  others_turn i y q n = elim (turn_cases unit y i) [
    | inl k ↦ ap (λ (x : UnitCall StepAnswer). run_at x.unit q) k.is ∙ held_else unit.places k.p q _ (λ e. n (e ∙ sym (ap (λ (x : UnitCall StepAnswer). x.place) k.is)))
    | inr k ↦ ap (λ (x : UnitCall StepAnswer). run_at x.unit q) k.is
  ]

  pub holds : HoldsClaim h
  holds = record { by_join = by_join; by_turn = by_turn; others_join = others_join; others_turn = others_turn }
