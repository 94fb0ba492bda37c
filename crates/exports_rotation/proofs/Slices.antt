-- A unit comes back from its slices as it was left (document 02, N6). Assumes nothing.
use Rattle.std.specs.Prelude.{if◌then◌else◌}
use mathlib.Core.Path.{◌≡◌, refl, sym, ap, ◌∙◌}
use mathlib.Core.Logic.{inl, inr}
use mathlib.Core.Bool.{Bool, true, false, not, true≢false}
use mathlib.Core.List.{List, ◌++◌}
use Prim.Native.Nat.{ℕ, zero, suc, ◌+◌, ◌*◌, ◌≤◌, ◌<◌}
use native.Mathlib.Nat.{mul_comm, mul-le-mul_right, suc-mul}
use native.Mathlib.Omega.{arith}
use lib.Dec.{eqb, ltb}
use lib.ListN.{length, length-append, length-drop, get_or, take, drop}
use lib.Seq.{take_all, take-append-le, drop-append-le, drop_at}
use lib.Ieee.{Float, nan}
use borrow.Author.Tests.{eqb-true, eqb-false, lt-ltb}
use Rattle.lists.specs.Loop.{tabulate, stack}
use Rattle.lists.specs.Window.{window}
use Rattle.lists.proofs.Loop.{length_tabulate, tabulate_ext, tabulate_get_or}
use Rattle.krylov_job.specs.declared.KrylovPhiOptions.{KrylovPhiOptions}
use Rattle.paused_run.specs.Paused.{Job, Input, PausedCall, leaves, StartAnswer, start_unless, start}
use Rattle.paused_run.specs.declared.PausedRun.{PausedRun}
use Rattle.rotation.specs.Unit.{unread, run_at, empty, next_place, UnitCall, lowest_free, room, admitted_by, admitted, join, turn_of, turn}
use Rattle.rotation.specs.declared.Rotation.{Rotation}
use Rattle.rotation.proofs.Queue.{has_room}
use Rattle.rotation_joins.proofs.Calls.{none_or_some}
use Rattle.exports_paused.specs.Told.{numbers_of, flag, counts_of, fits, held, State, start_state, step_state, told}
use Rattle.exports_paused.proofs.Calls.{checks_fit}
use Rattle.exports_rotation.specs.Told.{unit_numbers, unit_counts, unit_fits, held_unit, no_unit, unit_of, unit_told, kept_or, told_by, join_told, turn_told, next_told, cleared, clear_told}
use Rattle.exports_rotation.specs.Slices.{in_slices, UnitSlices}
use Rattle.exports_rotation.proofs.Units.{unit_fitting, stack_long}
use Rattle.exports_rotation.proofs.Calls.{next_by}
use Rattle.checks.specs.Reasons.{Refused}
use Rattle.std.specs.Prelude.{Ok, Err}
use Rattle.checks.specs.declared.Reason.TheVariants.{UnitFull}

-- ---- a row of several
front : {A : Type 0} (at len : ℕ) (xs ys : List A) → at + len ≤ length xs → window at len (xs ++ ys) ≡ window at len xs
unfolding window
front at len xs ys h =
    ap (take len) (drop-append-le at xs ys (omega (arith, h))) ∙ take-append-le len (drop at xs) ys (let l = length-drop at xs in omega (arith, l, h))

behind : {A : Type 0} (at len : ℕ) (xs ys : List A) → length xs ≡ at → length ys ≡ len → window at len (xs ++ ys) ≡ ys
unfolding window
behind at len xs ys e l = ap (take len) (drop_at xs ys at e) ∙ take_all len ys (omega (arith, l))

row_of : {A : Type 0} (n : ℕ) (r : ℕ → List A) → ((p : ℕ) → length (r p) ≡ n) → (i p : ℕ) → p < i → window (p * n) n (stack i r) ≡ r p
unfolding stack
row_of n r l zero p h = absurd (omega (arith, h))
row_of n r l (suc i) p h = go (eqb p i) refl (row_of n r l i p)
  where
    go : (b : Bool) → eqb p i ≡ b → (p < i → window (p * n) n (stack i r) ≡ r p) → window (p * n) n (stack i r ++ r i) ≡ r p
    go true e k =
        let same = eqb-true p i e in
        ap (λ (x : ℕ). window (x * n) n (stack i r ++ r i)) same ∙ behind (i * n) n (stack i r) (r i) (stack_long n r l i) (l i) ∙ ap r (sym same)
    go false e k =
        let less : p < i = omega (arith, eqb-false p i e, h) in
        front (p * n) n (stack i r) (r i) (within less) ∙ k less
      where
        within : p < i → p * n + n ≤ length (stack i r)
        within m = omega (arith, suc-mul p n, mul-le-mul_right n m, stack_long n r l i)

-- ---- one run
flag_back : (b : Bool) → not (eqb (flag b) 0) ≡ b
flag_back true = refl
flag_back false = refl

held_back : (s : PausedRun) → held (numbers_of s) (counts_of s) ≡ s
held_back s =
    λ k.
    record {
      time = s.time;
      next = s.next;
      report = s.report;
      eta = s.eta;
      factors = s.factors;
      norm = s.norm;
      tol = s.tol;
      m = s.m;
      limit = s.limit;
      n = s.n;
      count = s.count;
      ended = flag_back s.ended k;
    }

-- ---- the unit
module _ (u : Rotation) where
  abbrev rows : List ℕ
  rows = stack 16 (λ p. counts_of (run_at u p))

  abbrev queue : List ℕ
  queue = tabulate 16 (λ k. get_or u.queue k 0)

  numbers_long : length (unit_numbers u) ≡ 160
  numbers_long = stack_long 10 (λ p. numbers_of (run_at u p)) (λ p. refl) 16

  rows_long : length rows ≡ 128
  rows_long = stack_long 8 (λ p. counts_of (run_at u p)) (λ p. refl) 16

  counts_long : length (unit_counts u) ≡ 144
  counts_long =
      let e : length rows + length queue ≡ 144 = omega (arith, rows_long, length_tabulate 16 (λ k. get_or u.queue k 0)) in
      length-append rows queue ∙ e

  pub long : unit_fits (unit_numbers u) (unit_counts u) ≡ true
  long = unit_fitting (unit_numbers u) (unit_counts u) numbers_long counts_long

  place_back : (p : ℕ) → p < 16 → held (window (10 * p) 10 (unit_numbers u)) (window (8 * p) 8 (unit_counts u)) ≡ run_at u p
  place_back p h =
      let a = ap (λ (x : ℕ). window x 10 (unit_numbers u)) (mul_comm 10 p) ∙ row_of 10 (λ q. numbers_of (run_at u q)) (λ q. refl) 16 p h in
      let b = front (8 * p) 8 rows queue (omega (arith, h, rows_long)) ∙ ap (λ (x : ℕ). window x 8 rows) (mul_comm 8 p) ∙ row_of 8 (λ q. counts_of (run_at u q)) (λ q. refl) 16 p h in
      (λ k. held (a k) (b k)) ∙ held_back (run_at u p)

  module _ (lp : length u.places ≡ 16) (lq : length u.queue ≡ 16) where
    places_back : tabulate 16 (λ p. held (window (10 * p) 10 (unit_numbers u)) (window (8 * p) 8 (unit_counts u))) ≡ u.places
    places_back = tabulate_ext 16 _ (run_at u) place_back ∙ ap (λ (n : ℕ). tabulate n (run_at u)) (sym lp) ∙ tabulate_get_or u.places unread

    queue_back : window 128 16 (unit_counts u) ≡ u.queue
    queue_back =
        behind 128 16 rows queue rows_long (length_tabulate 16 (λ k. get_or u.queue k 0))
        ∙ ap (λ (n : ℕ). tabulate n (λ k. get_or u.queue k 0)) (sym lq)
        ∙ tabulate_get_or u.queue 0

    pub same : unit_of (unit_numbers u) (unit_counts u) ≡ u
    unfolding unit_of
    same = ap (λ (b : Bool). if b then held_unit (unit_numbers u) (unit_counts u) else no_unit) long ∙ (λ k. record { places = places_back k; queue = queue_back k })

    next : next_told (unit_counts u) ≡ next_place u
    next = sym (next_by (unit_counts u) u.places counts_long (sym queue_back) refl)

    -- the slices hold the unit left, written or not
    kept_same : {A : Type 0} (r : UnitCall A) → (ltb r.place 16 ≡ false → r.unit ≡ u) → (s : State) → told_by r s (unit_numbers u) (unit_counts u) ≡ in_slices r s
    unfolding told_by
    kept_same r h s = go (ltb r.place 16) h
      where
        go : (b : Bool) → (b ≡ false → r.unit ≡ u)
            → unit_told (told s r.call.output r.call.memory r.call.field) r.place (kept_or b (unit_numbers r.unit) (unit_numbers u)) (kept_or b (unit_counts r.unit) (unit_counts u)) ≡ in_slices r s
        go true h = refl
        go false h = ap (λ (x : Rotation). unit_told (told s r.call.output r.call.memory r.call.field) r.place (unit_numbers x) (unit_counts x)) (sym (h refl))

    joined_unit : (a : StartAnswer) (c full : PausedCall StartAnswer) → ltb (admitted u a c full).place 16 ≡ false → (admitted u a c full).unit ≡ u
    unfolding admitted
    joined_unit (Err r) c full h = refl
    joined_unit (Ok s) c full h = go s.ended (room u) refl h
      where
        go : (d b : Bool) → room u ≡ b → ltb (admitted_by d b u s c full).place 16 ≡ false → (admitted_by d b u s c full).unit ≡ u
        go true b e h = refl
        go false true e h = absurd (true≢false (sym (lt-ltb (lowest_free u) 16 (has_room u e).0) ∙ h))
        go false false e h = refl

    turned_unit : (y : List Float) (i : Input) → ltb (turn u y i).place 16 ≡ false → (turn u y i).unit ≡ u
    unfolding turn turn_of
    turned_unit y i h = elim (none_or_some u) [
      | inl n ↦ ap (λ (l : List ℕ). (turn_of l u y i).unit) n
      | inr w ↦ absurd (true≢false (sym (ap (λ (l : List ℕ). ltb (turn_of l u y i).place 16) w.is ∙ lt-ltb (next_place u) 16 w.below) ∙ h))
    ]

    joins : (o : KrylovPhiOptions) (j : Job) (output memory field numbers : List Float) (counts : List ℕ) → fits numbers counts ≡ true
        → join_told o j output memory field (unit_numbers u) (unit_counts u) numbers counts ≡ in_slices (join u o j output memory field) (start_state (join u o j output memory field).call.answer numbers counts)
    unfolding join_told join start
    joins o j output memory field numbers counts e =
        let r = join u o j output memory field in
        (λ k.
        let c = start_unless (checks_fit o j output memory field numbers counts e k) o j output memory field in
        let x = admitted (same k) c.answer c (leaves (Refused UnitFull nan) output memory field) in
        told_by x (start_state x.call.answer numbers counts) (unit_numbers u) (unit_counts u))
        ∙ kept_same r (joined_unit _ _ _) (start_state r.call.answer numbers counts)

    turns : (i : Input) (field numbers : List Float) (counts : List ℕ)
        → turn_told i field (unit_numbers u) (unit_counts u) numbers counts ≡ in_slices (turn u field i) (step_state (turn u field i).call.answer numbers counts)
    unfolding turn_told
    turns i field numbers counts =
        let r = turn u field i in
        (λ k. told_by (turn (same k) field i) (step_state (turn (same k) field i).call.answer numbers counts) (unit_numbers u) (unit_counts u))
        ∙ kept_same r (turned_unit field i) (step_state r.call.answer numbers counts)

    clears : clear_told (unit_numbers u) (unit_counts u) ≡ cleared 0 (unit_numbers empty) (unit_counts empty)
    unfolding clear_told
    clears = ap (λ (b : Bool). if b then cleared 0 (unit_numbers empty) (unit_counts empty) else cleared 26 (unit_numbers u) (unit_counts u)) long

pub unit_slices : UnitSlices
unit_slices u lp lq = record { long = long u; same = same u lp lq; next = next u lp lq; joins = joins u lp lq; turns = turns u lp lq; clears = clears u lp lq }
