-- A start and a step as they are told. Assumes nothing.
use Rattle.std.specs.Prelude.{if◌then◌else◌, Option}
use mathlib.Core.Path.{◌≡◌, refl, ap, ◌∙◌}
use mathlib.Core.Bool.{Bool, true, false, not}
use mathlib.Core.List.{List, [], ◌∷◌, ◌++◌, append_assoc}
use Prim.Native.Nat.{ℕ, zero, ◌+◌, ◌-◌, ◌≤◌, ◌<◌}
use native.Mathlib.Omega.{arith}
use lib.ListN.{length, take, drop}
use lib.Seq.{take_all}
use lib.Ieee.{Float, nan}
use borrow.Author.Tests.{ne_eqb}
use Rattle.lists.specs.Window.{window, splice}
use Rattle.lists.proofs.Window.{length_window, splice_whole, splice_nil, splice_parts}
use Rattle.checks.specs.First.{refuse, first}
use Rattle.checks.proofs.First.{and_then, first_append, sound_append}
use Rattle.checks.specs.First.{Checked}
use Rattle.general_operator.specs.Csr.{Csr}
use Rattle.general_operator.specs.Checks.{matrix_checks}
use Rattle.general_operator.proofs.Sound.{shape_sound}
use Rattle.generator_action.specs.Mass.{Mass, generator_checks}
use Rattle.generator_action.specs.Generator.{forward}
use Rattle.taylor_schedule.proofs.Stored.{quotients_rows}
use Rattle.krylov_job.specs.KrylovCall.{krylov_checks, krylov_checks_by}
use Rattle.krylov_job.specs.declared.KrylovPhiOptions.{KrylovPhiOptions}
use Rattle.paused_run.specs.Paused.{Job, Input, PausedCall, leaves, rows, degree, field_checks, start_checks, StartAnswer, start_unless, start, StepAnswer, step}
use Rattle.paused_run.specs.declared.PausedRun.{PausedRun}
use Rattle.exports_paused.specs.Told.{fits, run_of, State, told, start_state, step_state, state_checks, start_told, step_told}
use Rattle.checks.specs.Reasons.{Sound, Refused}
use Rattle.std.specs.Prelude.{Ok, Err}
use Rattle.checks.specs.declared.Reason.TheVariants.{WorkLength}

-- ---- the last check of a list
module _ (r : Checked) where
  -- does not hold
  passed_last : (b : Bool) → b ≡ true → and_then r (first (refuse WorkLength (not b) nan ∷ [])) ≡ r
  unfolding and_then first
  passed_last b e = rw e (go r)
    where
      go : (r : Checked) → and_then r Sound ≡ r
      go (Err r) = refl
      go (Ok _) = refl

  -- holds, or one before it of the same number
  twice : (a b : Bool) → b ≡ false → and_then r (first (refuse WorkLength a nan ∷ refuse WorkLength (not b) nan ∷ [])) ≡ and_then r (first (refuse WorkLength true nan ∷ []))
  unfolding and_then first
  twice true b e = refl
  twice false b e = rw e refl

  -- holds where those before it pass
  held_last : (a : Bool) → (Sound ≡ r → a ≡ true) → and_then r (first (refuse WorkLength a nan ∷ [])) ≡ and_then r (first (refuse WorkLength true nan ∷ []))
  unfolding and_then
  held_last a h = go r h
    where
      go : (r : Checked) → (Sound ≡ r → a ≡ true) → and_then r (first (refuse WorkLength a nan ∷ [])) ≡ and_then r (first (refuse WorkLength true nan ∷ []))
      go (Err r) h = refl
      go (Ok _) h = rw (h refl) refl

none_left : (l : List Float) → length l ≡ zero → l ≡ []
none_left [] e = refl
none_left (x ∷ l) e = absurd (omega (arith, e))

-- the front of the field is back
pub lent_back : (to : ℕ) (ys field : List Float) → to ≤ length field → length ys ≡ length (take (to - 0) (drop 0 field)) → ys ++ drop (to - 0) (drop 0 field) ≡ splice 0 ys field
unfolding window
lent_back to ys field h k =
    let l : length ys ≡ to - 0 = k ∙ length_window 0 (to - 0) field (omega arith) in
    let e : 0 + length ys ≡ to - 0 = omega (arith, l) in
    rw e at (splice_parts 0 ys field (omega (arith, l)))

-- ---- a start
module _ (o : KrylovPhiOptions) (j : Job) (out w₀ field numbers : List Float) (counts : List ℕ) where
  -- all checks, where the state fits, and where it does not: a start on no field is refused by the same one
  pub checks_fit : fits numbers counts ≡ true
      → first (start_checks o j (length out) (length w₀) (length field) ++ state_checks numbers counts) ≡ first (start_checks o j (length out) (length w₀) (length field))
  unfolding state_checks
  checks_fit e = first_append (start_checks o j (length out) (length w₀) (length field)) (refuse WorkLength (not (fits numbers counts)) nan ∷ []) ∙ passed_last _ (fits numbers counts) e

  never : (r : Checked) → Sound ≡ and_then r (first (refuse WorkLength true nan ∷ [])) → ⊥
  unfolding and_then first
  never (Err r) e =
      let f : Sound ≡ Err r = e in
      let z : zero ≡ 1 = cc in
      absurd (omega (arith, z))
  never (Ok _) e =
      let f : Sound ≡ Refused WorkLength nan = e in
      let z : zero ≡ 1 = cc in
      absurd (omega (arith, z))

  pub record RefusedBoth : Type 0 where
    pub by : Checked
    pub without : first (start_checks o j (length out) (length w₀) 0) ≡ by
    pub with_all : first (start_checks o j (length out) (length w₀) (length field) ++ state_checks numbers counts) ≡ by
    pub refused : Sound ≡ by → ⊥

  pub checks_not : fits numbers counts ≡ false → (Sound ≡ first (krylov_checks j.g j.tau j.count j.w o (length out) (length w₀)) → 0 < rows j) → RefusedBoth
  unfolding state_checks start_checks field_checks
  checks_not e h =
      let K = krylov_checks j.g j.tau j.count j.w o (length out) (length w₀) in
      record {
        by = and_then (first K) (first (refuse WorkLength true nan ∷ []));
        without = first_append K _ ∙ held_last (first K) _ (λ s. ap not (ne_eqb 0 (rows j + degree j) (λ z. absurd (omega (arith, z, h s)))));
        with_all = ap first (append_assoc K _ _) ∙ first_append K _ ∙ twice (first K) _ (fits numbers counts) e;
        refused = never (first K);
      }

  pub told_fits : {c : PausedCall StartAnswer} → fits numbers counts ≡ true → c ≡ start o j out w₀ field
      → told (start_state c.answer numbers counts) c.output c.memory c.field ≡ start_told o j out w₀ field numbers counts
  unfolding start_told start
  told_fits {c} e h = ap (λ (x : PausedCall StartAnswer). told (start_state x.answer numbers counts) x.output x.memory x.field) h ∙ rw (checks_fit e) refl

  -- where the state does not fit, a start on no field is refused as one on the whole field is
  refused_both : (r : Checked) → (Sound ≡ r → ⊥) → {c : PausedCall StartAnswer} → c ≡ start_unless r o j out w₀ []
      → told (start_state c.answer numbers counts) c.output c.memory field ≡ told (start_state (start_unless r o j out w₀ field).answer numbers counts) (start_unless r o j out w₀ field).output (start_unless r o j out w₀ field).memory (start_unless r o j out w₀ field).field
  unfolding start_unless
  refused_both (Err r) n h = ap (λ (x : PausedCall StartAnswer). told (start_state x.answer numbers counts) x.output x.memory field) h
  refused_both (Ok _) n h = absurd (n refl)

  pub told_not : {c : PausedCall StartAnswer} → fits numbers counts ≡ false → (Sound ≡ first (krylov_checks j.g j.tau j.count j.w o (length out) (length w₀)) → 0 < rows j) → c ≡ start o j out w₀ []
      → told (start_state c.answer numbers counts) c.output c.memory field ≡ start_told o j out w₀ field numbers counts
  unfolding start_told start
  told_not {c} e h r =
      let b = checks_not e h in
      rw b.with_all (refused_both _ b.refused (r ∙ rw b.without refl))

  -- the field from 0 on as far as it is lent
  pub start_is : {to : ℕ} {answer : StartAnswer} {st : State} {out₁ w₁ ys field₁ : List Float} → to ≡ (if fits numbers counts then length field else zero) → length ys ≡ length (take (to - 0) (drop 0 field))
      → (Sound ≡ first (krylov_checks j.g j.tau j.count j.w o (length out) (length w₀)) → 0 < rows j)
      → leaves answer out₁ w₁ ys ≡ start o j out w₀ (take (to - 0) (drop 0 field))
      → field₁ ≡ splice 0 ys field
      → st ≡ start_state answer numbers counts
      → told st out₁ w₁ field₁ ≡ start_told o j out w₀ field numbers counts
  start_is {to} {answer} {st} {out₁} {w₁} {ys} {field₁} et ly some h ef es = go (fits numbers counts) refl
    where
      lent : (n : ℕ) → to ≡ n → take (to - 0) (drop 0 field) ≡ take n field
      lent n e =
          let e₀ : to - 0 ≡ n = omega (arith, e) in
          ap (λ (x : ℕ). take x field) e₀

      go : (b : Bool) → fits numbers counts ≡ b → told st out₁ w₁ field₁ ≡ start_told o j out w₀ field numbers counts
      go true e =
          let to_is : to ≡ length field = rw e at et in
          let whole : take (to - 0) (drop 0 field) ≡ field = lent _ to_is ∙ take_all (length field) field (omega arith) in
          let ey : field₁ ≡ ys = ef ∙ splice_whole ys field (ly ∙ ap length whole) in
          (λ i. told (es i) out₁ w₁ (ey i)) ∙ told_fits e (h ∙ ap (start o j out w₀) whole)
      go false e =
          let to_is : to ≡ zero = rw e at et in
          let empty : take (to - 0) (drop 0 field) ≡ [] = lent _ to_is in
          let ey : field₁ ≡ field = ef ∙ ap (λ (x : List Float). splice 0 x field) (none_left ys (ly ∙ ap length empty)) ∙ splice_nil 0 field in
          (λ i. told (es i) out₁ w₁ (ey i)) ∙ told_not e some (h ∙ ap (start o j out w₀) empty)

-- a job over a matrix that passed has rows
pub some_rows : (a : Csr) (mass : Mass) (tau : Float) (count : ℕ) (w : List Float) (o : KrylovPhiOptions) (output memory : ℕ)
    → Sound ≡ first (krylov_checks (forward a mass) tau count w o output memory) → 0 < (forward a mass).matrix.n
unfolding krylov_checks krylov_checks_by generator_checks matrix_checks
some_rows a mass tau count w o output memory e =
    let g = (sound_append (generator_checks a mass) _ e).0 in
    let m = (sound_append (matrix_checks a) _ g).0 in
    rw (quotients_rows a mass) (shape_sound _ _ _ _ (sound_append _ _ m).0).some

-- ---- a step
pub told_step : (i : Input) (field numbers : List Float) (counts : List ℕ) {r : PausedRun} {t : Option Float} {answer : StepAnswer} {st : State} {out₁ w₁ field₁ : List Float} → r ≡ run_of numbers counts → t ≡ i.tolerance
    → leaves answer out₁ w₁ field₁ ≡ step r field (record { tolerance = t; job = i.job; output = i.output; memory = i.memory })
    → st ≡ step_state answer numbers counts
    → told st out₁ w₁ field₁ ≡ step_told i field numbers counts
unfolding step_told
told_step i field numbers counts {st = st} {out₁ = out₁} {w₁ = w₁} {field₁ = field₁} er et h es =
    (λ k. told (es k) out₁ w₁ field₁)
    ∙ ap (λ (x : PausedCall StepAnswer). told (step_state x.answer numbers counts) x.output x.memory x.field) (rw (er, et) at h)
