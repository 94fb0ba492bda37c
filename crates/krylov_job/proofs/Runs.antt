-- A Krylov run in the lent memory, from its first field to its end. Assumes nothing.
use mathlib.Core.Path.{◌≡◌, refl, sym, ap, ◌∙◌}
use mathlib.Core.Bool.{Bool, true}
use mathlib.Core.List.{List}
use Prim.Native.Nat.{ℕ, ◌+◌, ◌*◌, ◌≤◌}
use native.Mathlib.Omega.{arith}
use native.Mathlib.Nat.{add-zero}
use lib.ListN.{length}
use lib.Ieee.{Float}
use Rattle.lists.specs.Window.{window, splice}
use Rattle.lists.specs.Frame.{Kept}
use Rattle.lists.proofs.Bounds.{column_within}
use Rattle.lists.proofs.Window.{length_window, splice_whole, window_window}
use Rattle.doubles.specs.F64.{+0}
use Rattle.general_operator.specs.Csr.{csr}
use Rattle.generator_action.specs.Mass.{given, stored}
use Rattle.phi_action_helpers.specs.declared.Layout.{Layout}
use Rattle.phi_action_helpers.specs.Augmented.{augmented}
use Rattle.phi_action_helpers.specs.Laid.{Lined, matrix_at, operator_at}
use Rattle.combination.specs.Call.{ends, cleared}
use Rattle.taylor_schedule.specs.Inner.{matrix_of}
use Rattle.taylor_schedule.proofs.Stored.{Held}
use Rattle.taylor_schedule.proofs.Stored as job
use Rattle.gram_schmidt.specs.declared.Krylov.{Krylov}
use Rattle.gram_schmidt.specs.Memory.{Room}
use Rattle.krylov_advance.specs.Run.{End, expv}
use Rattle.krylov_advance.specs.Memory.{end_at}
use Rattle.krylov_advance.specs.declared.RunAnswer.{RunAnswer}
use Rattle.krylov_advance.specs.declared.RunAnswer.TheVariants.{Finished, Refused}
use Rattle.krylov_job.specs.KrylovCall.{krylov_need, after_run}
use Rattle.krylov_job.specs.Memory.{layout}
use Rattle.krylov_job.specs.Inner.{answer_of, Allowed, run_of}
use Rattle.krylov_job.specs.KrylovCall.{KrylovAnswer}
use Rattle.krylov_job.specs.declared.RunJob.{RunJob}

lined : (n d m : ℕ) (b : Bool) → Lined (layout n d m b)
lined n d m b =
    let i = column_within 0 (m + 1) (n + d) (omega arith) in
    let j = column_within (m + 1) (m + 3) (n + d) (omega arith) in
    record { field_first = omega (arith, i); then_term = omega (arith, j); then_product = omega arith }

behind : (n d m stored : ℕ) → (m + 3) * (n + d) + (m + 2) * (m + 2) + n + stored ≡ krylov_need n d m stored
unfolding krylov_need
behind n d m stored = omega arith

-- the field where the run left it
after_is : (n need : ℕ) (w₀ : List Float) (l : Layout) (k : Krylov) (r : RunAnswer) (w₂ : List Float)
    → ends (answer_of r) (window 0 n (window k.y (l.n + l.d) w₂)) (cleared need w₀) ≡ after_run n need w₀ (end_at l k r w₂)
unfolding after_run end_at answer_of
after_is n need w₀ l k (Finished c r) w₂ = refl
after_is n need w₀ l k (Refused e c r) w₂ = refl

module _
    {starts cols : List ℕ}
    {vals mass : List Float}
    {j : RunJob}
    (vectors w₀ : List Float)
    (al : Allowed starts cols vals mass j (length vectors) (length w₀))
    {l : Layout}
    (el : l ≡ layout j.g.n j.d j.k.m j.g.with_mass) where
  held : Held starts cols vals mass j.g j.d j.need l w₀
  held =
      rw el
      (record {
        passed = al.passed;
        enough = al.enough;
        rows = refl;
        chain = refl;
        given_mass = refl;
        behind = behind j.g.n j.d j.k.m j.g.stored ∙ sym al.needed;
      })

  pub store_fits : j.g.with_mass ≡ true → l.q + length vals ≤ length w₀
  store_fits = job.store_fits held

  module _ {w₁ : List Float} (e₁ : w₁ ≡ splice l.q (stored (csr j.g.n starts cols vals) (given j.g.with_mass mass)) w₀) where
    pub room : Room l j.b j.k (matrix_at l starts cols vals w₁) (length vals) (length vectors) (length w₁)
    room =
        let h_is = ap (λ (x : Krylov). x.h) al.placed in
        let y_is = ap (λ (x : Krylov). x.y) al.placed in
        let n = j.g.n + j.d in
        let i = column_within j.k.m (j.k.m + 1) n (omega arith) in
        let t = column_within (j.k.m + 1) (j.k.m + 2) n (omega arith) in
        let o = column_within (j.k.m + 2) (j.k.m + 3) n (omega arith) in
        record {
          laid = job.ready held e₁ vectors al.coupled (rw el (lined j.g.n j.d j.k.m j.g.with_mass));
          small = omega (arith, al.small);
          columns = rw el (omega (arith, i));
          then_h = rw el (omega (arith, t, h_is));
          then_y = omega (arith, h_is, y_is);
          then_av = rw el (omega (arith, o, y_is));
          then_q = rw el (omega arith);
        }

    pub operator_is : operator_at l j.b starts cols vals vectors w₁ ≡ augmented (matrix_of j.g starts cols vals mass) j.d vectors j.b.places j.b.gains j.b.count
    operator_is = job.operator_is held e₁ vectors al.coupled

    pub field_is : window j.k.y (l.n + l.d) w₁ ≡ window j.k.y (j.g.n + j.d) w₀
    field_is = job.front_is held e₁ j.k.y (l.n + l.d) (omega (arith, room.then_av, room.then_q)) ∙ rw (held.rows, held.chain) refl

    module _ {w₂ : List Float} (kept : Kept 0 l.q +0 w₁ w₂) where
      pub run_is : (r : RunAnswer) → end_at l j.k r w₂ ≡ expv (operator_at l j.b starts cols vals vectors w₁) j.k.tau j.k.anorm j.k.tol j.k.m j.limit (window j.k.y (l.n + l.d) w₁)
          → end_at (layout j.g.n j.d j.k.m j.g.with_mass) j.k r w₂ ≡ run_of j (matrix_of j.g starts cols vals mass) vectors (window j.k.y (j.g.n + j.d) w₀)
      run_is r e = ap (λ (x : Layout). end_at x j.k r w₂) (sym el) ∙ rw (operator_is, field_is) at e

      pub spared : cleared j.need w₂ ≡ cleared j.need w₀
      spared = job.cleared_is held e₁ kept refl

-- ---- what is handed out
pub done : (j : RunJob) (b : Bool) (w₀ out w₂ : List Float) {e : End} (r : RunAnswer) {x : KrylovAnswer} {out₁ w₃ : List Float}
    → end_at (layout j.g.n j.d j.k.m b) j.k r w₂ ≡ e
    → cleared j.need w₂ ≡ cleared j.need w₀
    → out₁ ≡ splice 0 (window j.k.y j.g.n w₂) out
    → w₃ ≡ cleared j.need w₂
    → x ≡ answer_of r
    → length out ≡ j.g.n
    → j.k.y + j.g.n ≤ length w₂
    → ends x out₁ w₃ ≡ after_run j.g.n j.need w₀ e
done j b w₀ out w₂ r {x} {out₁} {w₃} e c eo e₃ ex lo fits =
    let y = j.k.y in
    let n = j.g.n in
    let eo' = eo ∙ splice_whole _ out (length_window y n w₂ fits ∙ sym lo) ∙ sym (rw (add-zero y) at (window_window y (n + j.d) 0 n w₂ (omega arith))) in
    let e₃' = e₃ ∙ c in
    (λ i. ends (ex i) (eo' i) (e₃' i)) ∙ after_is n j.need w₀ (layout n j.d j.k.m b) j.k r w₂ ∙ ap (after_run n j.need w₀) e
