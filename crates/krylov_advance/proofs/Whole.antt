-- A run from the field in memory, scaled by a power of two and scaled back. Assumes nothing.
use mathlib.Core.Path.{◌≡◌, refl, sym, ap, ◌∙◌}
use mathlib.Core.List.{List}
use Prim.Native.Nat.{ℕ, ◌+◌, ◌≤◌}
use native.Mathlib.Omega.{arith}
use lib.ListN.{length}
use lib.Ieee.{Float}
use Rattle.std.specs.Prelude.{Some}
use Rattle.lists.specs.Frame.{Kept}
use Rattle.lists.specs.Walk.{on, walk}
use Rattle.lists.specs.Window.{window, splice}
use Rattle.lists.proofs.Frame.{Wrote, wrote, written, kept_all, kept_by}
use Rattle.lists.proofs.Window.{length_window}
use Rattle.doubles.specs.F64.{◌⊗◌, +0}
use Rattle.vectors.specs.Vectors.{scale}
use Rattle.vectors.proofs.Laws.{length_scale}
use Rattle.pow2.specs.declared.Scale.{Scale}
use Rattle.general_operator.specs.Csr.{Csr}
use Rattle.phi_action_helpers.specs.declared.Layout.{Layout}
use Rattle.phi_action_helpers.specs.declared.Coupling.{Coupling}
use Rattle.phi_action_helpers.specs.Laid.{matrix_at, operator_at}
use Rattle.phi_action_helpers.proofs.Sweeps.{values_kept}
use Rattle.gram_schmidt.specs.Basis.{norm2}
use Rattle.gram_schmidt.specs.Memory.{setting_at, Room}
use Rattle.gram_schmidt.specs.declared.Krylov.{Krylov}
use Rattle.krylov_advance.specs.Run.{empty_report, first_length, substep, spent, run, started, back, clamp_m, expv_by}
use Rattle.krylov_advance.specs.Memory.{state_at, end_at}
use Rattle.krylov_advance.specs.declared.RunAnswer.{RunAnswer}
use Rattle.krylov_advance.specs.declared.RunAnswer.TheVariants.{Finished, Refused}

module _ (l : Layout) (b : Coupling) (k : Krylov) (q : Csr) (vectors w : List Float) where
  pub begins : (limit : ℕ) {beta next : Float} → beta ≡ norm2 (window k.y (l.n + l.d) w) → next ≡ first_length k.m k.anorm k.tol beta
      → spent (walk (λ _. substep (setting_at l b k q vectors)) limit 0 (on (state_at l k (record { time = +0; next = next; beta = beta }) empty_report w)))
      ≡ run (setting_at l b k q vectors) limit (started (setting_at l b k q vectors) (window k.y (l.n + l.d) w))
  unfolding run started
  begins limit e d = rw (d, e) refl

-- what a run keeps the same, with the tolerance made absolute
abbrev pub absolute : Krylov → Float → Krylov
absolute k beta = record { m = k.m; h = k.h; y = k.y; tau = k.tau; anorm = k.anorm; tol = k.tol ⊗ beta }

pub room_absolute : {l : Layout} {b : Coupling} {k : Krylov} {q : Csr} {v x w : ℕ} (beta : Float) → Room l b k q v x w → Room l b (absolute k beta) q v x w
room_absolute beta r = record { laid = r.laid; small = r.small; columns = r.columns; then_h = r.then_h; then_y = r.then_y; then_av = r.then_av; then_q = r.then_q }

end_absolute : (l : Layout) (k : Krylov) (beta : Float) (o : RunAnswer) (w : List Float) → end_at l (absolute k beta) o w ≡ end_at l k o w
unfolding end_at
end_absolute l k beta (Finished c r) w = refl
end_absolute l k beta (Refused e c r) w = refl

-- the field by a factor
module _ (l : Layout) (k : Krylov) (by : Float) (w₀ w : List Float) (room : k.y + (l.n + l.d) ≤ length w₀) (e : w ≡ splice k.y (scale by (window k.y (l.n + l.d) w₀)) w₀) where
  changed : Wrote k.y (l.n + l.d) (scale by (window k.y (l.n + l.d) w₀)) w₀ w
  changed = wrote k.y (l.n + l.d) (scale by (window k.y (l.n + l.d) w₀)) w₀ w (length_scale by _ ∙ length_window k.y (l.n + l.d) w₀ room) e

  pub scaled_field : window k.y (l.n + l.d) w ≡ scale by (window k.y (l.n + l.d) w₀)
  scaled_field = written changed room

  pub scaled_kept : k.y + (l.n + l.d) ≤ l.q → Kept 0 l.q +0 w₀ w
  scaled_kept h = kept_by (kept_all 0 l.q +0 w₀) changed (omega arith) (omega arith)

module _ (l : Layout) (b : Coupling) (k : Krylov) (starts cols : List ℕ) (vals vectors : List Float) (limit : ℕ) (f : Scale) (w₀ w₁ : List Float)
    (clamped : clamp_m k.m (l.n + l.d) ≡ k.m) (room : k.y + (l.n + l.d) ≤ length w₀) (within : k.y + (l.n + l.d) ≤ l.q)
    (e₁ : w₁ ≡ splice k.y (scale f.down (window k.y (l.n + l.d) w₀)) w₀) {beta : Float} (eb : beta ≡ norm2 (window k.y (l.n + l.d) w₁)) where
  pub scaled_is : (x o : RunAnswer) (w₂ w₃ : List Float)
      → end_at l k x w₃ ≡ back f.up beta (end_at l k o w₂)
      → end_at l (absolute k beta) o w₂ ≡ run (setting_at l b (absolute k beta) (matrix_at l starts cols vals w₁) vectors) limit (started (setting_at l b (absolute k beta) (matrix_at l starts cols vals w₁) vectors) (window k.y (l.n + l.d) w₁))
      → end_at l k x w₃ ≡ expv_by (operator_at l b starts cols vals vectors w₀) k.tau k.anorm k.tol k.m limit (window k.y (l.n + l.d) w₀) (Some f)
  unfolding expv_by
  scaled_is x o w₂ w₃ r s =
      let y : window k.y (l.n + l.d) w₁ ≡ scale f.down (window k.y (l.n + l.d) w₀) = scaled_field l k f.down w₀ w₁ room e₁ in
      let v = values_kept l.mass l.q vals w₀ w₁ (scaled_kept l k f.down w₀ w₁ room e₁ within) in
      let n = length_window k.y (l.n + l.d) w₀ room in
      let m : clamp_m k.m (length (window k.y (l.n + l.d) w₀)) ≡ k.m = rw n clamped in
      r ∙ ap (back f.up beta) (sym (end_absolute l k beta o w₂) ∙ s) ∙ rw (eb, y, v, m) refl
