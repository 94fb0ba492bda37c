-- The turns and the answer of a run on lists. Assumes nothing.
use mathlib.Core.List.{List, [], ◌∷◌}
use mathlib.Core.Path.{◌≡◌, refl, ap, ◌∙◌}
use Prim.Native.Nat.{ℕ, ◌+◌, ◌*◌, ◌≤◌}
use native.Mathlib.Numerals.{add-one}
use native.Mathlib.Omega.{arith}
use lib.ListN.{length, get_or, replicate, length-replicate}
use lib.Ieee.{Float}
use Rattle.std.specs.Prelude.{Result, Ok, Err}
use Rattle.lists.specs.Loop.{tabulate}
use Rattle.lists.specs.Walk.{Turn, on, walk}
use Rattle.lists.specs.Window.{window, splice}
use Rattle.lists.proofs.Frame.{wrote, written, untouched, wrote_long}
use Rattle.lists.proofs.Loop.{get_d_tabulate}
use Rattle.lists.proofs.Walk.{Left, left_out, left_none}
use Rattle.lists.proofs.Window.{length_window}
use Rattle.doubles.specs.F64.{◌⊘◌, +0, 1f}
use Rattle.vectors.specs.Vectors.{scale}
use Rattle.vectors.proofs.Laws.{length_scale}
use Rattle.general_operator.specs.Csr.{Csr}
use Rattle.phi_action_helpers.specs.declared.Layout.{Layout}
use Rattle.phi_action_helpers.specs.declared.Coupling.{Coupling}
use Rattle.phi_action_helpers.specs.Laid.{matrix_at}
use Rattle.phi_action_helpers.proofs.Sweeps.{values_kept}
use Rattle.gram_schmidt.specs.Basis.{Setting, Columns, Breakdown, arnoldi_step, close, first_column, arnoldi}
use Rattle.gram_schmidt.specs.Memory.{setting_at, Room, Spared, column, columns_at, grown_at, basis_at, Ended}
use Rattle.gram_schmidt.specs.declared.Krylov.{Krylov}
use Rattle.gram_schmidt.specs.declared.Broken.{Broken}
use Rattle.gram_schmidt.specs.declared.Full.{Full}
use Rattle.gram_schmidt.proofs.Turns.{spared_all, spared_by}

-- ---- the loop
module _ (l : Layout) (k : Krylov) where
  -- it is left by a breakdown, which stands for the same after however many turns
  pub left_broken : (step : ℕ → Columns → Turn Columns Breakdown) (m j : ℕ) (s : Turn Columns Breakdown) (w : List Float) (e : Broken) → Left step m j s (grown_at l k j (Err e) w) → grown_at l k m (Err e) w ≡ walk step m 0 s
  unfolding grown_at
  left_broken step m j s w e h = left_out h _ refl

  -- or after turn m
  pub left_whole : (step : ℕ → Columns → Turn Columns Breakdown) (m j : ℕ) (s : Turn Columns Breakdown) (w : List Float) (a : ℕ) → Left step m j s (on (columns_at l k (j + 1) a w)) → j ≤ m → m ≤ j → grown_at l k m (Ok a) w ≡ walk step m 0 s
  unfolding grown_at
  left_whole step m j s w a h le ge =
      let e : m ≡ j = omega arith in
      ap (λ (i : ℕ). on (columns_at l k (i + 1) a w)) e ∙ left_none h ge

  -- ---- the answer
  pub closed_on : (b : Coupling) (q : Csr) (vectors : List Float) (a : ℕ) (w₀ w₁ : List Float) (avnorm : Float) → Ended l k (setting_at l b k q vectors) w₀ w₁ avnorm
      → basis_at l k (Ok (record { applied = a + 1; avnorm = avnorm })) w₁ ≡ close (setting_at l b k q vectors) (grown_at l k k.m (Ok a) w₀)
  unfolding basis_at grown_at close
  closed_on b q vectors a w₀ w₁ avnorm t =
      let v = column (l.n + l.d) w₀ in
      let g : get_or (tabulate (k.m + 1) v) k.m [] ≡ v k.m = get_d_tabulate (k.m + 1) v k.m [] (omega arith) in
      rw (t.v_is, t.h_is, t.avnorm_is, add-one a, g)

  pub closed_broken : (p : Setting) (e : Broken) (w : List Float) → basis_at l k (Err e) w ≡ close p (grown_at l k k.m (Err e) w)
  unfolding basis_at grown_at close
  closed_broken p e w = refl

-- ---- the first column and the clear matrix
pub begun : (l : Layout) (b : Coupling) (k : Krylov) (q : Csr) (vectors : List Float) (beta : Float) {v x : ℕ} (w₀ w₁ : List Float) → Room l b k q v x (length w₀)
    → w₁ ≡ splice 0 (scale (1f ⊘ beta) (window k.y (l.n + l.d) w₀)) (splice k.h (replicate ((k.m + 2) * (k.m + 2)) +0) w₀)
    → (columns_at l k 1 0 w₁ ≡ first_column (setting_at l b k q vectors) (window k.y (l.n + l.d) w₀) beta) × Spared l k w₀ w₁
unfolding first_column column tabulate
begun l b k q vectors beta w₀ w₁ r e =
    let m = l.n + l.d in
    let dd = (k.m + 2) * (k.m + 2) in
    let t₀ = wrote k.h dd (replicate dd +0) w₀ _ (length-replicate dd +0) refl in
    let l₀ = wrote_long t₀ in
    let t₁ = wrote 0 m (scale (1f ⊘ beta) (window k.y m w₀)) _ w₁ (length_scale _ _ ∙ length_window k.y m w₀ (omega arith)) e in
    let z : 0 * m ≡ 0 = omega arith in
    let vs : window (0 * m) m w₁ ≡ scale (1f ⊘ beta) (window k.y m w₀) = ap (λ (i : ℕ). window i m w₁) z ∙ written t₁ (omega arith) in
    let hs : window k.h dd w₁ ≡ replicate dd +0 = untouched t₁ k.h dd (omega arith) ∙ written t₀ (omega arith) in
    ((λ i. record { v = vs i ∷ []; h = hs i; applied = 0 }), spared_by (spared_by (spared_all w₀) t₀ (omega arith) (omega arith)) t₁ (omega arith) (omega arith))

-- ---- all of it
module _ (l : Layout) (b : Coupling) (k : Krylov) (starts cols : List ℕ) (vals vectors : List Float) where
  pub made : (beta : Float) (w₀ w₁ w₂ w₃ : List Float) (o : Result ℕ Broken) (r : Result Full Broken)
      → columns_at l k 1 0 w₁ ≡ first_column (setting_at l b k (matrix_at l starts cols vals w₀) vectors) (window k.y (l.n + l.d) w₀) beta
      → Spared l k w₀ w₁
      → grown_at l k k.m o w₂ ≡ walk (arnoldi_step (setting_at l b k (matrix_at l starts cols vals w₁) vectors) beta) k.m 0 (on (columns_at l k 1 0 w₁))
      → Spared l k w₁ w₂
      → basis_at l k r w₃ ≡ close (setting_at l b k (matrix_at l starts cols vals w₂) vectors) (grown_at l k k.m o w₂)
      → basis_at l k r w₃ ≡ arnoldi (setting_at l b k (matrix_at l starts cols vals w₀) vectors) (window k.y (l.n + l.d) w₀) beta
  unfolding arnoldi
  made beta w₀ w₁ w₂ w₃ o r e₁ s₁ e₂ s₂ e₃ =
      e₃ ∙ rw (e₂, e₁, values_kept l.mass l.q vals w₁ w₂ s₂.kept, values_kept l.mass l.q vals w₀ w₁ s₁.kept)
