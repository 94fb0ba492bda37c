-- The turns of a run as the answers of a substep tell them. Assumes nothing.
use mathlib.Core.Path.{◌≡◌, sym, ap, ◌∙◌}
use mathlib.Core.Bool.{Bool, true, false}
use mathlib.Core.List.{List}
use Prim.Native.Nat.{ℕ, suc, ◌+◌, ◌≤◌}
use native.Mathlib.Nat.{le_of_eq}
use native.Mathlib.Omega.{arith}
use lib.ListN.{length}
use lib.Ieee.{Float}
use Rattle.lists.specs.Walk.{Turn, on, out}
use Rattle.phi_action_helpers.specs.declared.Layout.{Layout}
use Rattle.doubles.specs.F64.{◌⊖◌, 1f}
use Rattle.gram_schmidt.specs.Basis.{Setting, Basis, breakdown, full, arnoldi}
use Rattle.gram_schmidt.proofs.Products.{Products, basis_products}
use Rattle.gram_schmidt.specs.declared.Krylov.{Krylov}
use Rattle.trial_steps.specs.Trials.{Trying, Tried, accepted, stuck}
use Rattle.trial_steps.proofs.Few.{Few, trials_few}
use Rattle.krylov_advance.specs.Run.{State, End, applied_of, columns_of, counted, advance, unfinished, standing, settle, substep}
use Rattle.krylov_advance.specs.Memory.{state_at, progress_at, Moderate}
use Rattle.krylov_advance.specs.declared.Control.{Control}
use Rattle.krylov_advance.specs.declared.KrylovPhiReport.{KrylovPhiReport}
use Rattle.krylov_advance.specs.declared.Progress.{Progress}
use Rattle.krylov_advance.specs.declared.Progress.TheVariants.{On, Finished, Refused}

-- ---- one substep has at most M + 1 products and ten rejections
pub applied_few : (p : Setting) (y : List Float) (beta : Float) → applied_of (arnoldi p y beta) ≤ suc p.m
applied_few p y beta = go (arnoldi p y beta) (basis_products p y beta)
  where
    go : (b : Basis) → Products p.m b → applied_of b ≤ suc p.m
    go (breakdown b) h = omega (arith, h.0, h.2)
    go (full b avnorm) h = le_of_eq h.0

-- each column is multiplied once
pub each_once : (p : Setting) (y : List Float) (beta : Float) → applied_of (arnoldi p y beta) ≡ length (columns_of (arnoldi p y beta))
each_once p y beta = go (arnoldi p y beta) (basis_products p y beta)
  where
    go : (b : Basis) → Products p.m b → applied_of b ≡ length (columns_of b)
    go (breakdown b) h = h.0 ∙ sym h.1
    go (full b avnorm) h = h.0 ∙ sym h.1

abbrev More : ℕ → State → Turn State End → Type 0
More M s (on s') = (s'.report.matvecs ≤ s.report.matvecs + suc M) × (s'.report.substeps ≤ s.report.substeps + 1) × (s'.report.rejected ≤ s.report.rejected + 10)
More M s (out e) = Unit {0}

standing_more : (M : ℕ) (s s' : State) (b : Bool) → More M s (on s') → More M s (standing s' b)
standing_more M s s' true h = h
standing_more M s s' false h = tt

settle_more : (p : Setting) (s : State) (b : Basis) (o : Turn Trying Tried) → applied_of b ≤ suc p.m → Few 11 o → More p.m s (settle p s b o)
unfolding settle
settle_more p s b (on t) h f = tt
settle_more p s b (out (stuck arg)) h f = tt
settle_more p s b (out (accepted r t g err)) h f =
    let n = advance p s (applied_of b) (columns_of b) r t g err in
    standing_more p.m s n (unfinished n) (unfold advance counted in (omega (arith, h), omega arith, omega (arith, f)))

substep_more : (p : Setting) (s : State) → More p.m s (substep p s)
unfolding substep
substep_more p s = settle_more p s _ _ (applied_few p s.y s.control.beta) (trials_few p s.control.beta s.control.next (1f ⊖ s.control.time) _)

-- ---- as the answers tell it
module _ (l : Layout) (k : Krylov) where
  pub seen_on : (o : Progress) (w : List Float) (c : Control) (r : KrylovPhiReport) → o ≡ On c r → progress_at l k o w ≡ on (state_at l k c r w)
  unfolding progress_at
  seen_on o w c r e = ap (λ (u : Progress). progress_at l k u w) e

  pub moderate_turn : (p : Setting) (i : ℕ) (c : Control) (r : KrylovPhiReport) (w₀ w : List Float) (o : Progress) → p.m ≤ 128 → Moderate i (On c r)
      → progress_at l k o w ≡ substep p (state_at l k c r w₀) → Moderate (i + 1) o
  unfolding progress_at
  moderate_turn p i c r w₀ w (On c' r') m h e =
      let d : More p.m (state_at l k c r w₀) (on (state_at l k c' r' w)) = rw (← e) at (substep_more p (state_at l k c r w₀)) in
      (omega (arith, m, h.0, d.0), omega (arith, h.1, d.1), omega (arith, h.2, d.2))
  moderate_turn p i c r w₀ w (Finished c' r') m h e = tt
  moderate_turn p i c r w₀ w (Refused n c' r') m h e = tt
