-- How a run ends: with a result where it is not unfinished, with 28 or 29 in a substep that is not accepted; until then all its substeps were accepted. Assumes nothing.
use mathlib.Core.Path.{◌≡◌, refl, sym, subst}
use mathlib.Core.Logic.{◌⊎◌, inl, inr}
use mathlib.Core.Bool.{Bool, true, false}
use mathlib.Core.List.{List, [], ◌∷◌}
use Prim.Native.Nat.{ℕ, suc, ◌+◌, ◌≤◌, ◌<◌}
use native.Mathlib.Nat.{le_trans, le_of_eq, not-suc-le-zero, add-zero, zero-add}
use native.Mathlib.Omega.{arith}
use lib.ListN.{length}
use Rattle.lists.specs.Walk.{Turn, on, out}
use Rattle.gram_schmidt.specs.Basis.{Setting, Basis}
use Rattle.trial_steps.specs.Trials.{Trying, Tried, accepted, stuck}
use Rattle.krylov_advance.specs.Run.{State, End, finished, refused, applied_of, columns_of, counted, advance, unfinished, standing, settle, substep, started}
use Rattle.lists.proofs.Walk.{Kept}
use Rattle.demand_3.specs.Trace.{runs, Run, status_of}
use Rattle.demand_3.proofs.Counts.{basis_of, trials_of}
use Rattle.checks.specs.declared.Reason.TheVariants.{LengthsRejected, NoInnerPlan}

-- all substeps so far were accepted; the start alone is not asked whether it is unfinished
abbrev pub Going : ℕ → State → Type 0
Going i s = (s.report.substeps ≡ i) × (0 < i → unfinished s ≡ true)

-- with a result, or 28 or 29 from a state that is not asked or unfinished
abbrev pub Over : ℕ → End → Type 0
Over i (finished s) = (0 < s.report.substeps) × (s.report.substeps ≤ i) × (unfinished s ≡ false)
Over i (refused r x s) = ((r ≡ LengthsRejected) ⊎ (r ≡ NoInnerPlan)) × (s.report.substeps < i) × (0 < s.report.substeps → unfinished s ≡ true)

over_later : (i j : ℕ) (e : End) → i ≤ j → Over i e → Over j e
over_later i j (finished s) l h = (h.0, le_trans h.1 l, h.2)
over_later i j (refused r x s) l h = (h.0, le_trans h.1 l, h.2)

standing_kept : (i : ℕ) (s : State) (b : Bool) → s.report.substeps ≡ i + 1 → unfinished s ≡ b → Kept Going Over (i + 1) (standing s b)
standing_kept i s true e u = (e, (λ _. u))
standing_kept i s false e u = (omega (arith, e), le_of_eq e, u)

settle_kept : (p : Setting) (s : State) (b : Basis) (o : Turn Trying Tried) (i : ℕ) → Going i s → Kept Going Over (i + 1) (settle p s b o)
unfolding settle
settle_kept p s b (on t) i h = (inl refl, omega (arith, h.0), (λ k. h.1 (subst (λ (n : ℕ). 0 < n) h.0 k)))
settle_kept p s b (out (stuck arg)) i h = (inr refl, omega (arith, h.0), (λ k. h.1 (subst (λ (n : ℕ). 0 < n) h.0 k)))
settle_kept p s b (out (accepted r t f err)) i h =
    let n = advance p s (applied_of b) (columns_of b) r t f err in
    standing_kept i n (unfinished n) (unfold counted advance in omega (arith, h.0)) refl

substep_kept : (p : Setting) (i : ℕ) (s : State) → Going i s → Kept Going Over (i + 1) (substep p s)
unfolding substep
substep_kept p i s h = settle_kept p s (basis_of p s) (trials_of p s) i h

pub runs_kept : (ps : List Setting) (i : ℕ) (o : Turn State End) → Kept Going Over i o → Kept Going Over (i + length ps) (runs ps o)
unfolding runs
runs_kept [] i o h = subst (λ (n : ℕ). Kept Going Over n o) (sym (add-zero i)) h
runs_kept (p ∷ ps) i (on s) h = subst (λ (n : ℕ). Kept Going Over n (runs ps (substep p s))) (next i (length ps)) (runs_kept ps (i + 1) (substep p s) (substep_kept p i s h))
  where
    next : (i k : ℕ) → i + 1 + k ≡ i + suc k
    next i k = omega arith
runs_kept (p ∷ ps) i (out e) h = over_later i (i + suc (length ps)) e (omega arith) h

pub run_kept : (u : Run) → Kept Going Over (length u.settings) (status_of u)
run_kept u =
    subst (λ (n : ℕ). Kept Going Over n (status_of u)) (zero-add (length u.settings))
    (runs_kept u.settings 0 (on (started u.first u.field)) (unfold started in refl, (λ k. absurd (not-suc-le-zero k))))
