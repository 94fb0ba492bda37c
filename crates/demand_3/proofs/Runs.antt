-- Going through substeps, each with its own setting: after some of them come the others, and with one setting for all it is the walk of a whole run. Assumes nothing.
use mathlib.Core.Path.{◌≡◌, refl, sym, ap, ◌∙◌}
use mathlib.Core.List.{List, [], ◌∷◌, ◌++◌, map, append_assoc}
use Prim.Native.Nat.{ℕ, zero, suc, ◌+◌}
use lib.ListN.{length, replicate, take}
use Rattle.lists.specs.Walk.{Turn, on, out, walk}
use Rattle.gram_schmidt.specs.Basis.{Setting, Basis, arnoldi}
use Rattle.trial_steps.specs.Trials.{Trying, Tried, accepted, stuck}
use Rattle.krylov_advance.specs.Run.{State, End, refused, applied_of, columns_of, advance, unfinished, standing, settle, substep, spent, run}
use Rattle.demand_3.specs.Trace.{Accepted, Attempt, accepted_in, made, runs, trace, tried_on, attempts}
use Rattle.checks.specs.declared.Reason.TheVariants.{LengthsRejected, NoInnerPlan}

-- ---- an ended run stays as it is
pub runs_over : (ps : List Setting) (e : End) → runs ps (out e) ≡ out e
unfolding runs
runs_over [] e = refl
runs_over (p ∷ ps) e = refl

pub trace_over : (ps : List Setting) (e : End) → trace ps (out e) ≡ []
unfolding trace
trace_over [] e = refl
trace_over (p ∷ ps) e = refl

pub attempts_over : (ps : List Setting) (e : End) → attempts ps (out e) ≡ []
unfolding attempts
attempts_over [] e = refl
attempts_over (p ∷ ps) e = refl

-- ---- some substeps, then others
pub runs_append : (ps qs : List Setting) (o : Turn State End) → runs (ps ++ qs) o ≡ runs qs (runs ps o)
unfolding runs
runs_append [] qs o = refl
runs_append (p ∷ ps) qs (on s) = runs_append ps qs (substep p s)
runs_append (p ∷ ps) qs (out e) = sym (runs_over qs e)

pub trace_append : (ps qs : List Setting) (o : Turn State End) → trace (ps ++ qs) o ≡ trace ps o ++ trace qs (runs ps o)
unfolding runs trace
trace_append [] qs o = refl
trace_append (p ∷ ps) qs (on s) = ap (λ (l : List Accepted). made p s ++ l) (trace_append ps qs (substep p s)) ∙ sym (append_assoc (made p s) (trace ps (substep p s)) (trace qs (runs ps (substep p s))))
trace_append (p ∷ ps) qs (out e) = sym (trace_over qs e)

pub attempts_append : (ps qs : List Setting) (o : Turn State End) → attempts (ps ++ qs) o ≡ attempts ps o ++ attempts qs (runs ps o)
unfolding runs attempts
attempts_append [] qs o = refl
attempts_append (p ∷ ps) qs (on s) =
    let here = tried_on p s (arnoldi p s.y s.control.beta) in
    ap (λ (l : List Attempt). here ++ l) (attempts_append ps qs (substep p s)) ∙ sym (append_assoc here (attempts ps (substep p s)) (attempts qs (runs ps (substep p s))))
attempts_append (p ∷ ps) qs (out e) = sym (attempts_over qs e)

pub runs_next : (ps : List Setting) (p : Setting) (o : Turn State End) (s : State) → runs ps o ≡ on s → runs (ps ++ (p ∷ [])) o ≡ substep p s
unfolding runs
runs_next ps p o s e = runs_append ps (p ∷ []) o ∙ ap (runs (p ∷ [])) e

-- ---- the same setting for all
pub walk_runs : (p : Setting) (k i : ℕ) (o : Turn State End) → walk (λ _ t. substep p t) k i o ≡ runs (replicate k p) o
unfolding walk runs
walk_runs p zero i o = refl
walk_runs p (suc k) i (on s) = walk_runs p k (i + 1) (substep p s)
walk_runs p (suc k) i (out e) = refl

pub run_runs : (p : Setting) (limit : ℕ) (s : State) → run p limit s ≡ spent (runs (replicate limit p) (on s))
unfolding run
run_runs p limit s = ap spent (walk_runs p limit 0 (on s))

-- ---- the substeps accepted are the first, each made with its own setting
abbrev settings_in : List Accepted → List Setting
settings_in l = map (λ a. a.setting) l

settle_settings : (p : Setting) (ps : List Setting) (s : State) (b : Basis) (later : Turn State End → List Accepted) → ((e : End) → later (out e) ≡ [])
    → ((o : Turn State End) → settings_in (later o) ≡ take (length (later o)) ps)
    → (o : Turn Trying Tried) → settings_in (accepted_in p s b o ++ later (settle p s b o)) ≡ take (length (accepted_in p s b o ++ later (settle p s b o))) (p ∷ ps)
unfolding settle accepted_in
settle_settings p ps s b later none rest (on t) = rw (none (refused LengthsRejected p.tol s)) refl
settle_settings p ps s b later none rest (out (stuck arg)) = rw (none (refused NoInnerPlan arg s)) refl
settle_settings p ps s b later none rest (out (accepted r t f err)) =
    let n = advance p s (applied_of b) (columns_of b) r t f err in
    ap (λ (l : List Setting). p ∷ l) (rest (standing n (unfinished n)))

pub trace_settings : (ps : List Setting) (o : Turn State End) → settings_in (trace ps o) ≡ take (length (trace ps o)) ps
unfolding trace made substep
trace_settings [] o = refl
trace_settings (p ∷ ps) (on s) = settle_settings p ps s _ (trace ps) (trace_over ps) (trace_settings ps) _
trace_settings (p ∷ ps) (out e) = refl
