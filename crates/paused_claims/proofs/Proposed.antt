-- The step that a run's state proposes is that of its last accepted substep. Assumes nothing.
use mathlib.Core.Path.{◌≡◌, refl, sym, ap, ◌∙◌}
use mathlib.Core.List.{List, [], ◌∷◌, ◌++◌}
use lib.Ieee.{Float}
use Rattle.lists.specs.Walk.{Turn, on, out}
use Rattle.doubles.specs.F64.{◌⊕◌}
use Rattle.gram_schmidt.specs.Basis.{Setting, Basis, norm2}
use Rattle.trial_steps.specs.Trials.{Trying, Tried, accepted, stuck}
use Rattle.krylov_advance.specs.Run.{State, End, applied_of, columns_of, advance, unfinished, settle, substep, started}
use Rattle.demand_3.specs.Trace.{Accepted, accepted_in, made, runs, trace, time_after, Run, status_of}
use Rattle.demand_3.proofs.Counts.{reached, basis_of, trials_of, standing_state}
use Rattle.paused_claims.specs.Steps.{proposed, proposed_after, proposed_of}

proposed_append : (x time : Float) (l l' : List Accepted) → proposed_after x time (l ++ l') ≡ proposed_after (proposed_after x time l) (time_after time l) l'
unfolding proposed_after time_after
proposed_append x time [] l' = refl
proposed_append x time (a ∷ l) l' = proposed_append (proposed (time ⊕ a.t) a) (time ⊕ a.t) l l'

settle_proposed : (p : Setting) (s : State) (b : Basis) (o : Turn Trying Tried)
    → let t = (reached (settle p s b o)).control in (t.next ≡ proposed_after s.control.next s.control.time (accepted_in p s b o)) × (t.time ≡ time_after s.control.time (accepted_in p s b o))
unfolding settle accepted_in proposed_after proposed time_after
settle_proposed p s b (on t) = (refl, refl)
settle_proposed p s b (out (stuck arg)) = (refl, refl)
settle_proposed p s b (out (accepted r t f err)) =
    let n = advance p s (applied_of b) (columns_of b) r t f err in
    let e = standing_state n (unfinished n) in
    (ap (λ (z : State). z.control.next) e ∙ (unfold advance in refl), ap (λ (z : State). z.control.time) e ∙ (unfold advance in refl))

runs_proposed : (ps : List Setting) (o : Turn State End) → (reached (runs ps o)).control.next ≡ proposed_after (reached o).control.next (reached o).control.time (trace ps o)
unfolding runs trace made substep proposed_after
runs_proposed [] o = refl
runs_proposed (p ∷ ps) (on s) =
    let h = settle_proposed p s (basis_of p s) (trials_of p s) in
    runs_proposed ps (substep p s)
    ∙ (λ k. proposed_after (h.0 k) (h.1 k) (trace ps (substep p s)))
    ∙ sym (proposed_append s.control.next s.control.time (made p s) (trace ps (substep p s)))
runs_proposed (p ∷ ps) (out e) = refl

pub run_proposed : (u : Run) → (reached (status_of u)).control.next ≡ proposed_of u
unfolding started norm2
run_proposed u = runs_proposed u.settings (on (started u.first u.field))
