-- The Krylov half of demand 3 for `expv`: what a run that gave a result did, and 27 exactly at the limit. Assumes nothing.
use Rattle.std.specs.Prelude.{if◌then◌else◌, Option, Some, None}
use mathlib.Core.Path.{◌≡◌, refl, sym, ap, ◌∙◌, subst}
use mathlib.Core.Logic.{◌⊎◌, inl, inr}
use mathlib.Core.Bool.{Bool, true, false}
use mathlib.Core.List.{List}
use Prim.Native.Nat.{ℕ, zero, suc, ◌<◌}
use native.Mathlib.Nat.{le_of_eq}
use native.Mathlib.Omega.{arith}
use lib.Dec.{T}
use lib.ListN.{length, replicate, length-replicate}
use lib.Ieee.{Float, eq}
use Rattle.lists.specs.Walk.{Turn, on, out}
use Rattle.lists.specs.Window.{window}
use Rattle.doubles.specs.F64.{◌⋖◌, +0, 1f, at, is_finite}
use Rattle.pow2.specs.Pow2.{sup, pow2_scale}
use Rattle.pow2.specs.declared.Scale.{Scale}
use Rattle.pow2.proofs.Largest.{sup_zero, zero_sup}
use Rattle.phi_action_helpers.specs.Augmented.{Augmented}
use Rattle.gram_schmidt.specs.Basis.{Setting, norm2}
use Rattle.krylov_advance.specs.Run.{State, End, finished, refused, spent, run, started, scaled_back, back, clamp_m, idle, expv_by, expv}
use Rattle.demand_3.specs.Trace.{trace, Run, scaled, allowed, run_by, run_of, status_of, accepted_by, time_of, field_of, estimate_of}
use Rattle.demand_3.specs.Krylov.{Each, Zeros, KrylovCost}
use Rattle.demand_3.proofs.Runs.{run_runs}
use Rattle.demand_3.proofs.Counts.{last, reached, Recorded, run_recorded}
use Rattle.demand_3.proofs.Moments.{state_of, Stands, run_stands, goes_on, finished_cost, idle_cost}
use Rattle.checks.specs.declared.Reason.TheVariants.{SubstepLimit, LengthsRejected, NoInnerPlan}
use Rattle.checks.specs.declared.Reason.{Reason}
use Rattle.checks.specs.Reasons.{number as numbered}

-- ---- all values are zeros exactly where there are no factors
abbrev pub Finite : List Float → Type 0
Finite y = (i : ℕ) → i < length y → is_finite (at y i) ≡ true

pub none_zeros : (y : List Float) → Finite y → pow2_scale y ≡ None → Zeros y
unfolding pow2_scale
none_zeros y fin e = sup_zero y fin (go (eq (sup y) +0) _ e)
  where
    go : (b : Bool) (s : Scale) → (if b then None else Some s) ≡ None → b ≡ true
    go true s e = refl
    go false s e = let z : zero ≡ 1 = cc in absurd (omega (arith, z))

pub zeros_none : (y : List Float) → Zeros y → pow2_scale y ≡ None
unfolding pow2_scale
zeros_none y z = rw (zero_sup y z) refl

pub by_not_zeros : (y : List Float) (f : Scale) → pow2_scale y ≡ Some f → Zeros y → ⊥
by_not_zeros y f e z = let k : None ≡ Some f = sym (zeros_none y z) ∙ e in let o : zero ≡ 1 = cc in absurd (omega (arith, o))

-- ---- the run from y to its end, each substep with the setting p
not_27 : (r : Reason) → (r ≡ LengthsRejected) ⊎ (r ≡ NoInnerPlan) → numbered r ≡ 27 → ⊥
not_27 r (inl e) h = omega (arith, ap numbered e, h)
not_27 r (inr e) h = omega (arith, ap numbered e, h)

same_m : (p : Setting) (k : ℕ) → Each (λ q. q.m ≡ p.m) (replicate k p)
same_m p zero = tt
same_m p (suc k) = (refl, same_m p k)

module _ (p : Setting) (limit : ℕ) (y : List Float) (f : Option Scale) where
  abbrev u : Run
  u = record { first = p; settings = replicate limit p; field = y; prescale = f }

  -- a result is that of its last substep
  pub finished_status : (s : State) → run p limit (started p y) ≡ finished s → status_of u ≡ out (finished s)
  unfolding spent
  finished_status s e = go (status_of u) (sym (run_runs p limit (started p y)) ∙ e)
    where
      go : (o : Turn State End) → spent o ≡ finished s → o ≡ out (finished s)
      go (on t) h = let z : zero ≡ 1 = cc in absurd (omega (arith, z))
      go (out t) h = ap (λ (x : End). out x) h

  -- ---- 27
  pub only_27 : (x : Float) (s : State) → 0 < limit → run p limit (started p y) ≡ refused SubstepLimit x s
      → (length (accepted_by u) ≡ limit) × T (time_of u ⋖ 1f) × (eq (norm2 (field_of u)) +0 ≡ false) × (x ≡ estimate_of u)
  unfolding spent norm2
  only_27 x s some e = go (status_of u) (run_stands u) (run_recorded u) (sym (run_runs p limit (started p y)) ∙ e)
    where
      told : End → Float
      told (finished t) = x
      told (refused r z t) = z

      number : End → ℕ
      number (finished t) = 0
      number (refused r z t) = numbered r

      go : (o : Turn State End) → Stands u o → Recorded y (accepted_by u) (reached o) → spent o ≡ refused SubstepLimit x s
          → (length (accepted_by u) ≡ limit) × T (time_of u ⋖ 1f) × (eq (norm2 (field_of u)) +0 ≡ false) × (x ≡ estimate_of u)
      go (on t) h c k =
          let n = h.all ∙ length-replicate limit p in
          (n, h.below_one, h.norm_left (subst (λ (i : ℕ). 0 < i) (sym n) some), sym (ap told k) ∙ c.estimate)
      go (out (finished t)) h c k = let z : zero ≡ 1 = cc in absurd (omega (arith, z))
      go (out (refused r z t)) h c k = absurd (not_27 r h.number (ap number k))

  pub if_27 : length (accepted_by u) ≡ limit → T (time_of u ⋖ 1f) → eq (norm2 (field_of u)) +0 ≡ false → (s : State) × (run p limit (started p y) ≡ refused SubstepLimit (estimate_of u) s)
  unfolding spent norm2
  if_27 n t b =
      let s = state_of u in
      let g = goes_on u (record { all = n ∙ sym (length-replicate limit p); below_one = t; norm_left = λ _. b }) in
      (s, run_runs p limit (started p y) ∙ ap spent g ∙ ap (λ (x : Float). refused SubstepLimit x s) (run_recorded u).estimate)

  -- a run refuses by 27, 28 or 29
  pub run_late : (r : Reason) (x : Float) (s : State) → run p limit (started p y) ≡ refused r x s → (26 < numbered r) × (numbered r < 30)
  unfolding spent
  run_late r x s e = go (status_of u) (run_stands u) (sym (run_runs p limit (started p y)) ∙ e)
    where
      number : End → ℕ
      number (finished t) = 0
      number (refused k z t) = numbered k

      go : (o : Turn State End) → Stands u o → spent o ≡ refused r x s → (26 < numbered r) × (numbered r < 30)
      go (on t) h k = let i : 27 ≡ numbered r = ap number k in (omega (arith, i), omega (arith, i))
      go (out (finished t)) h k = let z : zero ≡ 1 = cc in absurd (omega (arith, z))
      go (out (refused j z t)) h k = elim h.number [
        | inl i ↦ let d = ap numbered i in let e = ap number k in (omega (arith, d, e), omega (arith, d, e))
        | inr i ↦ let d = ap numbered i in let e = ap number k in (omega (arith, d, e), omega (arith, d, e))
      ]

-- ---- `expv`
module _ (b : Augmented) (tau anorm tol : Float) (m limit : ℕ) (y : List Float) where
  cost_by : (f : Option Scale) {n : ℕ} {s : State} → pow2_scale y ≡ f → Finite y → expv_by b tau anorm tol m limit y f ≡ finished s → KrylovCost n (clamp_m m (length y)) limit y (window 0 n s.y) (run_by b tau anorm tol m limit y f) s.report
  unfolding expv_by run_by scaled allowed back scaled_back idle
  cost_by None {n} {s} e fin g =
      let w = run_by b tau anorm tol m limit y None in
      subst (λ (z : State). KrylovCost n (clamp_m m (length y)) limit y (window 0 n z.y) w z.report) (ap last g) (idle_cost n (clamp_m m (length y)) limit w.first y (none_zeros y fin e))
  cost_by (Some f) {n} {s} e fin g = go (run _ limit (started _ _)) refl g
    where
      w : Run
      w = run_by b tau anorm tol m limit y (Some f)

      M : ℕ
      M = clamp_m m (length y)

      go : (x : End) → run w.first limit (started w.first w.field) ≡ x → back f.up (norm2 w.field) x ≡ finished s → KrylovCost n M limit y (window 0 n s.y) w s.report
      go (finished t) h k =
          let q = finished_status w.first limit w.field (Some f) t h in
          let c = finished_cost w n M limit y f refl (same_m w.first limit) (le_of_eq (length-replicate limit w.first)) (by_not_zeros y f e) (subst (Stands w) q (run_stands w)) in
          subst (λ (z : State). KrylovCost n M limit y (window 0 n z.y) w z.report) (ap (λ (o : Turn State End). scaled_back f.up (norm2 w.field) (reached o)) q ∙ ap last k) c
      go (refused r x t) h k = let o : zero ≡ 1 = cc in absurd (omega (arith, o))

  pub expv_cost : {n : ℕ} {s : State} → Finite y → expv b tau anorm tol m limit y ≡ finished s → KrylovCost n (clamp_m m (length y)) limit y (window 0 n s.y) (run_of b tau anorm tol m limit y) s.report
  unfolding expv run_of
  expv_cost fin g = cost_by (pow2_scale y) refl fin g

  -- ---- 27
  abbrev Limit : Run → Float → Type 0
  Limit u x = (length (accepted_by u) ≡ limit) × T (time_of u ⋖ 1f) × (eq (norm2 (field_of u)) +0 ≡ false) × (x ≡ estimate_of u)

  only_by : (f : Option Scale) {x : Float} {s : State} → 0 < limit → expv_by b tau anorm tol m limit y f ≡ refused SubstepLimit x s → Limit (run_by b tau anorm tol m limit y f) x
  unfolding expv_by run_by scaled allowed back
  only_by None some g = let o : zero ≡ 1 = cc in absurd (omega (arith, o))
  only_by (Some f) {x} {s} some g = go (run _ limit (started _ _)) refl g
    where
      p : Setting
      p = (run_by b tau anorm tol m limit y (Some f)).first

      y₀ : List Float
      y₀ = (run_by b tau anorm tol m limit y (Some f)).field

      why : End → Reason
      why (finished t) = SubstepLimit
      why (refused r z t) = r

      told : End → Float
      told (finished t) = x
      told (refused r z t) = z

      go : (e : End) → run p limit (started p y₀) ≡ e → back f.up (norm2 y₀) e ≡ refused SubstepLimit x s → Limit (run_by b tau anorm tol m limit y (Some f)) x
      go (finished t) h k = let o : zero ≡ 1 = cc in absurd (omega (arith, o))
      go (refused r z t) h k =
          only_27 p limit y₀ (Some f) x t some (h ∙ ap (λ (i : Reason). refused i z t) (ap why k) ∙ ap (λ (d : Float). refused SubstepLimit d t) (ap told k))

  pub expv_only_27 : {x : Float} {s : State} → 0 < limit → expv b tau anorm tol m limit y ≡ refused SubstepLimit x s → Limit (run_of b tau anorm tol m limit y) x
  unfolding expv run_of
  expv_only_27 some g = only_by (pow2_scale y) some g

  if_by : (f : Option Scale) {x : Float} → 0 < limit → Limit (run_by b tau anorm tol m limit y f) x → (s : State) × (expv_by b tau anorm tol m limit y f ≡ refused SubstepLimit x s)
  unfolding expv_by run_by scaled allowed trace back
  if_by None some h = let n : 0 ≡ limit = h.0 in absurd (omega (arith, some, n))
  if_by (Some f) {x} some h = go (if_27 _ limit _ (Some f) h.0 h.1 h.2)
    where
      p : Setting
      p = (run_by b tau anorm tol m limit y (Some f)).first

      y₀ : List Float
      y₀ = (run_by b tau anorm tol m limit y (Some f)).field

      go : ((s : State) × (run p limit (started p y₀) ≡ refused SubstepLimit (estimate_of (run_by b tau anorm tol m limit y (Some f))) s)) → (s : State) × (back f.up (norm2 y₀) (run p limit (started p y₀)) ≡ refused SubstepLimit x s)
      go (s, e) = (scaled_back f.up (norm2 y₀) s, ap (back f.up (norm2 y₀)) e ∙ ap (λ (d : Float). refused SubstepLimit d (scaled_back f.up (norm2 y₀) s)) (sym h.3))

  pub expv_if_27 : {x : Float} → 0 < limit → Limit (run_of b tau anorm tol m limit y) x → (s : State) × (expv b tau anorm tol m limit y ≡ refused SubstepLimit x s)
  unfolding expv run_of
  expv_if_27 some h = if_by (pow2_scale y) some h

  -- ---- a start of zeros
  pub expv_idle : Zeros y → expv b tau anorm tol m limit y ≡ finished (idle y)
  unfolding expv expv_by
  expv_idle z = rw (zeros_none y z) refl

  -- ---- a run refuses by 27, 28 or 29
  late_by : (f : Option Scale) {r : Reason} {x : Float} {s : State} → expv_by b tau anorm tol m limit y f ≡ refused r x s → (26 < numbered r) × (numbered r < 30)
  unfolding expv_by run_by scaled allowed back
  late_by None g = let o : zero ≡ 1 = cc in absurd (omega (arith, o))
  late_by (Some f) {r} {x} {s} g = go (run _ limit (started _ _)) refl g
    where
      p : Setting
      p = (run_by b tau anorm tol m limit y (Some f)).first

      y₀ : List Float
      y₀ = (run_by b tau anorm tol m limit y (Some f)).field

      number : End → ℕ
      number (finished t) = 0
      number (refused k z t) = numbered k

      go : (e : End) → run p limit (started p y₀) ≡ e → back f.up (norm2 y₀) e ≡ refused r x s → (26 < numbered r) × (numbered r < 30)
      go (finished t) h k = let o : zero ≡ 1 = cc in absurd (omega (arith, o))
      go (refused k z t) h j = subst (λ (i : ℕ). (26 < i) × (i < 30)) (ap number j) (run_late p limit y₀ (Some f) k z t h)

  pub expv_late : {r : Reason} {x : Float} {s : State} → expv b tau anorm tol m limit y ≡ refused r x s → (26 < numbered r) × (numbered r < 30)
  unfolding expv
  expv_late g = late_by (pow2_scale y) g
