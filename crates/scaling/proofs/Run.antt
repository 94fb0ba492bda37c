-- Terms, sweeps and runs of two operators from scaled starts are scaled. Assumes nothing.
use Rattle.std.specs.Prelude.{if◌then◌else◌}
use mathlib.Core.Path.{◌≡◌, refl}
use mathlib.Core.List.{List}
use Prim.Native.Nat.{ℕ, zero, suc, ◌+◌, ◌<◌}
use native.Mathlib.Omega.{arith}
use mathlib.Core.Bool.{Bool, true, false}
use lib.Dec.{T}
use lib.ListN.{length}
use lib.Ieee.{Float, nan, binary64, fits}
use lib.Ieee.Fits.{div-fits}
use Rattle.lists.specs.Loop.{iter, zip_with}
use Rattle.lists.proofs.Loop.{get_or_zip_with}
use Rattle.doubles.specs.F64.{◌⊕◌, at}
use Rattle.doubles.specs.Clean.{Clean⊗, Clean⊕}
use Rattle.doubles.proofs.Scaled.{add_scaled, scaled_by}
use Rattle.vectors.specs.Vectors.{scale}
use Rattle.vectors.proofs.Laws.{scale_at}
use Rattle.dense_la.proofs.Fits.{dense_exp_fits}
use Rattle.general_operator.specs.Csr.{Csr}
use Rattle.phi_action_helpers.specs.declared.SweepPlan.{SweepPlan}
use Rattle.phi_action_helpers.specs.Augmented.{aug_matvec}
use Rattle.phi_action_helpers.specs.Sweeps.{shifted, scales, horner_step, aug_horner_outer, rescale, sweep, run_sweeps}
use Rattle.phi_action_helpers.proofs.Augmented.{length_aug_matvec}
use Rattle.phi_action_helpers.proofs.Counts.{terms_long, sweep_long, sweeps_long}
use Rattle.scaling.specs.Operations.{InTerm, InSweep, InSweeps, terms_from, sweeps_from}
use Rattle.scaling.proofs.Product.{ScaledOperators, ScaledState, ScalesFit, one, other, product_scaled}

-- ---- the scalars are doubles
scales_fit : (tau : Float) (p : SweepPlan) (j : ℕ) → ScalesFit (scales tau p j)
unfolding scales
scales_fit tau p j = record { tau = div-fits binary64 tau _; one = div-fits binary64 _ _; mu = div-fits binary64 p.mu _ }

rescale_fits : (p : SweepPlan) → T (fits binary64 (rescale p))
unfolding rescale
rescale_fits p = dense_exp_fits _

-- ---- sums and multiples, value by value
module _ (u v s t n d : ℕ) (y y' : List Float) (ly : length y ≡ n + d) (ly' : length y' ≡ n + d) (p : ScaledState u v s t n d y y') where
  sum_scaled : (w w' : List Float) → length w ≡ n + d → length w' ≡ n + d → ScaledState u v s t n d w w' → ((i : ℕ) → i < n + d → Clean⊕ (at y i) (at w i)) → ((i : ℕ) → i < n + d → Clean⊕ (at y' i) (at w' i))
      → ScaledState u v s t n d (zip_with ◌⊕◌ y w) (zip_with ◌⊕◌ y' w')
  sum_scaled w w' lw lw' q c c' =
      record {
        field = λ i l.
            let g : i < n + d = omega arith in
            rw (get_or_zip_with ◌⊕◌ y w (n + d) nan ly lw i g, get_or_zip_with ◌⊕◌ y' w' (n + d) nan ly' lw' i g) (add_scaled u v (at y i) (at y' i) (at w i) (at w' i) (p.field i l) (q.field i l) (c i g) (c' i g));
        chain = λ i l.
            let g : n + i < n + d = omega arith in
            rw (get_or_zip_with ◌⊕◌ y w (n + d) nan ly lw (n + i) g, get_or_zip_with ◌⊕◌ y' w' (n + d) nan ly' lw' (n + i) g) (add_scaled s t (at y (n + i)) (at y' (n + i)) (at w (n + i)) (at w' (n + i)) (p.chain i l) (q.chain i l) (c (n + i) g) (c' (n + i) g));
      }

  multiple_scaled : (f : Float) → T (fits binary64 f) → ((i : ℕ) → i < n + d → Clean⊗ (at y i) f) → ((i : ℕ) → i < n + d → Clean⊗ (at y' i) f) → ScaledState u v s t n d (scale f y) (scale f y')
  multiple_scaled f ff c c' =
      record {
        field = λ i l. let g : i < n + d = omega arith in rw (scale_at f y i (rw ly g), scale_at f y' i (rw ly' g)) (scaled_by u v (at y i) (at y' i) f ff (p.field i l) (c i g) (c' i g));
        chain = λ i l. let g : n + i < n + d = omega arith in rw (scale_at f y (n + i) (rw ly g), scale_at f y' (n + i) (rw ly' g)) (scaled_by s t (at y (n + i)) (at y' (n + i)) f ff (p.chain i l) (c (n + i) g) (c' (n + i) g));
      }

module _ {u v s t : ℕ} {q : Csr} {d count : ℕ} {places : List ℕ} {vectors vectors' gains gains' : List Float} (o : ScaledOperators u v s t q d count places vectors vectors' gains gains') (tau : Float) (p : SweepPlan) where
  abbrev State : List Float → List Float → Type 0
  State = ScaledState u v s t q.n d

  -- ---- terms
  module _ (y y' : List Float) (ly : length y ≡ q.n + d) (ly' : length y' ≡ q.n + d) (r : State y y') where
    terms_scaled : (k : ℕ) → ((i : ℕ) → i < k → InTerm Clean⊗ Clean⊕ (one o) tau p i (terms_from (one o) tau p y i)) → ((i : ℕ) → i < k → InTerm Clean⊗ Clean⊕ (other o) tau p i (terms_from (other o) tau p y' i))
        → State (terms_from (one o) tau p y k).y (terms_from (other o) tau p y' k).y × State (terms_from (one o) tau p y k).w (terms_from (other o) tau p y' k).w
    unfolding iter horner_step
    terms_scaled zero c c' = (r, r)
    terms_scaled (suc k) c c' =
        let h = terms_from (one o) tau p y k in
        let h' = terms_from (other o) tau p y' k in
        let ih = terms_scaled k (λ i l. c i (omega arith)) (λ i l. c' i (omega arith)) in
        let a = c k (omega arith) in
        let a' = c' k (omega arith) in
        let w = aug_matvec (one o) (scales tau p (k + 1)) h.w in
        let w' = aug_matvec (other o) (scales tau p (k + 1)) h'.w in
        let made = product_scaled o (scales tau p (k + 1)) (scales_fit tau p (k + 1)) h.w h'.w ih.1 a.product a'.product in
        (sum_scaled u v s t q.n d h.y h'.y (terms_long (one o) tau p k _ ly) (terms_long (other o) tau p k _ ly') ih.0 w w' (length_aug_matvec (one o) _ _) (length_aug_matvec (other o) _ _) made a.sums a'.sums, made)

    outer_scaled : InSweep Clean⊗ Clean⊕ (one o) tau p y → InSweep Clean⊗ Clean⊕ (other o) tau p y' → State (aug_horner_outer (one o) tau p y).y (aug_horner_outer (other o) tau p y').y
    unfolding aug_horner_outer
    outer_scaled c c' = (terms_scaled p.m c.terms c'.terms).0

    rescaled : (b : Bool) → (b ≡ true → (i : ℕ) → i < q.n + d → Clean⊗ (at (aug_horner_outer (one o) tau p y).y i) (rescale p)) → (b ≡ true → (i : ℕ) → i < q.n + d → Clean⊗ (at (aug_horner_outer (other o) tau p y').y i) (rescale p))
        → State (aug_horner_outer (one o) tau p y).y (aug_horner_outer (other o) tau p y').y
        → State (if b then scale (rescale p) (aug_horner_outer (one o) tau p y).y else (aug_horner_outer (one o) tau p y).y) (if b then scale (rescale p) (aug_horner_outer (other o) tau p y').y else (aug_horner_outer (other o) tau p y').y)
    rescaled true c c' h = multiple_scaled u v s t q.n d _ _ (sweep_long (one o) tau p y ly) (sweep_long (other o) tau p y' ly') h (rescale p) (rescale_fits p) (c refl) (c' refl)
    rescaled false c c' h = h

  -- ---- sweeps
  sweeps_scaled : (y y' : List Float) → length y ≡ q.n + d → length y' ≡ q.n + d → State y y' → (k : ℕ)
      → ((i : ℕ) → i < k → InSweep Clean⊗ Clean⊕ (one o) tau p (sweeps_from (one o) tau p y i).y)
      → ((i : ℕ) → i < k → InSweep Clean⊗ Clean⊕ (other o) tau p (sweeps_from (other o) tau p y' i).y)
      → State (sweeps_from (one o) tau p y k).y (sweeps_from (other o) tau p y' k).y
  unfolding iter sweep
  sweeps_scaled y y' ly ly' r zero c c' = r
  sweeps_scaled y y' ly ly' r (suc k) c c' =
      let ih = sweeps_scaled y y' ly ly' r k (λ i l. c i (omega arith)) (λ i l. c' i (omega arith)) in
      let z = (sweeps_from (one o) tau p y k).y in
      let z' = (sweeps_from (other o) tau p y' k).y in
      let lz = sweeps_long (one o) tau p k _ ly in
      let lz' = sweeps_long (other o) tau p k _ ly' in
      rescaled z z' lz lz' ih (shifted p) (c k (omega arith)).rescaled (c' k (omega arith)).rescaled (outer_scaled z z' lz lz' ih (c k (omega arith)) (c' k (omega arith)))

  -- a whole run
  pub run_scaled : (y y' : List Float) → length y ≡ q.n + d → length y' ≡ q.n + d → State y y' → InSweeps Clean⊗ Clean⊕ (one o) tau p y → InSweeps Clean⊗ Clean⊕ (other o) tau p y' → State (run_sweeps (one o) tau p y).y (run_sweeps (other o) tau p y').y
  unfolding run_sweeps
  run_scaled y y' ly ly' r c c' = sweeps_scaled y y' ly ly' r p.s c c'
