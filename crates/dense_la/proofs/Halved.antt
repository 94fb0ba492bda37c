-- The halvings of the scale, turn by turn. Assumes nothing.
use mathlib.Core.Path.{◌≡◌, refl, ap, ◌∙◌}
use mathlib.Core.Bool.{Bool, true, false}
use Prim.Native.Nat.{ℕ, zero, suc, ◌+◌, ◌-◌, ◌≤◌, ◌<◌}
use native.Mathlib.Omega.{arith}
use lib.Ieee.{Float}
use Rattle.lists.specs.Loop.{iter}
use Rattle.lists.proofs.Loop.{iter_turn}
use Rattle.doubles.specs.F64.{◌⊗◌, 1f, 1/2f}
use Rattle.dense_la.specs.DenseExp.{above, halvings, squarings, scale}

-- after i halvings: the scale, and that those that are left give the whole
pub record Halved (norm : Float) (i : ℕ) (s : Float) : Type 0 where
  pub few : i ≤ 1100
  pub is : s ≡ scale i
  pub left : i + halvings (1100 - i) (above norm s) norm s ≡ squarings norm

pub halved_start : (norm : Float) → Halved norm 0 1f
unfolding squarings scale iter
halved_start norm = record { few = omega arith; is = refl; left = omega arith }

halvings_more : (k : ℕ) (b : Bool) (norm s : Float) → b ≡ true → halvings (suc k) b norm s ≡ suc (halvings k (above norm (s ⊗ 1/2f)) norm (s ⊗ 1/2f))
unfolding halvings
halvings_more k true norm s e = refl
halvings_more k false norm s e = cc

halvings_stop : (k : ℕ) (b : Bool) (norm s : Float) → b ≡ false → halvings k b norm s ≡ 0
unfolding halvings
halvings_stop zero b norm s e = refl
halvings_stop (suc k) false norm s e = refl
halvings_stop (suc k) true norm s e = cc

halvings_none : (k : ℕ) (b : Bool) (norm s : Float) → k ≡ 0 → halvings k b norm s ≡ 0
unfolding halvings
halvings_none zero b norm s e = refl
halvings_none (suc k) b norm s e = absurd (omega arith)

pub halved_turn : {norm : Float} {i : ℕ} {s : Float} → Halved norm i s → i < 1100 → above norm s ≡ true → Halved norm (i + 1) (s ⊗ 1/2f)
unfolding scale
halved_turn {norm} {i} {s} h l e =
    let k : 1100 - i ≡ suc (1100 - (i + 1)) = omega arith in
    let d = halvings_more (1100 - (i + 1)) (above norm s) norm s e in
    let f = ap (λ (n : ℕ). halvings n (above norm s) norm s) k in
    record {
      few = omega arith;
      is = iter_turn (λ _ t. t ⊗ 1/2f) i 1f s (s ⊗ 1/2f) h.is refl;
      left = omega (arith, h.left, d, f);
    }

-- the test fails, or 1100 are done
pub halved_stop : {norm : Float} {i : ℕ} {s : Float} → Halved norm i s → above norm s ≡ false → i ≡ squarings norm
halved_stop {norm} {i} {s} h e = omega (arith, h.left, halvings_stop (1100 - i) (above norm s) norm s e)

pub halved_end : {norm : Float} {i : ℕ} {s : Float} → Halved norm i s → 1100 ≤ i → i ≡ squarings norm
halved_end {norm} {i} {s} h l = omega (arith, h.left, halvings_none (1100 - i) (above norm s) norm s (omega arith))

pub halved_whole : {norm : Float} {i : ℕ} {s : Float} → Halved norm i s → i ≡ squarings norm → (i ≡ squarings norm) × (s ≡ scale (squarings norm))
halved_whole h e = (e, h.is ∙ ap scale e)
