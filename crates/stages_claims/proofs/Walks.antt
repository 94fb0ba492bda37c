-- A counted loop that may end early, seen from its last turn. Assumes nothing.
use mathlib.Core.Path.{◌≡◌, refl, sym, ap, ◌∙◌}
use Prim.Native.Nat.{ℕ, zero, suc, ◌+◌, ◌<◌}
use native.Mathlib.Nat.{add-zero, zero-add}
use native.Mathlib.Omega.{arith}
use Rattle.lists.specs.Walk.{Turn, on, out, walk}

module _ {S E : Type 0} (step : ℕ → S → Turn S E) where
  abbrev pub next : ℕ → Turn S E → Turn S E
  next i (on s) = step i s
  next i (out e) = out e

  next_turn : (k i : ℕ) (o : Turn S E) → walk step (suc k) i o ≡ next (i + k) (walk step k i o)
  unfolding walk
  next_turn zero i (on s) = ap (λ (j : ℕ). step j s) (sym (add-zero i))
  next_turn zero i (out e) = refl
  next_turn (suc k) i (on s) = let n : i + 1 + k ≡ i + suc k = omega arith in next_turn k (i + 1) (step i s) ∙ ap (λ (j : ℕ). next j (walk step k (i + 1) (step i s))) n
  next_turn (suc k) i (out e) = refl

  module _ (o : Turn S E) where
    pub walk_next : (k : ℕ) → walk step (suc k) 0 o ≡ next k (walk step k 0 o)
    walk_next k = next_turn k 0 o ∙ ap (λ (j : ℕ). next j (walk step k 0 o)) (zero-add k)

    -- an end stays
    pub stays : (i d : ℕ) {e : E} → walk step i 0 o ≡ out e → walk step (i + d) 0 o ≡ out e
    stays i zero h = ap (λ (j : ℕ). walk step j 0 o) (add-zero i) ∙ h
    stays i (suc d) h = let n : i + suc d ≡ suc (i + d) = omega arith in ap (λ (j : ℕ). walk step j 0 o) n ∙ walk_next (i + d) ∙ ap (next (i + d)) (stays i d h)

  -- an end has its turn
  pub record EndedAt (s₀ : S) (k : ℕ) (e : E) : Type 0 where
    pub turn : ℕ
    pub below : turn < k
    pub state : S
    pub stood : walk step turn 0 (on s₀) ≡ on state
    pub ended : step turn state ≡ out e

  pub ended_at : (s₀ : S) (k : ℕ) (e : E) → walk step k 0 (on s₀) ≡ out e → EndedAt s₀ k e
  unfolding walk
  ended_at s₀ zero e h = let z : zero ≡ 1 = cc in absurd (omega (arith, z))
  ended_at s₀ (suc k) e h = go (walk step k 0 (on s₀)) refl (ended_at s₀ k e)
    where
      go : (t : Turn S E) → walk step k 0 (on s₀) ≡ t → (walk step k 0 (on s₀) ≡ out e → EndedAt s₀ k e) → EndedAt s₀ (suc k) e
      go (on s) d i = record { turn = k; below = omega arith; state = s; stood = d; ended = sym (walk_next (on s₀) k ∙ ap (next k) d) ∙ h }
      go (out e') d i =
          let r = i (d ∙ sym (walk_next (on s₀) k ∙ ap (next k) d) ∙ h) in
          record { turn = r.turn; below = omega (arith, r.below); state = r.state; stood = r.stood; ended = r.ended }
