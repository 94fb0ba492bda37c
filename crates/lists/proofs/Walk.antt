-- A counted loop that may end early: turn i of at most n. Assumes nothing.
use mathlib.Core.Path.{◌≡◌, refl, sym, ◌∙◌, ap, subst}
use Prim.Native.Nat.{ℕ, zero, suc, ◌+◌, ◌-◌, ◌≤◌, ◌<◌}
use native.Mathlib.Nat.{add-zero}
use native.Mathlib.Omega.{arith}
use Rattle.lists.specs.Walk.{Turn, on, out, walk}

module _ {S E : Type 0} where
  pub walk_out : (step : ℕ → S → Turn S E) (k i : ℕ) (e : E) → walk step k i (out e) ≡ out e
  unfolding walk
  walk_out step zero i e = refl
  walk_out step (suc k) i e = refl

  -- i turns of n having been taken, the whole is what the present status leads to
  pub record Left (step : ℕ → S → Turn S E) (n i : ℕ) (o₀ o : Turn S E) : Type 0 where
    pub same : walk step n 0 o₀ ≡ walk step (n - i) i o

  pub left_start : (step : ℕ → S → Turn S E) (n : ℕ) (o : Turn S E) → Left step n 0 o o
  left_start step n o = record { same = ap (λ (k : ℕ). walk step k 0 o) (omega arith) }

  one_turn : (step : ℕ → S → Turn S E) (n i : ℕ) (s : S) → i < n → walk step (n - i) i (on s) ≡ walk step (n - (i + 1)) (i + 1) (step i s)
  unfolding walk
  one_turn step n i s l =
      let e : n - i ≡ suc (n - (i + 1)) = omega arith in
      rw e

  pub left_turn : {step : ℕ → S → Turn S E} {n i : ℕ} {o₀ o : Turn S E} → Left step n i o₀ o → (s : S) (o₁ : Turn S E) → i < n → o ≡ on s → o₁ ≡ step i s → Left step n (i + 1) o₀ o₁
  left_turn {step} {n} {i} {o₀} {o} h s o₁ l e d =
      record { same = h.same ∙ ap (walk step (n - i) i) e ∙ one_turn step n i s l ∙ ap (walk step (n - (i + 1)) (i + 1)) (sym d) }

  pub left_out : {step : ℕ → S → Turn S E} {n i : ℕ} {o₀ o : Turn S E} → Left step n i o₀ o → (e : E) → o ≡ out e → o ≡ walk step n 0 o₀
  left_out {step} {n} {i} {o₀} {o} h e d = sym (h.same ∙ ap (walk step (n - i) i) d ∙ walk_out step (n - i) i e ∙ sym d)

  pub left_none : {step : ℕ → S → Turn S E} {n i : ℕ} {o₀ o : Turn S E} → Left step n i o₀ o → n ≤ i → o ≡ walk step n 0 o₀
  unfolding walk
  left_none {step} {n} {i} {o₀} {o} h l =
      let e : n - i ≡ 0 = omega arith in
      sym (h.same ∙ ap (λ (k : ℕ). walk step k i o) e)

-- ---- a walk keeps what each of its turns keeps
module _ {S E : Type 0} (P : ℕ → S → Type 0) (Q : ℕ → E → Type 0) where
  abbrev pub Kept : ℕ → Turn S E → Type 0
  Kept i (on s) = P i s
  Kept i (out e) = Q i e

  pub walk_keeps : (step : ℕ → S → Turn S E) → ((i : ℕ) (s : S) → P i s → Kept (i + 1) (step i s)) → ((i j : ℕ) (e : E) → i ≤ j → Q i e → Q j e) → (k i : ℕ) (o : Turn S E) → Kept i o → Kept (i + k) (walk step k i o)
  unfolding walk
  walk_keeps step one later zero i o h = subst (λ (n : ℕ). Kept n o) (sym (add-zero i)) h
  walk_keeps step one later (suc k) i (on s) h =
      subst (λ (n : ℕ). Kept n (walk step k (i + 1) (step i s))) (next i k) (walk_keeps step one later k (i + 1) (step i s) (one i s h))
    where
      next : (i k : ℕ) → i + 1 + k ≡ i + suc k
      next i k = omega arith
  walk_keeps step one later (suc k) i (out e) h = later i (i + suc k) e (omega arith) h
