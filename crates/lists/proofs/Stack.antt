-- Rows of one length, one after the other: a loop that writes a row a turn. Assumes nothing.
use mathlib.Core.Path.{◌≡◌, refl, sym, ap, ◌∙◌, subst}
use mathlib.Core.List.{List}
use Prim.Native.Nat.{ℕ, ◌+◌, ◌*◌}
use native.Mathlib.Nat.{zero-mul, suc-mul}
use native.Mathlib.Numerals.{add-one}
use native.Mathlib.Omega.{arith}
use lib.ListN.{length, length-append}
use Rattle.lists.specs.Loop.{stack}
use Rattle.lists.specs.Window.{splice}
use Rattle.lists.proofs.Window.{splice_nil, splice_more, splice_whole, length_splice}

module _ {A : Type 0} where
  pub record Stacked (p n i : ℕ) (r : ℕ → List A) (w₀ w : List A) : Type 0 where
    pub is : w ≡ splice p (stack i r) w₀
    pub size : length (stack i r) ≡ i * n
    pub long : length w ≡ length w₀

  pub stack_start : (p n : ℕ) (r : ℕ → List A) (w : List A) → Stacked p n 0 r w w
  unfolding stack
  stack_start p n r w = record { is = sym (splice_nil p w); size = sym (zero-mul n); long = refl }

  -- a turn: a callee writes row i just past the rows that are written
  pub stack_turn : {p n i : ℕ} {r : ℕ → List A} {w₀ w : List A} → Stacked p n i r w₀ w → (w₁ : List A) → length (r i) ≡ n → w₁ ≡ splice (p + i * n) (r i) w → Stacked p n (i + 1) r w₀ w₁
  unfolding stack
  stack_turn {p} {n} {i} {r} {w₀} {w} h w₁ l e =
      let s = stack i r in
      rw (add-one i)
      (record {
        is = e ∙ ap (splice (p + i * n) (r i)) h.is ∙ splice_more p (i * n) s (r i) w₀ h.size;
        size = length-append s (r i) ∙ rw (suc-mul i n) (omega (arith, h.size));
        long = ap length e ∙ length_splice (p + i * n) (r i) w ∙ h.long;
      })

  -- the rows fill the whole
  pub stack_whole : {n i : ℕ} {r : ℕ → List A} {w₀ w : List A} → Stacked 0 n i r w₀ w → (m : ℕ) → i ≡ m → length w₀ ≡ m * n → w ≡ stack m r
  stack_whole {n} {i} {r} {w₀} {w} h m e l =
      subst (λ (k : ℕ). w ≡ stack k r) e (h.is ∙ splice_whole (stack i r) w₀ (h.size ∙ ap (λ (k : ℕ). k * n) e ∙ sym l))
