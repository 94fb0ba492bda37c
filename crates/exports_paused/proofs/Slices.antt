-- A run in two slices. Assumes nothing.
use Rattle.std.specs.Prelude.{if◌then◌else◌}
use mathlib.Core.Path.{◌≡◌, refl, sym, ap, ◌∙◌}
use mathlib.Core.Bool.{Bool, true, false}
use mathlib.Core.List.{List, [], ◌∷◌}
use Prim.Native.Nat.{ℕ, zero, ◌≤◌, ◌<◌}
use native.Mathlib.Omega.{arith}
use lib.Dec.{eqb}
use lib.ListN.{length, set, length-set}
use lib.Ieee.{Float}
use borrow.Author.Tests.{eqb-true}
use Rattle.lists.specs.Window.{splice}
use Rattle.lists.proofs.Tests.{and_both}
use Rattle.lists.proofs.Window.{set_splice, splice_snoc, splice_whole}
use Rattle.paused_run.specs.declared.PausedRun.{PausedRun}
use Rattle.exports_paused.specs.Told.{numbers_of, counts_of, fits, state, written}

-- ---- a list written over from the front, one by one
module _ {A : Type 0} (l : List A) (a b c d e f g h : A) where
  first_eight : set (set (set (set (set (set (set (set l 0 a) 1 b) 2 c) 3 d) 4 e) 5 f) 6 g) 7 h ≡ splice 0 (a ∷ b ∷ c ∷ d ∷ e ∷ f ∷ g ∷ h ∷ []) l
  first_eight =
      let e₁ : set l 0 a ≡ splice 0 (a ∷ []) l = set_splice 0 a l in
      let e₂ : set (set l 0 a) 1 b ≡ splice 0 (a ∷ b ∷ []) l = ap (λ (x : List A). set x 1 b) e₁ ∙ splice_snoc 0 (a ∷ []) l b in
      let e₃ : set (set (set l 0 a) 1 b) 2 c ≡ splice 0 (a ∷ b ∷ c ∷ []) l = ap (λ (x : List A). set x 2 c) e₂ ∙ splice_snoc 0 (a ∷ b ∷ []) l c in
      let e₄ = ap (λ (x : List A). set x 3 d) e₃ ∙ splice_snoc 0 (a ∷ b ∷ c ∷ []) l d in
      let e₅ = ap (λ (x : List A). set x 4 e) e₄ ∙ splice_snoc 0 (a ∷ b ∷ c ∷ d ∷ []) l e in
      let e₆ = ap (λ (x : List A). set x 5 f) e₅ ∙ splice_snoc 0 (a ∷ b ∷ c ∷ d ∷ e ∷ []) l f in
      let e₇ = ap (λ (x : List A). set x 6 g) e₆ ∙ splice_snoc 0 (a ∷ b ∷ c ∷ d ∷ e ∷ f ∷ []) l g in
      ap (λ (x : List A). set x 7 h) e₇ ∙ splice_snoc 0 (a ∷ b ∷ c ∷ d ∷ e ∷ f ∷ g ∷ []) l h

  pub eight : length l ≡ 8 → set (set (set (set (set (set (set (set l 0 a) 1 b) 2 c) 3 d) 4 e) 5 f) 6 g) 7 h ≡ a ∷ b ∷ c ∷ d ∷ e ∷ f ∷ g ∷ h ∷ []
  eight n = first_eight ∙ splice_whole _ l (sym n)

  pub tenth : (i : A) → length l ≡ 10 → 9 < length (set (set (set (set (set (set (set (set (set l 0 a) 1 b) 2 c) 3 d) 4 e) 5 f) 6 g) 7 h) 8 i)
  tenth i n = rw (length-set, length-set, length-set, length-set, length-set, length-set, length-set, length-set, length-set) (omega (arith, n))

  pub ten : (i j : A) → length l ≡ 10 → set (set (set (set (set (set (set (set (set (set l 0 a) 1 b) 2 c) 3 d) 4 e) 5 f) 6 g) 7 h) 8 i) 9 j ≡ a ∷ b ∷ c ∷ d ∷ e ∷ f ∷ g ∷ h ∷ i ∷ j ∷ []
  ten i j n =
      let e₉ = ap (λ (x : List A). set x 8 i) first_eight ∙ splice_snoc 0 (a ∷ b ∷ c ∷ d ∷ e ∷ f ∷ g ∷ h ∷ []) l i in
      ap (λ (x : List A). set x 9 j) e₉ ∙ splice_snoc 0 (a ∷ b ∷ c ∷ d ∷ e ∷ f ∷ g ∷ h ∷ i ∷ []) l j ∙ splice_whole _ l (sym n)

-- ---- the lengths
pub fitting : (numbers : List Float) (counts : List ℕ) → fits numbers counts ≡ true → (length numbers ≡ 10) × (length counts ≡ 8)
unfolding fits
fitting numbers counts e =
    let q = and_both (eqb (length numbers) 10) (eqb (length counts) 8) e in
    (eqb-true _ _ q.0, eqb-true _ _ q.1)

module _ (s : PausedRun) (numbers : List Float) (counts : List ℕ) where
  pub written_fits : {numbers₁ : List Float} {counts₁ : List ℕ} → fits numbers counts ≡ true → numbers₁ ≡ numbers_of s → counts₁ ≡ counts_of s → (k : ℕ) (x : Float)
      → state k x numbers₁ counts₁ ≡ written k x s numbers counts
  unfolding written
  written_fits e en ec k x = rw e (λ i. state k x (en i) (ec i))

  pub written_not : fits numbers counts ≡ false → (k : ℕ) (x : Float) → state k x numbers counts ≡ written k x s numbers counts
  unfolding written
  written_not e k x = rw e refl

-- the field is lent as far as it is asked for
pub end_within : (numbers : List Float) (counts : List ℕ) (field : ℕ) {to : ℕ} → to ≡ (if fits numbers counts then field else zero) → to ≤ field
end_within numbers counts field e = rw e (go (fits numbers counts))
  where
    go : (b : Bool) → (if b then field else zero) ≤ field
    go true = omega arith
    go false = omega arith
