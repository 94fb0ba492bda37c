-- The library's searches and folds over `0..n` in the words of `exists` and `iter`. Assumes nothing.
use mathlib.Core.Bool.{Bool, true, false, ◌||◌}
use mathlib.Core.List.{List, [], ◌∷◌, ◌++◌}
use mathlib.Core.Path.{◌≡◌, refl, sym, ap, ◌∙◌}
use Prim.Native.Nat.{ℕ, zero, suc, ◌+◌}
use native.Mathlib.Nat.{zero-add, add-zero}
use native.Mathlib.Omega.{arith}
use lib.Dec.{ltb, leb-suc-suc}
use borrow.Author.Tests.{lt-ltb}
use Rattle.std.specs.List.{fold, list_any, range_with_len}
use Rattle.std.proofs.lemmas.List.Sums.{fold-append}
use Rattle.lists.specs.Loop.{iter}
use Rattle.lists.specs.Find.{find, exists}

range_snoc : (a n k : ℕ) → a + n ≡ k → range_with_len a (suc n) ≡ range_with_len a n ++ (k ∷ [])
range_snoc a zero k e = ap (λ (j : ℕ). j ∷ []) (omega (arith, e))
range_snoc a (suc n) k e = ap (λ (xs : List ℕ). a ∷ xs) (range_snoc (a + 1) n k (omega (arith, e)))

-- `fold`
pub fold_range : {A : Type 0} (f : A → ℕ → A) (a : A) (n : ℕ) → fold f a (range_with_len 0 n) ≡ iter (λ k s. f s k) n a
unfolding iter
fold_range f a zero = refl
fold_range {A} f a (suc n) = ap (fold f a) (range_snoc 0 n n (zero-add n)) ∙ fold-append f a (range_with_len 0 n) (n ∷ []) ∙ ap (λ (s : A). f s n) (fold_range f a n)

-- `any`
first_or_later : (b : Bool) (m n : ℕ) → (b || ltb m n) ≡ ltb (elim b [ true ↦ 0 | false ↦ suc m ]) (suc n)
first_or_later true m n = sym (lt-ltb 0 (suc n) (omega arith))
first_or_later false m n = sym (leb-suc-suc (suc m) n)

any_from : (p q : ℕ → Bool) (a n : ℕ) → ((k : ℕ) → p (a + k) ≡ q k) → list_any p (range_with_len a n) ≡ exists q n
unfolding exists find
any_from p q a zero e = refl
any_from p q a (suc n) e =
    let here : p a ≡ q 0 = ap p (sym (add-zero a)) ∙ e 0 in
    let later = any_from p (λ k. q (suc k)) (a + 1) n (λ k. let s : a + 1 + k ≡ a + suc k = omega arith in ap p s ∙ e (suc k)) in
    (λ i. here i || later i) ∙ first_or_later (q 0) (find (λ k. q (suc k)) n) n

-- at the indices below n
pub any_range : (p : ℕ → Bool) (n : ℕ) → list_any p (range_with_len 0 n) ≡ exists p n
any_range p n = any_from p p 0 n (λ k. ap p (zero-add k))
