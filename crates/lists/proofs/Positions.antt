-- The library's searches over a slice in the words of `find` and `exists`, and its folds as iterations by index. Assumes nothing.
use mathlib.Core.Bool.{Bool, true, false, ◌||◌, true≢false}
use mathlib.Core.List.{List, [], ◌∷◌}
use mathlib.Core.Path.{◌≡◌, refl, sym, ap, ◌∙◌}
use Prim.Native.Nat.{ℕ, zero, suc, ◌+◌, ◌-◌, ◌≤◌, ◌<◌}
use native.Mathlib.Numerals.{add-one}
use native.Mathlib.Omega.{arith}
use lib.Dec.{ltb, leb-suc-suc}
use borrow.Author.Tests.{lt-ltb}
use lib.ListN.{length, get_or, take, drop, length-drop}
use Rattle.std.proofs.Common.{get_or-drop, take_all}
use Rattle.std.proofs.lemmas.List.Sums.{fold_more}
use Rattle.std.specs.List.{list_any, fold, slice_range}
use Rattle.lists.specs.Loop.{iter}
use native.Mathlib.Nat.{le_refl}
use Rattle.std.specs.Prelude.{MatchBool}
use Rattle.lists.specs.Find.{find, exists}
use Rattle.lists.specs.Positions.{NoneBelow}
use Rattle.lists.proofs.Find.{Passed, found_at, none_below, exists_at, exists_none}

-- `position`: at its index
module _ (p : ℕ → Bool) (n : ℕ) {i : ℕ} (h : (i < n) × (p i ≡ true) × NoneBelow p i) where
  passed : Passed p i
  passed = record { none = h.2 }

  pub position_found : i ≡ find p n
  position_found = found_at passed n h.0 h.1

  pub position_exists : true ≡ exists p n
  position_exists = exists_at passed n h.0 h.1

-- and where it has none
pub none_exists : (p : ℕ → Bool) (n : ℕ) → NoneBelow p n → false ≡ exists p n
none_exists p n h = exists_none (record { none = h }) n (le_refl n)

-- `any`
pub any_exists : (p : ℕ → Bool) (n : ℕ) (b : Bool) → MatchBool b ((k : ℕ) × (k < n) × (p k ≡ true)) (NoneBelow p n) → b ≡ exists p n
any_exists p n true h = told (exists p n) refl
  where
    told : (b : Bool) → exists p n ≡ b → true ≡ b
    told true e = refl
    told false e = absurd (true≢false (sym h.2 ∙ none_below p n e h.0 h.1))
any_exists p n false h = none_exists p n h

-- `any` over the first n elements
any_step : (b : Bool) (m n : ℕ) (r : Bool) → r ≡ ltb m n → (b || r) ≡ ltb (elim b [ true ↦ 0 | false ↦ suc m ]) (suc n)
any_step true m n r e = sym (lt-ltb 0 (suc n) (omega arith))
any_step false m n r e = e ∙ sym (leb-suc-suc (suc m) n)

pub any_front : {A : Type 0} (t : A → Bool) (xs : List A) (n : ℕ) (d : A) → n ≤ length xs → list_any t (take n xs) ≡ exists (λ k. t (get_or xs k d)) n
unfolding exists find
any_front t xs zero d h = refl
any_front t [] (suc n) d h = absurd (omega arith)
any_front t (x ∷ xs) (suc n) d h = any_step (t x) _ n _ (any_front t xs n d (omega arith))

-- ---- `fold`: an iteration by index, whose turn k is g k
module _ {A B : Type 0} (f : B → A → B) (a : B) where
  fold_front : (xs : List A) (n : ℕ) (d : A) (g : ℕ → B → B) → n ≤ length xs → ((k : ℕ) (s : B) → k < n → f s (get_or xs k d) ≡ g k s) → fold f a (take n xs) ≡ iter g n a
  unfolding iter
  fold_front xs zero d g h e = refl
  fold_front xs (suc n) d g h e =
      ap (λ (m : ℕ). fold f a (take m xs)) (sym (add-one n))
      ∙ fold_more f a xs n d (omega arith)
      ∙ ap (λ (s : B). f s (get_or xs n d)) (fold_front xs n d g (omega arith) (λ k s l. e k s (omega arith)))
      ∙ e n (iter g n a) (omega arith)

  pub fold_whole : (xs : List A) (d : A) (g : ℕ → B → B) → ((k : ℕ) (s : B) → k < length xs → f s (get_or xs k d) ≡ g k s) → fold f a xs ≡ iter g (length xs) a
  fold_whole xs d g e = ap (fold f a) (sym (take_all (length xs) xs (le_refl (length xs)))) ∙ fold_front xs (length xs) d g (le_refl (length xs)) e

  -- over `xs[from..to]`
  pub fold_range : (xs : List A) (from to : ℕ) (d : A) → from ≤ to → to ≤ length xs → fold f a (slice_range xs from to) ≡ iter (λ k s. f s (get_or xs (from + k) d)) (to - from) a
  fold_range xs from to d h l =
      fold_front (drop from xs) (to - from) d _ (simp length-drop (omega arith)) (λ k s m. ap (f s) (get_or-drop from xs k d))
