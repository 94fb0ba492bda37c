-- What a write to a window does to the other windows and to the memory outside, in the form in which a caller has it:
-- the callee's equation `w₁ ≡ splice at vs w` is an argument. Assumes nothing.
use mathlib.Core.Path.{◌≡◌, refl, sym, ap, ◌∙◌}
use mathlib.Core.Logic.{⊎_elim}
use mathlib.Core.List.{List, [], ◌∷◌}
use Prim.Native.Nat.{ℕ, ◌+◌, ◌≤◌}
use native.Mathlib.Omega.{arith}
use lib.ListN.{length, set, replicate, length-replicate}
use Rattle.lists.specs.Window.{window, splice}
use Rattle.lists.specs.Bounds.{Disjoint}
use Rattle.lists.proofs.Bounds.{disjoint_cases}
use Rattle.lists.proofs.Window.{length_splice, window_splice_same, window_splice_before, window_splice_after, splice_cover, set_splice}
pub use Rattle.lists.specs.Frame.{Kept}

module _ {A : Type 0} where
  -- w₁ is w with the n elements vs written from index `at`. As a record it shows its arguments, so laws that take one need no others
  pub record Wrote (at n : ℕ) (vs w w₁ : List A) : Type 0 where
    pub is : w₁ ≡ splice at vs w
    pub size : length vs ≡ n

  pub wrote : (at n : ℕ) (vs w w₁ : List A) → length vs ≡ n → w₁ ≡ splice at vs w → Wrote at n vs w w₁
  wrote at n vs w w₁ l e = record { is = e; size = l }

  -- a store
  pub wrote_set : (w : List A) (k : ℕ) (v : A) → Wrote k 1 (v ∷ []) w (set w k v)
  wrote_set w k v = record { is = set_splice k v w; size = refl }

  -- the window that was written
  pub written : {at n : ℕ} {vs w w₁ : List A} → Wrote at n vs w w₁ → at + n ≤ length w → window at n w₁ ≡ vs
  written {at} {n} {vs} {w} t h = ap (window at n) t.is ∙ window_splice_same at n vs w t.size h

  -- a window apart from it: it starts where the write has ended, or ends where the write starts
  pub untouched : {at n : ℕ} {vs w w₁ : List A} → Wrote at n vs w w₁ → (bt m : ℕ) → Disjoint at n bt m → window bt m w₁ ≡ window bt m w
  untouched {at} {n} {vs} {w} t bt m apart =
      ap (window bt m) t.is
      ∙ ⊎_elim
      (λ (g : at + n ≤ bt). window_splice_before bt m at vs w (omega (arith, t.size)))
      (λ (g : bt + m ≤ at). window_splice_after bt m at vs w g)
      (disjoint_cases at n bt m apart)

  pub wrote_long : {at n : ℕ} {vs w w₁ : List A} → Wrote at n vs w w₁ → length w₁ ≡ length w
  wrote_long {at} {n} {vs} {w} t = ap length t.is ∙ length_splice at vs w

  pub kept_all : (p n : ℕ) (z : A) (w : List A) → Kept p n z w w
  kept_all p n z w = record { outside = refl; long = refl }

  pub kept_by : {p q : ℕ} {z : A} {w₀ w w₁ vs : List A} {at n : ℕ} → Kept p q z w₀ w → Wrote at n vs w w₁ → p ≤ at → at + n ≤ p + q → Kept p q z w₀ w₁
  kept_by {p} {q} {z} {w₀} {w} {w₁} {vs} {at} {n} k t a b =
      let lz : length (replicate q z) ≡ q = length-replicate q z in
      record {
        outside = ap (splice p (replicate q z)) t.is ∙ splice_cover p at (replicate q z) vs w a (omega arith) ∙ k.outside;
        long = wrote_long t ∙ k.long;
      }

  -- one after the other
  pub kept_on : {p n : ℕ} {z : A} {w₀ w w₁ : List A} → Kept p n z w₀ w → Kept p n z w w₁ → Kept p n z w₀ w₁
  kept_on a b = record { outside = b.outside ∙ a.outside; long = b.long ∙ a.long }

  -- what differs within a part differs within a longer one
  pub kept_wider : {p n : ℕ} {z : A} {w₀ w : List A} → Kept p n z w₀ w → (m : ℕ) → n ≤ m → Kept p m z w₀ w
  kept_wider {p} {n} {z} {w₀} {w} k m h =
      let ln = length-replicate n z in
      let lm = length-replicate m z in
      record {
        outside = sym (splice_cover p p (replicate m z) (replicate n z) w (omega arith) (omega arith))
            ∙ ap (splice p (replicate m z)) k.outside
            ∙ splice_cover p p (replicate m z) (replicate n z) w₀ (omega arith) (omega arith);
        long = k.long;
      }

  -- a window outside is as it was
  pub kept_window : {p n : ℕ} {z : A} {w₀ w : List A} → Kept p n z w₀ w → (q m : ℕ) → Disjoint p n q m → window q m w ≡ window q m w₀
  kept_window {p} {n} {z} {w₀} {w} k q m apart =
      let lz = length-replicate n z in
      sym (untouched (wrote p n (replicate n z) w _ lz refl) q m apart) ∙ ap (window q m) k.outside ∙ untouched (wrote p n (replicate n z) w₀ _ lz refl) q m apart
