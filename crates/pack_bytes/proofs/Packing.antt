-- Elements of m bytes written one behind another. Assumes nothing.
use mathlib.Core.List.{List}
use mathlib.Core.Path.{◌≡◌, refl, ◌∙◌, ap, subst}
use Prim.Native.Nat.{ℕ, ◌+◌, ◌*◌, ◌/◌, ◌%◌, ◌≤◌, ◌<◌}
use native.Mathlib.Nat.{zero-add}
use native.Mathlib.Omega.{arith}
use lib.ListN.{get_or}
use Rattle.std.proofs.Math.Nat.{mul_comm}
use Rattle.std.proofs.lemmas.Nat.{div-mul-add, mod-mul-add}
use Rattle.lists.specs.Loop.{tabulate}
use Rattle.lists.specs.Window.{splice}
use Rattle.lists.proofs.Loop.{tabulate_ext, Filled, read_after, filled_more}

module _ {A : Type 0} (m : ℕ) (byte : A → List ℕ → ℕ → ℕ → ℕ) (z : A) where
  -- element k over the bytes from m k
  abbrev pub byte_of : List A → List ℕ → ℕ → ℕ
  byte_of xs b i = byte (get_or xs (i / m) z) b (m * (i / m)) (i % m)

  pub next : ((x : A) (b c : List ℕ) (p j : ℕ) → ((i : ℕ) → p ≤ i → get_or c i 0 ≡ get_or b i 0) → byte x c p j ≡ byte x b p j)
      → (xs : List A) (b b₁ b₂ : List ℕ) (k n : ℕ) {x : A} → Filled 0 (m * k) (byte_of xs b) b b₁ → x ≡ get_or xs k z → m * k + m ≡ n → b₂ ≡ splice (m * k) (tabulate m (byte x b₁ (m * k))) b₁ → Filled 0 n (byte_of xs b) b b₂
  next from_here xs b b₁ b₂ k n {x} h ex en e =
      let same : (i : ℕ) → m * k ≤ i → get_or b₁ i 0 ≡ get_or b i 0 = λ i l. read_after h i 0 (omega (arith, l)) in
      let here : (j : ℕ) → j < m → byte x b₁ (m * k) j ≡ byte_of xs b (m * k + j) =
      λ j l.
      let q : (m * k + j) / m ≡ k = ap (λ (y : ℕ). (y + j) / m) (mul_comm m k) ∙ div-mul-add k m j l in
      let r : (m * k + j) % m ≡ j = ap (λ (y : ℕ). (y + j) % m) (mul_comm m k) ∙ mod-mul-add k m j l in
      from_here x b b₁ (m * k) j same ∙ rw (q, r, ex) refl in
      subst (λ i. Filled 0 i (byte_of xs b) b b₂) en
      (filled_more h m (rw (zero-add (m * k)) (e ∙ ap (λ v. splice (m * k) v b₁) (tabulate_ext m (byte x b₁ (m * k)) (λ j. byte_of xs b (m * k + j)) here))))
