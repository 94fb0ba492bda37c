-- An extreme is one of the numbers of its window, or +0 for a zero, and none of them lies beyond it. Assumes nothing.
use Rattle.std.specs.Prelude.{if◌then◌else◌}
use mathlib.Core.Path.{◌≡◌, refl, sym, ◌∙◌, subst}
use mathlib.Core.Bool.{Bool, true, false, not, ◌||◌, true≢false}
use mathlib.Core.Logic.{◌⊎◌, inl, inr, ⊎_elim}
use mathlib.Core.List.{List}
use Prim.Native.Nat.{ℕ, zero, suc, ◌+◌, ◌-◌, ◌≤◌, ◌<◌}
use native.Mathlib.Omega.{arith}
use lib.Dec.{T}
use lib.Ieee.{Float, eq, lt, le, is_nan}
use lib.Ieee.Bits.{is_true}
use Rattle.lists.specs.Loop.{iter}
use Rattle.lists.proofs.Bounds.{lt_or_le}
use Rattle.doubles.specs.F64.{◌⩽◌, ◌⋖◌, +0, at, max_num, min_num}
use Rattle.doubles.proofs.Total.{⩽_refl, ⩽_trans, ⩽_or_⋖, ⋖_⩽, ⋖_apart, le_number_right}
use Rattle.doubles.proofs.Extremes.{replaced_number, min_of_two}
use Rattle.extremes.specs.Extremes.{unsigned_zero, window_start, extreme, largest, smallest}
use Rattle.extremes.proofs.Windows.{start_within}

-- the maximum of two numbers is the one that is at least the other
pub max_of_two : (x y : Float) → T (not (is_nan x)) → T (not (is_nan y)) → ((max_num x y ≡ x) × T (y ⩽ x)) ⊎ ((max_num x y ≡ y) × T (x ⩽ y))
unfolding max_num
max_of_two x y p q = rw (replaced_number x y (x ⋖ y) p) (go (x ⋖ y) refl (⩽_or_⋖ y x q p))
  where
    go : (b : Bool) → (x ⋖ y) ≡ b → T (y ⩽ x) ⊎ T (x ⋖ y) → (((if b then y else x) ≡ x) × T (y ⩽ x)) ⊎ (((if b then y else x) ≡ y) × T (x ⩽ y))
    go true e h = inr (refl, ⋖_⩽ x y (subst T (sym e) tt))
    go false e (inl l) = inl (refl, l)
    go false e (inr g) = absurd (true≢false (sym (is_true (x ⋖ y) g) ∙ e))

-- ---- zeros of either sign are equal
or_true : (b : Bool) → T (b || true)
or_true true = tt
or_true false = tt

zero_under : (x : Float) → eq x +0 ≡ true → T (x ⩽ +0)
unfolding le
zero_under x e = rw e (or_true (lt x +0))

zero_over : (x : Float) → T (not (is_nan x)) → eq x +0 ≡ true → T (+0 ⩽ x)
zero_over x n e = ⊎_elim (λ (l : T (+0 ⩽ x)). l) (λ (l : T (x ⋖ +0)). absurd (⋖_apart x +0 l (subst T (sym e) tt))) (⩽_or_⋖ +0 x (le_number_right x +0 (zero_under x e)) n)

-- +0 for a zero, any other as it is
zero_or_not : (x : Float) → (unsigned_zero x ≡ x) ⊎ ((eq x +0 ≡ true) × (unsigned_zero x ≡ +0))
unfolding unsigned_zero
zero_or_not x = go (eq x +0) refl
  where
    go : (b : Bool) → eq x +0 ≡ b → ((if b then +0 else x) ≡ x) ⊎ ((eq x +0 ≡ true) × ((if b then +0 else x) ≡ +0))
    go true e = inr (e, refl)
    go false e = inl refl

pub zero_unsigned : (x : Float) → eq (unsigned_zero x) +0 ≡ true → unsigned_zero x ≡ +0
unfolding unsigned_zero
zero_unsigned x = go (eq x +0) refl
  where
    go : (b : Bool) → eq x +0 ≡ b → eq (if b then +0 else x) +0 ≡ true → (if b then +0 else x) ≡ +0
    go true e h = refl
    go false e h = absurd (true≢false (sym h ∙ e))

-- ---- what is kept of several numbers, where one of two is kept, and R says that a number is kept before another
module _ (op : Float → Float → Float) (R : Float → Float → Type 0) (pick : (m x : Float) → T (not (is_nan m)) → T (not (is_nan x)) → ((op m x ≡ m) × R m x) ⊎ ((op m x ≡ x) × R x m)) (itself : (x : Float) → T (not (is_nan x)) → R x x) (on : (x y z : Float) → R x y → R y z → R x z) where
  pub record Best (f : ℕ → Float) (n : ℕ) (e : Float) : Type 0 where
    pub place : ℕ
    pub within : place ≤ n
    pub is : e ≡ f place
    pub all : (k : ℕ) → k ≤ n → R e (f k)

  best : (f : ℕ → Float) (n : ℕ) → ((k : ℕ) → k ≤ n → T (not (is_nan (f k)))) → Best f n (iter (λ k m. op m (f (k + 1))) n (f 0))
  unfolding iter
  best f zero h = record { place = 0; within = omega arith; is = refl; all = λ k l. let e : 0 ≡ k = omega arith in subst (λ (j : ℕ). R (f 0) (f j)) e (itself (f 0) (h 0 (omega arith))) }
  best f (suc n) h = go (best f n (λ k l. h k (omega arith)))
    where
      e : Float
      e = iter (λ k m. op m (f (k + 1))) n (f 0)

      x : Float
      x = f (n + 1)

      last : (k : ℕ) → n < k → k ≤ suc n → n + 1 ≡ k
      last k a b = omega arith

      go : Best f n (iter (λ k m. op m (f (k + 1))) n (f 0)) → Best f (suc n) (op (iter (λ k m. op m (f (k + 1))) n (f 0)) (f (n + 1)))
      go b = by (pick (iter (λ k m. op m (f (k + 1))) n (f 0)) (f (n + 1)) (subst (λ (y : Float). T (not (is_nan y))) (sym b.is) (h b.place (omega (arith, b.within)))) (h (n + 1) (omega arith)))
        where
          by : ((op (iter (λ k m. op m (f (k + 1))) n (f 0)) (f (n + 1)) ≡ iter (λ k m. op m (f (k + 1))) n (f 0)) × R (iter (λ k m. op m (f (k + 1))) n (f 0)) (f (n + 1))) ⊎ ((op (iter (λ k m. op m (f (k + 1))) n (f 0)) (f (n + 1)) ≡ f (n + 1)) × R (f (n + 1)) (iter (λ k m. op m (f (k + 1))) n (f 0)))
              → Best f (suc n) (op (iter (λ k m. op m (f (k + 1))) n (f 0)) (f (n + 1)))
          by (inl c) =
              record {
                place = b.place;
                within = omega (arith, b.within);
                is = c.0 ∙ b.is;
                all = λ k l. subst (λ (y : Float). R y (f k)) (sym c.0) (⊎_elim (λ (a : n < k). subst (λ (j : ℕ). R (iter (λ k m. op m (f (k + 1))) n (f 0)) (f j)) (last k a l) c.1) (λ (a : k ≤ n). b.all k a) (lt_or_le n k));
              }
          by (inr c) =
              record {
                place = n + 1;
                within = omega arith;
                is = c.0;
                all = λ k l. subst (λ (y : Float). R y (f k)) (sym c.0) (⊎_elim (λ (a : n < k). subst (λ (j : ℕ). R (f (n + 1)) (f j)) (last k a l) (itself (f (n + 1)) (h (n + 1) (omega arith)))) (λ (a : k ≤ n). on (f (n + 1)) _ (f k) c.1 (b.all k a)) (lt_or_le n k));
              }

  -- ---- the extreme of a window: place j is in it where j ≤ i < j + W
  pub record Extreme (W : ℕ) (x : List Float) (i : ℕ) (e : Float) : Type 0 where
    pub place : ℕ
    pub before : place ≤ i
    pub within : i < place + W
    pub one : (e ≡ at x place) ⊎ ((eq (at x place) +0 ≡ true) × (e ≡ +0))
    pub beyond : (j : ℕ) → j ≤ i → i < j + W → R e (at x j)
    pub unsigned : eq e +0 ≡ true → e ≡ +0

  pub extreme_known : ((x y : Float) → T (not (is_nan x)) → eq x +0 ≡ true → R x y → R +0 y) → (W : ℕ) (x : List Float) (i : ℕ) → 1 ≤ W → ((j : ℕ) → j ≤ i → i < j + W → T (not (is_nan (at x j)))) → Extreme W x i (extreme op W x i)
  unfolding extreme window_start
  extreme_known zeros W x i h n =
      let s = window_start W i in
      let l = start_within W i h in
      let b = best (λ k. at x (s + k)) (i - s) (λ k c. n (s + k) (omega (arith, l, c)) (omega arith)) in
      let z : s + 0 ≡ s = omega arith in
      let f = rw z at b in
      go s l (omega arith) (λ j c. omega (arith, c)) _ f (zero_or_not _)
    where
      go : (s : ℕ) → s ≤ i → i < s + W → ((j : ℕ) → i < j + W → s ≤ j) → (e : Float) → Best (λ k. at x (s + k)) (i - s) e → ((unsigned_zero e ≡ e) ⊎ ((eq e +0 ≡ true) × (unsigned_zero e ≡ +0))) → Extreme W x i (unsigned_zero e)
      go s l lo hi e b t =
          record {
            place = s + b.place;
            before = omega (arith, b.within, l);
            within = omega (arith, lo);
            one = told t;
            beyond = λ j a c. kept t j a c;
            unsigned = zero_unsigned e;
          }
        where
          told : ((unsigned_zero e ≡ e) ⊎ ((eq e +0 ≡ true) × (unsigned_zero e ≡ +0))) → (unsigned_zero e ≡ at x (s + b.place)) ⊎ ((eq (at x (s + b.place)) +0 ≡ true) × (unsigned_zero e ≡ +0))
          told (inl u) = inl (u ∙ b.is)
          told (inr u) = inr (subst (λ (y : Float). eq y +0 ≡ true) b.is u.0, u.1)

          number : T (not (is_nan e))
          number = subst (λ (y : Float). T (not (is_nan y))) (sym b.is) (n (s + b.place) (omega (arith, b.within, l)) (omega (arith, lo)))

          reached : (j : ℕ) → j ≤ i → i < j + W → R e (at x j)
          reached j a c =
              let d = hi j c in
              let k : s + (j - s) ≡ j = omega (arith, d) in
              subst (λ (p : ℕ). R e (at x p)) k (b.all (j - s) (omega (arith, a, d)))

          kept : ((unsigned_zero e ≡ e) ⊎ ((eq e +0 ≡ true) × (unsigned_zero e ≡ +0))) → (j : ℕ) → j ≤ i → i < j + W → R (unsigned_zero e) (at x j)
          kept (inl u) j a c = subst (λ (y : Float). R y (at x j)) (sym u) (reached j a c)
          kept (inr u) j a c = subst (λ (y : Float). R y (at x j)) (sym u.1) (zeros e (at x j) number u.0 (reached j a c))

-- ---- the largest and the smallest
abbrev pub Above : Float → Float → Type 0
Above e x = T (x ⩽ e)

abbrev pub Below : Float → Float → Type 0
Below e x = T (e ⩽ x)

pub largest_known : (W : ℕ) (x : List Float) (i : ℕ) → 1 ≤ W → ((j : ℕ) → j ≤ i → i < j + W → T (not (is_nan (at x j)))) → Extreme max_num Above max_of_two ⩽_refl (λ a b c p q. ⩽_trans c b a q p) W x i (largest W x i)
unfolding largest
largest_known W x i h n = extreme_known max_num Above max_of_two ⩽_refl (λ a b c p q. ⩽_trans c b a q p) (λ a b c e p. ⩽_trans b a +0 p (zero_under a e)) W x i h n

pub smallest_known : (W : ℕ) (x : List Float) (i : ℕ) → 1 ≤ W → ((j : ℕ) → j ≤ i → i < j + W → T (not (is_nan (at x j)))) → Extreme min_num Below min_of_two ⩽_refl ⩽_trans W x i (smallest W x i)
unfolding smallest
smallest_known W x i h n = extreme_known min_num Below min_of_two ⩽_refl ⩽_trans (λ a b c e p. ⩽_trans +0 a b (zero_over a c e) p) W x i h n
