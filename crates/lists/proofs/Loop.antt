-- Iterations and lists by index, and the turn of a loop that writes a window.
-- Assumes nothing.
use mathlib.Core.Path.{◌≡◌, refl, sym, ap, ◌∙◌, subst}
use mathlib.Core.List.{List, [], ◌∷◌, ◌++◌, map}
use Prim.Native.Nat.{ℕ, zero, suc, ◌+◌, ◌≤◌, ◌<◌, suc-le-suc}
use native.Mathlib.Omega.{arith}
use native.Mathlib.Numerals.{add-one}
use native.Mathlib.Nat.{suc-add, zero-add, suc_inj, le_refl, le_antisymm}
use lib.ListN.{length, get_or, set, replicate, length-set}
use mathlib.Core.Logic.{⊎_elim}
use mathlib.Core.Bool.{cond}
use lib.Dec.{ltb, leb-suc-zero, leb-suc-suc}
use borrow.Author.Tests.{lt-ltb}
use Rattle.lists.specs.Loop.{iter, tabulate, zip_with}
use Rattle.lists.specs.Window.{window, splice, over}
use Rattle.lists.specs.Bounds.{Disjoint, Apart}
use Rattle.lists.proofs.Bounds.{disjoint_cases}
use Rattle.lists.proofs.Window.{splice_more, splice_snoc, splice_nil, get_d_window, length_window, length_splice, get_or_splice_after, get_or_splice_before, get_or_splice_in, splice_splice, splice_window, splice_whole, window_splice_before, window_splice_after}

module _ {A : Type 0} where
  pub iter_none : (step : ℕ → A → A) (a : A) → iter step 0 a ≡ a
  unfolding iter
  iter_none step a = refl

  pub iter_next : (step : ℕ → A → A) (n : ℕ) (a : A) → iter step (n + 1) a ≡ step n (iter step n a)
  unfolding iter
  iter_next step n a = rw (add-one n)

  -- a turn of a loop that carries s
  pub iter_turn : (step : ℕ → A → A) (n : ℕ) (a s v : A) → s ≡ iter step n a → v ≡ step n s → v ≡ iter step (n + 1) a
  iter_turn step n a s v e d = d ∙ ap (step n) e ∙ sym (iter_next step n a)

  pub length_tabulate : (n : ℕ) (f : ℕ → A) → length (tabulate n f) ≡ n
  unfolding tabulate
  length_tabulate zero f = refl
  length_tabulate (suc n) f = ap suc (length_tabulate n (λ k. f (suc k)))

  pub get_d_tabulate : (n : ℕ) (f : ℕ → A) (k : ℕ) (d : A) → k < n → get_or (tabulate n f) k d ≡ f k
  unfolding tabulate
  get_d_tabulate zero f k d h = absurd (omega arith)
  get_d_tabulate (suc n) f zero d h = refl
  get_d_tabulate (suc n) f (suc k) d h = get_d_tabulate n (λ j. f (suc j)) k d (omega arith)

  pub tabulate_ext : (n : ℕ) (f g : ℕ → A) → ((k : ℕ) → k < n → f k ≡ g k) → tabulate n f ≡ tabulate n g
  unfolding tabulate
  tabulate_ext zero f g h = refl
  tabulate_ext (suc n) f g h = λ i. h 0 (omega arith) i ∷ tabulate_ext n (λ k. f (suc k)) (λ k. g (suc k)) (λ k l. h (suc k) (suc-le-suc l)) i

  tabulate_suc : (n : ℕ) (f : ℕ → A) → tabulate (suc n) f ≡ tabulate n f ++ (f n ∷ [])
  unfolding tabulate
  tabulate_suc zero f = refl
  tabulate_suc (suc n) f = ap (λ (r : List A). f 0 ∷ r) (tabulate_suc n (λ k. f (suc k)))

  pub tabulate_snoc : (n : ℕ) (f : ℕ → A) → tabulate (n + 1) f ≡ tabulate n f ++ (f n ∷ [])
  tabulate_snoc n f = rw (add-one n) (tabulate_suc n f)

  pub tabulate_add : (i m : ℕ) (f : ℕ → A) → tabulate (i + m) f ≡ tabulate i f ++ tabulate m (λ k. f (i + k))
  unfolding tabulate
  tabulate_add zero m f = simp zero-add
  tabulate_add (suc i) m f = simp suc-add (ap (λ (r : List A). f 0 ∷ r) (tabulate_add i m (λ k. f (suc k))))

  -- a list is what its index says
  pub tabulate_get_or : (w : List A) (d : A) → tabulate (length w) (λ k. get_or w k d) ≡ w
  unfolding tabulate
  tabulate_get_or [] d = refl
  tabulate_get_or (x ∷ w) d = ap (λ (r : List A). x ∷ r) (tabulate_get_or w d)

  -- ---- a loop that writes f k at index at + k, for k from 0: it starts, and takes a turn
  pub fill_start : (at : ℕ) (f : ℕ → A) (w : List A) → splice at (tabulate 0 f) w ≡ w
  unfolding tabulate
  fill_start at f w = splice_nil at w

  pub fill_next : (at : ℕ) (f : ℕ → A) (i : ℕ) (w : List A) → set (splice at (tabulate i f) w) (at + i) (f i) ≡ splice at (tabulate (i + 1) f) w
  fill_next at f i w =
      subst (λ (k : ℕ). set (splice at (tabulate i f) w) (at + k) (f i) ≡ splice at (tabulate i f ++ (f i ∷ [])) w) (length_tabulate i f) (splice_snoc at (tabulate i f) w (f i))
      ∙ ap (λ (r : List A). splice at r w) (sym (tabulate_snoc i f))

  -- w is w₀ with f 0 .. f (i - 1) written from index p: the invariant of a loop that writes a window from its front
  pub record Filled (p i : ℕ) (f : ℕ → A) (w₀ w : List A) : Type 0 where
    pub is : w ≡ splice p (tabulate i f) w₀
    pub long : length w ≡ length w₀

  pub started : (p : ℕ) (f : ℕ → A) (w : List A) → Filled p 0 f w w
  started p f w = record { is = sym (fill_start p f w); long = refl }

  -- a turn: a store of f i just past what is written
  pub turned : {p i : ℕ} {f : ℕ → A} {w₀ w : List A} {v : A} → Filled p i f w₀ w → v ≡ f i → Filled p (i + 1) f w₀ (set w (p + i) v)
  turned {p} {i} {f} {w₀} {w} {v} h e =
      record {
        is = (λ j. set (h.is j) (p + i) (e j)) ∙ fill_next p f i w₀;
        long = length-set w (p + i) v ∙ h.long;
      }

  -- the same where the window is the whole slice, or starts it
  pub turned₀ : {i : ℕ} {f : ℕ → A} {w₀ w : List A} {v : A} → Filled 0 i f w₀ w → v ≡ f i → Filled 0 (i + 1) f w₀ (set w i v)
  turned₀ {i} {f} {w₀} {w} {v} h e = subst (λ (k : ℕ). Filled 0 (i + 1) f w₀ (set w k v)) (zero-add i) (turned h e)

  -- a turn that writes the next m elements
  pub filled_more : {p i : ℕ} {f : ℕ → A} {w₀ w w₁ : List A} → Filled p i f w₀ w → (m : ℕ) → w₁ ≡ splice (p + i) (tabulate m (λ k. f (i + k))) w → Filled p (i + m) f w₀ w₁
  filled_more {p} {i} {f} {w₀} {w} {w₁} h m e =
      let next = tabulate m (λ k. f (i + k)) in
      record {
        is = e ∙ ap (splice (p + i) next) h.is ∙ splice_more p i (tabulate i f) next w₀ (length_tabulate i f) ∙ ap (λ (r : List A). splice p r w₀) (sym (tabulate_add i m f));
        long = ap length e ∙ length_splice (p + i) next w ∙ h.long;
      }

  -- what a turn reads is as it was: at the place that it is about to write, past it, before the window, and in a window apart
  pub read_after : {p i : ℕ} {f : ℕ → A} {w₀ w : List A} → Filled p i f w₀ w → (k : ℕ) (d : A) → p + i ≤ k → get_or w k d ≡ get_or w₀ k d
  read_after {p} {i} {f} {w₀} {w} h k d l = ap (λ (r : List A). get_or r k d) h.is ∙ get_or_splice_after p (tabulate i f) w₀ k d (simp length_tabulate l)

  pub read_before : {p i : ℕ} {f : ℕ → A} {w₀ w : List A} → Filled p i f w₀ w → (k : ℕ) (d : A) → k < p → get_or w k d ≡ get_or w₀ k d
  read_before {p} {i} {f} {w₀} {w} h k d l = ap (λ (r : List A). get_or r k d) h.is ∙ get_or_splice_before p (tabulate i f) w₀ k d l

  pub read_here : {p i : ℕ} {f : ℕ → A} {w₀ w : List A} → Filled p i f w₀ w → (d : A) → get_or w (p + i) d ≡ get_or w₀ (p + i) d
  read_here {p} {i} h d = read_after h (p + i) d (le_refl (p + i))

  pub read_apart : {p i : ℕ} {f : ℕ → A} {w₀ w : List A} → Filled p i f w₀ w → (q n k : ℕ) (d : A) → Apart p q n → i ≤ n → k < n → get_or w (q + k) d ≡ get_or w₀ (q + k) d
  read_apart {p} h q n k d apart l m =
      ⊎_elim (λ (g : p + n ≤ q). read_after h (q + k) d (omega arith)) (λ (g : q + n ≤ p). read_before h (q + k) d (omega arith)) (disjoint_cases p n q n apart)

  -- the same by the window's index
  pub read_window : {p i : ℕ} {f : ℕ → A} {w₀ w : List A} → Filled p i f w₀ w → (n k : ℕ) (d : A) → i ≤ k → k < n → get_or (window p n w) k d ≡ get_or (window p n w₀) k d
  read_window {p} {i} {f} {w₀} {w} h n k d l m = get_d_window p n w k d m ∙ read_after h (p + k) d (omega arith) ∙ sym (get_d_window p n w₀ k d m)

  -- a window that shares no place with the n that are written is as it was
  pub window_disjoint : {p i : ℕ} {f : ℕ → A} {w₀ w : List A} → Filled p i f w₀ w → (n q m : ℕ) → Disjoint p n q m → i ≤ n → window q m w ≡ window q m w₀
  window_disjoint {p} {i} {f} {w₀} {w} h n q m apart l =
      ap (window q m) h.is
      ∙ ⊎_elim
      (λ (g : p + n ≤ q). window_splice_before q m p (tabulate i f) w₀ (simp length_tabulate (omega arith)))
      (λ (g : q + m ≤ p). window_splice_after q m p (tabulate i f) w₀ g)
      (disjoint_cases p n q m apart)

  pub window_apart : {p i : ℕ} {f : ℕ → A} {w₀ w : List A} → Filled p i f w₀ w → (q n : ℕ) → Apart p q n → i ≤ n → window q n w ≡ window q n w₀
  window_apart h q n apart l = window_disjoint h n q n apart l

  pub finished : {p i : ℕ} {f : ℕ → A} {w₀ w : List A} → Filled p i f w₀ w → (n : ℕ) → i ≤ n → n ≤ i → w ≡ splice p (tabulate n f) w₀
  finished {p} {i} {f} {w₀} {w} h n l m = subst (λ (k : ℕ). w ≡ splice p (tabulate k f) w₀) (le_antisymm l m) h.is

  -- the same where the window is the whole slice
  pub finished₀ : {i : ℕ} {f : ℕ → A} {w₀ w : List A} → Filled 0 i f w₀ w → i ≤ length w₀ → length w₀ ≤ i → w ≡ tabulate (length w₀) f
  finished₀ {i} {f} {w₀} {w} h l m = finished h (length w₀) l m ∙ splice_whole (tabulate (length w₀) f) w₀ (length_tabulate (length w₀) f)

  -- the same where the code has the length by another name
  pub finished_all : {i : ℕ} {f : ℕ → A} {w₀ w : List A} → Filled 0 i f w₀ w → (n : ℕ) → i ≤ n → n ≤ i → length w₀ ≡ n → w ≡ tabulate n f
  finished_all {i} {f} {w₀} {w} h n l m e = finished h n l m ∙ splice_whole (tabulate n f) w₀ (length_tabulate n f ∙ sym e)

  -- what a loop has written
  pub read_written : (p n : ℕ) (f : ℕ → A) (w₀ : List A) (k : ℕ) (d : A) {w : List A} → w ≡ splice p (tabulate n f) w₀ → p + n ≤ length w₀ → k < n → get_or w (p + k) d ≡ f k
  read_written p n f w₀ k d e l h =
      ap (λ (r : List A). get_or r (p + k) d) e ∙ get_or_splice_in p (tabulate n f) w₀ k d (simp length_tabulate h) (omega arith) ∙ get_d_tabulate n f k d h

  -- a loop over a window that a loop before has written: its element k, made from the one that stands there, takes that one's place
  pub passed : (p n : ℕ) (f : ℕ → A) (g : ℕ → A → A) (w₀ : List A) (d : A) {w₁ w₂ : List A} → p + n ≤ length w₀ → w₁ ≡ splice p (tabulate n f) w₀ → w₂ ≡ splice p (tabulate n (λ k. g k (get_or w₁ (p + k) d))) w₁ → w₂ ≡ splice p (tabulate n (λ k. g k (f k))) w₀
  passed p n f g w₀ d {w₁} {w₂} l e₁ e₂ =
      e₂
      ∙ (λ j. splice p (tabulate_ext n (λ k. g k (get_or w₁ (p + k) d)) (λ k. g k (f k)) (λ k h. ap (g k) (read_written p n f w₀ k d e₁ l h)) j) (e₁ j))
      ∙ splice_splice p (tabulate n (λ k. g k (f k))) (tabulate n f) w₀ (simp length_tabulate (le_refl n))

  -- ---- vector operations, element by element
  pub zip_with_tabulate : (g : A → A → A) (xs ys : List A) (n : ℕ) (d : A) → length xs ≡ n → length ys ≡ n → zip_with g xs ys ≡ tabulate n (λ k. g (get_or xs k d) (get_or ys k d))
  unfolding zip_with tabulate
  zip_with_tabulate g [] ys zero d e e' = refl
  zip_with_tabulate g [] ys (suc n) d e e' = absurd (omega arith)
  zip_with_tabulate g (x ∷ xs) ys zero d e e' = absurd (omega arith)
  zip_with_tabulate g (x ∷ xs) [] (suc n) d e e' = absurd (omega arith)
  zip_with_tabulate g (x ∷ xs) (y ∷ ys) (suc n) d e e' = ap (λ (r : List A). g x y ∷ r) (zip_with_tabulate g xs ys n d (suc_inj e) (suc_inj e'))

  pub get_or_zip_with : (g : A → A → A) (xs ys : List A) (n : ℕ) (d : A) → length xs ≡ n → length ys ≡ n → (k : ℕ) → k < n → get_or (zip_with g xs ys) k d ≡ g (get_or xs k d) (get_or ys k d)
  get_or_zip_with g xs ys n d e e' k l = ap (λ (w : List A). get_or w k d) (zip_with_tabulate g xs ys n d e e') ∙ get_d_tabulate n _ k d l

  pub length_zip_with : (g : A → A → A) (xs ys : List A) → length xs ≡ length ys → length (zip_with g xs ys) ≡ length xs
  unfolding zip_with
  length_zip_with g [] ys e = refl
  length_zip_with g (x ∷ xs) [] e = absurd (omega arith)
  length_zip_with g (x ∷ xs) (y ∷ ys) e = ap suc (length_zip_with g xs ys (suc_inj e))

  pub zip_with_windows : (g : A → A → A) (p q n : ℕ) (v w : List A) (d : A) → p + n ≤ length v → q + n ≤ length w → zip_with g (window p n v) (window q n w) ≡ tabulate n (λ k. g (get_or v (p + k) d) (get_or w (q + k) d))
  zip_with_windows g p q n v w d l m =
      zip_with_tabulate g (window p n v) (window q n w) n d (length_window p n v l) (length_window q n w m)
      ∙ tabulate_ext n (λ k. g (get_or (window p n v) k d) (get_or (window q n w) k d)) (λ k. g (get_or v (p + k) d) (get_or w (q + k) d)) (λ k h j. g (get_d_window p n v k d h j) (get_d_window q n w k d h j))

  -- a window, by its index
  pub window_tabulate : (p n : ℕ) (w : List A) (d : A) → p + n ≤ length w → window p n w ≡ tabulate n (λ k. get_or w (p + k) d)
  window_tabulate p n w d l =
      sym (tabulate_get_or (window p n w) d)
      ∙ ap (λ (m : ℕ). tabulate m (λ k. get_or (window p n w) k d)) (length_window p n w l)
      ∙ tabulate_ext n (λ k. get_or (window p n w) k d) (λ k. get_or w (p + k) d) (λ k h. get_d_window p n w k d h)

  -- the window as it is, by index
  pub unwritten : (p n : ℕ) (w : List A) (d : A) → p + n ≤ length w → w ≡ splice p (tabulate n (λ k. get_or w (p + k) d)) w
  unwritten p n w d l = sym (splice_window p n w) ∙ ap (λ (r : List A). splice p r w) (window_tabulate p n w d l)

  pub replicate_tabulate : (n : ℕ) (a : A) → replicate n a ≡ tabulate n (λ k. a)
  unfolding tabulate
  replicate_tabulate zero a = refl
  replicate_tabulate (suc n) a = ap (λ (r : List A). a ∷ r) (replicate_tabulate n a)

  -- the first i places written, the others as they were filled
  pub front_filled : (n i : ℕ) (f : ℕ → A) (z : A) → i ≤ n → splice 0 (tabulate i f) (replicate n z) ≡ tabulate n (λ k. cond (ltb k i) (f k) z)
  unfolding tabulate splice over
  front_filled n zero f z h =
      fill_start 0 f (replicate n z) ∙ replicate_tabulate n z ∙ tabulate_ext n (λ k. z) (λ k. cond (ltb k 0) (f k) z) (λ k l. rw (leb-suc-zero k))
  front_filled zero (suc i) f z h = absurd (omega arith)
  front_filled (suc n) (suc i) f z h =
      rw (lt-ltb 0 (suc i) (omega arith))
      (ap (λ (r : List A). f 0 ∷ r) (front_filled n i (λ k. f (suc k)) z (omega arith) ∙ tabulate_ext n (λ k. cond (ltb k i) (f (suc k)) z) (λ k. cond (ltb (suc k) (suc i)) (f (suc k)) z) (λ k l. rw (leb-suc-suc (suc k) i))))

-- map g, by the index
pub map_tabulate : {A B : Type 0} (g : A → B) (xs : List A) (d : A) → map g xs ≡ tabulate (length xs) (λ k. g (get_or xs k d))
unfolding tabulate
map_tabulate g [] d = refl
map_tabulate {A} {B} g (x ∷ xs) d = ap (λ (r : List B). g x ∷ r) (map_tabulate g xs d)

pub get_d_map : {A : Type 0} (f : ℕ → A) (xs : List ℕ) (x : ℕ) (d : A) → x < length xs → get_or (map f xs) x d ≡ f (get_or xs x 0)
get_d_map {A} f xs x d l = ap (λ (w : List A). get_or w x d) (map_tabulate f xs 0) ∙ get_d_tabulate (length xs) (λ k. f (get_or xs k 0)) x d l
