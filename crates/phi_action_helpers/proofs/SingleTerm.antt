-- A term made and added to the field in one loop, where the operator has one column. Assumes nothing.
use mathlib.Core.Path.{◌≡◌, refl, sym, ap, ◌∙◌}
use mathlib.Core.List.{List, ◌++◌}
use Prim.Native.Nat.{ℕ, ◌+◌, ◌≤◌, ◌<◌}
use native.Mathlib.Nat.{zero-add, add_assoc}
use native.Mathlib.Omega.{arith}
use lib.ListN.{length, get_or, set}
use lib.Ieee.{Float, nan}
use Rattle.lists.specs.Loop.{tabulate, zip_with}
use Rattle.lists.specs.Window.{window, splice}
use Rattle.lists.proofs.Frame.{wrote, untouched}
use Rattle.lists.proofs.Loop.{iter_none, iter_next, length_tabulate, get_d_tabulate, tabulate_ext, tabulate_add, fill_start, fill_next, zip_with_windows}
use Rattle.lists.proofs.Window.{length_splice, get_or_splice_before, get_or_splice_after, get_or_splice_in, splice_comm, splice_more, set_splice_after}
use Rattle.doubles.specs.F64.{◌⊕◌, ◌⊗◌, at}
use Rattle.general_operator.specs.Csr.{apply_generator}
use Rattle.phi_action_helpers.specs.declared.Scales.{Scales}
use Rattle.phi_action_helpers.specs.Augmented.{Augmented, scalars, coupled, generator_term, bottom, aug_matvec}
use Rattle.phi_action_helpers.proofs.Augmented.{product}

-- the first i places of two windows, the front and that from w
module _ (w i : ℕ) (f g : ℕ → Float) (w₀ : List Float) {work : List Float} (e : work ≡ splice 0 (tabulate i f) (splice w (tabulate i g) w₀)) where
  -- a place behind both is not yet written, nor is one between them
  pub unread : (k : ℕ) → i ≤ k → w + i ≤ k → at work k ≡ at w₀ k
  unread k h h' =
      let lf = length_tabulate i f in
      let lg = length_tabulate i g in
      ap (λ (x : List Float). at x k) e ∙ get_or_splice_after 0 (tabulate i f) _ k nan (omega arith) ∙ get_or_splice_after w (tabulate i g) w₀ k nan (omega arith)

  pub unread_front : (k : ℕ) → i ≤ k → k < w → at work k ≡ at w₀ k
  unread_front k h h' =
      let lf = length_tabulate i f in
      ap (λ (x : List Float). at x k) e ∙ get_or_splice_after 0 (tabulate i f) _ k nan (omega arith) ∙ get_or_splice_before w (tabulate i g) w₀ k nan h'

  -- one more place of each
  pub both_turn : (t u : Float) → t ≡ g i → u ≡ f i → set (set work (w + i) t) i u ≡ splice 0 (tabulate (i + 1) f) (splice w (tabulate (i + 1) g) w₀)
  both_turn t u et eu =
      let lf = length_tabulate i f in
      let x = splice w (tabulate i g) w₀ in
      (λ j. set (set (e j) (w + i) (et j)) i (eu j))
      ∙ ap (λ (y : List Float). set y i (f i)) (set_splice_after 0 (tabulate i f) x (w + i) (g i) (omega arith) ∙ ap (splice 0 (tabulate i f)) (fill_next w g i w₀))
      ∙ rw zero-add at (fill_next 0 f i (splice w (tabulate (i + 1) g) w₀))

pub both_started : (w : ℕ) (f g : ℕ → Float) (work : List Float) → work ≡ splice 0 (tabulate 0 f) (splice w (tabulate 0 g) work)
both_started w f g work = sym (fill_start 0 f _ ∙ fill_start w g work)

-- a row with one column
pub one_column : (vectors : List Float) (places : List ℕ) (sc : List Float) (i : ℕ) (acc : Float) → coupled vectors places 1 sc i acc ≡ acc ⊕ at sc 0 ⊗ at vectors (get_or places 0 0 + i)
unfolding coupled
one_column vectors places sc i acc =
    iter_next (λ j a. a ⊕ at sc j ⊗ at vectors (get_or places j 0 + i)) 0 acc ∙ ap (λ a. a ⊕ at sc 0 ⊗ at vectors (get_or places 0 0 + i)) (iter_none (λ j a. a ⊕ at sc j ⊗ at vectors (get_or places j 0 + i)) acc)

-- the sums of two windows of n + d, of which the first n are y
sums : (n d w : ℕ) (y M : List Float) → w + (n + d) ≤ length M → n + d ≤ length M
    → y ≡ tabulate n (λ i. at M i ⊕ at M (w + i))
    → y ++ zip_with ◌⊕◌ (window n d M) (window (w + n) d M) ≡ zip_with ◌⊕◌ (window 0 (n + d) M) (window w (n + d) M)
sums n d w y M hw hy e =
    (λ j. e j ++ zip_with_windows ◌⊕◌ n (w + n) d M M nan (omega arith) (omega arith) j)
    ∙ ap (λ (z : List Float). tabulate n (λ i. at M i ⊕ at M (w + i)) ++ z) (tabulate_ext d _ _ (λ i h. rw (add_assoc w n i)))
    ∙ sym (tabulate_add n d (λ i. at M i ⊕ at M (w + i)))
    ∙ sym (zip_with_windows ◌⊕◌ 0 w (n + d) M M nan (omega arith) hw ∙ tabulate_ext (n + d) _ _ (λ i h. rw (zero-add i)))

-- the five steps of a term with one column, in one: a product, and then its sum with the field
pub single_term : (b : Augmented) (k : Scales) (w av : ℕ) (sc w₀ w₁ w₂ w₃ w₄ : List Float)
    → b.matrix.n + b.d ≤ w
    → w + (b.matrix.n + b.d) ≤ av
    → av + b.matrix.n ≤ length w₀
    → b.count ≡ 1
    → w₁ ≡ splice av (apply_generator b.matrix (window w b.matrix.n w₀)) w₀
    → sc ≡ scalars b.gains 1 k.one (window (w + b.matrix.n) b.d w₁)
    → (let f : ℕ → Float = λ i. generator_term k (at w₁ (av + i)) (at w₁ (w + i)) ⊕ at sc 0 ⊗ at b.vectors (get_or b.places 0 0 + i) in w₂ ≡ splice 0 (tabulate b.matrix.n (λ i. at w₁ i ⊕ f i)) (splice w (tabulate b.matrix.n f) w₁))
    → w₃ ≡ splice (w + b.matrix.n) (bottom k b.d (window (w + b.matrix.n) b.d w₂)) w₂
    → w₄ ≡ splice b.matrix.n (zip_with ◌⊕◌ (window b.matrix.n b.d w₃) (window (w + b.matrix.n) b.d w₃)) w₃
    → (let W = splice w (aug_matvec b k (window w (b.matrix.n + b.d) w₀)) (splice av (apply_generator b.matrix (window w b.matrix.n w₀)) w₀) in w₄ ≡ splice 0 (zip_with ◌⊕◌ (window 0 (b.matrix.n + b.d) W) (window w (b.matrix.n + b.d) W)) W)
single_term b k w av sc w₀ w₁ w₂ w₃ w₄ front behind fav single e₁ es e₂ e₃ e₄ =
    let n = b.matrix.n in
    let d = b.d in
    let g : ℕ → Float = λ i. generator_term k (at w₁ (av + i)) (at w₁ (w + i)) in
    let f : ℕ → Float = λ i. g i ⊕ at sc 0 ⊗ at b.vectors (get_or b.places 0 0 + i) in
    let F = tabulate n f in
    let lF : length F ≡ n = length_tabulate n f in
    let X = splice w F w₁ in
    let B = bottom k d (window (w + n) d X) in
    let M = splice (w + n) B X in
    let l₁ : length w₁ ≡ length w₀ = ap length e₁ ∙ length_splice av _ w₀ in
    let lX : length X ≡ length w₁ = length_splice w F w₁ in
    let lM : length M ≡ length X = length_splice (w + n) B X in
    let rows : F ≡ tabulate n (λ i. coupled b.vectors b.places b.count sc i (g i)) = tabulate_ext n _ _ (λ i h. sym (ap (λ (m : ℕ). coupled b.vectors b.places m sc i (g i)) single ∙ one_column b.vectors b.places sc i (g i))) in
    let made : M ≡ splice w (aug_matvec b k (window w (n + d) w₀)) (splice av (apply_generator b.matrix (window w n w₀)) w₀)
    = product b k w av sc w₀ w₁ X M (omega arith) fav (λ h. omega arith) e₁ (es ∙ ap (λ (m : ℕ). scalars b.gains m k.one (window (w + n) d w₁)) (sym single)) (ap (λ (r : List Float). splice w r w₁) rows) refl in
    let Y = tabulate n (λ i. at w₁ i ⊕ f i) in
    let lY : length Y ≡ n = length_tabulate n _ in
    let t₂ = wrote 0 n Y X w₂ lY e₂ in
    let e₃'' : w₃ ≡ splice (w + n) B (splice 0 Y X) = e₃ ∙ rw (untouched t₂ (w + n) d (omega arith), e₂) in
    let e₃' : w₃ ≡ splice 0 Y M = e₃'' ∙ sym (splice_comm 0 (w + n) Y B X (omega arith)) in
    let t₃ = wrote 0 n Y M w₃ lY e₃' in
    let Z = zip_with ◌⊕◌ (window n d M) (window (w + n) d M) in
    let e₄' : w₄ ≡ splice n Z (splice 0 Y M) = e₄ ∙ rw (untouched t₃ n d (omega arith), untouched t₃ (w + n) d (omega arith), e₃') in
    let field : (i : ℕ) → i < n → at M i ≡ at w₁ i = λ i h. get_or_splice_before (w + n) B X i nan (omega arith) ∙ get_or_splice_before w F w₁ i nan (omega arith) in
    let term : (i : ℕ) → i < n → at M (w + i) ≡ f i = λ i h. get_or_splice_before (w + n) B X (w + i) nan (omega arith) ∙ get_or_splice_in w F w₁ i nan (omega arith) (omega arith) ∙ get_d_tabulate n f i nan h in
    let Y_is : Y ≡ tabulate n (λ i. at M i ⊕ at M (w + i)) = tabulate_ext n _ _ (λ i h. rw (field i h, term i h)) in
    e₄' ∙ (rw zero-add at (splice_more 0 n Y Z M lY))
    ∙ ap (λ (r : List Float). splice 0 r M) (sums n d w Y M (omega arith) (omega arith) Y_is)
    ∙ ap (λ (v : List Float). splice 0 (zip_with ◌⊕◌ (window 0 (n + d) v) (window w (n + d) v)) v) made
