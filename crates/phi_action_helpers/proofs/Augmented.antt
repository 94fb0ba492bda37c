-- What the parts of a product read. Assumes nothing.
use mathlib.Core.Path.{◌≡◌, sym, ap, ◌∙◌}
use mathlib.Core.Logic.{⊎_elim}
use mathlib.Core.Bool.{true, false}
use mathlib.Core.List.{List, ◌++◌}
use Prim.Native.Nat.{ℕ, ◌+◌, ◌≤◌, ◌<◌}
use native.Mathlib.Omega.{arith}
use borrow.Author.Tests.{lt-ltb, le-ltb}
use lib.ListN.{length, get_or, length-append}
use lib.Ieee.{Float, nan}
use native.Mathlib.Nat.{add-zero}
use Rattle.lists.specs.Bounds.{Disjoint}
use Rattle.lists.specs.Loop.{iter, tabulate}
use Rattle.lists.specs.Window.{window, splice}
use Rattle.lists.proofs.Bounds.{lt_or_le, part_apart}
use Rattle.lists.proofs.Loop.{iter_none, iter_next, tabulate_ext, length_tabulate, passed, unwritten}
use Rattle.lists.proofs.Window.{length_window, get_d_window, window_window, splice_append, splice_comm, splice_splice}
use Rattle.lists.proofs.Frame.{wrote, written, untouched, wrote_long}
use Rattle.doubles.specs.F64.{◌⊕◌, ◌⊗◌, at}
use Rattle.general_operator.specs.Csr.{apply_generator}
use Rattle.general_operator.proofs.Rows.{length_apply}
use Rattle.csr_matvec.specs.Values.{generator_by}
use Rattle.csr_matvec.proofs.Values.{length_by, scaled_at}
use Rattle.phi_action_helpers.specs.declared.Scales.{Scales}
use Rattle.phi_action_helpers.specs.Augmented.{Augmented, scalars, coupled, generator_term, chain_term, top, bottom, aug_matvec}

-- value i of a chain's product reads the places i and i + 1 only
pub chain_reads : (k : Scales) (d : ℕ) (c c₀ : List Float) (i : ℕ) → at c i ≡ at c₀ i → (i + 1 < d → at c (i + 1) ≡ at c₀ (i + 1)) → chain_term k d c i ≡ chain_term k d c₀ i
unfolding chain_term
chain_reads k d c c₀ i e n =
    ⊎_elim (λ (g : i + 1 < d). rw (lt-ltb (i + 1) d g, e, n g)) (λ (g : d ≤ i + 1). rw (le-ltb (i + 1) d g, e)) (lt_or_le (i + 1) d)

pub length_top : (b : Augmented) (k : Scales) (av u c : List Float) → length (top b k av u c) ≡ b.matrix.n
unfolding top
length_top b k av u c = length_tabulate b.matrix.n _

pub length_bottom : (k : Scales) (d : ℕ) (c : List Float) → length (bottom k d c) ≡ d
unfolding bottom
length_bottom k d c = length_tabulate d (chain_term k d c)

pub length_aug_matvec : (b : Augmented) (k : Scales) (x : List Float) → length (aug_matvec b k x) ≡ b.matrix.n + b.d
unfolding aug_matvec
length_aug_matvec b k x = simp (length-append, length_top, length_bottom)

-- the columns one by one: none, and one more
pub no_column : (vectors : List Float) (places : List ℕ) (sc : List Float) (w n : ℕ) (work : List Float) → w + n ≤ length work → work ≡ splice w (tabulate n (λ i. coupled vectors places 0 sc i (at work (w + i)))) work
unfolding coupled
no_column vectors places sc w n work l =
    unwritten w n work nan l ∙ ap (λ r. splice w r work) (tabulate_ext n _ _ (λ i h. sym (iter_none (λ j a. a ⊕ at sc j ⊗ at vectors (get_or places j 0 + i)) (at work (w + i)))))

pub next_column : (vectors : List Float) (places : List ℕ) (sc : List Float) (w n j : ℕ) (work₀ : List Float) {work work₁ : List Float}
    → work ≡ splice w (tabulate n (λ i. coupled vectors places j sc i (at work₀ (w + i)))) work₀
    → work₁ ≡ splice w (tabulate n (λ i. at work (w + i) ⊕ at sc j ⊗ at vectors (get_or places j 0 + i))) work
    → w + n ≤ length work₀
    → work₁ ≡ splice w (tabulate n (λ i. coupled vectors places (j + 1) sc i (at work₀ (w + i)))) work₀
unfolding coupled
next_column vectors places sc w n j work₀ e e₁ l =
    passed w n (λ i. iter (λ k a. a ⊕ at sc k ⊗ at vectors (get_or places k 0 + i)) j (at work₀ (w + i))) (λ i x. x ⊕ at sc j ⊗ at vectors (get_or places j 0 + i)) work₀ nan l e e₁
    ∙ ap (λ r. splice w r work₀) (tabulate_ext n _ _ (λ i h. sym (iter_next (λ k a. a ⊕ at sc k ⊗ at vectors (get_or places k 0 + i)) j (at work₀ (w + i)))))

-- the rows as the loops over the memory make them
pub top_rows : (b : Augmented) (k : Scales) (w av : ℕ) (work c : List Float)
    → tabulate b.matrix.n (λ i. coupled b.vectors b.places b.count (scalars b.gains b.count k.one c) i (generator_term k (at work (av + i)) (at work (w + i))))
    ≡ top b k (window av b.matrix.n work) (window w b.matrix.n work) c
unfolding top
top_rows b k w av work c =
    let n = b.matrix.n in
    tabulate_ext n _ _ (λ i h. rw (get_d_window av n work i nan h, get_d_window w n work i nan h))

-- the four steps of a product, in one
pub product : (b : Augmented) (k : Scales) (w av : ℕ) (sc w₀ w₁ w₂ w₃ : List Float)
    → w + (b.matrix.n + b.d) ≤ length w₀
    → av + b.matrix.n ≤ length w₀
    → Disjoint w (b.matrix.n + b.d) av b.matrix.n
    → w₁ ≡ splice av (apply_generator b.matrix (window w b.matrix.n w₀)) w₀
    → sc ≡ scalars b.gains b.count k.one (window (w + b.matrix.n) b.d w₁)
    → w₂ ≡ splice w (tabulate b.matrix.n (λ i. coupled b.vectors b.places b.count sc i (generator_term k (at w₁ (av + i)) (at w₁ (w + i))))) w₁
    → w₃ ≡ splice (w + b.matrix.n) (bottom k b.d (window (w + b.matrix.n) b.d w₂)) w₂
    → w₃ ≡ splice w (aug_matvec b k (window w (b.matrix.n + b.d) w₀)) (splice av (apply_generator b.matrix (window w b.matrix.n w₀)) w₀)
unfolding aug_matvec
product b k w av sc w₀ w₁ w₂ w₃ fw fav apart e₁ es e₂ e₃ =
    let n = b.matrix.n in
    let d = b.d in
    let x = window w (n + d) w₀ in
    let u : window 0 n x ≡ window w n w₀ = window_window w (n + d) 0 n w₀ (omega arith) ∙ rw (add-zero w) in
    let c : window n d x ≡ window (w + n) d w₀ = window_window w (n + d) n d w₀ (omega arith) in
    let t₁ = wrote av n _ w₀ w₁ (length_apply b.matrix _) e₁ in
    let u₁ : window w n w₁ ≡ window 0 n x = untouched t₁ w n (part_apart w (n + d) av n w n apart (omega arith) (omega arith)) ∙ sym u in
    let c₁ : window (w + n) d w₁ ≡ window n d x = untouched t₁ (w + n) d (part_apart w (n + d) av n (w + n) d apart (omega arith) (omega arith)) ∙ sym c in
    let av₁ : window av n w₁ ≡ apply_generator b.matrix (window 0 n x) = written t₁ fav ∙ ap (apply_generator b.matrix) (sym u) in
    let T = top b k (apply_generator b.matrix (window 0 n x)) (window 0 n x) (window n d x) in
    let B = bottom k d (window n d x) in
    let e₂' : w₂ ≡ splice w T w₁ = e₂ ∙ rw (es, top_rows b k w av w₁ (window (w + n) d w₁), u₁, c₁, av₁) in
    let lT : length T ≡ n = length_top b k _ _ _ in
    let t₂ = wrote w n T w₁ w₂ lT e₂' in
    let c₂ : window (w + n) d w₂ ≡ window n d x = untouched t₂ (w + n) d (omega arith) ∙ c₁ in
    let e₃' : w₃ ≡ splice (w + n) B (splice w T w₁) = e₃ ∙ rw (c₂, e₂') in
    e₃' ∙ sym (splice_comm w (w + n) T B w₁ (omega arith)) ∙ ap (λ (m : ℕ). splice w T (splice (w + m) B w₁)) (sym lT) ∙ sym (splice_append w T B w₁) ∙ ap (splice w (T ++ B)) e₁

-- without a shift the generator's share is tau G u
pub unshifted : (k : Scales) (av u : Float) → k.shifted ≡ false → generator_term k av u ≡ k.tau ⊗ av
unfolding generator_term
unshifted k av u e = rw e

-- the rows where the generator's shares stand in the memory
made_rows : (b : Augmented) (k : Scales) (w : ℕ) (work av u c : List Float)
    → ((i : ℕ) → i < b.matrix.n → at work (w + i) ≡ generator_term k (at av i) (at u i))
    → tabulate b.matrix.n (λ i. coupled b.vectors b.places b.count (scalars b.gains b.count k.one c) i (at work (w + i)))
    ≡ top b k av u c
unfolding top
made_rows b k w work av u c row = tabulate_ext b.matrix.n _ _ (λ i h. rw (row i h))

-- the five steps of a product that is read from src and made at w, in one
pub straight : (b : Augmented) (k : Scales) (src w : ℕ) (sc w₀ w₁ w₂ w₃ w₄ : List Float)
    → src + (b.matrix.n + b.d) ≤ w
    → w + (b.matrix.n + b.d) ≤ length w₀
    → k.shifted ≡ false
    → w₁ ≡ splice w (generator_by true k.tau b.matrix (window src b.matrix.n w₀)) w₀
    → w₂ ≡ splice (w + b.matrix.n) (window (src + b.matrix.n) b.d w₁) w₁
    → sc ≡ scalars b.gains b.count k.one (window (w + b.matrix.n) b.d w₂)
    → w₃ ≡ splice w (tabulate b.matrix.n (λ i. coupled b.vectors b.places b.count sc i (at w₂ (w + i)))) w₂
    → w₄ ≡ splice (w + b.matrix.n) (bottom k b.d (window (w + b.matrix.n) b.d w₃)) w₃
    → w₄ ≡ splice w (aug_matvec b k (window src (b.matrix.n + b.d) w₀)) w₀
unfolding aug_matvec
straight b k src w sc w₀ w₁ w₂ w₃ w₄ before fw plain e₁ e₂ es e₃ e₄ =
    let n = b.matrix.n in
    let d = b.d in
    let x = window src (n + d) w₀ in
    let u : window 0 n x ≡ window src n w₀ = window_window src (n + d) 0 n w₀ (omega arith) ∙ rw (add-zero src) in
    let c : window n d x ≡ window (src + n) d w₀ = window_window src (n + d) n d w₀ (omega arith) in
    let g = generator_by true k.tau b.matrix (window src n w₀) in
    let lg : length g ≡ n = length_by true k.tau b.matrix (window src n w₀) in
    let t₁ = wrote w n g w₀ w₁ lg e₁ in
    let l₁ = wrote_long t₁ in
    let c₁ : window (src + n) d w₁ ≡ window n d x = untouched t₁ (src + n) d (omega arith) ∙ sym c in
    let lc : length (window (src + n) d w₁) ≡ d = length_window (src + n) d w₁ (omega arith) in
    let t₂ = wrote (w + n) d (window (src + n) d w₁) w₁ w₂ lc e₂ in
    let l₂ = wrote_long t₂ in
    let c₂ : window (w + n) d w₂ ≡ window n d x = written t₂ (omega arith) ∙ c₁ in
    let g₂ : window w n w₂ ≡ g = untouched t₂ w n (omega arith) ∙ written t₁ (omega arith) in
    let row : (i : ℕ) → i < n → at w₂ (w + i) ≡ generator_term k (at (apply_generator b.matrix (window 0 n x)) i) (at (window 0 n x) i)
    = λ i h. sym (get_d_window w n w₂ i nan h) ∙ ap (λ (r : List Float). at r i) g₂ ∙ scaled_at k.tau b.matrix (window src n w₀) i h ∙ ap (λ (r : List Float). k.tau ⊗ at (apply_generator b.matrix r) i) (sym u) ∙ sym (unshifted k _ _ plain) in
    let T = top b k (apply_generator b.matrix (window 0 n x)) (window 0 n x) (window n d x) in
    let B = bottom k d (window n d x) in
    let e₃' : w₃ ≡ splice w T w₂ = e₃ ∙ rw (es, c₂, made_rows b k w w₂ (apply_generator b.matrix (window 0 n x)) (window 0 n x) (window n d x) row) in
    let lT : length T ≡ n = length_top b k _ _ _ in
    let lB : length B ≡ d = length_bottom k d _ in
    let t₃ = wrote w n T w₂ w₃ lT e₃' in
    let c₃ : window (w + n) d w₃ ≡ window n d x = untouched t₃ (w + n) d (omega arith) ∙ c₂ in
    let e₄' : w₄ ≡ splice (w + n) B (splice w T w₂) = e₄ ∙ rw (c₃, e₃') in
    e₄' ∙ sym (splice_comm w (w + n) T B w₂ (omega arith))
    ∙ ap (λ (r : List Float). splice w T (splice (w + n) B r)) e₂
    ∙ ap (splice w T) (splice_splice (w + n) B (window (src + n) d w₁) w₁ (omega arith))
    ∙ ap (λ (r : List Float). splice w T (splice (w + n) B r)) e₁
    ∙ ap (splice w T) (sym (splice_comm w (w + n) g B w₀ (omega arith)))
    ∙ splice_splice w T g (splice (w + n) B w₀) (omega arith)
    ∙ ap (λ (m : ℕ). splice w T (splice (w + m) B w₀)) (sym lT)
    ∙ sym (splice_append w T B w₀)
