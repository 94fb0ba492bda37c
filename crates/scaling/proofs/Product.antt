-- One product with the operator. Of two operators over one matrix the second has the first's vectors times 2 ^ u / 2 ^ v and its gains times 2 ^ t / 2 ^ s; where the field is times
-- 2 ^ u / 2 ^ v and the chain times 2 ^ s / 2 ^ t, so are those of the product. Assumes nothing.
use Rattle.std.specs.Prelude.{if◌then◌else◌}
use mathlib.Core.Path.{◌≡◌, refl, sym, ap, ◌∙◌, subst}
use mathlib.Core.Logic.{inl, inr}
use mathlib.Core.List.{List, ◌++◌}
use Prim.Native.Nat.{ℕ, zero, suc, ◌+◌, ◌-◌, ◌≤◌, ◌<◌}
use native.Mathlib.Nat.{zero-add}
use native.Mathlib.Omega.{arith}
use mathlib.Core.Bool.{Bool, true, false}
use lib.Dec.{T}
use lib.ListN.{get_or, get_or-append}
use lib.Seq.{get_or-append-add}
use lib.Ieee.{Float, nan, binary64, neg, fits}
use lib.Ieee.Fits.{mul-fits}
use borrow.Author.Tests.{lt-ltb, le-ltb}
use Rattle.lists.specs.Loop.{iter}
use Rattle.lists.specs.Window.{window}
use Rattle.lists.proofs.Bounds.{lt_or_le}
use Rattle.lists.proofs.Loop.{get_d_tabulate}
use Rattle.lists.proofs.Window.{get_d_window}
use Rattle.doubles.specs.F64.{◌⊖◌, ◌⊗◌, +0, at}
use Rattle.doubles.specs.Sum.{sum}
use Rattle.doubles.specs.Units.{Doubles}
use Rattle.doubles.specs.Clean.{Clean⊗, Clean⊕}
use Rattle.doubles.proofs.Scaled.{Scaled, zero_scaled, neg_scaled, add_scaled, sub_scaled, mul_undone, by_scaled}
use Rattle.general_operator.specs.Csr.{Csr, Valid, start, row_product, apply_generator}
use Rattle.general_operator.proofs.Rows.{row_within}
use Rattle.general_operator.proofs.RowError.{flow_is}
use Rattle.phi_action_helpers.specs.declared.Scales.{Scales}
use Rattle.phi_action_helpers.specs.Augmented.{Augmented, augmented, scalars, coupled, generator_term, chain_term, top, bottom, aug_matvec}
use Rattle.phi_action_helpers.proofs.Augmented.{length_top}
use Rattle.scaling.specs.Operations.{InRow, InShare, InParts, InProduct}

-- ---- a sum, a row
sum_scaled : (u v n : ℕ) (f f' : ℕ → Float) → ((k : ℕ) → k < n → Scaled u v (f k) (f' k)) → ((k : ℕ) → k < n → Clean⊕ (sum k f) (f k)) → ((k : ℕ) → k < n → Clean⊕ (sum k f') (f' k)) → Scaled u v (sum n f) (sum n f')
unfolding sum iter
sum_scaled u v zero f f' h c c' = zero_scaled u v
sum_scaled u v (suc n) f f' h c c' =
    add_scaled u v (sum n f) (sum n f') (f n) (f' n) (sum_scaled u v n f f' (λ k l. h k (omega arith)) (λ k l. c k (omega arith)) (λ k l. c' k (omega arith))) (h n (omega arith)) (c n (omega arith)) (c' n (omega arith))

row_scaled : (u v n : ℕ) (columns : List ℕ) (entries x x' : List Float) (from to : ℕ) → Doubles entries → ((i : ℕ) → i < n → Scaled u v (at x i) (at x' i))
    → ((k : ℕ) → k < to - from → get_or columns (from + k) 0 < n)
    → InRow Clean⊗ Clean⊕ columns entries x from to
    → InRow Clean⊗ Clean⊕ columns entries x' from to
    → Scaled u v (row_product columns entries x from to) (row_product columns entries x' from to)
unfolding row_product
row_scaled u v n columns entries x x' from to de h b c c' =
    neg_scaled u v _ _
    (sum_scaled u v (to - from) _ _
    (λ k l. by_scaled u v (at entries (from + k)) (at x (get_or columns (from + k) 0)) (at x' (get_or columns (from + k) 0)) (de (from + k)) (h (get_or columns (from + k) 0) (b k l)) (c.products k l) (c'.products k l))
    c.sums c'.sums)

-- ---- a ⊗ x ⊖ b ⊗ y
share_scaled : (u v : ℕ) (s : Bool) (a x x' b y y' : Float) → T (fits binary64 a) → T (fits binary64 b) → Scaled u v x x' → Scaled u v y y' → InShare Clean⊗ Clean⊕ s a x b y → InShare Clean⊗ Clean⊕ s a x' b y'
    → Scaled u v (if s then a ⊗ x ⊖ b ⊗ y else a ⊗ x) (if s then a ⊗ x' ⊖ b ⊗ y' else a ⊗ x')
share_scaled u v true a x x' b y y' fa fb hx hy c c' =
    sub_scaled u v (a ⊗ x) (a ⊗ x') (b ⊗ y) (b ⊗ y') (by_scaled u v a x x' fa hx c.first c'.first) (by_scaled u v b y y' fb hy (c.second refl) (c'.second refl)) (c.difference refl) (c'.difference refl)
share_scaled u v false a x x' b y y' fa fb hx hy c c' = by_scaled u v a x x' fa hx c.first c'.first

-- ---- the factors of the columns
scalars_at : (gains : List Float) (count : ℕ) (one : Float) (c : List Float) (j : ℕ) → j < count → count ≤ 3 → at (scalars gains count one c) j ≡ at gains j ⊗ at c j ⊗ one
unfolding scalars
scalars_at gains count one c j h l = get_d_tabulate 3 _ j nan (omega arith) ∙ ap (λ (x : Bool). if x then at gains j ⊗ at c j ⊗ one else +0) (lt-ltb j count h)

-- ---- the columns
pub by_equal : (u v : ℕ) (k k' y y' : Float) → k ≡ k' → T (fits binary64 k) → Scaled u v y y' → Clean⊗ k y → Clean⊗ k' y' → Scaled u v (k ⊗ y) (k' ⊗ y')
by_equal u v k k' y y' e f p c c' = subst (λ (z : Float). Scaled u v (k ⊗ y) (z ⊗ y')) e (by_scaled u v k y y' f p c (subst (λ (z : Float). Clean⊗ z y') (sym e) c'))

module _ (u v : ℕ) (vectors vectors' : List Float) (places : List ℕ) (sc sc' : List Float) (i : ℕ) (x x' : Float) (p : Scaled u v x x') where
  coupled_scaled : (count : ℕ)
      → ((j : ℕ) → j < count → at sc j ≡ at sc' j)
      → ((j : ℕ) → j < count → T (fits binary64 (at sc j)))
      → ((j : ℕ) → j < count → Scaled u v (at vectors (get_or places j 0 + i)) (at vectors' (get_or places j 0 + i)))
      → ((j : ℕ) → j < count → Clean⊗ (at sc j) (at vectors (get_or places j 0 + i)) × Clean⊕ (coupled vectors places j sc i x) (at sc j ⊗ at vectors (get_or places j 0 + i)))
      → ((j : ℕ) → j < count → Clean⊗ (at sc' j) (at vectors' (get_or places j 0 + i)) × Clean⊕ (coupled vectors' places j sc' i x') (at sc' j ⊗ at vectors' (get_or places j 0 + i)))
      → Scaled u v (coupled vectors places count sc i x) (coupled vectors' places count sc' i x')
  unfolding coupled iter
  coupled_scaled zero e f h c c' = p
  coupled_scaled (suc n) e f h c c' =
      add_scaled u v (coupled vectors places n sc i x) (coupled vectors' places n sc' i x') (at sc n ⊗ at vectors (get_or places n 0 + i)) (at sc' n ⊗ at vectors' (get_or places n 0 + i))
      (coupled_scaled n (λ j l. e j (omega arith)) (λ j l. f j (omega arith)) (λ j l. h j (omega arith)) (λ j l. c j (omega arith)) (λ j l. c' j (omega arith)))
      (by_equal u v (at sc n) (at sc' n) (at vectors (get_or places n 0 + i)) (at vectors' (get_or places n 0 + i)) (e n (omega arith)) (f n (omega arith)) (h n (omega arith)) (c n (omega arith)).0 (c' n (omega arith)).0)
      (c n (omega arith)).1 (c' n (omega arith)).1

-- ---- the chain
end_scaled : (s t : ℕ) (b : Bool) (mu x x' : Float) → T (fits binary64 mu) → Scaled s t x x' → (b ≡ true → Clean⊗ mu x) → (b ≡ true → Clean⊗ mu x') → Scaled s t (if b then neg (mu ⊗ x) else +0) (if b then neg (mu ⊗ x') else +0)
end_scaled s t true mu x x' f p c c' = neg_scaled s t (mu ⊗ x) (mu ⊗ x') (by_scaled s t mu x x' f p (c refl) (c' refl))
end_scaled s t false mu x x' f p c c' = zero_scaled s t

inner_term : (k : Scales) (d : ℕ) (c : List Float) (i : ℕ) → i + 1 < d → chain_term k d c i ≡ (if k.shifted then k.one ⊗ at c (i + 1) ⊖ k.mu ⊗ at c i else k.one ⊗ at c (i + 1))
unfolding chain_term
inner_term k d c i l = rw (lt-ltb (i + 1) d l)

last_term : (k : Scales) (d : ℕ) (c : List Float) (i : ℕ) → d ≤ i + 1 → chain_term k d c i ≡ (if k.shifted then neg (k.mu ⊗ at c i) else +0)
unfolding chain_term
last_term k d c i l = rw (le-ltb (i + 1) d l)

-- ---- where the values of a product stand
top_at : (b : Augmented) (k : Scales) (x : List Float) (i : ℕ) → i < b.matrix.n
    → let u = window 0 b.matrix.n x in
    let c = window b.matrix.n b.d x in
    at (aug_matvec b k x) i ≡ coupled b.vectors b.places b.count (scalars b.gains b.count k.one c) i (generator_term k (at (apply_generator b.matrix u) i) (at u i))
unfolding aug_matvec top
top_at b k x i l =
    let u = window 0 b.matrix.n x in
    let c = window b.matrix.n b.d x in
    let av = apply_generator b.matrix u in
    get_or-append (top b k av u c) (bottom k b.d c) nan i (rw (length_top b k av u c) l) ∙ get_d_tabulate b.matrix.n _ i nan l

bottom_at : (b : Augmented) (k : Scales) (x : List Float) (i : ℕ) → i < b.d → at (aug_matvec b k x) (b.matrix.n + i) ≡ chain_term k b.d (window b.matrix.n b.d x) i
unfolding aug_matvec bottom
bottom_at b k x i l =
    let u = window 0 b.matrix.n x in
    let c = window b.matrix.n b.d x in
    let front = top b k (apply_generator b.matrix u) u c in
    ap (λ (z : ℕ). at (front ++ bottom k b.d c) (z + i)) (sym (length_top b k (apply_generator b.matrix u) u c)) ∙ get_or-append-add front (bottom k b.d c) i nan ∙ get_d_tabulate b.d (chain_term k b.d c) i nan l

-- ---- the two operators, and their states of a field and a chain
pub record ScaledOperators (u v s t : ℕ) (q : Csr) (d count : ℕ) (places : List ℕ) (vectors vectors' gains gains' : List Float) : Type 0 where
  pub valid : Valid q
  pub doubles : Doubles q.entries
  pub few : count ≤ 3
  pub chained : count ≤ d
  pub columns : (i : ℕ) → i < q.n → (j : ℕ) → j < count → Scaled u v (at vectors (get_or places j 0 + i)) (at vectors' (get_or places j 0 + i))
  pub weights : (j : ℕ) → j < count → Scaled t s (at gains j) (at gains' j)

pub record ScaledState (u v s t n d : ℕ) (x x' : List Float) : Type 0 where
  pub field : (i : ℕ) → i < n → Scaled u v (at x i) (at x' i)
  pub chain : (i : ℕ) → i < d → Scaled s t (at x (n + i)) (at x' (n + i))

-- the scalars of a term are doubles
pub record ScalesFit (k : Scales) : Type 0 where
  pub tau : T (fits binary64 k.tau)
  pub one : T (fits binary64 k.one)
  pub mu : T (fits binary64 k.mu)

module _ {u v s t : ℕ} {q : Csr} {d count : ℕ} {places : List ℕ} {vectors vectors' gains gains' : List Float} (o : ScaledOperators u v s t q d count places vectors vectors' gains gains') where
  abbrev pub one : Augmented
  one = augmented q d vectors places gains count

  abbrev pub other : Augmented
  other = augmented q d vectors' places gains' count

  -- of a field x and a chain c
  module _ (k : Scales) (f : ScalesFit k) (x x' c c' : List Float) (field : (i : ℕ) → i < q.n → Scaled u v (at x i) (at x' i)) (chain : (i : ℕ) → i < d → Scaled s t (at c i) (at c' i))
      (h : InParts Clean⊗ Clean⊕ one k x c (apply_generator q x) (scalars gains count k.one c))
      (h' : InParts Clean⊗ Clean⊕ other k x' c' (apply_generator q x') (scalars gains' count k.one c')) where
    factor : (j : ℕ) → j < count → at (scalars gains count k.one c) j ≡ at (scalars gains' count k.one c') j
    factor j l =
        let few = o.few in
        let chained = o.chained in
        scalars_at gains count k.one c j l few
        ∙ ap (λ (z : Float). z ⊗ k.one) (mul_undone s t (at gains j) (at gains' j) (at c j) (at c' j) (o.weights j l) (chain j (omega arith)))
        ∙ sym (scalars_at gains' count k.one c' j l few)

    factor_fits : (j : ℕ) → j < count → T (fits binary64 (at (scalars gains count k.one c) j))
    factor_fits j l = rw (scalars_at gains count k.one c j l o.few) (mul-fits binary64 (at gains j ⊗ at c j) k.one)

    row_in : (i : ℕ) → i < q.n → (m : ℕ) → m < start q (i + 1) - start q i → get_or q.columns (start q i + m) 0 < q.n
    row_in i l m b = let r = row_within o.valid i l in let p = o.valid.paired in o.valid.below (start q i + m) (omega arith)

    applied : (i : ℕ) → i < q.n → Scaled u v (at (apply_generator q x) i) (at (apply_generator q x') i)
    applied i l = rw (flow_is q x i l, flow_is q x' i l) (row_scaled u v q.n q.columns q.entries x x' (start q i) (start q (i + 1)) o.doubles field (row_in i l) (h.rows i l) (h'.rows i l))

    share : (i : ℕ) → i < q.n → Scaled u v (generator_term k (at (apply_generator q x) i) (at x i)) (generator_term k (at (apply_generator q x') i) (at x' i))
    unfolding generator_term
    share i l = share_scaled u v k.shifted k.tau (at (apply_generator q x) i) (at (apply_generator q x') i) k.mu (at x i) (at x' i) f.tau f.mu (applied i l) (field i l) (h.shares i l) (h'.shares i l)

    row : (i : ℕ) → i < q.n
        → Scaled u v (coupled vectors places count (scalars gains count k.one c) i (generator_term k (at (apply_generator q x) i) (at x i)))
        (coupled vectors' places count (scalars gains' count k.one c') i (generator_term k (at (apply_generator q x') i) (at x' i)))
    row i l =
        coupled_scaled u v vectors vectors' places (scalars gains count k.one c) (scalars gains' count k.one c') i (generator_term k (at (apply_generator q x) i) (at x i)) (generator_term k (at (apply_generator q x') i) (at x' i)) (share i l)
        count factor factor_fits (o.columns i l) (h.columns i l) (h'.columns i l)

    link : (i : ℕ) → i < d → Scaled s t (chain_term k d c i) (chain_term k d c' i)
    link i l = elim (lt_or_le (i + 1) d) [
      | inl g ↦ rw (inner_term k d c i g, inner_term k d c' i g) (share_scaled s t k.shifted k.one (at c (i + 1)) (at c' (i + 1)) k.mu (at c i) (at c' i) f.one f.mu (chain (i + 1) g) (chain i l) (h.chain i g) (h'.chain i g))
      | inr g ↦ let e : i + 1 ≡ d = omega arith in rw (last_term k d c i g, last_term k d c' i g) (end_scaled s t k.shifted k.mu (at c i) (at c' i) f.mu (chain i l) (h.end i e) (h'.end i e))
    ]

  pub product_scaled : (k : Scales) → ScalesFit k → (x x' : List Float) → ScaledState u v s t q.n d x x' → InProduct Clean⊗ Clean⊕ one k x → InProduct Clean⊗ Clean⊕ other k x' → ScaledState u v s t q.n d (aug_matvec one k x) (aug_matvec other k x')
  product_scaled k f x x' r h h' =
      let n = q.n in
      let field : (i : ℕ) → i < n → Scaled u v (at (window 0 n x) i) (at (window 0 n x') i) = λ i l. rw (get_d_window 0 n x i nan l, get_d_window 0 n x' i nan l) (rw (zero-add i) (r.field i l)) in
      let chain : (i : ℕ) → i < d → Scaled s t (at (window n d x) i) (at (window n d x') i) = λ i l. rw (get_d_window n d x i nan l, get_d_window n d x' i nan l) (r.chain i l) in
      record {
        field = λ i l. rw (top_at one k x i l, top_at other k x' i l) (row k f (window 0 n x) (window 0 n x') (window n d x) (window n d x') field chain h h' i l);
        chain = λ i l. rw (bottom_at one k x i l, bottom_at other k x' i l) (link k f (window 0 n x) (window 0 n x') (window n d x) (window n d x') field chain h h' i l);
      }
