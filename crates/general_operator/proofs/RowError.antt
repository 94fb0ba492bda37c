-- How far a row's heat flow can be off (document 02, N13). Assumes nothing.
use mathlib.Core.Bool.{Bool, true, false, not}
use mathlib.Core.List.{List}
use mathlib.Core.Path.{◌≡◌, refl, sym, ap, ◌∙◌, subst}
use Prim.Native.Nat.{ℕ, zero, suc, ◌+◌, ◌-◌, ◌*◌, ◌^◌, ◌≤◌, ◌<◌}
use native.Mathlib.Nat.{sub_self}
use native.Mathlib.Numerals.{add-one}
use native.Mathlib.Omega.{arith}
use lib.IntN.{ℤ, pos, nat_abs, ◌+ℤ◌, ◌*ℤ◌}
use lib.Dec.{T}
use lib.ListN.{get_or}
use lib.Ieee.{Float, nan, binary64, unlike, neg, of_bits, fits}
use lib.Ieee.Bits.{is_true}
use Rattle.lists.specs.Loop.{iter}
use Rattle.lists.proofs.Loop.{get_d_tabulate, iter_none, iter_next}
use Rattle.doubles.specs.F64.{◌⊗◌, at, bits, is_finite}
use Rattle.doubles.specs.Sum.{sum}
use Rattle.doubles.specs.Units.{signed, units, Doubles, NotTiny}
use Rattle.doubles.proofs.Total.{over, under, sign, both_sides, over_not, under_not}
use Rattle.doubles.proofs.Finite.{holds, neg_finite, finite_neg, mul_finite, sums_finite, terms_finite}
use Rattle.doubles.proofs.Signed.{Diff, diff_add, diff_signed, diff_size, times_signed}
use Rattle.doubles.proofs.Units.{units_by, neg_value, product_signed}
use Rattle.doubles.proofs.SumStep.{Apart}
use Rattle.doubles.proofs.SumError.{above, below, sum_near}
use Rattle.doubles.proofs.ProductError.{product_term}
use Rattle.general_operator.specs.Csr.{Csr, start, Valid, row_product, apply_generator}
use Rattle.general_operator.specs.RowError.{stored, exact_product, total, total_size, NoneTiny, FiniteAt, Off}
use Rattle.general_operator.proofs.Rows.{row_within}

-- ---- the exact sums, term by term
pub total_none : (f : ℕ → ℤ) → total 0 f ≡ pos 0
unfolding total
total_none f = iter_none (λ k s. s +ℤ f k) (pos 0)

pub total_next : (n : ℕ) (f : ℕ → ℤ) → total (n + 1) f ≡ total n f +ℤ f n
unfolding total
total_next n f = iter_next (λ k s. s +ℤ f k) n (pos 0)

pub total_size_none : (f : ℕ → ℤ) → total_size 0 f ≡ 0
unfolding total_size
total_size_none f = iter_none (λ k s. s + nat_abs (f k)) 0

pub total_size_next : (n : ℕ) (f : ℕ → ℤ) → total_size (n + 1) f ≡ total_size n f + nat_abs (f n)
unfolding total_size
total_size_next n f = iter_next (λ k s. s + nat_abs (f k)) n 0

-- by the terms' signs and sizes
total_diff : (n : ℕ) (f : ℕ → ℤ) (u : ℕ → Bool) (a : ℕ → ℕ) → ((k : ℕ) → k < n → f k ≡ signed (u k) (a k)) → Diff (total n f) (above u a n) (below u a n)
unfolding total iter above below
total_diff zero f u a h = refl
total_diff (suc n) f u a h =
    diff_add (total n f) (f n) (above u a n) (below u a n) (over (u n) (a n)) (under (u n) (a n)) (total_diff n f u a (λ k l. h k (omega arith)))
    (subst (λ (z : ℤ). Diff z (over (u n) (a n)) (under (u n) (a n))) (sym (h n (omega arith))) (diff_signed (u n) (a n)))

total_size_is : (n : ℕ) (f : ℕ → ℤ) (u : ℕ → Bool) → above u (λ k. nat_abs (f k)) n + below u (λ k. nat_abs (f k)) n ≡ total_size n f
unfolding total_size iter above below
total_size_is zero f u = refl
total_size_is (suc n) f u = omega (arith, total_size_is n f u, both_sides (u n) (nat_abs (f n)))

-- ---- minus a sum of products
-- minus ±b units of 2 ^ -1074, and the exact sum P - N in units of 2 ^ -2148
off_by : (s : Bool) (b k P N : ℕ) (z : ℤ) → Diff z P N → Apart 4503599627370496 (over s (b * 2 ^ 1074)) (under s (b * 2 ^ 1074)) P N (k * (P + N)) → 4503599627370496 * nat_abs (signed (not s) b *ℤ pos (2 ^ 1074) +ℤ z) ≤ k * (P + N)
off_by s b k P N z d r =
    let y = b * 2 ^ 1074 in
    let e : signed (not s) b *ℤ pos (2 ^ 1074) ≡ signed (not s) y = times_signed (not s) false b (2 ^ 1074) ∙ ap (λ (t : Bool). signed t y) (plain s) in
    let f = diff_add (signed (not s) y) z (over (not s) y) (under (not s) y) P N (diff_signed (not s) y) d in
    let a = r.0 in
    let c = r.1 in
    let o = over_not s y in
    let v = under_not s y in
    diff_size (signed (not s) b *ℤ pos (2 ^ 1074) +ℤ z) 4503599627370496 (k * (P + N)) (over (not s) y + P) (under (not s) y + N)
    (subst (λ (w : ℤ). Diff (w +ℤ z) (over (not s) y + P) (under (not s) y + N)) (sym e) f)
    (omega arith) (omega arith)
  where
    plain : (s : Bool) → unlike (not s) false ≡ not s
    plain true = refl
    plain false = refl

module _ (n : ℕ) (x y : ℕ → Float) (fx : (k : ℕ) → T (fits binary64 (x k))) (fy : (k : ℕ) → T (fits binary64 (y k))) where
  abbrev exact : ℕ → ℤ
  exact k = units (x k) *ℤ units (y k)

  abbrev signs : ℕ → Bool
  signs k = unlike (sign (x k)) (sign (y k))

  abbrev sizes : ℕ → ℕ
  sizes k = nat_abs (exact k)

  abbrev rounded : Float
  rounded = sum n (λ k. x k ⊗ y k)

  pub products_off : n ≤ 2 ^ 52 → ((k : ℕ) → k < n → NotTiny (2 ^ 1126) (exact k)) → T (is_finite (neg rounded)) → Off n (neg rounded) exact
  products_off few normal h =
      let h' = neg_finite rounded h in
      let each : (k : ℕ) → k < n → T (is_finite (x k ⊗ y k)) = terms_finite n (λ k. x k ⊗ y k) h' in
      let is : (k : ℕ) → k < n → exact k ≡ signed (signs k) (sizes k) = λ k l. let g = mul_finite (x k) (y k) (each k l) in product_signed (x k) (y k) (fx k) (fy k) g.0 g.1 in
      let r = sum_near n (λ k. x k ⊗ y k) signs sizes (λ k l. product_term (x k) (y k) (fx k) (fy k) (each k l) (normal k l)) few h' in
      let e : units (neg rounded) ≡ signed (not r.sign) r.b = units_by (neg rounded) (not r.sign) r.b (neg_value rounded r.sign r.b (2 ^ 1074) r.value) in
      subst (λ (z : ℤ). 4503599627370496 * nat_abs (z *ℤ pos (2 ^ 1074) +ℤ total n exact) ≤ n * total_size n exact) (sym e)
      (subst (λ (z : ℕ). 4503599627370496 * nat_abs (signed (not r.sign) r.b *ℤ pos (2 ^ 1074) +ℤ total n exact) ≤ n * z) (total_size_is n exact signs)
      (off_by r.sign r.b n (above signs sizes n) (below signs sizes n) (total n exact) (total_diff n exact signs sizes is) r.near))

-- ---- a row
-- any columns and entries: of at most 2 ^ 52 products
pub row_off : (columns : List ℕ) (entries x : List Float) (from to : ℕ) → Doubles entries → Doubles x → to - from ≤ 2 ^ 52
    → NoneTiny columns entries x from (to - from)
    → is_finite (row_product columns entries x from to) ≡ true
    → Off (to - from) (row_product columns entries x from to) (λ k. exact_product columns entries x (from + k))
unfolding row_product exact_product
row_off columns entries x from to de dx few normal h =
    products_off (to - from) (λ k. at entries (from + k)) (λ k. at x (get_or columns (from + k) 0)) (λ k. de (from + k)) (λ k. dx (get_or columns (from + k) 0)) few normal (holds h)

pub flow_is : (q : Csr) (x : List Float) (i : ℕ) → i < q.n → at (apply_generator q x) i ≡ row_product q.columns q.entries x (start q i) (start q (i + 1))
unfolding apply_generator
flow_is q x i l = get_d_tabulate q.n _ i nan l

-- N13: row i of a generator without mass
pub flow_off : (q : Csr) (x : List Float) (i : ℕ) → Valid q → i < q.n → Doubles q.entries → Doubles x
    → NoneTiny q.columns q.entries x (start q i) (stored q i)
    → is_finite (at (apply_generator q x) i) ≡ true
    → Off (stored q i) (at (apply_generator q x) i) (λ k. exact_product q.columns q.entries x (start q i + k))
flow_off q x i v l de dx normal h =
    let e = flow_is q x i l in
    let w = row_within v i l in
    let light = v.light in
    subst (λ (z : Float). Off (stored q i) z (λ k. exact_product q.columns q.entries x (start q i + k))) (sym e)
    (row_off q.columns q.entries x (start q i) (start q (i + 1)) de dx (omega arith) normal (ap is_finite (sym e) ∙ h))

-- ---- N13, 'a finite field' and 'nothing becomes infinite' are that the flow is finite
module _ (q : Csr) (x : List Float) (i : ℕ) (l : i < q.n) where
  abbrev products : ℕ → Float
  products k = at q.entries (start q i + k) ⊗ at x (get_or q.columns (start q i + k) 0)

  -- of a finite flow nothing became infinite, and the row read a finite field
  pub finite_at : is_finite (at (apply_generator q x) i) ≡ true → (k : ℕ) → k < stored q i → FiniteAt q x i k
  unfolding row_product
  finite_at h k j =
      let s = neg_finite (sum (stored q i) products) (holds (ap is_finite (sym (flow_is q x i l)) ∙ h)) in
      let p = terms_finite (stored q i) products s k j in
      let g = mul_finite (at q.entries (start q i + k)) (at x (get_or q.columns (start q i + k) 0)) p in
      record { entry = is_true _ g.0; value = is_true _ g.1; product = is_true _ p; so_far = is_true _ (sums_finite (stored q i) products s (k + 1) (omega arith)) }

  -- and where nothing does the flow is finite
  pub finite_flow : ((k : ℕ) → k < stored q i → FiniteAt q x i k) → is_finite (at (apply_generator q x) i) ≡ true
  unfolding row_product
  finite_flow h = ap is_finite (flow_is q x i l) ∙ is_true _ (finite_neg (sum (stored q i) products) (last (stored q i) (λ k j. holds (h k j).so_far)))
    where
      last : (n : ℕ) → ((k : ℕ) → k < n → T (is_finite (sum (k + 1) products))) → T (is_finite (sum n products))
      last zero h = unfold sum iter of_bits in tt
      last (suc n) h = rw (← (add-one n)) (h n (omega arith))

-- N13, an empty row is exact: its flow is the double -0, and the exact sum is 0
pub empty_row : (q : Csr) (x : List Float) (i : ℕ) → i < q.n → start q (i + 1) ≡ start q i → at (apply_generator q x) i ≡ bits 0x8000_0000_0000_0000
unfolding row_product sum iter neg of_bits
empty_row q x i l e = flow_is q x i l ∙ ap (λ (n : ℕ). neg (sum (n - start q i) (λ k. at q.entries (start q i + k) ⊗ at x (get_or q.columns (start q i + k) 0)))) e
    ∙ ap (λ (n : ℕ). neg (sum n (λ k. at q.entries (start q i + k) ⊗ at x (get_or q.columns (start q i + k) 0)))) (sub_self (start q i))
