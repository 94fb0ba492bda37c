-- The powers of ten grow with the exponent, so the entry that `decade` finds is the largest at most x. Assumes nothing.
use Rattle.std.specs.List.Sorted.{IsPartitionedBy, IsPartitionPoint}
use mathlib.Core.Path.{◌≡◌, sym, ap, ◌∙◌, subst}
use mathlib.Core.List.{List}
use mathlib.Core.Logic.{⊎_elim}
use Prim.Native.Nat.{ℕ, ◌+◌, ◌-◌, ◌^◌, ◌≤◌, ◌<◌, zero-le}
use native.Mathlib.Nat.{le_refl, lt_of_le_of_lt, lt_of_not-le, mul-le-mul, lt_of_lt_of_le, pow-le-pow_right}
use native.Mathlib.Omega.{arith}
use mathlib.Core.Bool.{Bool, true, false, ◌&&◌, true≢false}
use lib.Dec.{T, ltb, ltb→lt, lt→ltb, lit<}
use lib.ListN.{length, get_or}
use lib.Ieee.{Float, nan, inf, fin, binary64, le, round, fits}
use lib.Ieee.Bits.{is_true}
use lib.Ieee.Fits.{and_i, and_l, and_r, round-fits}
use lib.Ieee.Order.{round_mono}
use lib.Ieee.Positive.{positive, above, above_of_le}
use borrow.Author.Tests.{lt-ltb, le-ltb}
use Rattle.doubles.specs.F64.{nonneg}
use Rattle.doubles.proofs.Order.{nonneg_round, le_trans_nonneg}
use Rattle.lists.proofs.Greatest.{Greatest, greatest_is, greatest_last}
use Rattle.lists.proofs.Bounds.{lt_or_le}
use Rattle.lists.proofs.Loop.{length_tabulate, get_d_tabulate}
use Rattle.lists.specs.Loop.{tabulate}
use Rattle.round2.specs.Ten.{ten}
use Rattle.round2.specs.Rounded.{reaches, decade}

ten_pos : (k : ℕ) → 0 < 10 ^ k
ten_pos k = lt_of_lt_of_le (lit< tt) (pow-le-pow_right {n = 10} (lit< tt) {i = 0} {j = k} zero-le)

pub ten_nonneg : (i : ℕ) → T (nonneg (ten i))
unfolding ten
ten_nonneg i = nonneg_round binary64 (10 ^ (i - 323)) (10 ^ (323 - i))

pub ten_fits : (i : ℕ) → T (fits binary64 (ten i))
unfolding ten
ten_fits i = round-fits binary64 false (10 ^ (i - 323)) (10 ^ (323 - i))

pub ten_mono : (i j : ℕ) → i ≤ j → T (le (ten i) (ten j))
unfolding ten
ten_mono i j h =
    round_mono binary64 (10 ^ (i - 323)) (10 ^ (323 - i)) (10 ^ (j - 323)) (10 ^ (323 - j)) (ten_pos (323 - i)) (ten_pos (323 - j))
    (mul-le-mul (pow-le-pow_right (lit< tt) (up i j h)) (pow-le-pow_right (lit< tt) (down i j h)))
  where
    up : (i j : ℕ) → i ≤ j → i - 323 ≤ j - 323
    up i j h = omega arith

    down : (i j : ℕ) → i ≤ j → 323 - j ≤ 323 - i
    down i j h = omega arith

-- what is at least the entry for -322 is not negative, and no NaN; it may be the infinity
one_positive : T (positive (ten 1))
unfolding ten round
one_positive = tt

nonneg_of_above : (x : Float) → T (above x) → T (nonneg x)
nonneg_of_above nan h = h
nonneg_of_above (inf s) h = h
nonneg_of_above (fin true m e) h = absurd h
nonneg_of_above (fin false m e) h = tt

pub reached_nonneg : (x : Float) → T (le (ten 1) x) → T (nonneg x)
reached_nonneg x h = nonneg_of_above x (above_of_le (ten 1) x one_positive h)

module _ (x : Float) (h : T (le (ten 1) x)) where
  down_closed : (a b : ℕ) → a ≤ b → T (reaches x b) → T (reaches x a)
  down_closed a b l p =
      and_i (ltb a 632) (le (ten a) x) (lt→ltb a 632 (lt_of_le_of_lt l (ltb→lt b 632 (and_l (ltb b 632) (le (ten b) x) p))))
      (le_trans_nonneg (ten a) (ten b) x (ten_nonneg a) (ten_nonneg b) (reached_nonneg x h) (ten_mono a b l) (and_r (ltb b 632) (le (ten b) x) p))

  one_reaches : T (reaches x 1)
  one_reaches = h

  pub decade_is : Greatest (reaches x) 0 (2 ^ 10) (decade x)
  unfolding decade
  decade_is = greatest_is (reaches x) down_closed 10 (down_closed 0 1 zero-le one_reaches)

  pub decade_under : decade x < 632
  decade_under = ltb→lt (decade x) 632 (and_l (ltb (decade x) 632) (le (ten (decade x)) x) decade_is.passes)

  pub decade_reached : T (le (ten (decade x)) x)
  decade_reached = and_r (ltb (decade x) 632) (le (ten (decade x)) x) decade_is.passes

  pub decade_from : 1 ≤ decade x
  decade_from = lt_of_not-le (λ (g : decade x ≤ 0). decade_is.last 1 (first (decade x) g) (lit< tt) one_reaches)
    where
      first : (d : ℕ) → d ≤ 0 → d < 1
      first d g = omega arith

-- ---- what the search of `decade` finds: how many entries are at most x
entry : (xs : List Float) (k : ℕ) (d : Float) → xs ≡ tabulate 632 ten → k < 632 → get_or xs k d ≡ ten k
entry xs k d e h = ap (λ (w : List Float). get_or w k d) e ∙ get_d_tabulate 632 ten k d h

pub parted : (x : Float) → T (le (ten 1) x) → (xs : List Float) → xs ≡ tabulate 632 ten → IsPartitionedBy (λ t. le t x) xs
parted x h xs e i j d l b p =
    let n : j < 632 = subst (λ (z : ℕ). j < z) (ap length e ∙ length_tabulate 632 ten) b in
    let t : T (le (ten j) x) = subst T (sym p ∙ ap (λ (y : Float). le y x) (entry xs j d e n)) tt in
    ap (λ (y : Float). le y x) (entry xs i d e (lt_of_le_of_lt l n))
    ∙ is_true (le (ten i) x) (le_trans_nonneg (ten i) (ten j) x (ten_nonneg i) (ten_nonneg j) (reached_nonneg x h) (ten_mono i j l) t)

pub decade_found : (x : Float) → T (le (ten 1) x) → (xs : List Float) → xs ≡ tabulate 632 ten → (r : ℕ) → IsPartitionPoint (λ t. le t x ≡ true) (λ t. le t x ≡ false) xs r → r ≤ length xs
    → (1 ≤ r) × (r - 1 ≡ decade x) × (1 ≤ r - 1) × (r - 1 < 632)
unfolding decade
decade_found x h xs e r found b =
    let long : length xs ≡ 632 = ap length e ∙ length_tabulate 632 ten in
    let from : 2 ≤ r = lt_of_not-le (λ (g : r ≤ 1). true≢false (sym (is_true (le (ten 1) x) h) ∙ sym (ap (λ (y : Float). le y x) (entry xs 1 nan e (lit< tt))) ∙ found.1 1 nan g (subst (λ (z : ℕ). 1 < z) (sym long) (lit< tt)))) in
    let small : r - 1 < 632 = omega arith in (
      omega arith,
      greatest_last (reaches x) (down_closed x h) 10 (r - 1) (omega arith) (subst T (sym (reach (r - 1) small (sym (ap (λ (y : Float). le y x) (entry xs (r - 1) nan e small)) ∙ found.0 (r - 1) nan zero-le (omega arith)))) tt) (past (omega arith) long),
      omega arith,
      small,
    )
  where
    reach : (i : ℕ) → i < 632 → le (ten i) x ≡ true → reaches x i ≡ true
    reach i l t = ap (λ (b : Bool). b && le (ten i) x) (lt-ltb i 632 l) ∙ t

    -- the entry after it, where there is one
    after : r < 632 → length xs ≡ 632 → reaches x r ≡ false
    after l n = ap (λ (b : Bool). b && le (ten r) x) (lt-ltb r 632 l) ∙ sym (ap (λ (y : Float). le y x) (entry xs r nan e l)) ∙ found.1 r nan (le_refl r) (subst (λ (z : ℕ). r < z) (sym n) l)

    past : r - 1 + 1 ≡ r → length xs ≡ 632 → reaches x (r - 1 + 1) ≡ false
    past i n = ap (reaches x) i ∙ ⊎_elim (λ l. after l n) (λ (l : 632 ≤ r). ap (λ (b : Bool). b && le (ten r) x) (le-ltb r 632 l)) (lt_or_le r 632)
