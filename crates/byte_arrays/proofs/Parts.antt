-- The lists that slices stand for, and those of their cuts. Assumes nothing.
use mathlib.Core.Bool.{Bool, true, false, cond, true≢false}
use mathlib.Core.List.{List, []}
use mathlib.Core.Logic.{◌⊎◌, inl, inr}
use mathlib.Core.Path.{◌≡◌, sym, ◌∙◌, ap, subst}
use native.Mathlib.Omega.{arith}
use Prim.Native.Nat.{ℕ, ◌/◌, ◌≤◌, ◌<◌}
use lib.Dec.{ltb}
use lib.ListN.{length, take, drop}
use borrow.Author.Tests.{le-ltb}
use lib.Seq.{length-take-le, take-length, drop-length}
use Rattle.le_bytes.specs.Bytes.{numbers_of, doubles_of, words_of}
use Rattle.le_bytes.proofs.Counts.{count_numbers, count_doubles, count_words}
use Rattle.byte_arrays.specs.Inner.{Cut}

-- l and its part p, where l counts c elements
abbrev pub Part : {A : Type 0} → ℕ → List A → List A → Type 0
Part c l p = ((p ≡ l) × (c ≤ 512)) ⊎ ((512 < c) × (length l ≡ c) × (512 ≤ length p))

pub whole : {b : List ℕ} {r : ℕ} → r ≡ length b → take r b ≡ b
whole {b} e = rw e (take-length b)

pub nothing_left : (b : List ℕ) {r : ℕ} → r ≡ length b → drop r b ≡ []
nothing_left b e = rw e (drop-length b)

-- a slice of at most 512 elements was not cut
pub not_cut : {len r : ℕ} → Cut len 4103 r → len / 8 ≤ 512 → r ≡ len
not_cut (inl (e, l)) few = e
not_cut (inr (e, l)) few = absurd (omega (arith, l, few))

pub numbers_part : (b : List ℕ) {r : ℕ} → Cut (length b) 2051 r → Part (length b / 4) (numbers_of b) (numbers_of (take r b))
numbers_part b (inl (e, l)) = inl (ap numbers_of (whole e), omega (arith, l))
numbers_part b {r} (inr (e, l)) =
    let t : length (take r b) ≡ r = length-take-le r b (omega (arith, e, l)) in
    inr (omega (arith, l), count_numbers b, omega (arith, count_numbers (take r b), t, e))

pub doubles_part : (b : List ℕ) {r : ℕ} → Cut (length b) 4103 r → Part (length b / 8) (doubles_of b) (doubles_of (take r b))
doubles_part b (inl (e, l)) = inl (ap doubles_of (whole e), omega (arith, l))
doubles_part b {r} (inr (e, l)) =
    let t : length (take r b) ≡ r = length-take-le r b (omega (arith, e, l)) in
    inr (omega (arith, l), count_doubles b, omega (arith, count_doubles (take r b), t, e))

pub words_part : (b : List ℕ) {r : ℕ} → Cut (length b) 4103 r → Part (length b / 8) (words_of b) (words_of (take r b))
words_part b (inl (e, l)) = inl (ap words_of (whole e), omega (arith, l))
words_part b {r} (inr (e, l)) =
    let t : length (take r b) ≡ r = length-take-le r b (omega (arith, e, l)) in
    inr (omega (arith, l), count_words b, omega (arith, count_words (take r b), t, e))

-- a length of up to 512 is there, or not, in the part as in the list
pub enough : {A : Type 0} {c : ℕ} {l p : List A} → Part c l p → (w : ℕ) → w ≤ 512 → ltb (length p) w ≡ ltb (length l) w
enough (inl (e, few)) w h = ap (λ x. ltb (length x) w) e
enough {l = l} {p = p} (inr (lc, el, lp)) w h = le-ltb (length p) w (omega (arith, lp, h)) ∙ sym (le-ltb (length l) w (omega (arith, lc, el, h)))

-- of a mass that is not given, none
pub mass_part : (b : Bool) (mass : List ℕ) (len : ℕ) {r : ℕ} → len ≡ cond b (length mass) 0 → Cut len 4103 r → (b ≡ true → Part (len / 8) (doubles_of mass) (doubles_of (take r mass))) × (b ≡ false → len / 8 ≤ 512)
mass_part true mass len {r} e cut = (λ t. rw e (doubles_part mass (subst (λ (l : ℕ). Cut l 4103 r) e cut)), λ f. absurd (true≢false f))
mass_part false mass len e cut = (λ t. absurd (true≢false (sym t)), λ f. omega (arith, e))

-- the columns and their part: not cut, or both more than 512
abbrev pub Columns : List ℕ → List ℕ → Type 0
Columns l p = (p ≡ l) ⊎ ((512 < length l) × (512 < length p))

pub columns_part : (b : List ℕ) {r : ℕ} → Cut (length b) 2055 r → Columns (numbers_of b) (numbers_of (take r b))
columns_part b (inl (e, l)) = inl (ap numbers_of (whole e))
columns_part b {r} (inr (e, l)) =
    let t : length (take r b) ≡ r = length-take-le r b (omega (arith, e, l)) in
    inr (omega (arith, l, count_numbers b), omega (arith, count_numbers (take r b), t, e))

-- a cut holds at most 512 elements
pub within_numbers : (b : List ℕ) {r : ℕ} → r ≤ length b → r ≤ 2051 → length (take r b) / 4 ≤ 512
within_numbers b {r} l m = omega (arith, length-take-le r b l, m)

-- of columns, one more
pub within_columns : (b : List ℕ) {r : ℕ} → r ≤ length b → r ≤ 2055 → length (take r b) / 4 ≤ 513
within_columns b {r} l m = omega (arith, length-take-le r b l, m)

pub within_doubles : (b : List ℕ) {r : ℕ} → r ≤ length b → r ≤ 4103 → length (take r b) / 8 ≤ 512
within_doubles b {r} l m = omega (arith, length-take-le r b l, m)
