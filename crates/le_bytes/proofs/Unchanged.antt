-- Doubles written over the bytes that they were read from: every byte stays. Assumes nothing.
use mathlib.Core.Bool.{Bool, true, false, not}
use mathlib.Core.List.{List}
use mathlib.Core.Path.{◌≡◌, refl, sym, ◌∙◌, ap, subst}
use native.Mathlib.Omega.{arith}
use native.Mathlib.Nat.{add-zero}
use Prim.Native.Nat.{ℕ, zero, suc, ◌+◌, ◌*◌, ◌/◌, ◌%◌, ◌^◌, ◌<◌}
use lib.Dec.{T}
use lib.ListN.{length, get_or}
use lib.Ieee.{Float, binary64, is_nan, of_bits}
use lib.Ieee.Bits.{to_bits-of_bits}
use Rattle.doubles.specs.F64.{at}
use Rattle.lists.specs.Loop.{tabulate}
use Rattle.lists.specs.Window.{splice}
use Rattle.lists.proofs.Window.{splice_window}
use Rattle.lists.proofs.Loop.{length_tabulate, get_d_tabulate, tabulate_ext, window_tabulate}
use Rattle.le_bytes.specs.Bytes.{half, word, double_at, doubles_of, byte_over, written_over}

module _ (b : List ℕ) (byte : (i : ℕ) → get_or b i 0 < 256) where
  sum : (p : ℕ) → word b p ≡ get_or b p 0 + 256 * get_or b (p + 1) 0 + 65536 * get_or b (p + 2) 0 + 16777216 * get_or b (p + 3) 0 + 4294967296 * (get_or b (p + 4) 0 + 256 * get_or b (p + 4 + 1) 0 + 65536 * get_or b (p + 4 + 2) 0 + 16777216 * get_or b (p + 4 + 3) 0)
  unfolding word half
  sum p = refl

  bytes : (p : ℕ) → (get_or b p 0 < 256) × (get_or b (p + 1) 0 < 256) × (get_or b (p + 2) 0 < 256) × (get_or b (p + 3) 0 < 256) × (get_or b (p + 4) 0 < 256) × (get_or b (p + 4 + 1) 0 < 256) × (get_or b (p + 4 + 2) 0 < 256) × (get_or b (p + 4 + 3) 0 < 256)
  bytes p = (byte p, byte (p + 1), byte (p + 2), byte (p + 3), byte (p + 4), byte (p + 4 + 1), byte (p + 4 + 2), byte (p + 4 + 3))

  small : (p : ℕ) → word b p < 18446744073709551616
  small p = omega (arith, sum p, bytes p)

  -- byte j of the word from p
  pub digit : (p j : ℕ) → j < 8 → word b p / 2 ^ (8 * j) % 256 ≡ get_or b (p + j) 0
  digit p zero l = let d : word b p / 1 % 256 ≡ get_or b p 0 = omega (arith, sum p, bytes p) in d ∙ ap (λ (i : ℕ). get_or b i 0) (sym (add-zero p))
  digit p (suc zero) l = let d : word b p / 256 % 256 ≡ get_or b (p + 1) 0 = omega (arith, sum p, bytes p) in d
  digit p (suc (suc zero)) l = let d : word b p / 65536 % 256 ≡ get_or b (p + 2) 0 = omega (arith, sum p, bytes p) in d
  digit p (suc (suc (suc zero))) l = let d : word b p / 16777216 % 256 ≡ get_or b (p + 3) 0 = omega (arith, sum p, bytes p) in d
  digit p (suc (suc (suc (suc zero)))) l = let d : word b p / 4294967296 % 256 ≡ get_or b (p + 4) 0 = omega (arith, sum p, bytes p) in d
  digit p (suc (suc (suc (suc (suc zero))))) l = let d : word b p / 1099511627776 % 256 ≡ get_or b (p + 4 + 1) 0 = omega (arith, sum p, bytes p) in let e : p + 4 + 1 ≡ p + 5 = omega arith in d ∙ ap (λ (i : ℕ). get_or b i 0) e
  digit p (suc (suc (suc (suc (suc (suc zero)))))) l = let d : word b p / 281474976710656 % 256 ≡ get_or b (p + 4 + 2) 0 = omega (arith, sum p, bytes p) in let e : p + 4 + 2 ≡ p + 6 = omega arith in d ∙ ap (λ (i : ℕ). get_or b i 0) e
  digit p (suc (suc (suc (suc (suc (suc (suc zero))))))) l = let d : word b p / 72057594037927936 % 256 ≡ get_or b (p + 4 + 3) 0 = omega (arith, sum p, bytes p) in let e : p + 4 + 3 ≡ p + 7 = omega arith in d ∙ ap (λ (i : ℕ). get_or b i 0) e
  digit p (suc (suc (suc (suc (suc (suc (suc (suc j)))))))) l = absurd (omega (arith, l))

  pub same_byte : (p j : ℕ) → j < 8 → byte_over (double_at b p) b p j ≡ get_or b (p + j) 0
  unfolding byte_over double_at
  same_byte p j l = go (is_nan (of_bits binary64 (word b p))) refl
    where
      go : (t : Bool) → is_nan (of_bits binary64 (word b p)) ≡ t → byte_over (double_at b p) b p j ≡ get_or b (p + j) 0
      go true e = rw e
      go false e = rw (e, to_bits-of_bits binary64 (word b p) (small p) (subst T (ap not (sym e)) tt)) (digit p j l)

  pub unchanged : written_over (doubles_of b) b ≡ b
  unfolding written_over doubles_of
  unchanged =
      let n = length b / 8 in
      let read : (i : ℕ) → i < 8 * n → byte_over (at (doubles_of b) (i / 8)) b (8 * (i / 8)) (i % 8) ≡ get_or b (0 + i) 0 =
      λ i l.
      let e : 8 * (i / 8) + i % 8 ≡ 0 + i = omega arith in
      let d : at (doubles_of b) (i / 8) ≡ double_at b (8 * (i / 8)) = get_d_tabulate n _ (i / 8) _ (omega (arith, l)) in
      ap (λ (x : Float). byte_over x b (8 * (i / 8)) (i % 8)) d ∙ same_byte (8 * (i / 8)) (i % 8) (omega arith) ∙ ap (λ (j : ℕ). get_or b j 0) e in
      ap (λ (m : ℕ). splice 0 (tabulate (8 * m) (λ i. byte_over (at (doubles_of b) (i / 8)) b (8 * (i / 8)) (i % 8))) b) (length_tabulate n _)
      ∙ ap (λ v. splice 0 v b) (tabulate_ext (8 * n) _ _ read ∙ sym (window_tabulate 0 (8 * n) b 0 (omega arith)))
      ∙ splice_window 0 (8 * n) b
