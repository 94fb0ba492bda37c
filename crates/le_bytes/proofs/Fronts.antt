-- Elements written over the front of a slice of bytes: those behind them are written as they were read, which changes nothing, also where the slice
-- was cut. Assumes nothing.
use mathlib.Core.List.{List, [], ◌∷◌, ◌++◌, append_assoc}
use mathlib.Core.Path.{◌≡◌, sym, ◌∙◌, ap}
use native.Mathlib.Omega.{arith}
use native.Mathlib.Nat.{add-zero}
use Prim.Native.Nat.{ℕ, zero, suc, ◌+◌, ◌-◌, ◌*◌, ◌/◌, ◌%◌, ◌^◌, ◌≤◌, ◌<◌}
use lib.ListN.{length, get_or, take, drop, take-append-drop}
use lib.Seq.{length-take-le, get_or-take, drop-append-le}
use lib.Ieee.{Float, nan}
use Rattle.doubles.specs.F64.{at}
use Rattle.lists.specs.Loop.{tabulate}
use Rattle.lists.specs.Window.{splice}
use Rattle.lists.proofs.Window.{length_splice, get_or_splice_in, get_or_splice_after, splice_append, splice_nil, splice_parts}
use Rattle.lists.proofs.Loop.{length_tabulate, get_d_tabulate, tabulate_add, tabulate_ext, unwritten}
use Rattle.le_bytes.specs.Bytes.{half, word, double_at, numbers_of, doubles_of, words_of, numbers_over, words_over, byte_over, written_over}
use Rattle.le_bytes.proofs.Counts.{count_numbers, count_doubles, count_words}
use Rattle.le_bytes.proofs.Unchanged.{digit, same_byte}

-- ---- lists
-- written over the front of a cut, the rest joined again
splice_cut : {A : Type 0} (vs : List A) (r : ℕ) (b : List A) → r ≤ length b → length vs ≤ r → splice 0 vs (take r b) ++ drop r b ≡ splice 0 vs b
splice_cut vs r b l h =
    let t : length (take r b) ≡ r = length-take-le r b l in
    let e : 0 + length vs ≡ length vs = omega arith in
    ap (λ x. x ++ drop r b) (sym (splice_parts 0 vs (take r b) (omega (arith, t, h))))
    ∙ append_assoc vs (drop (0 + length vs) (take r b)) (drop r b)
    ∙ ap (λ x. vs ++ x) (sym (drop-append-le (0 + length vs) (take r b) (drop r b) (omega (arith, t, h))) ∙ ap (drop (0 + length vs)) (take-append-drop r b))
    ∙ splice_parts 0 vs b (omega (arith, l, h))

-- the first n values of f, of which those from m on are what stands there
only_front : (m k : ℕ) (f : ℕ → ℕ) (b : List ℕ) → m + k ≤ length b → ((i : ℕ) → i < k → f (m + i) ≡ get_or b (m + i) 0) → splice 0 (tabulate (m + k) f) b ≡ splice 0 (tabulate m f) b
only_front m k f b l same =
    ap (λ v. splice 0 v b) (tabulate_add m k f)
    ∙ splice_append 0 (tabulate m f) (tabulate k (λ i. f (m + i))) b
    ∙ ap (splice 0 (tabulate m f)) (behind (length_tabulate m f))
  where
    behind : {j : ℕ} → j ≡ m → splice (0 + j) (tabulate k (λ i. f (m + i))) b ≡ b
    behind {j} e =
        let e₀ : 0 + j ≡ m = omega (arith, e) in
        ap (λ (x : ℕ). splice x (tabulate k (λ i. f (m + i))) b) e₀ ∙ ap (λ v. splice m v b) (tabulate_ext k (λ i. f (m + i)) (λ i. get_or b (m + i) 0) same) ∙ sym (unwritten m k b 0 l)

-- each byte of a cut is one
pub bytes_of : (n : ℕ) (b : List ℕ) → ((i : ℕ) → get_or b i 0 < 256) → (i : ℕ) → get_or (take n b) i 0 < 256
bytes_of zero b h i = omega arith
bytes_of (suc n) [] h i = omega arith
bytes_of (suc n) (x ∷ b) h zero = h zero
bytes_of (suc n) (x ∷ b) h (suc i) = bytes_of n b (λ j. h (suc j)) i

module _ (b : List ℕ) (byte : (i : ℕ) → get_or b i 0 < 256) where
  -- ---- numbers of four bytes
  half_digit : (p j : ℕ) → j < 4 → half b p / 2 ^ (8 * j) % 256 ≡ get_or b (p + j) 0
  unfolding half
  half_digit p zero l = let d : half b p / 1 % 256 ≡ get_or b p 0 = omega (arith, byte p, byte (p + 1), byte (p + 2), byte (p + 3)) in d ∙ ap (λ (i : ℕ). get_or b i 0) (sym (add-zero p))
  half_digit p (suc zero) l = let d : half b p / 256 % 256 ≡ get_or b (p + 1) 0 = omega (arith, byte p, byte (p + 1), byte (p + 2), byte (p + 3)) in d
  half_digit p (suc (suc zero)) l = let d : half b p / 65536 % 256 ≡ get_or b (p + 2) 0 = omega (arith, byte p, byte (p + 1), byte (p + 2), byte (p + 3)) in d
  half_digit p (suc (suc (suc zero))) l = let d : half b p / 16777216 % 256 ≡ get_or b (p + 3) 0 = omega (arith, byte p, byte (p + 1), byte (p + 2), byte (p + 3)) in d
  half_digit p (suc (suc (suc (suc j)))) l = absurd (omega (arith, l))

  abbrev number_byte : List ℕ → ℕ → ℕ
  number_byte xs i = get_or xs (i / 4) 0 / 2 ^ (8 * (i % 4)) % 256

  pub numbers_front : (q : List ℕ) → 4 * length q ≤ length b → numbers_over (splice 0 q (numbers_of b)) b ≡ numbers_over q b
  unfolding numbers_over numbers_of
  numbers_front q h =
      let n = length b / 4 in
      let long : length (splice 0 q (numbers_of b)) ≡ n = length_splice 0 q (numbers_of b) ∙ count_numbers b in
      let e : 4 * n ≡ 4 * length q + (4 * n - 4 * length q) = omega (arith, h) in
      ap (λ (x : ℕ). splice 0 (tabulate (4 * x) (number_byte (splice 0 q (numbers_of b)))) b) long
      ∙ ap (λ (x : ℕ). splice 0 (tabulate x (number_byte (splice 0 q (numbers_of b)))) b) e
      ∙ only_front (4 * length q) (4 * n - 4 * length q) (number_byte (splice 0 q (numbers_of b))) b (omega (arith, h)) (λ i l. read (4 * length q + i) (omega arith) (omega (arith, l)))
      ∙ ap (λ v. splice 0 v b) (tabulate_ext (4 * length q) (number_byte (splice 0 q (numbers_of b))) (number_byte q) (λ i l. ap (λ (x : ℕ). x / 2 ^ (8 * (i % 4)) % 256) (front i l)))
    where
      front : (i : ℕ) → i < 4 * length q → get_or (splice 0 q (numbers_of b)) (i / 4) 0 ≡ get_or q (i / 4) 0
      front i l =
          let e : 0 + i / 4 ≡ i / 4 = omega arith in
          rw e at (get_or_splice_in 0 q (numbers_of b) (i / 4) 0 (omega (arith, l)) (omega (arith, l, h, count_numbers b)))

      read : (i : ℕ) → 4 * length q ≤ i → i < 4 * (length b / 4) → number_byte (splice 0 q (numbers_of b)) i ≡ get_or b i 0
      read i l m =
          let e : 4 * (i / 4) + i % 4 ≡ i = omega arith in
          let d : get_or (splice 0 q (numbers_of b)) (i / 4) 0 ≡ half b (4 * (i / 4)) = get_or_splice_after 0 q (numbers_of b) (i / 4) 0 (omega (arith, l)) ∙ get_d_tabulate (length b / 4) _ (i / 4) 0 (omega (arith, m)) in
          ap (λ (x : ℕ). x / 2 ^ (8 * (i % 4)) % 256) d ∙ half_digit (4 * (i / 4)) (i % 4) (omega arith) ∙ ap (λ (j : ℕ). get_or b j 0) e

  pub numbers_unchanged : numbers_over (numbers_of b) b ≡ b
  unfolding numbers_over splice tabulate
  numbers_unchanged = ap (λ v. numbers_over v b) (sym (splice_nil 0 (numbers_of b))) ∙ numbers_front [] (omega arith) ∙ splice_nil 0 b

  -- ---- numbers of eight
  pub words_unchanged : words_over (words_of b) b ≡ b
  unfolding words_over words_of splice tabulate
  words_unchanged =
      let n = length b / 8 in
      ap (λ (x : ℕ). splice 0 (tabulate (8 * x) (λ i. get_or (words_of b) (i / 8) 0 / 2 ^ (8 * (i % 8)) % 256)) b) (count_words b)
      ∙ ap (λ (x : ℕ). splice 0 (tabulate x (λ i. get_or (words_of b) (i / 8) 0 / 2 ^ (8 * (i % 8)) % 256)) b) (sym (zero_plus (8 * n)))
      ∙ only_front 0 (8 * n) (λ i. get_or (words_of b) (i / 8) 0 / 2 ^ (8 * (i % 8)) % 256) b (omega arith) (λ i l. read (0 + i) (omega (arith, l)))
      ∙ splice_nil 0 b
    where
      zero_plus : (x : ℕ) → 0 + x ≡ x
      zero_plus x = omega arith

      read : (i : ℕ) → i < 8 * (length b / 8) → get_or (words_of b) (i / 8) 0 / 2 ^ (8 * (i % 8)) % 256 ≡ get_or b i 0
      read i m =
          let e : 8 * (i / 8) + i % 8 ≡ i = omega arith in
          let d : get_or (words_of b) (i / 8) 0 ≡ word b (8 * (i / 8)) = get_d_tabulate (length b / 8) _ (i / 8) 0 (omega (arith, m)) in
          ap (λ (x : ℕ). x / 2 ^ (8 * (i % 8)) % 256) d ∙ digit b byte (8 * (i / 8)) (i % 8) (omega arith) ∙ ap (λ (j : ℕ). get_or b j 0) e

  -- ---- doubles
  abbrev double_byte : List Float → ℕ → ℕ
  double_byte xs i = byte_over (at xs (i / 8)) b (8 * (i / 8)) (i % 8)

  pub doubles_front : (q : List Float) → 8 * length q ≤ length b → written_over (splice 0 q (doubles_of b)) b ≡ written_over q b
  unfolding written_over doubles_of
  doubles_front q h =
      let n = length b / 8 in
      let long : length (splice 0 q (doubles_of b)) ≡ n = length_splice 0 q (doubles_of b) ∙ count_doubles b in
      let e : 8 * n ≡ 8 * length q + (8 * n - 8 * length q) = omega (arith, h) in
      ap (λ (x : ℕ). splice 0 (tabulate (8 * x) (double_byte (splice 0 q (doubles_of b)))) b) long
      ∙ ap (λ (x : ℕ). splice 0 (tabulate x (double_byte (splice 0 q (doubles_of b)))) b) e
      ∙ only_front (8 * length q) (8 * n - 8 * length q) (double_byte (splice 0 q (doubles_of b))) b (omega (arith, h)) (λ i l. read (8 * length q + i) (omega arith) (omega (arith, l)))
      ∙ ap (λ v. splice 0 v b) (tabulate_ext (8 * length q) (double_byte (splice 0 q (doubles_of b))) (double_byte q) (λ i l. ap (λ (x : Float). byte_over x b (8 * (i / 8)) (i % 8)) (front i l)))
    where
      front : (i : ℕ) → i < 8 * length q → at (splice 0 q (doubles_of b)) (i / 8) ≡ at q (i / 8)
      front i l =
          let e : 0 + i / 8 ≡ i / 8 = omega arith in
          rw e at (get_or_splice_in 0 q (doubles_of b) (i / 8) nan (omega (arith, l)) (omega (arith, l, h, count_doubles b)))

      read : (i : ℕ) → 8 * length q ≤ i → i < 8 * (length b / 8) → double_byte (splice 0 q (doubles_of b)) i ≡ get_or b i 0
      read i l m =
          let e : 8 * (i / 8) + i % 8 ≡ i = omega arith in
          let d : at (splice 0 q (doubles_of b)) (i / 8) ≡ double_at b (8 * (i / 8)) = get_or_splice_after 0 q (doubles_of b) (i / 8) nan (omega (arith, l)) ∙ get_d_tabulate (length b / 8) _ (i / 8) nan (omega (arith, m)) in
          ap (λ (x : Float). byte_over x b (8 * (i / 8)) (i % 8)) d ∙ same_byte b byte (8 * (i / 8)) (i % 8) (omega arith) ∙ ap (λ (j : ℕ). get_or b j 0) e

-- ---- a cut of r bytes
module _ (b : List ℕ) (byte : (i : ℕ) → get_or b i 0 < 256) (r : ℕ) (l : r ≤ length b) where
  pub numbers_cut : (q : List ℕ) → 4 * length q ≤ r → numbers_over (splice 0 q (numbers_of (take r b))) (take r b) ++ drop r b ≡ numbers_over (splice 0 q (numbers_of b)) b
  unfolding numbers_over
  numbers_cut q h =
      let t : length (take r b) ≡ r = length-take-le r b l in
      ap (λ x. x ++ drop r b) (numbers_front (take r b) (bytes_of r b byte) q (omega (arith, t, h)))
      ∙ splice_cut (tabulate (4 * length q) (number_byte b byte q)) r b l (omega (arith, h, length_tabulate (4 * length q) (number_byte b byte q)))
      ∙ sym (numbers_front b byte q (omega (arith, l, h)))

  same_over : (x : Float) (p j : ℕ) → p + 8 ≤ r → j < 8 → byte_over x (take r b) p j ≡ byte_over x b p j
  unfolding byte_over double_at word half
  same_over x p j h m = rw (s p (omega (arith, h)), s (p + 1) (omega (arith, h)), s (p + 2) (omega (arith, h)), s (p + 3) (omega (arith, h)), s (p + 4) (omega (arith, h)), s (p + 4 + 1) (omega (arith, h)), s (p + 4 + 2) (omega (arith, h)), s (p + 4 + 3) (omega (arith, h)), s (p + j) (omega (arith, h, m)))
    where
      s : (i : ℕ) → i < r → get_or (take r b) i 0 ≡ get_or b i 0
      s i k = get_or-take r b i 0 k

  pub doubles_cut : (q : List Float) → 8 * length q ≤ r → written_over (splice 0 q (doubles_of (take r b))) (take r b) ++ drop r b ≡ written_over (splice 0 q (doubles_of b)) b
  unfolding written_over
  doubles_cut q h =
      let t : length (take r b) ≡ r = length-take-le r b l in
      ap (λ x. x ++ drop r b) (doubles_front (take r b) (bytes_of r b byte) q (omega (arith, t, h)) ∙ ap (λ v. splice 0 v (take r b)) (tabulate_ext (8 * length q) _ _ (λ i k. same_over (at q (i / 8)) (8 * (i / 8)) (i % 8) (omega (arith, k, h)) (omega arith))))
      ∙ splice_cut (tabulate (8 * length q) (double_byte b byte q)) r b l (omega (arith, h, length_tabulate (8 * length q) (double_byte b byte q)))
      ∙ sym (doubles_front b byte q (omega (arith, l, h)))
