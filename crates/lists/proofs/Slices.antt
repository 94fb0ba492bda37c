-- Writes to a part of a slice, in the words of windows. Assumes nothing.
use mathlib.Core.Path.{◌≡◌, ◌∙◌}
use mathlib.Core.List.{List}
use Prim.Native.Nat.{ℕ, ◌+◌, ◌-◌, ◌≤◌, ◌<◌}
use native.Mathlib.Omega.{arith}
use lib.ListN.{length, get_or, take, drop, length-drop}
use lib.Seq.{drop-drop, get_or-take, get_or-drop, length-take-le}
use denote.Ref.{Bor}
use borrow.Rule.Slice.PartMut.{put_mid}
use Rattle.std.specs.Prelude.{Option, Some, None}
use Rattle.std.specs.Iterator.{Yields}
use Rattle.std.specs.Iterator.Adapters.{zip_first, zip_second}
use Rattle.std.specs.Slice.Iter.{iter_rest}
use Rattle.std.specs.declared.iter.Zip.{Zip}
use Rattle.std.specs.declared.slice.Iter.{Iter}
use Rattle.std.proofs.iter.Yields.{fronts}
use Rattle.std.proofs.lemmas.Iterator.{zips}
use Rattle.std.proofs.lemmas.Slice.Zip.{zip_turn, zip_end}
use Rattle.lists.specs.Window.{splice}
use Rattle.lists.proofs.Window.{splice_parts}

module _ {A : Type 0} where
  -- the k places from `at` hold ys
  pub put_splice : (at k : ℕ) (w ys : List A) → at + k ≤ length w → length ys ≡ k → put_mid at k w ys ≡ splice at ys w
  put_splice at k w ys h e = rw (drop-drop k at w, ← e) (splice_parts at ys w (omega arith))

  -- n places from `at`: how many, and which
  pub part_length : (at n : ℕ) (w : List A) → at + n ≤ length w → length (take n (drop at w)) ≡ n
  part_length at n w h = length-take-le n (drop at w) (simp length-drop (omega arith))

  pub part_at : (at n : ℕ) (w : List A) (k : ℕ) (d : A) → k < n → get_or (take n (drop at w)) k d ≡ get_or w (at + k) d
  part_at at n w k d h = get_or-take n (drop at w) k d h ∙ get_or-drop at w k d

-- `for (x, y) in v[p..p + n].iter().zip(&w[q..q + n])`: where a turn's pair stands, and how many turns there were
module _ {A B : Type 0} (p q n : ℕ) (v : List A) (w : List B) (fits : p + n ≤ length v) (fits_2 : q + n ≤ length w) (s t u : Zip (Iter A) (Iter B)) (xs : List (Bor A × Bor B)) (r : Option (Bor A × Bor B)) where
  pub zip_parts_turn : iter_rest (zip_first s) ≡ take n (drop p v) → iter_rest (zip_second s) ≡ take n (drop q w) → Yields (zips fronts fronts) s xs t → (x : Bor A × Bor B) → r ≡ Some x → zips fronts fronts t r u
      → (length xs < n) × ((d : A) → x.0.now ≡ get_or v (p + length xs) d) × ((d : B) → x.1.now ≡ get_or w (q + length xs) d)
  zip_parts_turn a b y x e h =
      let h = zip_turn (take n (drop p v)) (take n (drop q w)) xs s t u r a b y x e h in
      let l : length (take n (drop p v)) ≡ n = part_length p n v fits in
      let less : length xs < n = omega arith in (
        less,
        (λ d. h.2 d ∙ part_at p n v (length xs) d less),
        (λ d. h.3 d ∙ part_at q n w (length xs) d less),
      )

  pub zip_parts_end : iter_rest (zip_first s) ≡ take n (drop p v) → iter_rest (zip_second s) ≡ take n (drop q w) → Yields (zips fronts fronts) s xs t → r ≡ None → zips fronts fronts t r u → length xs ≡ n
  zip_parts_end a b y e h =
      let h = zip_end (take n (drop p v)) (take n (drop q w)) xs s t u r a b y e h in
      let l : length (take n (drop p v)) ≡ n = part_length p n v fits in
      let m : length (take n (drop q w)) ≡ n = part_length q n w fits_2 in
      omega arith
