-- Windows of a list and lists written over: laws for code that keeps several vectors in one slice.
-- `splice` never changes the length, also where the window runs past the end, so few laws have side conditions.
-- Assumes nothing.
use mathlib.Core.Path.{◌≡◌, refl, sym, ap, ◌∙◌}
use mathlib.Core.List.{List, [], ◌∷◌, ◌++◌}
use Prim.Native.Nat.{ℕ, zero, suc, ◌+◌, ◌-◌, ◌≤◌, ◌<◌}
use native.Mathlib.Omega.{arith}
use native.Mathlib.Nat.{suc-add, zero-add, suc_inj, add-sub_cancel_left}
use lib.ListN.{length, get_or, set, take, drop, replicate, length-set, length-drop}
use Rattle.lists.specs.Window.{window, over, splice}
use lib.Seq.{take_all, take-take, length-take-le, get_or-take, get_or-drop, drop-drop}

module _ {A : Type 0} where
  -- what `&w[at..at + len]` lends
  pub part_window : (at len : ℕ) (w : List A) → take (at + len - at) (drop at w) ≡ window at len w
  unfolding window
  part_window at len w = rw (add-sub_cancel_left at len)

  -- ---- lengths
  pub length_over : (vs w : List A) → length (over vs w) ≡ length w
  unfolding over
  length_over [] w = refl
  length_over (v ∷ vs) [] = refl
  length_over (v ∷ vs) (x ∷ w) = ap suc (length_over vs w)

  pub length_splice : (at : ℕ) (vs w : List A) → length (splice at vs w) ≡ length w
  unfolding splice
  length_splice zero vs w = length_over vs w
  length_splice (suc n) vs [] = refl
  length_splice (suc n) vs (x ∷ w) = ap suc (length_splice n vs w)

  pub length_window : (at len : ℕ) (w : List A) → at + len ≤ length w → length (window at len w) ≡ len
  unfolding window
  length_window at len w h = length-take-le len (drop at w) (simp length-drop (omega arith))

  -- ---- a window of a window
  window_take : (at len n : ℕ) (w : List A) → at + len ≤ n → window at len (take n w) ≡ window at len w
  unfolding window
  window_take zero len n w h = take-take len n w (omega arith)
  window_take (suc a) len zero w h = absurd (omega arith)
  window_take (suc a) len (suc n) [] h = refl
  window_take (suc a) len (suc n) (x ∷ w) h = window_take a len n w (omega arith)

  pub window_window : (p n at len : ℕ) (w : List A) → at + len ≤ n → window at len (window p n w) ≡ window (p + at) len w
  unfolding window
  window_window p n at len w h = window_take at len n (drop p w) h ∙ rw (drop-drop at p w)

  -- the first places of an array that holds one value
  pub window_replicate : (n m : ℕ) (a : A) → n ≤ m → window 0 n (replicate m a) ≡ replicate n a
  unfolding window
  window_replicate zero m a h = refl
  window_replicate (suc n) zero a h = absurd (omega arith)
  window_replicate (suc n) (suc m) a h = ap (λ (r : List A). a ∷ r) (window_replicate n m a (omega arith))

  -- ---- a load
  pub get_d_window : (at len : ℕ) (w : List A) (k : ℕ) (d : A) → k < len → get_or (window at len w) k d ≡ get_or w (at + k) d
  unfolding window
  get_d_window at len w k d h = get_or-take len (drop at w) k d h ∙ get_or-drop at w k d

  get_or_over_out : (vs w : List A) (k : ℕ) (d : A) → length vs ≤ k → get_or (over vs w) k d ≡ get_or w k d
  unfolding over
  get_or_over_out [] w k d h = refl
  get_or_over_out (v ∷ vs) [] k d h = refl
  get_or_over_out (v ∷ vs) (x ∷ w) zero d h = absurd (omega arith)
  get_or_over_out (v ∷ vs) (x ∷ w) (suc k) d h = get_or_over_out vs w k d (omega arith)

  get_or_over_in : (vs w : List A) (k : ℕ) (d : A) → k < length vs → k < length w → get_or (over vs w) k d ≡ get_or vs k d
  unfolding over
  get_or_over_in [] w k d h l = absurd (omega arith)
  get_or_over_in (v ∷ vs) [] k d h l = absurd (omega arith)
  get_or_over_in (v ∷ vs) (x ∷ w) zero d h l = refl
  get_or_over_in (v ∷ vs) (x ∷ w) (suc k) d h l = get_or_over_in vs w k d (omega arith) (omega arith)

  pub get_or_splice_before : (at : ℕ) (vs w : List A) (k : ℕ) (d : A) → k < at → get_or (splice at vs w) k d ≡ get_or w k d
  unfolding splice
  get_or_splice_before zero vs w k d h = absurd (omega arith)
  get_or_splice_before (suc n) vs [] k d h = refl
  get_or_splice_before (suc n) vs (x ∷ w) zero d h = refl
  get_or_splice_before (suc n) vs (x ∷ w) (suc k) d h = get_or_splice_before n vs w k d (omega arith)

  pub get_or_splice_after : (at : ℕ) (vs w : List A) (k : ℕ) (d : A) → at + length vs ≤ k → get_or (splice at vs w) k d ≡ get_or w k d
  unfolding splice
  get_or_splice_after zero vs w k d h = get_or_over_out vs w k d (omega arith)
  get_or_splice_after (suc n) vs [] k d h = refl
  get_or_splice_after (suc n) vs (x ∷ w) zero d h = absurd (omega arith)
  get_or_splice_after (suc n) vs (x ∷ w) (suc k) d h = get_or_splice_after n vs w k d (omega arith)

  pub get_or_splice_in : (at : ℕ) (vs w : List A) (k : ℕ) (d : A) → k < length vs → at + k < length w → get_or (splice at vs w) (at + k) d ≡ get_or vs k d
  unfolding splice
  get_or_splice_in zero vs w k d h l = rw zero-add (get_or_over_in vs w k d h (omega arith))
  get_or_splice_in (suc n) vs [] k d h l = absurd (omega arith)
  get_or_splice_in (suc n) vs (x ∷ w) k d h l = rw suc-add (get_or_splice_in n vs w k d h (omega arith))

  -- ---- a window of a list that was written over
  window_over_same : (len : ℕ) (vs w : List A) → length vs ≡ len → len ≤ length w → take len (over vs w) ≡ vs
  unfolding over
  window_over_same zero [] w e h = refl
  window_over_same zero (v ∷ vs) w e h = absurd (omega arith)
  window_over_same (suc n) [] w e h = absurd (omega arith)
  window_over_same (suc n) (v ∷ vs) [] e h = absurd (omega arith)
  window_over_same (suc n) (v ∷ vs) (x ∷ w) e h = ap (λ (r : List A). v ∷ r) (window_over_same n vs w (suc_inj e) (omega arith))

  pub window_splice_same : (at len : ℕ) (vs w : List A) → length vs ≡ len → at + len ≤ length w → window at len (splice at vs w) ≡ vs
  unfolding splice window
  window_splice_same zero len vs w e h = window_over_same len vs w e (omega arith)
  window_splice_same (suc n) len vs [] e h = absurd (omega arith)
  window_splice_same (suc n) len vs (x ∷ w) e h = window_splice_same n len vs w e (omega arith)

  -- written after the window, or before it
  pub window_splice_after : (at len bt : ℕ) (vs w : List A) → at + len ≤ bt → window at len (splice bt vs w) ≡ window at len w
  unfolding splice window
  window_splice_after at zero bt vs w h = refl
  window_splice_after at (suc len) zero vs w h = absurd (omega arith)
  window_splice_after at (suc len) (suc b) vs [] h = refl
  window_splice_after zero (suc len) (suc b) vs (x ∷ w) h = ap (λ (r : List A). x ∷ r) (window_splice_after zero len b vs w (omega arith))
  window_splice_after (suc n) (suc len) (suc b) vs (x ∷ w) h = window_splice_after n (suc len) b vs w (omega arith)

  drop_over : (n : ℕ) (vs w : List A) → length vs ≤ n → drop n (over vs w) ≡ drop n w
  unfolding over
  drop_over n [] w h = refl
  drop_over n (v ∷ vs) [] h = refl
  drop_over zero (v ∷ vs) (x ∷ w) h = absurd (omega arith)
  drop_over (suc n) (v ∷ vs) (x ∷ w) h = drop_over n vs w (omega arith)

  drop_splice : (at n : ℕ) (vs w : List A) → at + length vs ≤ n → drop n (splice at vs w) ≡ drop n w
  unfolding splice
  drop_splice zero n vs w h = drop_over n vs w (omega arith)
  drop_splice (suc a) n vs [] h = refl
  drop_splice (suc a) zero vs (x ∷ w) h = absurd (omega arith)
  drop_splice (suc a) (suc n) vs (x ∷ w) h = drop_splice a n vs w (omega arith)

  pub window_splice_before : (at len bt : ℕ) (vs w : List A) → bt + length vs ≤ at → window at len (splice bt vs w) ≡ window at len w
  unfolding window
  window_splice_before at len bt vs w h = ap (λ (r : List A). take len r) (drop_splice bt at vs w h)

  -- ---- two writes
  over_over : (vs us w : List A) → length us ≤ length vs → over vs (over us w) ≡ over vs w
  unfolding over
  over_over vs [] w h = refl
  over_over [] (u ∷ us) w h = absurd (omega arith)
  over_over (v ∷ vs) (u ∷ us) [] h = refl
  over_over (v ∷ vs) (u ∷ us) (x ∷ w) h = ap (λ (r : List A). v ∷ r) (over_over vs us w (omega arith))

  -- the second hides the first
  pub splice_splice : (at : ℕ) (vs us w : List A) → length us ≤ length vs → splice at vs (splice at us w) ≡ splice at vs w
  unfolding splice
  splice_splice zero vs us w h = over_over vs us w h
  splice_splice (suc n) vs us [] h = refl
  splice_splice (suc n) vs us (x ∷ w) h = ap (λ (r : List A). x ∷ r) (splice_splice n vs us w h)

  over_splice : (vs : List A) (bt : ℕ) (us w : List A) → length vs ≤ bt → over vs (splice bt us w) ≡ splice bt us (over vs w)
  unfolding over splice
  over_splice [] bt us w h = refl
  over_splice (v ∷ vs) zero us w h = absurd (omega arith)
  over_splice (v ∷ vs) (suc b) us [] h = refl
  over_splice (v ∷ vs) (suc b) us (x ∷ w) h = ap (λ (r : List A). v ∷ r) (over_splice vs b us w (omega arith))

  -- at disjoint places the order does not matter: the lower place goes outside, or inside by `←`
  pub splice_comm : (at bt : ℕ) (vs us w : List A) → at + length vs ≤ bt → splice at vs (splice bt us w) ≡ splice bt us (splice at vs w)
  unfolding splice
  splice_comm zero bt vs us w h = over_splice vs bt us w (omega arith)
  splice_comm (suc a) zero vs us w h = absurd (omega arith)
  splice_comm (suc a) (suc b) vs us [] h = refl
  splice_comm (suc a) (suc b) vs us (x ∷ w) h = ap (λ (r : List A). x ∷ r) (splice_comm a b vs us w (omega arith))

  over_append : (vs us w : List A) → over (vs ++ us) w ≡ over vs (splice (length vs) us w)
  unfolding over splice
  over_append [] us w = refl
  over_append (v ∷ vs) us [] = refl
  over_append (v ∷ vs) us (x ∷ w) = ap (λ (r : List A). v ∷ r) (over_append vs us w)

  -- two neighbours are one
  pub splice_append : (at : ℕ) (vs us w : List A) → splice at (vs ++ us) w ≡ splice at vs (splice (at + length vs) us w)
  unfolding splice
  splice_append zero vs us w = rw (zero-add (length vs)) (over_append vs us w)
  splice_append (suc n) vs us [] = rw (suc-add n (length vs))
  splice_append (suc n) vs us (x ∷ w) = rw (suc-add n (length vs)) (ap (λ (r : List A). x ∷ r) (splice_append n vs us w))

  -- a second write just past the first
  pub splice_more : (at k : ℕ) (vs us w : List A) → length vs ≡ k → splice (at + k) us (splice at vs w) ≡ splice at (vs ++ us) w
  splice_more at k vs us w e = sym (rw (splice_append at vs us w, e) (splice_comm at (at + k) vs us w (omega arith)))

  pub splice_nil : (at : ℕ) (w : List A) → splice at [] w ≡ w
  unfolding splice over
  splice_nil zero w = refl
  splice_nil (suc n) [] = refl
  splice_nil (suc n) (x ∷ w) = ap (λ (r : List A). x ∷ r) (splice_nil n w)

  over_window : (len : ℕ) (w : List A) → over (take len w) w ≡ w
  unfolding over
  over_window zero w = refl
  over_window (suc n) [] = refl
  over_window (suc n) (x ∷ w) = ap (λ (r : List A). x ∷ r) (over_window n w)

  -- a window written back where it was
  pub splice_window : (at len : ℕ) (w : List A) → splice at (window at len w) w ≡ w
  unfolding splice window
  splice_window zero len w = over_window len w
  splice_window (suc n) len [] = refl
  splice_window (suc n) len (x ∷ w) = ap (λ (r : List A). x ∷ r) (splice_window n len w)

  -- ---- a store, as a write of one element; a store just past what was written
  pub set_splice : (at : ℕ) (v : A) (w : List A) → set w at v ≡ splice at (v ∷ []) w
  unfolding splice over
  set_splice zero v [] = refl
  set_splice zero v (x ∷ w) = refl
  set_splice (suc n) v [] = refl
  set_splice (suc n) v (x ∷ w) = ap (λ (r : List A). x ∷ r) (set_splice n v w)

  set_over : (vs w : List A) (v : A) → set (over vs w) (length vs) v ≡ over (vs ++ (v ∷ [])) w
  unfolding over
  set_over [] [] v = refl
  set_over [] (x ∷ w) v = refl
  set_over (u ∷ vs) [] v = refl
  set_over (u ∷ vs) (x ∷ w) v = ap (λ (r : List A). u ∷ r) (set_over vs w v)

  pub splice_snoc : (at : ℕ) (vs w : List A) (v : A) → set (splice at vs w) (at + length vs) v ≡ splice at (vs ++ (v ∷ [])) w
  unfolding splice
  splice_snoc zero vs w v = rw (zero-add (length vs)) (set_over vs w v)
  splice_snoc (suc n) vs [] v = refl
  splice_snoc (suc n) vs (x ∷ w) v = rw (suc-add n (length vs)) (ap (λ (r : List A). x ∷ r) (splice_snoc n vs w v))

  -- the whole is written over
  pub splice_whole : (vs w : List A) → length vs ≡ length w → splice 0 vs w ≡ vs
  unfolding splice over
  splice_whole [] [] e = refl
  splice_whole [] (x ∷ w) e = absurd (omega arith)
  splice_whole (v ∷ vs) [] e = absurd (omega arith)
  splice_whole (v ∷ vs) (x ∷ w) e = ap (λ (r : List A). v ∷ r) (splice_whole vs w (suc_inj e))

  -- the whole is read, or copied
  pub window_whole : (n : ℕ) (w : List A) → length w ≡ n → window 0 n w ≡ w
  unfolding window
  window_whole n w e = take_all n w (omega arith)

  pub copy_whole : (n : ℕ) (v w : List A) → length v ≡ n → length w ≡ n → splice 0 (window 0 n v) w ≡ v
  copy_whole n v w e f = let h = window_whole n v e in rw h (splice_whole v w (omega arith))

  over_parts : (vs w : List A) → length vs ≤ length w → vs ++ drop (length vs) w ≡ over vs w
  unfolding over
  over_parts [] w h = refl
  over_parts (v ∷ vs) [] h = absurd (omega arith)
  over_parts (v ∷ vs) (x ∷ w) h = ap (λ (r : List A). v ∷ r) (over_parts vs w (omega arith))

  -- what a callee that was lent `&mut w[at..at + n]` leaves there, said of the whole
  pub splice_parts : (at : ℕ) (vs w : List A) → at + length vs ≤ length w → take at w ++ (vs ++ drop (at + length vs) w) ≡ splice at vs w
  unfolding splice
  splice_parts zero vs w h = rw (zero-add (length vs)) (over_parts vs w (omega arith))
  splice_parts (suc n) vs [] h = absurd (omega arith)
  splice_parts (suc n) vs (x ∷ w) h = rw (suc-add n (length vs)) (ap (λ (r : List A). x ∷ r) (splice_parts n vs w (omega arith)))

  over_cover : (bt : ℕ) (vs us w : List A) → bt + length us ≤ length vs → over vs (splice bt us w) ≡ over vs w
  unfolding over splice
  over_cover zero vs us w h = over_over vs us w (omega arith)
  over_cover (suc b) [] us w h = absurd (omega arith)
  over_cover (suc b) (v ∷ vs) us [] h = refl
  over_cover (suc b) (v ∷ vs) us (x ∷ w) h = ap (λ (r : List A). v ∷ r) (over_cover b vs us w (omega arith))

  -- a later write hides an earlier one that lies within it
  pub splice_cover : (at bt : ℕ) (vs us w : List A) → at ≤ bt → bt + length us ≤ at + length vs → splice at vs (splice bt us w) ≡ splice at vs w
  unfolding splice
  splice_cover zero bt vs us w l h = over_cover bt vs us w (omega arith)
  splice_cover (suc a) zero vs us w l h = absurd (omega arith)
  splice_cover (suc a) (suc b) vs us [] l h = refl
  splice_cover (suc a) (suc b) vs us (x ∷ w) l h = ap (λ (r : List A). x ∷ r) (splice_cover a b vs us w (omega arith) (omega arith))

  -- a store within what was written
  set_over_in : (vs w : List A) (j : ℕ) (v : A) → j < length vs → set (over vs w) j v ≡ over (set vs j v) w
  unfolding over
  set_over_in [] w j v h = absurd (omega arith)
  set_over_in (u ∷ vs) [] zero v h = refl
  set_over_in (u ∷ vs) [] (suc j) v h = refl
  set_over_in (u ∷ vs) (x ∷ w) zero v h = refl
  set_over_in (u ∷ vs) (x ∷ w) (suc j) v h = ap (λ (r : List A). u ∷ r) (set_over_in vs w j v (omega arith))

  pub set_splice_in : (at : ℕ) (vs w : List A) (j : ℕ) (v : A) → j < length vs → set (splice at vs w) (at + j) v ≡ splice at (set vs j v) w
  unfolding splice
  set_splice_in zero vs w j v h = rw (zero-add j) (set_over_in vs w j v h)
  set_splice_in (suc n) vs [] j v h = refl
  set_splice_in (suc n) vs (x ∷ w) j v h = rw (suc-add n j) (ap (λ (r : List A). x ∷ r) (set_splice_in n vs w j v h))

  -- a store behind n places that hold one value
  pub set_behind : (n m j : ℕ) (z v : A) → set (replicate (n + m) z) (n + j) v ≡ replicate n z ++ set (replicate m z) j v
  set_behind zero m j z v = rw (zero-add m, zero-add j) refl
  set_behind (suc n) m j z v = rw (suc-add n m, suc-add n j) (ap (λ (r : List A). z ∷ r) (set_behind n m j z v))

  -- a store beside what was written
  pub set_splice_after : (at : ℕ) (vs w : List A) (k : ℕ) (v : A) → at + length vs ≤ k → set (splice at vs w) k v ≡ splice at vs (set w k v)
  set_splice_after at vs w k v h = set_splice k v (splice at vs w) ∙ sym (splice_comm at k vs (v ∷ []) w h) ∙ ap (splice at vs) (sym (set_splice k v w))

  -- a store within a window
  pub window_set_in : (at len : ℕ) (w : List A) (k : ℕ) (v : A) → k < len → at + len ≤ length w → window at len (set w (at + k) v) ≡ set (window at len w) k v
  window_set_in at len w k v l h =
      let ws : length (window at len w) ≡ len = length_window at len w h in
      ap (λ (u : List A). window at len (set u (at + k) v)) (sym (splice_window at len w))
      ∙ ap (window at len) (set_splice_in at (window at len w) w k v (omega arith))
      ∙ window_splice_same at len (set (window at len w) k v) w (length-set (window at len w) k v ∙ ws) h

  -- the same, as the caller has it when `&mut w[at..at + len]` is back: the callee kept the part's length, and made f of it
  pub part_back : (at len : ℕ) (f : List A → List A) (ys w : List A) → at + len ≤ length w → length ys ≡ length (take (at + len - at) (drop at w)) → ys ≡ f (take (at + len - at) (drop at w))
      → take at w ++ (ys ++ drop (at + len - at) (drop at w)) ≡ splice at (f (window at len w)) w
  part_back at len f ys w h k e =
      let l : length ys ≡ len = k ∙ rw (part_window at len w) (length_window at len w h) in
      let e' : ys ≡ f (window at len w) = rw (part_window at len w) at e in
      rw (add-sub_cancel_left at len, drop-drop len at w, ← l) (splice_parts at ys w (omega arith)) ∙ ap (λ (r : List A). splice at r w) e'

  -- and where it filled the part
  pub part_filled : (at len : ℕ) (z : A) (ys w : List A) → at + len ≤ length w → length ys ≡ length (take (at + len - at) (drop at w)) → ys ≡ replicate (length (take (at + len - at) (drop at w))) z
      → take at w ++ (ys ++ drop (at + len - at) (drop at w)) ≡ splice at (replicate len z) w
  part_filled at len z ys w h k e =
      part_back at len (λ x. replicate (length x) z) ys w h k e ∙ ap (λ (n : ℕ). splice at (replicate n z) w) (length_window at len w h)
