-- The memory of a run on lists: what a product, a turn and the last product leave. Assumes nothing.
use mathlib.Core.Bool.{Bool, true, false}
use mathlib.Core.List.{List, [], ◌∷◌, ◌++◌}
use mathlib.Core.Path.{◌≡◌, refl, sym, ap, ◌∙◌}
use Prim.Native.Nat.{ℕ, ◌+◌, ◌-◌, ◌*◌, ◌≤◌, ◌<◌}
use native.Mathlib.Numerals.{add-one}
use native.Mathlib.Omega.{arith}
use lib.ListN.{length, get_or, set, take, drop}
use lib.Ieee.{Float}
use Rattle.hess_rows.specs.HessProduct.{place}
use Rattle.lists.specs.Bounds.{Disjoint}
use Rattle.lists.specs.Loop.{tabulate}
use Rattle.lists.specs.Window.{window, splice}
use Rattle.lists.proofs.Bounds.{column_within, cell_within}
use Rattle.lists.specs.Frame.{Kept}
use Rattle.lists.proofs.Frame.{Wrote, wrote, wrote_set, written, untouched, wrote_long, kept_all, kept_by, kept_on}
use Rattle.lists.proofs.Loop.{get_d_tabulate, tabulate_ext, tabulate_snoc}
use Rattle.lists.proofs.Window.{part_window, length_window, window_set_in}
use Rattle.doubles.specs.F64.{◌⊘◌, +0, 1f}
use Rattle.vectors.specs.Vectors.{scale}
use Rattle.vectors.proofs.Laws.{length_scale}
use Rattle.general_operator.specs.Csr.{Csr, csr}
use Rattle.phi_action_helpers.specs.declared.Layout.{Layout}
use Rattle.phi_action_helpers.specs.declared.Coupling.{Coupling}
use Rattle.phi_action_helpers.specs.Laid.{matrix_at}
use Rattle.phi_action_helpers.proofs.Augmented.{length_aug_matvec}
use Rattle.phi_action_helpers.proofs.Sweeps.{values_kept}
use Rattle.gram_schmidt.specs.Basis.{Setting, len, norm2, apply, Rest, orthogonal, rest, broken, extend, arnoldi_step}
use Rattle.gram_schmidt.specs.Memory.{setting_at, Room, Spared, column, rest_at, columns_at, grown_at, Rested, Ended}
use Rattle.gram_schmidt.specs.declared.Krylov.{Krylov}
use Rattle.std.specs.Prelude.{Ok, Err}
use Rattle.gram_schmidt.proofs.GramSchmidt.{orthogonal_ext, orthogonal_long, orthogonal_h_long, length_column}

pub length_product : (p : Setting) (x : List Float) → length (apply p x) ≡ len p
unfolding apply
length_product p x = length_aug_matvec p.operator _ x

module _ {l : Layout} {k : Krylov} where
  pub spared_all : (w : List Float) → Spared l k w w
  spared_all w = record { kept = kept_all 0 l.q +0 w; field = refl }

  pub spared_on : {w₀ w w₁ : List Float} → Spared l k w₀ w → Spared l k w w₁ → Spared l k w₀ w₁
  spared_on a b = record { kept = kept_on a.kept b.kept; field = b.field ∙ a.field }

  pub spared_by : {w₀ w w₁ vs : List Float} {at n : ℕ} → Spared l k w₀ w → Wrote at n vs w w₁ → Disjoint at n k.y (l.n + l.d) → at + n ≤ l.q → Spared l k w₀ w₁
  spared_by s t apart h = record { kept = kept_by s.kept t (omega arith) (omega arith); field = untouched t k.y (l.n + l.d) apart ∙ s.field }

  pub room_kept : {b : Coupling} (starts cols : List ℕ) (vals : List Float) {v x : ℕ} {w₀ w : List Float} → Kept 0 l.q +0 w₀ w
      → Room l b k (matrix_at l starts cols vals w₀) v x (length w₀) → Room l b k (matrix_at l starts cols vals w) v x (length w)
  room_kept starts cols vals {w₀ = w₀} {w = w} s h = rw (values_kept l.mass l.q vals w₀ w s, s.long) h

module _ (l : Layout) (b : Coupling) (k : Krylov) (starts cols : List ℕ) (vals vectors : List Float) where
  -- the product, and then its parts taken away
  pub rested : (j : ℕ) {v x : ℕ} (w₀ w₁ w₂ : List Float) → Room l b k (matrix_at l starts cols vals w₀) v x (length w₀) → j ≤ k.m
      → w₁ ≡ splice l.w (apply (setting_at l b k (matrix_at l starts cols vals w₀) vectors) (column (l.n + l.d) w₀ j)) w₀
      → (let R = orthogonal (column (l.n + l.d) w₁) (k.m + 2) j (j + 1) (rest_at (l.n + l.d) l.w k.h (k.m + 2) w₁) in w₂ ≡ splice l.w R.z (splice k.h R.h w₁))
      → Rested l k (setting_at l b k (matrix_at l starts cols vals w₀) vectors) j w₀ w₂
  unfolding column rest
  rested j w₀ w₁ w₂ r h e₁ e₂ =
      let m = l.n + l.d in
      let dim = k.m + 2 in
      let p = setting_at l b k (matrix_at l starts cols vals w₀) vectors in
      let t₁ = wrote l.w m (apply p (column m w₀ j)) w₀ w₁ (length_product p _) e₁ in
      let l₁ = wrote_long t₁ in
      let f = rest_at m l.w k.h dim w₁ in
      let S = orthogonal (column m w₁) dim j (j + 1) f in
      let at : (i : ℕ) → i < j + 1 → i * m + m ≤ l.w = λ i g. let a = column_within i (j + 1) m g in let a' = column_within j (k.m + 1) m (omega arith) in omega arith in
      let vs : (i : ℕ) → i < j + 1 → column m w₁ i ≡ column m w₀ i = λ i g. let a = at i g in untouched t₁ (i * m) m (omega arith) in
      let u : ℕ → List Float = λ i. get_or (tabulate (j + 1) (column m w₀)) i [] in
      let us : (i : ℕ) → i < j + 1 → u i ≡ column m w₀ i = λ i g. get_d_tabulate (j + 1) (column m w₀) i [] g in
      let zs : window l.w m w₁ ≡ apply p (u j) = written t₁ (omega arith) ∙ ap (apply p) (sym (us j (omega arith))) in
      let hs : window k.h (dim * dim) w₁ ≡ window k.h (dim * dim) w₀ = untouched t₁ k.h (dim * dim) (omega arith) in
      let rs : S ≡ rest p j (columns_at l k (j + 1) 0 w₀) = orthogonal_ext (column m w₁) dim j u (j + 1) f (λ i g. vs i g ∙ sym (us i g)) ∙ (λ t. orthogonal u dim j (j + 1) (record { z = zs t; h = hs t })) in
      let lz : length S.z ≡ m = orthogonal_long (column m w₁) dim j (j + 1) m f (length_window l.w m w₁ (omega arith)) (λ i g. let a = at i g in length_column m w₁ i (omega arith)) in
      let lh : length S.h ≡ dim * dim = orthogonal_h_long (column m w₁) dim j (j + 1) f ∙ length_window k.h (dim * dim) w₁ (omega arith) in
      let t₂ = wrote k.h (dim * dim) S.h w₁ _ lh refl in
      let l₂ = wrote_long t₂ in
      let t₃ = wrote l.w m S.z _ w₂ lz e₂ in
      record {
        z_is = written t₃ (omega arith) ∙ ap (λ (x : Rest). x.z) rs;
        h_is = untouched t₃ k.h (dim * dim) (omega arith) ∙ written t₂ (omega arith) ∙ ap (λ (x : Rest). x.h) rs;
        v_is = λ i g. let a = at i g in untouched t₃ (i * m) m (omega arith) ∙ untouched t₂ (i * m) m (omega arith) ∙ vs i g;
        spared = spared_by (spared_by (spared_by (spared_all w₀) t₁ (omega arith) (omega arith)) t₂ (omega arith) (omega arith)) t₃ (omega arith) (omega arith);
      }

  -- the corrector's entry of h is stored
  pub cornered : {v x : ℕ} (w : List Float) → Room l b k (matrix_at l starts cols vals w) v x (length w) → Spared l k w (set w (k.h + place (k.m + 2) (k.m + 1) k.m) 1f)
  cornered w r =
      let cell = cell_within k.m (k.m + 2) (k.m + 2) (k.m + 1) (omega arith) (omega arith) in
      spared_by (spared_all w) (wrote_set w _ 1f) (omega arith) (omega arith)

  -- and then the last product made
  pub ended : {v x : ℕ} (w₀ w₁ : List Float) (avnorm : Float) → Room l b k (matrix_at l starts cols vals w₀) v x (length w₀)
      → (let u = set w₀ (k.h + place (k.m + 2) (k.m + 1) k.m) 1f in
      w₁ ≡ splice l.w (apply (setting_at l b k (matrix_at l starts cols vals u) vectors) (column (l.n + l.d) u k.m)) u)
      → avnorm ≡ norm2 (take (l.w + (l.n + l.d) - l.w) (drop l.w w₁))
      → Ended l k (setting_at l b k (matrix_at l starts cols vals w₀) vectors) w₀ w₁ avnorm
  unfolding column
  ended w₀ w₁ avnorm r e₁ ea =
      let m = l.n + l.d in
      let dim = k.m + 2 in
      let e = place dim (k.m + 1) k.m in
      let cell : e < dim * dim = cell_within k.m dim dim (k.m + 1) (omega arith) (omega arith) in
      let u = set w₀ (k.h + e) 1f in
      let t₀ = wrote_set w₀ (k.h + e) 1f in
      let l₀ = wrote_long t₀ in
      let s₀ = cornered w₀ r in
      let q₀ = values_kept l.mass l.q vals w₀ u s₀.kept in
      let p = setting_at l b k (matrix_at l starts cols vals u) vectors in
      let t₁ = wrote l.w m (apply p (column m u k.m)) u w₁ (length_product p _) e₁ in
      let vs : (i : ℕ) → i < k.m + 1 → column m u i ≡ column m w₀ i = λ i g. let a = column_within i (k.m + 1) m g in untouched t₀ (i * m) m (omega arith) in
      let v₁ : (i : ℕ) → i < k.m + 1 → column m w₁ i ≡ column m u i = λ i g. let a = column_within i (k.m + 1) m g in untouched t₁ (i * m) m (omega arith) in
      let zs : window l.w m w₁ ≡ apply (setting_at l b k (matrix_at l starts cols vals w₀) vectors) (column m w₀ k.m) = written t₁ (omega arith) ∙ (λ t. apply (setting_at l b k (csr l.n starts cols (q₀ t)) vectors) (vs k.m (omega arith) t)) in
      record {
        v_is = tabulate_ext (k.m + 1) (column m w₁) (column m w₀) (λ i g. v₁ i g ∙ vs i g);
        h_is = untouched t₁ k.h (dim * dim) (omega arith) ∙ window_set_in k.h (dim * dim) w₀ e 1f cell (omega arith);
        avnorm_is = rw (part_window l.w m w₁, zs) at ea;
        spared = spared_by s₀ t₁ (omega arith) (omega arith);
      }

-- ---- a turn
module _ (l : Layout) (b : Coupling) (k : Krylov) (q : Csr) (vectors : List Float) (beta : Float) (j a : ℕ) (hn : Float) (w₀ w₁ : List Float) (c : Bool) where
  uncounted : rest (setting_at l b k q vectors) j (columns_at l k (j + 1) a w₀) ≡ rest (setting_at l b k q vectors) j (columns_at l k (j + 1) 0 w₀)
  unfolding rest
  uncounted = refl

  -- a breakdown
  pub at_break : Rested l k (setting_at l b k q vectors) j w₀ w₁ → hn ≡ norm2 (take (l.w + (l.n + l.d) - l.w) (drop l.w w₁))
      → c ≡ broken (setting_at l b k q vectors) beta j hn → c ≡ true
      → grown_at l k (j + 1) (Err (record { applied = a + 1; mb = j + 1; hn = hn })) w₁ ≡ arnoldi_step (setting_at l b k q vectors) beta j (columns_at l k (j + 1) a w₀)
  unfolding grown_at arnoldi_step extend
  at_break t eh ec el =
      let m = l.n + l.d in
      let h : hn ≡ norm2 (rest (setting_at l b k q vectors) j (columns_at l k (j + 1) 0 w₀)).z = rw (part_window l.w m w₁, t.z_is) at eh in
      rw (tabulate_ext (j + 1) (column m w₁) (column m w₀) t.v_is, t.h_is, add-one a, uncounted, ← h, ← ec, el)

  -- one more column
  pub at_column : {v x : ℕ} (w₂ : List Float) → Room l b k q v x (length w₀) → j < k.m → Rested l k (setting_at l b k q vectors) j w₀ w₁ → hn ≡ norm2 (take (l.w + (l.n + l.d) - l.w) (drop l.w w₁))
      → c ≡ broken (setting_at l b k q vectors) beta j hn → c ≡ false
      → w₂ ≡ splice ((j + 1) * (l.n + l.d)) (scale (1f ⊘ hn) (window l.w (l.n + l.d) w₁)) (set w₁ (k.h + place (k.m + 2) (j + 1) j) hn)
      → (grown_at l k (j + 1) (Ok (a + 1)) w₂ ≡ arnoldi_step (setting_at l b k q vectors) beta j (columns_at l k (j + 1) a w₀)) × Spared l k w₀ w₂
  unfolding grown_at arnoldi_step extend column
  at_column w₂ r g t eh ec el e₂ =
      let m = l.n + l.d in
      let dim = k.m + 2 in
      let R = rest (setting_at l b k q vectors) j (columns_at l k (j + 1) 0 w₀) in
      let h : hn ≡ norm2 R.z = rw (part_window l.w m w₁, t.z_is) at eh in
      let e = place dim (j + 1) j in
      let cell : e < dim * dim = cell_within j dim dim (j + 1) (omega arith) (omega arith) in
      let next = column_within (j + 1) (k.m + 1) m (omega arith) in
      let l₁ = t.spared.kept.long in
      let t₁ = wrote_set w₁ (k.h + e) hn in
      let l₂ = wrote_long t₁ in
      let t₂ = wrote ((j + 1) * m) m (scale (1f ⊘ hn) (window l.w m w₁)) _ w₂ (length_scale _ _ ∙ length_window l.w m w₁ (omega arith)) e₂ in
      let old : (i : ℕ) → i < j + 1 → column m w₂ i ≡ column m w₀ i = λ i f. let z = column_within i (j + 1) m f in untouched t₂ (i * m) m (omega arith) ∙ untouched t₁ (i * m) m (omega arith) ∙ t.v_is i f in
      let new : column m w₂ (j + 1) ≡ scale (1f ⊘ hn) R.z = written t₂ (omega arith) ∙ ap (scale (1f ⊘ hn)) t.z_is in
      let vs : tabulate (j + 1 + 1) (column m w₂) ≡ tabulate (j + 1) (column m w₀) ++ (scale (1f ⊘ hn) R.z ∷ []) = tabulate_snoc (j + 1) (column m w₂) ∙ (λ i. tabulate_ext (j + 1) (column m w₂) (column m w₀) old i ++ (new i ∷ [])) in
      let hs : window k.h (dim * dim) w₂ ≡ set R.h e hn = untouched t₂ k.h (dim * dim) (omega arith) ∙ window_set_in k.h (dim * dim) w₁ e hn cell (omega arith) ∙ ap (λ (y : List Float). set y e hn) t.h_is in
      (rw (vs, hs, add-one a, uncounted, ← h, ← ec, el), spared_by (spared_by t.spared t₁ (omega arith) (omega arith)) t₂ (omega arith) (omega arith))
