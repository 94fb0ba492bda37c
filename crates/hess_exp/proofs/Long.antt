-- The column of the small exponential has a value for each row. Assumes nothing.
use Rattle.std.specs.Prelude.{Option, Some, None}
use mathlib.Core.Path.{◌≡◌, sym, ◌∙◌}
use mathlib.Core.List.{List, map}
use Prim.Native.Nat.{ℕ, zero, suc, ◌+◌}
use lib.ListN.{length, replicate, length-map, length-replicate, length-set}
use lib.Ieee.{Float}
use Rattle.lists.specs.Loop.{iter}
use Rattle.lists.proofs.Loop.{length_tabulate, length_zip_with}
use Rattle.doubles.specs.F64.{◌⊕◌, ◌⊗◌, ◌⊘◌, nat, +0, 1f}
use Rattle.expmv.specs.declared.Row.{Row}
use Rattle.hess_exp.specs.HessExp.{Terms, term_step, hess_sweep, e1, Small, unplanned, column, swept, hess_exp_e1}
use Rattle.hess_rows.specs.HessProduct.{hess_product}

-- n values, where there is a plan
abbrev pub Long : ℕ → Small → Type 0
Long n (unplanned arg) = Unit {0}
Long n (column f) = length f ≡ n

module _ (h : List Float) (dim mx : ℕ) where
  product_long : (w : List Float) → length (hess_product h dim mx w) ≡ mx
  unfolding hess_product
  product_long w = length_tabulate mx _

  terms_long : (ts : Float) (k : ℕ) (s : Terms) → length s.y ≡ mx → length (iter (term_step h dim mx ts) k s).y ≡ mx
  unfolding iter term_step
  terms_long ts zero s e = e
  terms_long ts (suc k) s e =
      let t = iter (term_step h dim mx ts) k s in
      let w = map (λ x. (ts ⊘ nat (k + 1)) ⊗ x) (hess_product h dim mx t.w) in
      let y = terms_long ts k s e in
      length_zip_with ◌⊕◌ t.y w (y ∙ sym (length-map (hess_product h dim mx t.w) _ ∙ product_long t.w)) ∙ y

  sweeps_long : (ts : Float) (deg k : ℕ) (y : List Float) → length y ≡ mx → length (iter (λ _ x. hess_sweep h dim mx ts deg x) k y) ≡ mx
  unfolding iter hess_sweep
  sweeps_long ts deg zero y e = e
  sweeps_long ts deg (suc k) y e = terms_long ts deg _ (sweeps_long ts deg k y e)

  swept_long : (t arg : Float) (r : Option Row) → Long mx (swept h dim mx t arg r)
  unfolding swept e1
  swept_long t arg None = tt
  swept_long t arg (Some r) = sweeps_long (t ⊘ nat r.s) r.m r.s _ (length-set (replicate mx +0) 0 1f ∙ length-replicate mx +0)

  pub column_long : (t : Float) → Long mx (hess_exp_e1 h dim mx t)
  unfolding hess_exp_e1
  column_long t = swept_long t _ _
