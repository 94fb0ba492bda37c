-- `hess_exp::hess_term` meets its contract. Assumes nothing.
use borrow.Author.Rules.{rules}
use Prim.Native.Nat.{ℕ, ◌+◌}
use mathlib.Core.Path.{◌≡◌}
use mathlib.Core.List.{List, map}
use lib.Ieee.{Float}
use Rattle.lists.specs.Loop.{zip_with}
use Rattle.doubles.specs.F64.{◌⊕◌, ◌⊗◌, ◌⊘◌, nat}
use Rattle.hess_exp.specs.HessExp.{term_step}
use Rattle.hess_rows.specs.HessProduct.{hess_product}
use Rattle.hess_exp.specs.Parts.{terms}
use Rattle.hess_exp.proofs.hess_term.Goals as goal

-- the calls make a term
term-by : (h : List Float) (dim mx : ℕ) (ts : Float) (k : ℕ) (y w w₁ y₁ : List Float) (q : Float) → q ≡ nat (k + 1) → w₁ ≡ map (λ e. ts ⊘ q ⊗ e) (hess_product h dim mx w) → y₁ ≡ zip_with ◌⊕◌ y w₁
    → terms y₁ w₁ ≡ term_step h dim mx ts k (terms y w)
unfolding term_step
term-by h dim mx ts k y w w₁ y₁ q divisor product added = rw (added, product, divisor)

pub returns : goal.returns
returns c = term-by _ _ _ _ _ _ _ _ _ _ c.count.ensures c.hess_product_in.ensures c.added_in.ensures
