-- `row_product::row_product` meets its contract. Assumes nothing.
use native.Mathlib.Omega.{arith}
use mathlib.Core.Path.{◌≡◌, sym, ap, ◌∙◌}
use Prim.Native.Nat.{ℕ, ◌+◌, ◌-◌, ◌≤◌}
use lib.Ieee.{Float, neg}
use Rattle.doubles.specs.F64.{◌⊕◌}
use Rattle.doubles.specs.Sum.{sum}
use Rattle.doubles.proofs.Sum.{sum_none, sum_turn}
use Rattle.general_operator.specs.Csr.{row_product}
use Rattle.row_product.proofs.row_product.Invariants.{part, product}
use Rattle.row_product.proofs.row_product.Goals as goal

none : (f : ℕ → Float) (from : ℕ) → sum 0 (λ j. f (from + j)) ≡ part f from from
none f from = let e : from - from ≡ 0 = omega arith in rw e

-- one entry more
more : (f : ℕ → Float) (from k : ℕ) {s : Float} → from ≤ k → s ≡ part f from k → s ⊕ f k ≡ part f from (k + 1)
more f from k {s} l e =
    let here : k ≡ from + (k - from) = omega arith in
    let next : k - from + 1 ≡ k + 1 - from = omega arith in
    sum_turn (k - from) (λ j. f (from + j)) s (f k) e (ap f here) ∙ ap (λ (n : ℕ). sum n (λ j. f (from + j))) next

pub loop-k-init : goal.loop-k-init
loop-k-init c = let a = c.args in sym (sum_none _) ∙ none (product a.cols.now a.vals.now a.x.now) a.from

pub loop-k-preserved : goal.loop-k-preserved
loop-k-preserved c = let a = c.args in more (product a.cols.now a.vals.now a.x.now) a.from c.loop-k.k (omega arith) c.loop-k.invariant

pub returns : goal.returns
unfolding row_product
returns c =
    let a = c.args in
    let e : c.loop-k.k ≡ a.to = omega arith in
    ap neg (c.loop-k.invariant ∙ ap (part (product a.cols.now a.vals.now a.x.now) a.from) e)
