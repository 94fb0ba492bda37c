-- `weighted_columns::column_places` meets its contract. Assumes nothing.
use native.Mathlib.Omega.{arith}
use Prim.Native.Nat.{ℕ, ◌-◌, ◌*◌}
use mathlib.Core.Path.{refl, ◌∙◌}
use Rattle.lists.proofs.Loop.{started, turned₀, finished, front_filled}
use Rattle.lists.proofs.Bounds.{product_within}
use Rattle.combination.specs.Combination.{column_places}
use Rattle.weighted_columns.proofs.column_places.Goals as goal

pub loop-j-init : goal.loop-j-init
loop-j-init c = (omega arith, started _ _ _)

pub overflow_mul-places : goal.overflow_mul-places
overflow_mul-places c = omega (arith, product_within {a = c.args.d - c.loop-j.j - 1} 3 1000000 (omega arith) c.requires.0)

pub loop-j-preserved : goal.loop-j-preserved
loop-j-preserved c = (omega arith, turned₀ c.loop-j.invariant.1 refl)

pub returns : goal.returns
unfolding column_places
returns c =
    let a = c.args in
    finished c.loop-j.invariant.1 a.d (omega arith) (omega arith) ∙ front_filled 3 a.d (λ (k : ℕ). (a.d - k - 1) * a.n) 0 (omega arith)
