-- `hess_rows::four_rows` meets its contract. Assumes nothing.
use native.Mathlib.Omega.{arith}
use Prim.Native.Nat.{◌+◌}
use mathlib.Core.Path.{◌≡◌, refl, ◌∙◌}
use Rattle.lists.proofs.Folds.{length_part}
use Rattle.hess_rows.proofs.Rows.{fewer, four_more}
use Rattle.hess_rows.proofs.four_rows.Goals as goal

pub four_starts-s-requires : goal.four_starts-s-requires
four_starts-s-requires c = record { leading = fewer c.requires.leading _ (omega arith); r_bound = (omega arith, omega arith) }

pub loop-k-init : goal.loop-k-init
loop-k-init c =
    let e : c.args.r + 3 + 0 ≡ c.args.r + 3 = omega arith in
    rw e c.four_starts-s.ensures

pub loop-k-preserved : goal.loop-k-preserved
loop-k-preserved c = c.add_four-s.ensures ∙ four_more _ _ _ _ _ _ _ _ _ (omega arith) c.loop-k-test.true (omega arith) refl c.loop-k.invariant

pub returns : goal.returns
returns c =
    let a = c.args in
    let e : a.r + 3 + c.loop-k.k ≡ a.to = omega (arith, length_part (a.r + 3) a.to a.w.now (omega arith)) in
    rw e at c.loop-k.invariant
