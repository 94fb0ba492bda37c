-- `hess_product::eight_rows` meets its contract. Assumes nothing.
use native.Mathlib.Omega.{arith}
use Prim.Native.Nat.{◌+◌}
use mathlib.Core.Path.{◌≡◌, refl, ◌∙◌}
use Rattle.lists.proofs.Folds.{length_part}
use Rattle.hess_rows.proofs.Rows.{fewer, four_in, four_more}
use Rattle.hess_product.proofs.eight_rows.Goals as goal

pub four_rows-s-requires : goal.four_rows-s-requires
four_rows-s-requires c =
    record { leading = fewer c.requires.leading _ (omega arith); r_bound = (omega (arith, c.requires.leading.across), omega arith, omega arith) }

pub four_starts-t-requires : goal.four_starts-t-requires
four_starts-t-requires c = record { leading = fewer c.requires.leading _ (omega arith); r_bound = (omega (arith, c.requires.leading.across), omega arith) }

pub loop-k-init : goal.loop-k-init
loop-k-init c =
    let e : c.args.r + 7 + 0 ≡ c.args.r + 4 + 3 = omega arith in
    let d : c.args.r + 7 ≡ c.args.r + 4 + 3 = omega arith in
    (rw (e, ← d) c.four_rows-s.ensures, rw e c.four_starts-t.ensures)

pub add_four-t-requires : goal.add_four-t-requires
add_four-t-requires c =
    let a = c.args in
    omega (arith, four_in c.requires.leading a.w.now (a.r + 4) (a.r + 7) c.loop-k.k (omega (arith, c.requires.leading.across)) (omega arith) c.loop-k-test.true)

pub loop-k-preserved : goal.loop-k-preserved
loop-k-preserved c = (
  c.add_four-s.ensures ∙ four_more _ _ _ _ _ _ _ _ _ (omega arith) c.loop-k-test.true (omega arith) refl c.loop-k.invariant.0,
  c.add_four-t.ensures ∙ four_more _ _ _ _ _ _ _ _ _ (omega arith) c.loop-k-test.true (omega arith) (omega arith) c.loop-k.invariant.1,
)

pub returns : goal.returns
returns c =
    let a = c.args in
    let e : a.r + 7 + c.loop-k.k ≡ a.mx = omega (arith, length_part (a.r + 7) a.mx a.w.now (omega arith)) in
    record { upper_value = rw e at c.loop-k.invariant.0; lower_value = rw e at c.loop-k.invariant.1 }
