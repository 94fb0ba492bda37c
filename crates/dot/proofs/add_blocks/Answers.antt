-- `dot::add_blocks` meets its contract. Assumes nothing.
use native.Mathlib.Omega.{arith}
use native.Mathlib.Nat.{add-zero}
use mathlib.Core.Path.{◌≡◌, ap, ◌∙◌}
use mathlib.Core.List.{List}
use Prim.Native.Nat.{ℕ, ◌+◌, ◌*◌}
use native.Mathlib.Nat.{add_assoc}
use lib.Ieee.{Float}
use Rattle.doubles.specs.F64.{◌⊕◌, ◌⊗◌, at}
use Rattle.doubles.specs.Sum.{sum}
use Rattle.doubles.proofs.Sum.{sum_turn}
use Rattle.dot.specs.Dot.{lane, lanes}
use Rattle.dot.proofs.add_blocks.Goals as goal

-- one product more
next : (l : ℕ) (x y : List Float) (from j : ℕ) (s : Float) {v : Float} → s ≡ lane l x y (from + j) → v ≡ at x (4 * (from + j) + l) ⊗ at y (4 * (from + j) + l) → s ⊕ v ≡ lane l x y (from + (j + 1))
unfolding lane
next l x y from j s {v} e d = sum_turn (from + j) (λ i. at x (4 * i + l) ⊗ at y (4 * i + l)) s v e d ∙ ap (λ m. sum m (λ i. at x (4 * i + l) ⊗ at y (4 * i + l))) (add_assoc from j 1)

pub loop-j-init : goal.loop-j-init
loop-j-init c = rw add-zero c.requires.acc_value

pub loop-j-preserved : goal.loop-j-preserved
unfolding lanes
loop-j-preserved c =
    let a = c.args in
    let e = c.loop-j.invariant in
    let zero = next 0 a.x.now a.y.now a.from c.loop-j.j _ (ap (λ r. r.acc0) e) (c.term.ensures ∙ rw add-zero) in
    let one = next 1 a.x.now a.y.now a.from c.loop-j.j _ (ap (λ r. r.acc1) e) c.term-in-loop-j.ensures in
    let two = next 2 a.x.now a.y.now a.from c.loop-j.j _ (ap (λ r. r.acc2) e) c.term-in-loop-j-2.ensures in
    let three = next 3 a.x.now a.y.now a.from c.loop-j.j _ (ap (λ r. r.acc3) e) c.term-in-loop-j-3.ensures in
    λ i. record { acc0 = zero i; acc1 = one i; acc2 = two i; acc3 = three i }

pub returns : goal.returns
returns c =
    let e : c.loop-j.j ≡ c.args.count = omega arith in
    rw e at c.loop-j.invariant
