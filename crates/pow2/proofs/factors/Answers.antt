-- `pow2::factors` meets its contract. Assumes nothing.
use Rattle.std.specs.Prelude.{Some, None, if◌then◌else◌}
use Rattle.std.specs.Bool.{then_some}
use mathlib.Core.Path.{◌≡◌, refl, sym, ap, ◌∙◌}
use mathlib.Core.Bool.{Bool, true, false, ◌&&◌}
use native.Mathlib.Omega.{arith}
use lib.IntN.{neg_ℤ}
use Rattle.pow2.specs.declared.Scale.{Scale}
use Rattle.pow2.specs.Pow2.{pow2_f64, usable, factors}
use Rattle.pow2.proofs.Integers.{held, negated}
use Rattle.pow2.proofs.factors.Goals as goal
use Rattle.pow2.proofs.factors.Goals.{then-usable, else-usable}

some_where : (b : Bool) (s : Scale) → then_some b s ≡ (if b then Some s else None)
some_where true s = refl
some_where false s = refl

pub returns : goal.returns
unfolding factors
returns c =
    let down_is : c.pow2_f64-down.result ≡ pow2_f64 (neg_ℤ c.args.e) = c.pow2_f64-down.ensures ∙ ap pow2_f64 (negated c.args.e (omega arith)) in
    let up_is : c.pow2_f64-up.result ≡ pow2_f64 c.args.e = c.pow2_f64-up.ensures ∙ ap pow2_f64 (held c.args.e (omega arith)) in
    let down-test : c.usable.result ≡ usable (pow2_f64 (neg_ℤ c.args.e)) = c.usable.ensures ∙ ap usable down_is in
    let both : c.if-usable.then_some ≡ (usable (pow2_f64 (neg_ℤ c.args.e)) && usable (pow2_f64 c.args.e)) = elim c.if-usable.branch [
      | then-usable w ↦ rw (sym down-test ∙ w.if-usable.true) (w.then_some-is ∙ w.usable-then-usable.ensures ∙ ap usable up_is)
      | else-usable w ↦ rw (sym down-test ∙ w.if-usable.false) (w.then_some-is ∙ w.if-usable.false)
    ] in
    rw (c.then_some.ensures, both, down_is, up_is) (some_where (usable (pow2_f64 (neg_ℤ c.args.e)) && usable (pow2_f64 c.args.e)) _)
