-- `round2::round2` meets its contract. Assumes nothing.
use mathlib.Core.Path.{◌≡◌, refl, sym, ap, ◌∙◌, subst}
use mathlib.Core.Bool.{Bool, true, false, ◌&&◌, cond}
use Prim.Native.Nat.{ℕ, ◌-◌}
use lib.Dec.{T}
use lib.Ieee.{Float, nan, binary64, le, lt, mul, div, of_bits}
use Rattle.doubles.specs.F64.{+∞}
use Rattle.doubles.specs.Whole.{ceil}
use Rattle.doubles.proofs.Library.{ceil_is}
use Rattle.round2.specs.Ten.{ten}
use Rattle.round2.specs.Rounded.{decade, up_to, round2}
use Rattle.round2.proofs.round2.Goals as goal
use Rattle.round2.proofs.round2.Goals.{else-ten-x-via-then-ten-x+else-x, else-ten-x-via-else-ten-x}

told : (x : Float) (a b : Bool) → le (ten 1) x ≡ a → lt x +∞ ≡ b → cond (a && b) (up_to x (decade x)) nan ≡ round2 x
unfolding round2
told x a b e f = sym (ap (λ (t : Bool). cond (t && lt x +∞) (up_to x (decade x)) nan) e ∙ ap (λ (t : Bool). cond (a && t) (up_to x (decade x)) nan) f)

up_is : (x : Float) (i : ℕ) → mul binary64 (ceil (div binary64 x (ten (i - 1)))) (ten (i - 1)) ≡ up_to x i
unfolding up_to
up_is x i = refl

pub decade-requires : goal.decade-requires
decade-requires c = subst T (sym (subst (λ (y : Float). le y c.args.x ≡ true) c.ten.ensures c.if-ten-x.true)) tt

pub returns-then-x : goal.returns-then-x
returns-then-x c =
    let x = c.args.x in
    let t = c.ten-s.result in
    ap (λ (y : Float). mul binary64 y t) (c.ceil.ensures ∙ ceil_is (div binary64 x t))
    ∙ ap (λ (y : Float). mul binary64 (ceil (div binary64 x y)) y) (c.ten-s.ensures ∙ ap (λ (n : ℕ). ten (n - 1)) c.decade.ensures.0)
    ∙ up_is x (decade x)
    ∙ told x true true (subst (λ (y : Float). le y x ≡ true) c.ten.ensures c.if-ten-x.true) c.if-x.true

pub returns : goal.returns
unfolding of_bits
returns c =
    let x = c.args.x in
    elim c.else-ten-x.branch [
      | else-ten-x-via-then-ten-x+else-x w ↦ told x true false (subst (λ (y : Float). le y x ≡ true) c.ten.ensures w.if-ten-x.true) w.if-x.false
      | else-ten-x-via-else-ten-x w ↦ told x false _ (subst (λ (y : Float). le y x ≡ false) c.ten.ensures w.if-ten-x.false) refl
    ]
