-- `start_vectors::init_aug_vector` meets its contract. Assumes nothing.
use native.Mathlib.Omega.{arith}
use Prim.Native.Nat.{◌+◌, ◌-◌}
use mathlib.Core.Path.{refl, ap, ◌∙◌}
use mathlib.Core.List.{List}
use borrow.Author.Rules.{set_long}
use lib.ListN.{replicate, set}
use lib.Ieee.{Float}
use Rattle.lists.specs.Window.{splice}
use Rattle.doubles.specs.F64.{+0}
use Rattle.start_vectors.proofs.Starts.{at_rest, driven}
use Rattle.start_vectors.proofs.init_aug_vector.Goals as goal

pub returns-then-k-eq0 : goal.returns-then-k-eq0
returns-then-k-eq0 c =
    let a = c.args in
    c.clear_in.ensures ∙ ap (splice a.n (replicate 3 +0)) c.copy_from.ensures ∙ at_rest a.n a.v.now a.work.now a.inv a.k (omega arith) c.requires.0

pub shape_of-work : goal.shape_of-work
shape_of-work c =
    let a = c.args in
    set_long Float c.clear_in-2.new.work (a.n + a.k - 1) _ a.inv c.clear_in-2.auto.work

pub returns : goal.returns
returns c =
    let a = c.args in
    ap (λ (u : List Float). set u (a.n + a.k - 1) a.inv) c.clear_in-2.ensures ∙ driven a.n a.v.now a.work.now a.inv a.k (a.n + a.k - 1) (omega arith) c.requires.2 refl
