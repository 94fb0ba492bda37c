-- `start_vectors::combination_start` meets its contract. Assumes nothing.
use native.Mathlib.Omega.{arith}
use Prim.Native.Nat.{◌+◌, ◌-◌}
use mathlib.Core.Path.{refl, ap, ◌∙◌}
use mathlib.Core.List.{List}
use borrow.Author.Rules.{set_long}
use lib.ListN.{replicate, set}
use lib.Ieee.{Float}
use Rattle.lists.specs.Window.{splice}
use Rattle.doubles.specs.F64.{+0}
use Rattle.start_vectors.proofs.Starts.{no_chain, chained}
use Rattle.start_vectors.proofs.combination_start.Goals as goal

pub shape_of-work-then-d-gt0 : goal.shape_of-work-then-d-gt0
shape_of-work-then-d-gt0 c =
    let a = c.args in
    set_long Float c.clear_in.new.work (a.n + a.d - 1) _ a.inv (c.clear_in.auto.work ∙ c.copy_from.auto.dst)

pub returns-then-d-gt0 : goal.returns-then-d-gt0
returns-then-d-gt0 c =
    let a = c.args in
    ap (λ (u : List Float). set u (a.n + a.d - 1) a.inv) (c.clear_in.ensures ∙ ap (splice a.n (replicate a.d +0)) c.copy_from.ensures) ∙ chained a.n a.w.now a.work.now a.inv c.requires.0 a.d (a.n + a.d - 1) (omega arith) refl

pub returns-else-d-gt0 : goal.returns-else-d-gt0
returns-else-d-gt0 c =
    let a = c.args in
    c.clear_in.ensures ∙ ap (splice a.n (replicate a.d +0)) c.copy_from.ensures ∙ no_chain a.n a.w.now a.work.now a.inv c.requires.0 a.d (omega arith)
