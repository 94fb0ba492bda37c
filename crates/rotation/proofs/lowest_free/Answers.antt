-- `rotation::lowest_free` meets its contract. Assumes nothing.
use mathlib.Core.Path.{◌≡◌, ap, ◌∙◌, subst}
use Prim.Native.Nat.{ℕ}
use native.Mathlib.Omega.{arith}
use lib.ListN.{length, get_or}
use Rattle.std.specs.Prelude.{Option, unwrap_or, position}
use Rattle.lists.specs.Find.{find}
use Rattle.lists.proofs.Firsts.{position_find}
use Rattle.paused_run.specs.declared.PausedRun.{PausedRun}
use Rattle.rotation.specs.Unit.{lowest_free, unread}
use Rattle.rotation.proofs.lowest_free.Goals as goal

pub returns : goal.returns
unfolding lowest_free
returns c =
    let places = c.args.unit.places in
    let p = λ (run : PausedRun). run.ended in
    let n : length places ≡ 16 = omega arith in
    c.unwrap_or.ensures
    ∙ ap (λ (k : Option ℕ). unwrap_or k 16) c.first_ended.ensures
    ∙ subst (λ (m : ℕ). unwrap_or (position p places) m ≡ find (λ k. p (get_or places k unread)) m) n (position_find p places unread)
