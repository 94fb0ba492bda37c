-- `rotation::count_in` meets its contract. Assumes nothing.
use mathlib.Core.Path.{◌≡◌, ap, ◌∙◌, subst}
use Prim.Native.Nat.{ℕ}
use native.Mathlib.Omega.{arith}
use lib.Dec.{leb}
use lib.ListN.{length, get_or}
use Rattle.std.specs.Prelude.{Option, unwrap_or, position}
use Rattle.lists.specs.Find.{find}
use Rattle.lists.proofs.Firsts.{position_find}
use Rattle.rotation.proofs.count_in.Goals as goal

pub returns : goal.returns
returns c =
    let queue = c.args.queue in
    let p = λ (k : ℕ). leb 16 k in
    let n : length queue ≡ 16 = omega arith in
    c.unwrap_or.ensures
    ∙ ap (λ (k : Option ℕ). unwrap_or k 16) c.queue_end.ensures
    ∙ subst (λ (m : ℕ). unwrap_or (position p queue) m ≡ find (λ k. p (get_or queue k 0)) m) n (position_find p queue 0)
