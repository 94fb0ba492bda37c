-- What 12 tells. Assumes nothing.
use mathlib.Core.Path.{◌≡◌, sym, ◌∙◌}
use Prim.Native.Nat.{ℕ, ◌*◌, ◌≤◌}
use lib.Dec.{eqb, ltb}
use borrow.Author.Tests.{ltb-false}
use Rattle.lists.proofs.Bounds.{product_within}
use Rattle.checks.specs.First.{first}
use Rattle.checks.specs.First.{Checked}
use Rattle.checks.proofs.First.{sound_cons}
use Rattle.general_operator.proofs.Sound.{or_false}
use Rattle.combination.specs.Checks.{count_checks}
use Rattle.checks.specs.Reasons.{Sound}

pub few_vectors : (count : ℕ) {r : Checked} → r ≡ Sound → r ≡ first (count_checks count) → count ≤ 4
unfolding count_checks
few_vectors count e f = ltb-false 4 count (or_false (eqb count 0) (ltb 4 count) (sound_cons _ _ _ _ (sym e ∙ f)).0).1

-- the vectors lie in one slice
pub vectors_fit : (count n : ℕ) {r : Checked} → r ≡ Sound → r ≡ first (count_checks count) → n ≤ 1000000 → count * n ≤ 4000000
vectors_fit count n e f few = product_within 4 1000000 (few_vectors count e f) few
