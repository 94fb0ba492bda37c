-- `exports_matrix::hazhendu_join` meets its contract. Assumes nothing.
use mathlib.Core.List.{List}
use mathlib.Core.Path.{◌≡◌, ap, ◌∙◌}
use Prim.Native.Nat.{ℕ}
use lib.Ieee.{Float}
use Rattle.join_rows.specs.Join.{Call, ends}
use Rattle.join_rows.specs.Join.{JoinAnswer}
use Rattle.answers.specs.Told.{Numbers, join_numbers, join_told, telling_join}
use Rattle.exports_matrix.proofs.hazhendu_join.Goals as goal

-- what is told of a call's answer is told of the call
told_of : {t : Numbers} {r : JoinAnswer} {starts columns : List ℕ} {values : List Float} (c : Call) → t ≡ join_numbers r → ends r starts columns values ≡ c → join_told t starts columns values ≡ telling_join c
told_of {starts = starts} {columns} {values} c e d = ap (λ (t : Numbers). join_told t starts columns values) e ∙ ap telling_join d

pub returns : goal.returns
returns c = told_of _ c.join_numbers.ensures c.join-answer.ensures
