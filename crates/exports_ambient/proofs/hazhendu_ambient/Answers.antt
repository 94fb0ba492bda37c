-- `exports_ambient::hazhendu_ambient` meets its contract. Assumes nothing.
use Rattle.exports_ambient.proofs.Telling.{all_told}
use Rattle.exports_ambient.proofs.hazhendu_ambient.Goals as goal

pub returns : goal.returns
returns c = all_told c.ambient_told.ensures c.ambient-answer.ensures
