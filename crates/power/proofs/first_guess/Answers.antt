-- `power::first_guess` meets its contract. Assumes nothing.
use Rattle.doubles.proofs.Compare.{above_no_nan}
use Rattle.power.proofs.first_guess.Goals as goal

pub float_to_bits-b : goal.float_to_bits-b
float_to_bits-b c = above_no_nan _ c.if-next.true
