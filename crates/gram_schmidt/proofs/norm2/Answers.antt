-- `gram_schmidt::norm2` meets its contract. Assumes nothing.
use borrow.Author.Rules.{rules}
use Rattle.gram_schmidt.specs.Basis.{norm2}
use Rattle.gram_schmidt.proofs.norm2.Goals as goal

pub returns : goal.returns
unfolding norm2
returns c = rw (c.sqrt.ensures, c.dot.ensures)
