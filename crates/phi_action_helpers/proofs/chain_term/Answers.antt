-- `phi_action_helpers::chain_term` meets its contract. Assumes nothing.
use borrow.Author.Tests.{lt-ltb, le-ltb}
use Rattle.phi_action_helpers.specs.Augmented.{chain_term}
use Rattle.phi_action_helpers.proofs.chain_term.Goals as goal

pub returns-then-k : goal.returns-then-k
unfolding chain_term
returns-then-k c = rw (lt-ltb _ _ c.if-i-c.true, c.if-k.true)

pub returns-else-k : goal.returns-else-k
unfolding chain_term
returns-else-k c = rw (lt-ltb _ _ c.if-i-c.true, c.if-k.false)

pub returns-then-k-2 : goal.returns-then-k-2
unfolding chain_term
returns-then-k-2 c = rw (le-ltb _ _ c.if-i-c.false, c.if-k-2.true)

pub returns-else-k-2 : goal.returns-else-k-2
unfolding chain_term
returns-else-k-2 c = rw (le-ltb _ _ c.if-i-c.false, c.if-k-2.false)
