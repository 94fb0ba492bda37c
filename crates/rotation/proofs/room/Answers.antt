-- `rotation::room` meets its contract. Assumes nothing.
use mathlib.Core.Path.{refl, sym, ap, ◌∙◌}
use mathlib.Core.Bool.{Bool, ◌&&◌}
use lib.Dec.{ltb}
use borrow.Author.Tests.{lt-ltb, le-ltb}
use Rattle.rotation.specs.Inner.{count_of}
use Rattle.rotation.proofs.Queue.{room_is}
use Rattle.rotation.proofs.room.Goals as goal

pub returns-then-lowest_free-lt16 : goal.returns-then-lowest_free-lt16
returns-then-lowest_free-lt16 c =
    sym (ap (λ (b : Bool). b && ltb c.count_in.result 16) (lt-ltb _ _ c.if-lowest_free-lt16.true))
    ∙ room_is c.args.unit c.lowest_free.ensures c.count_in.ensures

pub returns-else-lowest_free-lt16 : goal.returns-else-lowest_free-lt16
returns-else-lowest_free-lt16 c =
    let low = le-ltb _ _ c.if-lowest_free-lt16.false in
    low
    ∙ sym (ap (λ (b : Bool). b && ltb (count_of c.args.unit.queue) 16) low)
    ∙ room_is c.args.unit c.lowest_free.ensures refl
