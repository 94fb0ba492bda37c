-- `rotation::seated` meets its contract. Assumes nothing.
use borrow.Author.Rules.{scaled_Fits}
use lib.Dec.{lit<}
use native.Mathlib.Omega.{arith}
use mathlib.Core.Path.{refl, sym, ◌∙◌}
use Rattle.rotation.proofs.Queue.{has_room, seat_is}
use Rattle.rotation.proofs.seated.Goals as goal

pub offset_bounds-places-p : goal.offset_bounds-places-p
offset_bounds-places-p c = scaled_Fits _ 16 144 (omega (arith, c.lowest_free-p.ensures, (has_room _ (sym c.room.ensures ∙ c.if-room.true)).0)) (lit< tt)

pub bounds-places-p : goal.bounds-places-p
bounds-places-p c = omega (arith, c.lowest_free-p.ensures, (has_room _ (sym c.room.ensures ∙ c.if-room.true)).0)

pub shifted-requires : goal.shifted-requires
shifted-requires c =
    let r = has_room _ (sym c.room.ensures ∙ c.if-room.true) in
    (omega arith, omega (arith, c.count_in.ensures, r.1), omega (arith, c.count_in.ensures, r.1))

pub returns-then-room : goal.returns-then-room
returns-then-room c =
    let a = c.args in
    seat_is a.unit a.run (sym c.room.ensures ∙ c.if-room.true) c.lowest_free-p.ensures c.count_in.ensures c.shifted.ensures

pub returns : goal.returns
returns c = rw (sym c.room.ensures ∙ c.if-room.false) refl
