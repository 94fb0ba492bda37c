-- `paused_start::first_run` meets its contract. Assumes nothing.
use mathlib.Core.Path.{ap, ◌∙◌}
use lib.ListN.{length}
use lib.Ieee.{Float}
use mathlib.Core.List.{List}
use Rattle.lists.specs.Window.{window}
use Rattle.vectors.specs.Vectors.{scale}
use Rattle.paused_start.proofs.Starts.{first_is}
use Rattle.paused_start.proofs.first_run.Goals as goal

pub returns : goal.returns
returns c =
    let a = c.args in
    let e = c.scale.ensures in
    record { value = first_is a.o a.j a.f a.field.now e c.norm2-norm.ensures c.first_length-next.ensures c.fresh.ensures; field_after = e; out_after = c.hand_out.ensures ∙ ap (λ (y : List Float). window 0 (length a.out.now) (scale a.f.up y)) e }
