-- What the call hands back, by what the soak answers and leaves. Assumes nothing.
use mathlib.Core.Path.{◌≡◌, ap, ◌∙◌}
use mathlib.Core.List.{List}
use lib.Ieee.{Float}
use Rattle.combination.specs.Call.{ends}
use Rattle.ambient_turns.specs.declared.AmbientAnswer.{AmbientAnswer}
use Rattle.ambient_turns.specs.Ambient.{Results, Logging}
use Rattle.exports_ambient.specs.Told.{AmbientNumbers, ambient_told, ambient_call, telling}

pub all_told : {l : Logging} {t : AmbientNumbers} {a : AmbientAnswer} {output memory : List Float} {r : Results} → t ≡ ambient_told a → record { call = ends a output memory; results = r } ≡ l → ambient_call t output memory r ≡ telling l
unfolding telling
all_told {output = output} {memory = memory} {r = r} e h = ap (λ (t : AmbientNumbers). ambient_call t output memory r) e ∙ ap telling h
