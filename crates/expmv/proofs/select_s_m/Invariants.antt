-- `expmv::select_s_m` meets its contract. The loop's invariant: `best` is what the rows before give. Assumes nothing.
use Rattle.std.specs.Prelude.{None}
use mathlib.Core.Path.{◌≡◌}
use Rattle.lists.specs.Loop.{iter}
use Rattle.expmv.specs.Select.{consider}
use Rattle.expmv.proofs.select_s_m.Given as goal

abbrev pub invariant-loop-m : goal.invariant-loop-m
invariant-loop-m l = l.best ≡ iter (consider l.m_max l.arg) l.m-index None
