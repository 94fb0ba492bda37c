-- `phi_shift::sweep_plan` meets its contract. Assumes nothing.
use mathlib.Core.Path.{◌∙◌}
use Rattle.phi_shift.proofs.Ways.{no_plan, planned}
use Rattle.phi_shift.proofs.sweep_plan.Goals as goal

pub returns-in_err-row : goal.returns-in_err-row
returns-in_err-row c = c.from_residual.ensures ∙ no_plan _ _ _ _ c.argument.ensures c.select_s_m.ensures c.in_err-row.was

pub returns : goal.returns
returns c = planned _ _ _ _ c.argument.ensures c.select_s_m.ensures c.in_ok-row.was c.negated_csr_shift-shift.ensures c.with_shift.ensures
