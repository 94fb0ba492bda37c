-- `trial_steps::trial_steps` meets its contract. Assumes nothing.
use borrow.Author.Rules.{rules}
use native.Mathlib.Omega.{arith}
use Prim.Native.Nat.{ℕ, ◌+◌, ◌*◌, ◌≤◌}
use mathlib.Core.Path.{◌≡◌, subst, sym}
use native.Mathlib.Nat.{mul-le-mul_right}
use mathlib.Core.List.{List}
use lib.ListN.{length}
use lib.Ieee.{Float}
use Rattle.hess_rows.specs.Parts.{Leading}
use Rattle.gram_schmidt.specs.Memory.{Counted}
use Rattle.trial_steps.specs.Memory.{Modest, columns_in}
use Rattle.trial_steps.proofs.Tries.{on_breakdown, on_full}
use Rattle.trial_steps.proofs.trial_steps.Goals as goal

leading : (h : List Float) (m mb : ℕ) → mb ≤ m → length h ≡ (m + 2) * (m + 2) → Leading h (m + 2) mb
leading h m mb l e = record { across = omega arith; down = rw e (mul-le-mul_right (m + 2) (omega arith)) }

pub exact_step-requires : goal.exact_step-requires
exact_step-requires c =
    let m = c.args.k.m in
    let f = subst (Counted m) c.in-Err.is c.requires.m_bound.1 in
    record { le_mb = omega arith; leading = leading _ m _ f.2 c.requires.h_len }

pub returns-in-Err : goal.returns-in-Err
returns-in-Err c =
    let e = c.in-Err.is in
    let g = c.exact_step.ensures in
    record { result_value = (λ l b q vectors work s. on_breakdown l b c.args.k q vectors _ _ _ work _ _ _ s _ e g.result_value); modest = subst (λ x. Modest 11 (columns_in c.args.k x) c.exact_step.result) (sym e) g.modest }

pub returns-in-Ok : goal.returns-in-Ok
returns-in-Ok c =
    let e = c.in-Ok.is in
    let g = c.try_lengths.ensures in
    record { result_value = (λ l b q vectors work s. on_full l b c.args.k q vectors _ _ _ work _ _ _ s _ _ e c.min.ensures (g.result_value l b q vectors)); modest = subst (λ x. Modest 11 (columns_in c.args.k x) c.try_lengths.result) (sym e) g.modest }
