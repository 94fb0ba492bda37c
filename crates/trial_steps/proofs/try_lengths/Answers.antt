-- `trial_steps::try_lengths` meets its contract. Assumes nothing.
use borrow.Author.Rules.{rules}
use native.Mathlib.Omega.{arith}
use mathlib.Core.Logic.{⊎_elim}
use Prim.Native.Nat.{ℕ, ◌+◌, ◌-◌, zero-le}
use mathlib.Core.Path.{subst}
use mathlib.Core.List.{[]}
use lib.ListN.{length-replicate}
use Rattle.lists.proofs.Walk.{left_start, left_turn, left_none}
use Rattle.doubles.specs.F64.{+0}
use Rattle.trial_steps.specs.Memory.{outcome_at, Within}
use Rattle.trial_steps.proofs.Tries.{within_more, seen_next, left_ended}
use Rattle.trial_steps.proofs.try_lengths.Goals as goal

pub loop-init : goal.loop-init
unfolding outcome_at
loop-init c = (zero-le, record { long = length-replicate 130 +0; within = zero-le }, λ l b q vectors. left_start _ _ _)

pub returns-in_default : goal.returns-in_default
returns-in_default c =
    record { result_value = (λ l b q vectors. left_ended _ _ c.in_default.not-Next (c.loop.invariant.2 l b q vectors)); modest = record { long = c.loop.invariant.1.long; within = within_more c.loop.counter 11 (c.args.k.m + 1) c.loop.o.outcome c.loop.invariant.1.within c.loop.invariant.0 } }

pub try_step-o-requires : goal.try_step-o-requires
try_step-o-requires c =
    let f = subst (Within c.loop.counter (c.args.k.m + 1)) c.in-Next.is c.loop.invariant.1.within in
    record { m_bound = omega arith; h_len = c.requires.h_len }

pub loop-preserved : goal.loop-preserved
loop-preserved c =
    let g = c.try_step-o.ensures in
    let f = subst (Within c.loop.counter (c.args.k.m + 1)) c.in-Next.is c.loop.invariant.1.within in
    (omega arith, record { long = g.modest.long; within = within_more _ (c.loop.counter + 1) (c.args.k.m + 1) c.try_step-o.result.outcome g.modest.within (omega arith) }, λ l b q vectors. left_turn (c.loop.invariant.2 l b q vectors) _ _ (omega arith) (seen_next _ _ _ _ c.in-Next.is) (g.result_value l b q vectors c.loop.counter))

pub returns : goal.returns
returns c =
    record { result_value = (λ l b q vectors. left_none (c.loop.invariant.2 l b q vectors) (omega arith)); modest = record { long = c.loop.invariant.1.long; within = within_more c.loop.counter 11 (c.args.k.m + 1) c.loop.o.outcome c.loop.invariant.1.within c.loop.invariant.0 } }
