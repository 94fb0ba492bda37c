-- `taylor_terms::term_rows_in` meets its contract. Assumes nothing.
use borrow.Author.Rules.{rules}
use native.Mathlib.Omega.{arith}
use Prim.Native.Nat.{◌+◌, ◌-◌}
use mathlib.Core.Path.{◌≡◌, refl, ap, ◌∙◌}
use lib.ListN.{length-set, get_or}
use Rattle.doubles.specs.F64.{◌⊕◌, ◌⊗◌, at}
use Rattle.phi_action_helpers.specs.Augmented.{generator_term}
use Rattle.phi_action_helpers.proofs.SingleTerm.{unread, unread_front, both_turn, both_started}
use Rattle.taylor_terms.proofs.term_rows_in.Goals as goal

pub loop-i-init : goal.loop-i-init
loop-i-init c = (omega arith, refl, both_started _ _ _ _)

pub bounds-work-i-in-loop-i : goal.bounds-work-i-in-loop-i
bounds-work-i-in-loop-i c = simp length-set (omega (arith, c.loop-i.invariant.1))

pub loop-i-preserved : goal.loop-i-preserved
loop-i-preserved c =
    let a = c.args in
    let i = c.loop-i.i in
    let there = unread a.o.l.w i _ _ a.work.now c.loop-i.invariant.2 (a.o.l.av + i) (omega arith) (omega arith) in
    let here = unread a.o.l.w i _ _ a.work.now c.loop-i.invariant.2 (a.o.l.w + i) (omega arith) (omega arith) in
    let field = unread_front a.o.l.w i _ _ a.work.now c.loop-i.invariant.2 i (omega arith) (omega arith) in
    let made : c.generator_term.result ≡ generator_term a.k (at a.work.now (a.o.l.av + i)) (at a.work.now (a.o.l.w + i)) = c.generator_term.ensures ∙ rw (there, here) in
    let term = ap (λ x. x ⊕ a.s ⊗ at a.o.vectors.now (get_or a.o.b.places 0 0 + i)) made in
    (omega arith, simp length-set c.loop-i.invariant.1, both_turn a.o.l.w i _ _ a.work.now c.loop-i.invariant.2 _ _ term (λ j. field j ⊕ term j))

pub returns : goal.returns
returns c =
    let e : c.loop-i.i ≡ c.args.o.l.n = omega arith in
    rw e at c.loop-i.invariant.2
