-- `replay::cleared_up_to` meets its contract. Assumes nothing.
use Rattle.std.proofs.Common.{rules, arith, cond, length, ltb, eqb, ℕ, suc, true, List, [], ◌∷◌, ◌≡◌, ◌+◌, ◌↔◌, ap, sym, ◌∙◌, refl, inl, inr, zero-add, add-zero, true≢false}
use Rattle.std.specs.List.{list_all, enumerate_from}
use Rattle.std.proofs.lemmas.Bool.Decides.{eqb_tells}
use Rattle.std.proofs.lemmas.Iterator.{YieldsList-from_slice}
use Rattle.std.proofs.lemmas.Iterator.Consumers.{YieldsList-from_enumerate}
use Rattle.std.proofs.lemmas.Iterator.Search.{all_from_yields_List}
use borrow.Author.Tests.{tests}
use Rattle.lists.specs.Loop.{tabulate}
use Rattle.replay.proofs.cleared_up_to.Goals as goal

-- each element is f of its place
all_tabulate : (f g : ℕ → ℕ) (n : ℕ) (xs : List ℕ) → ((k : ℕ) → g k ≡ f (n + k)) → (list_all (λ (p : ℕ × ℕ). eqb p.1 (f p.0)) (enumerate_from n xs) ≡ true) ↔ (xs ≡ tabulate (length xs) g)
unfolding tabulate
all_tabulate f g n [] h = (λ _. refl, λ _. refl)
all_tabulate f g n (x ∷ xs) h =
    let here : g 0 ≡ f n = h 0 ∙ ap f (add-zero n) in
    let rest = all_tabulate f (λ k. g (suc k)) (n + 1) xs (λ k. h (suc k) ∙ ap f (omega arith)) in
    elim (eqb_tells x (f n)) [
      | inl t ↦ (λ e. let r = rest.0 (rw t.0 at e) in cc, λ e. rw t.0 (rest.1 cc))
      | inr t ↦ (λ e. absurd (true≢false (sym (rw t.0 at e))), λ e. absurd (t.1 cc))
    ]

pub returns : goal.returns
returns c =
    let f : ℕ → ℕ = λ k. cond (ltb k c.args.cleared) 0 90 in
    let e =
    all_from_yields_List (λ (p : ℕ × ℕ). eqb p.1 (f p.0)) _ _ c.all.result c.all.ensures.ran (YieldsList-from_enumerate (YieldsList-from_slice c.args.work.now cc) cc) (λ x b q k. search (rules, tests)) in
    rw e (all_tabulate f f 0 c.args.work.now (λ k. ap f (sym (zero-add k))))
