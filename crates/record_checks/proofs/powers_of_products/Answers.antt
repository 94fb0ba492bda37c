-- `record_checks::powers_of_products` meets its contract. Assumes nothing.
use mathlib.Core.Path.{◌∙◌}
use Rattle.vectors.proofs.Laws.{length_scale}
use Rattle.record_checks.proofs.Products.{products_sup, no_weight, one_weight}
use Rattle.record_checks.proofs.powers_of_products.Goals as goal

-- src/rt:146:9
pub returns-then-w_sup : goal.returns-then-w_sup
returns-then-w_sup c = no_weight c.args.n _ c.args.duration (length_scale _ _ ∙ c.requires) (c.sup_of_products-w_sup.ensures ∙ products_sup _ _) c.if-w_sup.true

-- src/rt:140:1
pub returns : goal.returns
returns c = one_weight c.args.n _ c.args.duration (length_scale _ _ ∙ c.requires) (c.sup_of_products-w_sup.ensures ∙ products_sup _ _) c.if-w_sup.false
