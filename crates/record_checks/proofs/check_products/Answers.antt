-- `record_checks::check_products` meets its contract. Assumes nothing.
use Rattle.record_checks.proofs.Products.{product_bad, products_finite}
use Rattle.record_checks.proofs.check_products.Goals as goal

pub returns-in-Some : goal.returns-in-Some
returns-in-Some c = product_bad _ _ c.in-Some.ensures

pub returns : goal.returns
returns c = products_finite _ _ c.in_default.ensures
