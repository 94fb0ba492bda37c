-- What stays of a list. Definitions only.
use Rattle.std.specs.Prelude.{◌≡◌, List, ℕ, length, replicate}
use Rattle.lists.specs.Window.{splice}

module _ {A : Type 0} where
  -- w is w₀ but for the n elements from p on: with those set to z the two are equal
  pub record Kept (p n : ℕ) (z : A) (w₀ w : List A) : Type 0 where
    pub outside : splice p (replicate n z) w ≡ splice p (replicate n z) w₀
    pub long : length w ≡ length w₀
