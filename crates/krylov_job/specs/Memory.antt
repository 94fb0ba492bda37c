-- Where a Krylov call's operands lie in the lent memory: M + 1 columns of n + d values, a product as long, the small matrix of M + 2 rows
-- and columns, the field, a product of n values, and with a mass the quotients (document 01, 'What must change shape'). Definitions only.
use Rattle.std.specs.Prelude.{Bool, ℕ, ◌+◌, ◌*◌, Float}
use Rattle.phi_action_helpers.specs.declared.Layout.{Layout}
use Rattle.gram_schmidt.specs.declared.Krylov.{Krylov}

abbrev pub layout : ℕ → ℕ → ℕ → Bool → Layout
layout n d m mass =
    record {
      n = n;
      d = d;
      w = (m + 1) * (n + d);
      av = (m + 3) * (n + d) + (m + 2) * (m + 2);
      q = (m + 3) * (n + d) + (m + 2) * (m + 2) + n;
      mass = mass;
    }

abbrev pub krylov : ℕ → ℕ → ℕ → Float → Float → Float → Krylov
krylov n d m tau anorm tol = record { m = m; h = (m + 2) * (n + d); y = (m + 2) * (n + d) + (m + 2) * (m + 2); tau = tau; anorm = anorm; tol = tol }
