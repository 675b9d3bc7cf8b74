use Rattle.std.specs.Prelude.{ℕ, ◌≤◌}
use Rattle.preorder.specs.declared.limits.TheConstants.{MAX_RULES}

-- how many rules a vector may have (this project's own limit)
abbrev pub IsWidth : ℕ → Type 0
IsWidth n = (1 ≤ n) × (n ≤ MAX_RULES)
