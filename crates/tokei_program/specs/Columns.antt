-- The width of the report.
use Rattle.std.specs.Prelude.{ℕ, Option, Some, None}

-- the width that the option asks for, else that of the configuration, else 81
abbrev pub columns_of : Option ℕ → Option ℕ → ℕ
columns_of (Some asked) configured = asked
columns_of None (Some configured) = configured
columns_of None None = 81
