-- A source or a sink of which one call alone fails.
use Rattle.std.specs.Prelude.{ℕ, zero, suc, Option, None, Some}

-- how many faults it made itself, where so many calls come before the one that fails, and `None`
-- says that it has failed
abbrev pub own_faults : Option ℕ → ℕ
own_faults None = 1
own_faults (Some n) = 0

-- how many calls come before the one that fails, after a call; `None` once it has failed
abbrev pub after_call : Option ℕ → Option ℕ
after_call None = None
after_call (Some zero) = None
after_call (Some (suc n)) = Some n
