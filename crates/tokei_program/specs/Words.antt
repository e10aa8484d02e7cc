-- What the word of an option is read as.
use Rattle.std.specs.Prelude.{ℕ, List, Option, None, Some, Result, Ok, Err, String, string_bytes, ⊤}
use Rattle.std.specs.Global.{Global}

-- by what a word gives: nothing where the option isn't given, and else a value that its word gives
abbrev pub ReadsAs : {T E : Type 0} → (List ℕ → Result T E → Type 0) → Option (String Global)
    → Option T → Type 0
ReadsAs gives None None = ⊤
ReadsAs gives None (Some value) = ⊥
ReadsAs gives (Some word) None = ⊥
ReadsAs gives (Some word) (Some value) = gives (string_bytes word) (Ok value)

-- by what a word gives: the option is given, and its word gives no value
abbrev pub IsUnread : {T E : Type 0} → (List ℕ → Result T E → Type 0) → Option (String Global)
    → Type 0
IsUnread gives None = ⊥
IsUnread {T} {E} gives (Some word) = (error : E) × gives (string_bytes word) (Err error)
