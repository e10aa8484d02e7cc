-- How the code's answers stand to what a member says.
use Rattle.std.specs.Prelude.{◌≡◌, ⊤, List, Option, Some, None, Result, Ok, Err}
use Rattle.toml.specs.Data.{Members}
use Rattle.tokei_config.specs.Document.{settings_in}
use Rattle.tokei_config.specs.Flaws.{bad_setting}
use Rattle.tokei_config.specs.Seen.{settings_of}
use Rattle.tokei_config.specs.declared.config.Config.{Config}
use Rattle.tokei_config.specs.declared.flaws.Setting.{Setting}
use Rattle.tokei_config.specs.declared.document.SettingError.{SettingError}
use Rattle.tokei_config.specs.declared.document.SettingError.TheVariants as refused
use Rattle.tokei_config.specs.declared.members.MemberError.{MemberError}
use Rattle.tokei_config.specs.declared.members.MemberError.TheVariants.{Memory, Unreadable}
use Rattle.tokei_table.specs.Row.{Row}

-- What was read is what is meant, and nothing is meant where the answer is that it can't be read.
abbrev pub Reads : {A B : Type 0} → (A → B) → Option B → Result A MemberError → Type 0
Reads seen meant (Ok a) = meant ≡ Some (seen a)
Reads seen meant (Err Memory) = ⊤
Reads seen meant (Err Unreadable) = meant ≡ None

-- The same answer, with the setting's name where it can't be read.
abbrev pub at_setting : {A : Type 0} → Setting → Result A MemberError → Result A SettingError
at_setting s (Ok a) = Ok a
at_setting s (Err Memory) = Err refused.Memory
at_setting s (Err Unreadable) = Err (refused.Bad s)

-- The configuration is that of the members, and the setting that is answered otherwise is the first
-- that can't be read.
abbrev pub ReadsSettings : List Row → Members → Result Config SettingError → Type 0
ReadsSettings rows ms (Ok c) =
    (settings_in rows ms ≡ Some (settings_of c)) × (bad_setting rows ms ≡ None)
ReadsSettings rows ms (Err refused.Memory) = ⊤
ReadsSettings rows ms (Err (refused.Bad s)) =
    (settings_in rows ms ≡ None) × (bad_setting rows ms ≡ Some s)
