-- The conditions of look-ups that walk over all rows.
use Rattle.std.specs.Prelude.{ℕ, Bool, List}
use Rattle.tokei_table_row.specs.Row.{Row}
use Rattle.tokei_table_rules.specs.Lookups.{has_mime, has_path_suffix}
use Rattle.tokei_table_rules.specs.Shebangs.{has_shebang, has_env}
use Rattle.tokei_table_rules.specs.declared.lookups.WalkedKind.{WalkedKind}
use Rattle.tokei_table_rules.specs.declared.lookups.WalkedKind.TheVariants.{Mime, PathSuffix, Shebang, Env}

-- The condition of a look-up of that kind.
abbrev pub has_walked : WalkedKind → List ℕ → Row → Bool
has_walked Mime = has_mime
has_walked PathSuffix = has_path_suffix
has_walked Shebang = has_shebang
has_walked Env = has_env
