-- The matchers of all languages of a table, some of which share theirs.
use Rattle.std.specs.Prelude.{List, map}
use Rattle.std.specs.Rc.{rc_value}
use Rattle.std.specs.declared.rc.Rc.{Rc}
use Rattle.std.specs.Global.{Global}
use Rattle.tokei_parts.specs.Matchers.{Matchers}

-- what is behind each of the pointers
abbrev pub behind : List (Rc Matchers Global) → List Matchers
behind all = map rc_value all
