-- The openings of a text: how many of its items open something.
use Rattle.std.specs.Prelude.{ℕ, ◌+◌, List}
use Rattle.tokei_table.specs.Row.{Row}
use Rattle.tokei_parts.specs.Items.{Item, Items}
use Rattle.tokei_parts.specs.Items.Item.{one, escaped, passed_over, string_literal, comment, line_comment, child}
use Rattle.tokei_parts.specs.Items.Items.{none, more}
use Rattle.tokei_count.specs.Languages.{Languages}
use Rattle.tokei_count.specs.Steps.{with_children}

-- Each string literal, each comment and each opener that is passed over, at every depth. A child is
-- counted beside them.
unfoldable mutual
  pub openings_in : Items → ℕ
  openings_in none = 0
  openings_in (more i is) = openings_by i + openings_in is

  -- those of one item
  pub openings_by : Item → ℕ
  openings_by (one b) = 0
  openings_by (escaped a b) = 0
  openings_by (passed_over p) = 1
  openings_by (string_literal k p is closed) = 1 + openings_in is
  openings_by (comment p is closed) = 1 + openings_in is
  openings_by (line_comment t) = 0
  openings_by (child k t) = 0

-- those of a text, its children apart
abbrev pub own_openings : Row → List ℕ → Items → ℕ
own_openings row text is = openings_in is

-- The openings of a text, with those of its children, and one for each child.
abbrev pub openings : Languages → ℕ → ℕ → List ℕ → ℕ
openings = with_children own_openings
