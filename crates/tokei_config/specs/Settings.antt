-- What a configuration says, and which of several is heard.
use Rattle.std.specs.Prelude.{ℕ, List, [], Bool, Option, None, unwrap_or}
use Rattle.std.specs.Option.{option_or}
use Rattle.tokei_options.specs.declared.sort.Sort.{Sort}

-- Each member, where the configuration has it. Languages stand for their places in the table.
pub record Settings : Type 0 where
  pub columns : Option ℕ
  pub hidden : Option Bool
  pub no_ignore : Option Bool
  pub no_ignore_parent : Option Bool
  pub no_ignore_dot : Option Bool
  pub no_ignore_vcs : Option Bool
  pub treat_doc_strings_as_comments : Option Bool
  pub sort : Option Sort
  pub types : Option (List ℕ)
  pub languages : Option (List (ℕ × List (List ℕ)))

-- No member at all.
abbrev pub empty : Settings
empty = record {
  columns = None;
  hidden = None;
  no_ignore = None;
  no_ignore_parent = None;
  no_ignore_dot = None;
  no_ignore_vcs = None;
  treat_doc_strings_as_comments = None;
  sort = None;
  types = None;
  languages = None;
}

-- Member by member the first settings, and the second where the first have none.
abbrev pub first_of_each : Settings → Settings → Settings
first_of_each settings other = record {
  columns = option_or settings.columns other.columns;
  hidden = option_or settings.hidden other.hidden;
  no_ignore = option_or settings.no_ignore other.no_ignore;
  no_ignore_parent = option_or settings.no_ignore_parent other.no_ignore_parent;
  no_ignore_dot = option_or settings.no_ignore_dot other.no_ignore_dot;
  no_ignore_vcs = option_or settings.no_ignore_vcs other.no_ignore_vcs;
  treat_doc_strings_as_comments =
      option_or settings.treat_doc_strings_as_comments other.treat_doc_strings_as_comments;
  sort = option_or settings.sort other.sort;
  types = option_or settings.types other.types;
  languages = option_or settings.languages other.languages;
}

-- The extensions that languages gain, in the order of the table.
abbrev pub additions_in : Settings → List (ℕ × List (List ℕ))
additions_in settings = unwrap_or settings.languages []
