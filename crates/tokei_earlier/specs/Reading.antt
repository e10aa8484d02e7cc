-- The languages of a document that has its layout.
use Rattle.std.specs.Prelude.{ℕ, List, [], codes}
use Rattle.serde_json.specs.Data.{Data, object, Members, no_members, member}
use Rattle.serde_json.specs.Find.{get}
pub use Rattle.tokei_earlier.specs.ReadReports.{counts_in, put_named, put_blob, statistics_in, with_blobs}
pub use Rattle.tokei_earlier.specs.ReadReports.{report_in, all_reports_in, reports_in, with_children, children_in, truth_in}
use Rattle.tokei_languages.specs.Values.{LanguageValue}
use Rattle.tokei_table.specs.Row.{Row}
use Rattle.tokei_json.specs.LanguageMaps.{language_named}

-- a language: its counts, reports and children, and whether it is inaccurate
unfoldable pub language_in : List Row → Data → LanguageValue
language_in rows value = record {
  counts = counts_in value;
  reports = reports_in rows (get (codes "reports") value);
  children = children_in rows (get (codes "children") value);
  inaccurate = truth_in (get (codes "inaccurate") value);
}

-- the languages that are there, and those of the members; `Total` is none
abbrev pub with_languages : List Row → Members → List (ℕ × LanguageValue) → List (ℕ × LanguageValue)
with_languages rows no_members found = found
with_languages rows (member k d ms) found =
    with_languages rows ms (put_named (language_named rows k) found (language_in rows d))

-- the languages of an object; other values have none
abbrev pub languages_in : List Row → Data → List (ℕ × LanguageValue)
languages_in rows (object ms) = with_languages rows ms []
languages_in rows value = []
