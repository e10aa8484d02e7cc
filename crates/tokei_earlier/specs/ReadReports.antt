-- The statistics and reports of a document that has its layout.
use Rattle.std.specs.Prelude.{ℕ, List, [], ◌∷◌, Bool, false, Option, None, Some, option_and_then, unwrap_or, codes, bytes_eq, if◌then◌else◌}
use Rattle.std.specs.BTreeMap.{insert_entry}
use Rattle.std.specs.Ordering.{nat_cmp}
use Rattle.serde_json.specs.Data.{Data, boolean, string, array, object, Items, no_items, item, Members, no_members, member}
use Rattle.serde_json.specs.Find.{get, as_number, as_u64}
use Rattle.tokei_stats.specs.Reports.{ReportValue}
use Rattle.tokei_stats.specs.Statistics.{Counts, Statistics, Blobs, empty, put}
use Rattle.tokei_stats.specs.Statistics.Statistics.{node}
use Rattle.tokei_stats.specs.Statistics.Blobs.{none}
use Rattle.tokei_table.specs.Row.{Row}
use Rattle.tokei_json.specs.LanguageMaps.{language_named}

-- a member's count
abbrev pub count_in : Option Data → ℕ
count_in found = unwrap_or (option_and_then as_u64 (option_and_then as_number found)) 0

-- the three counts of an object
unfoldable pub counts_in : Data → Counts
counts_in value = record {
  blanks = count_in (get (codes "blanks") value);
  code = count_in (get (codes "code") value);
  comments = count_in (get (codes "comments") value);
}

-- the entries with this value for the language, where there is one
abbrev pub put_named : {S : Type 0} → Option ℕ → List (ℕ × S) → S → List (ℕ × S)
put_named None es entries = es
put_named (Some k) es entries = insert_entry nat_cmp es k entries

-- the blobs with these statistics for the language, where there is one
abbrev pub put_blob : Option ℕ → Blobs → Statistics → Blobs
put_blob None bs statistics = bs
put_blob (Some k) bs statistics = put bs k statistics

-- statistics; `blobs_at` looks for the blobs among their members
abbrev mutual
  pub statistics_in : List Row → Data → Statistics
  statistics_in rows (object ms) = node (counts_in (object ms)) (blobs_at rows ms)
  statistics_in rows d = empty

  -- the blobs of the first member `blobs`; without one there are none
  pub blobs_at : List Row → Members → Blobs
  blobs_at rows no_members = none
  blobs_at rows (member k d ms) =
      if bytes_eq k (codes "blobs") then blobs_in rows d else blobs_at rows ms

  -- the blobs of an object; other values have none
  pub blobs_in : List Row → Data → Blobs
  blobs_in rows (object ms) = with_blobs rows ms none
  blobs_in rows d = none

  -- the blobs that are there, and those of the members
  pub with_blobs : List Row → Members → Blobs → Blobs
  with_blobs rows no_members found = found
  with_blobs rows (member k d ms) found =
      with_blobs rows ms (put_blob (language_named rows k) found (statistics_in rows d))

-- a text's bytes; other values have none
abbrev pub text_in : Option Data → List ℕ
text_in (Some (string t)) = t
text_in found = []

-- the statistics of a member, where it is there; else they are empty
abbrev pub statistics_at : List Row → Option Data → Statistics
statistics_at rows None = empty
statistics_at rows (Some d) = statistics_in rows d

-- a report: its name and its statistics
abbrev pub report_in : List Row → Data → ReportValue
report_in rows value = record {
  name = text_in (get (codes "name") value);
  stats = statistics_at rows (get (codes "stats") value);
}

-- the reports of the items, in their order
abbrev pub all_reports_in : List Row → Items → List ReportValue
all_reports_in rows no_items = []
all_reports_in rows (item d ds) = report_in rows d ∷ all_reports_in rows ds

-- the reports of a list; other values have none
abbrev pub reports_in : List Row → Option Data → List ReportValue
reports_in rows (Some (array ds)) = all_reports_in rows ds
reports_in rows found = []

-- the children that are there, and those of the members
abbrev pub with_children : List Row → Members → List (ℕ × List ReportValue)
    → List (ℕ × List ReportValue)
with_children rows no_members found = found
with_children rows (member k d ms) found =
    with_children rows ms (put_named (language_named rows k) found (reports_in rows (Some d)))

-- the children of an object; other values have none
abbrev pub children_in : List Row → Option Data → List (ℕ × List ReportValue)
children_in rows (Some (object ms)) = with_children rows ms []
children_in rows found = []

-- whether the member is there and true
abbrev pub truth_in : Option Data → Bool
truth_in (Some (boolean b)) = b
truth_in found = false
