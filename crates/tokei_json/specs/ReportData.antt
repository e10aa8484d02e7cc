-- Statistics and reports as JSON data. Languages stand under their names, and members in byte
-- order.
use Rattle.std.specs.Prelude.{ℕ, List, [], ◌∷◌, codes, map}
use Rattle.serde_json.specs.Data.{Data, unsigned, number, string, array, object, Members, no_members, member, put}
use Rattle.serde_json.specs.View.{items_of}
use Rattle.tokei_languages.specs.Names.{name_in}
use Rattle.tokei_stats.specs.Reports.{ReportValue}
use Rattle.tokei_stats.specs.Statistics.{Statistics, Blobs}
use Rattle.tokei_stats.specs.Statistics.Statistics.{node}
use Rattle.tokei_stats.specs.Statistics.Blobs.{none, blob}
use Rattle.tokei_table.specs.Row.{Row}

-- a count as a number
abbrev pub count : ℕ → Data
count n = number (unsigned n)

-- statistics; `blobs_data` puts the blobs behind the members that are there
abbrev mutual
  pub statistics_data : List Row → Statistics → Data
  statistics_data rows (node n bs) = object
      (member (codes "blanks") (count n.blanks)
      (member (codes "blobs") (object (blobs_data rows bs no_members))
      (member (codes "code") (count n.code)
      (member (codes "comments") (count n.comments) no_members))))

  -- the members, and then one for each blob, under the name of its language
  pub blobs_data : List Row → Blobs → Members → Members
  blobs_data rows none ms = ms
  blobs_data rows (blob k t rest) ms =
      blobs_data rows rest (put (name_in rows k) (statistics_data rows t) ms)

-- a report: its name and its statistics
abbrev pub report_data : List Row → ReportValue → Data
report_data rows report = object
    (member (codes "name") (string report.name)
    (member (codes "stats") (statistics_data rows report.stats) no_members))

-- a file's report beside the name of its language
abbrev pub line_data : List Row → ℕ → ReportValue → Data
line_data rows language report = object
    (member (codes "language") (string (name_in rows language))
    (member (codes "stats") (report_data rows report) no_members))

-- the reports in their order
abbrev pub reports_data : List Row → List ReportValue → Data
reports_data rows rs = array (items_of (map (report_data rows) rs))

-- the members, and then one for each entry, under the name of its language
abbrev pub named_data : {S : Type 0} → List Row → (S → Data) → List (ℕ × S) → Members → Members
named_data rows value_of [] ms = ms
named_data rows value_of (e ∷ es) ms =
    named_data rows value_of es (put (name_in rows e.0) (value_of e.1) ms)
