-- Statistics and reports hold no number but whole ones of 64 bits.
use Rattle.std.proofs.Common.{◌≡◌, ℕ, List, [], ◌∷◌, Bool, true, false, ◌||◌, map, refl}
use Rattle.serde_json.specs.Data.{Data, Members, no_members, member, put}
use Rattle.serde_json.specs.View.{items_of}
use Rattle.serde_json.specs.Written.{has_float, items_have_float, members_have_float}
use Rattle.tokei_stats.specs.Reports.{ReportValue}
use Rattle.tokei_stats.specs.Statistics.{Statistics, Blobs}
use Rattle.tokei_stats.specs.Statistics.Statistics.{node}
use Rattle.tokei_stats.specs.Statistics.Blobs.{none, blob}
use Rattle.tokei_table.specs.Row.{Row}
use Rattle.tokei_languages.specs.Names.{name_in}
use Rattle.tokei_json.specs.ReportData.{statistics_data, blobs_data, report_data}
use Rattle.tokei_json.proofs.Members.{AllMembers, all_put}

pub neither : (a b : Bool) → a ≡ false → b ≡ false → (a || b) ≡ false
neither true b h k = h
neither false b h k = k

abbrev pub IsWhole : List ℕ → Data → Type 0
IsWhole k d = has_float d ≡ false

pub whole_members : (ms : Members) → AllMembers IsWhole ms → members_have_float ms ≡ false
whole_members no_members h = refl
whole_members (member k d ms) h = neither (has_float d) (members_have_float ms) h.0 (whole_members ms h.1)

mutual
  whole_statistics : (rows : List Row) (s : Statistics) → has_float (statistics_data rows s) ≡ false
  whole_statistics rows (node n bs) = neither (members_have_float (blobs_data rows bs no_members)) false (whole_members (blobs_data rows bs no_members) (whole_blobs rows bs no_members tt)) refl

  whole_blobs : (rows : List Row) (bs : Blobs) (ms : Members) → AllMembers IsWhole ms → AllMembers IsWhole (blobs_data rows bs ms)
  whole_blobs rows none ms h = h
  whole_blobs rows (blob k t rest) ms h =
      whole_blobs rows rest (put (name_in rows k) (statistics_data rows t) ms) (all_put IsWhole (name_in rows k) (statistics_data rows t) ms (whole_statistics rows t) h)

whole_report : (rows : List Row) (r : ReportValue) → has_float (report_data rows r) ≡ false
whole_report rows r = neither (has_float (statistics_data rows r.stats)) false (whole_statistics rows r.stats) refl

pub whole_reports : (rows : List Row) (rs : List ReportValue) → items_have_float (items_of (map (report_data rows) rs)) ≡ false
whole_reports rows [] = refl
whole_reports rows (r ∷ rs) = neither (has_float (report_data rows r)) _ (whole_report rows r) (whole_reports rows rs)
