-- Reports by their names, in the order of bytes; those of one name stay in their order.
use Rattle.std.specs.Prelude.{Bool, List, [], ◌∷◌, if◌then◌else◌}
use Rattle.std.specs.Cmp.Lexicographic.{slice_cmp}
use Rattle.std.specs.Ordering.{is_lt, nat_cmp}
use Rattle.tokei_stats.specs.Reports.{ReportValue}

-- a report before the first that has a greater name
abbrev pub placed : ReportValue → List ReportValue → List ReportValue
placed report [] = report ∷ []
placed report (other ∷ others) =
    if is_lt (slice_cmp nat_cmp report.name other.name) then report ∷ other ∷ others
    else (other ∷ placed report others)

-- the reports, each placed among those before it
abbrev pub placed_onto : List ReportValue → List ReportValue → List ReportValue
placed_onto done [] = done
placed_onto done (report ∷ reports) = placed_onto (placed report done) reports

-- the reports in the order of their names
abbrev pub by_name : List ReportValue → List ReportValue
by_name reports = placed_onto [] reports

-- reports as they are listed: by name, where they weren't sorted otherwise
abbrev pub in_order : Bool → List ReportValue → List ReportValue
in_order sorted reports = if sorted then reports else by_name reports
