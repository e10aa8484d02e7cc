-- The objects that hold counts, by what else they hold. For the clauses of private calls.
use Rattle.std.specs.Prelude.{Bool, codes}
use Rattle.serde_json.specs.Data.{Data, boolean, object, Members, no_members, member}
use Rattle.tokei_json.specs.ReportData.{count}
use Rattle.tokei_stats.specs.Statistics.{Counts}

-- the three counts as members
abbrev pub count_members : Counts → Members
count_members counts =
    member (codes "blanks") (count counts.blanks)
    (member (codes "code") (count counts.code)
    (member (codes "comments") (count counts.comments) no_members))

-- a language, or the total
abbrev pub language_object : Counts → Data → Bool → Data → Data
language_object counts children inaccurate reports = object
    (member (codes "blanks") (count counts.blanks)
    (member (codes "children") children
    (member (codes "code") (count counts.code)
    (member (codes "comments") (count counts.comments)
    (member (codes "inaccurate") (boolean inaccurate)
    (member (codes "reports") reports no_members))))))
