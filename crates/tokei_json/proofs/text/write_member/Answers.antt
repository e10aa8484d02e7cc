use Rattle.std.proofs.Common.{◌≡◌, List, map, ap, ◌∙◌, subst}
use Rattle.std.proofs.lemmas.Result.{on_ok_weaker}
use Rattle.serde_json.specs.Data.{Members, no_members, object}
use Rattle.tokei_json.specs.CountedObjects.{language_object}
use Rattle.tokei_json.specs.Document.{language_data, named_data, reports_data}
use Rattle.tokei_json.specs.Members.{IsShown, member_data, member_value}
use Rattle.tokei_json.specs.Tokens.{IsWritten, children_members}
use Rattle.tokei_json.specs.declared.text.Shown.{Shown}
use Rattle.tokei_json.proofs.Writing.{member_of}
use Rattle.tokei_languages.specs.Seen.{languages_of}
use Rattle.tokei_languages.specs.Values.{LanguageValue}
use Rattle.tokei_stats.specs.Reports.{report_of}
use Rattle.tokei_stats.specs.Seen.{sums_of}
use Rattle.tokei_table.specs.Row.{Row}
use Rattle.tokei_json.proofs.text.write_member.Goals as goal

-- what is shown beside the value's children is the value
shown_whole : (rows : List Row) (s : Shown) (v : LanguageValue) (ms : Members) → IsShown s v → ms ≡ named_data rows (reports_data rows) v.children no_members
    → language_object (sums_of s.counts) (object ms) s.inaccurate (reports_data rows (map report_of s.reports.now)) ≡ language_data rows v
shown_whole rows s v ms is children =
    ap (λ n. language_object n (object ms) s.inaccurate (reports_data rows (map report_of s.reports.now))) is.counts
    ∙ ap (λ b. language_object v.counts (object ms) b (reports_data rows (map report_of s.reports.now))) is.inaccurate
    ∙ ap (λ rs. language_object v.counts (object ms) v.inaccurate (reports_data rows rs)) is.reports
    ∙ ap (λ ds. language_object v.counts (object ds) v.inaccurate (reports_data rows v.reports)) children

pub returns : goal.returns
returns c =
    let rows = c.args.counted.now.table.now in
    let es = languages_of c.args.counted.now.languages.now in
    let m = c.args.member in
    let same = shown_whole rows c.shown_of.result (member_value es m) (children_members rows c.in_ok-children.children.entries) c.shown_of.ensures c.in_ok-children.ensures in
    on_ok_weaker c.write_shown.result (λ w.
    member_of c.args.name.now (member_data rows es m) c.args.out.now c.key.new.self c.write_shown.new.out c.in_ok-key.ensures.ok c.in_ok-key.ensures.room.0
    (subst (λ d. IsWritten d c.key.new.self c.write_shown.new.out) same w)) c.write_shown.ensures
