use Rattle.std.proofs.Common.{◌≡◌, refl, sym, ap, ◌∙◌, ◌++◌, ◌∷◌, [], map, string_bytes}
use Rattle.std.proofs.lemmas.List.{map-append}
use Rattle.tokei_stats.proofs.Members.{blobs_seen}
use Rattle.tokei_languages.specs.Merging.{appended, blob_reports}
use Rattle.tokei_languages.specs.Seen.{children_of, report_of}
use Rattle.tokei_languages.proofs.SameLanguage.{same_language}
use Rattle.tokei_languages.proofs.language.Language.add_report.Goals as goal

pub returns-clause-ok : goal.returns-clause-ok
returns-clause-ok c =
    let self = c.args.self.now in
    let report = c.args.report in
    let pushed : c.push-2.new.self.items ≡ c.reserve.new.self.items ++ report ∷ [] = rw c.unwrap.ensures at c.push-2.ensures.items in
    same_language _ _ refl
    (ap (map report_of) (pushed ∙ ap (λ rs. rs ++ report ∷ []) c.in_ok-reserve.ensures.items) ∙ map-append report_of self.reports.items (report ∷ []))
    (c.in_ok-_before.ensures.ok
    ∙ ap (appended (children_of self.children.entries)) (c.in_ok-more.ensures.ok ∙ ap (blob_reports (string_bytes report.name)) (sym (blobs_seen report.stats))))
    refl
