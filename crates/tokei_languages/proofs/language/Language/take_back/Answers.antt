use Rattle.std.proofs.Common.{◌≡◌, ◌∙◌, ap, sym, map, take}
use Rattle.std.proofs.lemmas.List.{take-map}
use Rattle.tokei_languages.specs.Seen.{report_of, reports_of}
use Rattle.tokei_languages.proofs.language.Language.take_back.Goals as goal

pub returns : goal.returns
returns c =
    let fewer : reports_of c.truncate.new.self ≡ take c.args.before.reports (reports_of c.args.self.now.reports) =
    ap (map report_of) c.truncate.ensures.items ∙ sym (take-map report_of c.args.before.reports c.args.self.now.reports.items) in
    cc
