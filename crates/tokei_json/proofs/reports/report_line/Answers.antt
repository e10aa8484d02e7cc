use Rattle.std.proofs.Common.{◌++◌, ap, ◌∙◌}
use Rattle.json.specs.Print.{print}
use Rattle.json.specs.Tree.{json_tokens}
use Rattle.serde_json.specs.Written.{outline}
use Rattle.serde_json.proofs.Texts.{print-outline}
use Rattle.tokei_json.specs.ReportData.{line_data}
use Rattle.tokei_stats.specs.Reports.{report_of}
use Rattle.tokei_json.proofs.reports.report_line.Goals as goal

pub text_of-requires : goal.text_of-requires
text_of-requires c = c.in_ok-write_line.ensures.before ∙ c.new-out.ensures.before ∙ c.new.ensures.items

pub returns : goal.returns
returns c =
    let d = line_data c.args.table.now c.args.language (report_of c.args.report.now) in
    let begun = c.in_ok-write_line.ensures.tokens ∙ ap (λ ts. ts ++ json_tokens (outline d)) c.new-out.ensures.tokens in
    c.text_of.ensures.printed ∙ ap print begun ∙ print-outline d
