use Rattle.std.proofs.Common.{arith}
use Rattle.serde_json.proofs.Views.{view-Object}
use Rattle.tokei_json.proofs.reports.report_value.Goals as goal

pub returns-in-Ok-json-4 : goal.returns-in-Ok-json-4
returns-in-Ok-json-4 c = grind (arith, view-Object)
