use Rattle.std.proofs.Common.{◌∙◌, ap, sym}
use Rattle.serde_json.specs.Data.{boolean}
use Rattle.tokei_table_row.specs.RowOf.{row_of}
use Rattle.tokei_table_json.specs.Filled.{with_member}
use Rattle.tokei_table_json.specs.Members.{key_of}
use Rattle.tokei_table_json.proofs.Kept.{truth_kept}
use Rattle.tokei_table_json.proofs.rows.read_truth.Goals as goal

pub returns-in-Truth : goal.returns-in-Truth
returns-in-Truth c =
    c.put_truth.ensures c.args.html
    ∙ ap (λ m. with_member c.args.html (key_of m) (boolean c.args.truth) (row_of c.args.row.now)) (sym c.in-Truth.is)

pub returns-in_default : goal.returns-in_default
returns-in_default c = truth_kept c.args.html c.args.member c.args.truth (row_of c.args.row.now) c.in_default.not-Truth
