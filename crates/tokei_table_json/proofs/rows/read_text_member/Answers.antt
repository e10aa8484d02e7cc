use Rattle.std.proofs.Common.{codes, ◌∙◌, ap, sym}
use Rattle.serde_json.specs.Data.{string}
use Rattle.tokei_table_row.specs.RowOf.{row_of}
use Rattle.tokei_table_json.specs.Filled.{with_member}
use Rattle.tokei_table_json.specs.Members.{key_of}
use Rattle.tokei_table_json.proofs.Kept.{text_kept}
use Rattle.tokei_table_json.proofs.rows.read_text_member.Goals as goal

pub returns-in_ok-read_text-in-Name : goal.returns-in_ok-read_text-in-Name
returns-in_ok-read_text-in-Name c =
    c.put_name.ensures c.args.html c.args.text.now c.in_ok-read_text-in-Name.ensures
    ∙ ap (λ m. with_member c.args.html (key_of m) (string c.args.text.now) (row_of c.args.row.now)) (sym c.in-Name.is)

pub returns-in_ok-row-in-Kind : goal.returns-in_ok-row-in-Kind
returns-in_ok-row-in-Kind c =
    let row = row_of c.args.row.now in
    ap (λ t. with_member c.args.html (codes "kind") (string t) row) c.in_ok-row-in-Kind.ensures.ok
    ∙ ap (λ m. with_member c.args.html (key_of m) (string c.args.text.now) row) (sym c.in-Kind.is)

pub returns-in_default : goal.returns-in_default
returns-in_default c = text_kept c.args.html c.args.member c.args.text.now (row_of c.args.row.now) c.in_default.not-Name c.in_default.not-Kind
