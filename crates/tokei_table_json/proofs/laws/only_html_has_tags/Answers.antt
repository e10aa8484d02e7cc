use Rattle.tokei_table_json.proofs.RowKinds.{tags_of_html}
use Rattle.tokei_table_json.proofs.laws.only_html_has_tags.Goals as goal

pub returns : goal.returns
returns c = tags_of_html
