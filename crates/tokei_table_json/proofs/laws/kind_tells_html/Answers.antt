use Rattle.tokei_table_json.proofs.RowKinds.{kind_tells}
use Rattle.tokei_table_json.proofs.laws.kind_tells_html.Goals as goal

pub returns : goal.returns
returns c = kind_tells
