use Rattle.tokei_table_json.proofs.Refused.{not_done}
use Rattle.tokei_table_json.proofs.token_rows.put_tree.Goals as goal

pub returns-in_default : goal.returns-in_default
returns-in_default c e = not_done e

pub returns-then-not-is_plain : goal.returns-then-not-is_plain
returns-then-not-is_plain c e = not_done e
