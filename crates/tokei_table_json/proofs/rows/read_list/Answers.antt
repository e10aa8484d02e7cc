use Rattle.json.specs.Value.{items_view}
use Rattle.tokei_json_tree.specs.TreeData.{items_data}
use Rattle.tokei_table_row.specs.RowOf.{row_of}
use Rattle.tokei_table_json.proofs.Kept.{list_kept}
use Rattle.tokei_table_json.proofs.rows.read_list.Goals as goal

pub returns-in_ok-texts-in-Texts : goal.returns-in_ok-texts-in-Texts
returns-in_ok-texts-in-Texts c =
    rw c.in-Texts.is (c.put_texts.ensures c.args.html (items_data (items_view c.args.items.now.items)) c.in_ok-texts-in-Texts.ensures)

pub returns-in_ok-pairs-in-Pairs : goal.returns-in_ok-pairs-in-Pairs
returns-in_ok-pairs-in-Pairs c =
    rw c.in-Pairs.is (c.put_pairs.ensures c.args.html (items_data (items_view c.args.items.now.items)) c.in_ok-pairs-in-Pairs.ensures)

pub returns-in_ok-put_tags-in-Contexts : goal.returns-in_ok-put_tags-in-Contexts
returns-in_ok-put_tags-in-Contexts c = rw (c.in-Contexts.is, c.in_ok-put_tags-in-Contexts.ensures)

pub returns-in-Truth : goal.returns-in-Truth
returns-in-Truth c = list_kept c.args.html c.args.member (items_data (items_view c.args.items.now.items)) (row_of c.args.row.now) c.in-Truth.is
