use Rattle.std.proofs.Common.{◌∙◌, ap, is_some, bytes_eq}
use Rattle.std.proofs.lemmas.Map.Text.{btree_map_updates_str}
use Rattle.std.specs.BTreeMap.{get_by}
use Rattle.std.specs.Cmp.Lexicographic.{slice_cmp}
use Rattle.std.specs.Ordering.{nat_cmp}
use Rattle.tokei_table_rules.proofs.MetNames.{put_then}
use Rattle.tokei_table_rules.proofs.names.add_name.Goals as goal

pub returns-in-Ok-clause-added : goal.returns-in-Ok-clause-added
returns-in-Ok-clause-added c = λ q.
    ap is_some (btree_map_updates_str c.args.name.now c.args.names.now c.insert.new.self _ c.in-Ok.ensures.updates q)
    ∙ put_then (bytes_eq c.args.name.now q) tt (get_by (λ k. slice_cmp nat_cmp q k.now) c.args.names.now)
