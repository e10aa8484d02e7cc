use Rattle.std.proofs.Common.{refl, sym, ◌∙◌}
use Rattle.json.specs.Value.{value_view}
use Rattle.serde_json.specs.Read.{read}
use Rattle.tokei_json_tree.proofs.Unordered.{in_range, out_of_range}
use Rattle.tokei_json_tree.proofs.reading.read_unordered.Goals as goal

pub returns-then-not-is_in_range-clause-refused : goal.returns-then-not-is_in_range-clause-refused
returns-then-not-is_in_range-clause-refused c =
    λ some. (
      refl,
      out_of_range (value_view c.in_ok-tree.tree) (read c.args.text.now) c.in_ok-tree.ensures.tree
          (sym c.is_in_range.ensures ∙ c.if-not-is_in_range.true),
    )

pub returns-clause-tree : goal.returns-clause-tree
returns-clause-tree c =
    in_range (value_view c.in_ok-tree.tree) (read c.args.text.now) c.in_ok-tree.ensures.tree (sym c.is_in_range.ensures ∙ c.if-not-is_in_range.false)
