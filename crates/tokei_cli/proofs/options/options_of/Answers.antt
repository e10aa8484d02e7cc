-- Each row adds its option.
use Rattle.std.proofs.Common.{◌∙◌, ap, map}
use Rattle.tokei_cli.specs.Options.{ruled}
use Rattle.tokei_cli.proofs.Building.{row_added}
use Rattle.tokei_cli.proofs.options.options_of.Goals as goal

pub loop-row-preserved : goal.loop-row-preserved
loop-row-preserved c =
    let option = c.in_ok-option in
    ap (map ruled) c.in_ok-push.ensures.items
    ∙ row_added c.args.rows.now c.loop-row.row-index _ c.loop-row.options.items option.field-0
    c.loop-row-test.true c.loop-row.invariant option.ensures
