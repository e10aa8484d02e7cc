use Rattle.std.proofs.Common.{ℕ, ◌≤◌, length}
use Rattle.tokei_parts.proofs.CalmPlaces.{calm_both, calm_bytes, high_end}
use Rattle.tokei_parts.proofs.calm.stretch_end.Goals as goal

pub returns-clause-calm : goal.returns-clause-calm
returns-clause-calm c =
    let near : ℕ = c.comment_end-near.result in
    let end : ℕ = c.item_end.result in
    let high : end ≤ length c.args.reading.now.text.now = high_end near end _ c.comment_end-near.ensures.high c.item_end.ensures.high in
    calm_both c.args.reading.now c.args.item c.args.at near end c.comment_end-near.ensures.calm (calm_bytes c.args.reading.now c.args.item near end high c.item_end.ensures.plain)

pub returns-clause-high : goal.returns-clause-high
returns-clause-high c = high_end c.comment_end-near.result c.item_end.result _ c.comment_end-near.ensures.high c.item_end.ensures.high
