-- Each line is put behind those before it.
use Rattle.std.proofs.Common.{◌≡◌, ◌∙◌, ap, flat_map, rules, string_bytes}
use Rattle.tokei_invocation.proofs.Taken.{joined_next, texts_all}
use Rattle.tokei_invocation.specs.NotesText.{ended}
use Rattle.tokei_invocation.proofs.notes.text_of.Goals as goal

pub loop-line-preserved : goal.loop-line-preserved
loop-line-preserved c =
    let line = c.line-item.result in
    let shown : c.as_str.result.now ≡ string_bytes line = search rules in
    joined_next ended c.args.lines.now c.loop-line.line-index line (string_bytes c.loop-line.text) (string_bytes c.push_line.new.text) c.as_str.result.now
    c.loop-line-test.true c.line-item.is c.loop-line.invariant shown c.in_ok-push_line.ensures

pub returns : goal.returns
returns c = c.loop-line.invariant ∙ ap (flat_map ended) (texts_all c.args.lines.now c.loop-line.line-index c.loop-line-test.false)
