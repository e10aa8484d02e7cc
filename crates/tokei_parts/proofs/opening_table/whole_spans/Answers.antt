use Rattle.tokei_parts.proofs.Spans.{whole_spans}
use Rattle.tokei_parts.proofs.opening_table.whole_spans.Goals as goal

pub returns : goal.returns
returns c = whole_spans c.args.all.now
