use Rattle.tokei_statistics.proofs.AnyOrder.{order_keeps_languages}
use Rattle.tokei_statistics.proofs.laws.order_keeps_languages.Goals as goal

pub returns : goal.returns
returns c = order_keeps_languages
