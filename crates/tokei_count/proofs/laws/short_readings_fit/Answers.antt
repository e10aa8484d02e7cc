use Rattle.tokei_count.proofs.LineWeight.{reading-fits_by_length}
use Rattle.tokei_count.proofs.laws.short_readings_fit.Goals as goal

pub returns : goal.returns
returns c = λ rows tokens none docs_are_comments levels language t. reading-fits_by_length rows tokens docs_are_comments none levels language t
