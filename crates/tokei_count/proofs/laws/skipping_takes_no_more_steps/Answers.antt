use Rattle.tokei_count.specs.Languages.{languages_of}
use Rattle.tokei_count.proofs.WalkedBytes.{steps-plain}
use Rattle.tokei_count.proofs.laws.skipping_takes_no_more_steps.Goals as goal

pub returns : goal.returns
returns c = λ rows. steps-plain (languages_of rows)
