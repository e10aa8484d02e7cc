use Rattle.tokei_json_laws.proofs.RunLanguages.{counted_read_back}
use Rattle.tokei_json_laws.proofs.run_laws.counted_languages_can_be_read_back.Goals as goal

pub returns : goal.returns
returns c = counted_read_back
