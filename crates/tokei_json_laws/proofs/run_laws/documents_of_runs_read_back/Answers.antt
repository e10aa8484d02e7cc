use Rattle.tokei_json_laws.proofs.RunLanguages.{documents_of_runs}
use Rattle.tokei_json_laws.proofs.run_laws.documents_of_runs_read_back.Goals as goal

pub returns : goal.returns
returns c = documents_of_runs
