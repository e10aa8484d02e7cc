use Rattle.tokei_json_laws.proofs.ReadDocument.{value_back}
use Rattle.tokei_json_laws.proofs.laws.documents_read_back.Goals as goal

pub returns : goal.returns
returns c = λ rows es well known ordered. value_back rows es well known ordered
