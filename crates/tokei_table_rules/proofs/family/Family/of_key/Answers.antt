use Rattle.std.proofs.Common.{ap, sym}
use Rattle.tokei_table_rules.specs.Families.{family_of}
use Rattle.tokei_table_rules.proofs.family.Family.of_key.Goals as goal

pub returns-in-Rust : goal.returns-in-Rust
returns-in-Rust c = sym (ap family_of c.in-Rust.is)

pub returns-in-LinguaFranca : goal.returns-in-LinguaFranca
returns-in-LinguaFranca c = sym (ap family_of c.in-LinguaFranca.is)

pub returns-in-Jupyter : goal.returns-in-Jupyter
returns-in-Jupyter c = sym (ap family_of c.in-Jupyter.is)
