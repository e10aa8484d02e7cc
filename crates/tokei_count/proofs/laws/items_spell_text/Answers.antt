use Rattle.tokei_count.proofs.SpelledItems.{spelled-items_of}
use Rattle.tokei_count.proofs.laws.items_spell_text.Goals as goal

pub returns : goal.returns
returns c = λ r block t s k. spelled-items_of r block s k t
