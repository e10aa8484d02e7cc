use Rattle.tokei_parts.proofs.NoChild.{no_byte, no_opener}
use Rattle.tokei_parts.proofs.choice.in_comment.Goals as goal

pub returns-in-Some-opened-clause-no_child : goal.returns-in-Some-opened-clause-no_child
returns-in-Some-opened-clause-no_child c = λ e. no_opener e

pub returns-in_default-opened-clause-no_child : goal.returns-in_default-opened-clause-no_child
returns-in_default-opened-clause-no_child c = λ e. no_byte e
