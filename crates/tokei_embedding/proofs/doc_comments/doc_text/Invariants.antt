use Rattle.std.proofs.Common.{◌≡◌, ◌++◌, length}
use Rattle.tokei_embedding.specs.DocComments.{doc_text}
use Rattle.tokei_embedding.proofs.doc_comments.doc_text.Given as goal

abbrev pub invariant-loop-rest : goal.invariant-loop-rest
invariant-loop-rest l = doc_text l.block ≡ l.said.items ++ doc_text l.rest

abbrev pub decreases-loop-rest : goal.decreases-loop-rest
decreases-loop-rest l = length l.rest
