use Rattle.std.proofs.Common.{◌≡◌, ◌+◌, ◌-◌, ◌≤◌, length, drop}
use Rattle.tokei_embedding.specs.DocComments.{marked_len, lines_of}
use Rattle.tokei_embedding.proofs.doc_comments.marked_len.Given as goal

abbrev pub invariant-loop-at : goal.invariant-loop-at
invariant-loop-at l = (marked_len l.mark (lines_of l.text) ≡ l.at + marked_len l.mark (lines_of (drop l.at l.text))) × (l.at ≤ length l.text)

abbrev pub decreases-loop-at : goal.decreases-loop-at
decreases-loop-at l = length l.initial.text - l.at
