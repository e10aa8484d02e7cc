use Rattle.std.proofs.Common.{◌≡◌, ◌-◌, ◌<◌, ◌≤◌, take, drop, get_or}
use Rattle.tokei_embedding.proofs.NextDocs.{NoMarks}
use Rattle.tokei_embedding.proofs.next_openings.next_doc.Given as goal

abbrev pub invariant-loop-slash : goal.invariant-loop-slash
invariant-loop-slash l = record {
  low : l.at ≤ l.slash;
  high : l.slash ≤ l.to;
  found : l.slash < l.to → get_or l.text l.slash 0 ≡ 47;
  none : NoMarks (take (l.to - l.at) (drop l.at l.text)) (l.slash - l.at);
}

abbrev pub decreases-loop-slash : goal.decreases-loop-slash
decreases-loop-slash l = l.to - l.slash
