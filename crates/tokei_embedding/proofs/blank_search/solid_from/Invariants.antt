use Rattle.std.proofs.Common.{◌≡◌, ℕ, ◌<◌, ◌≤◌, true, get_or}
use Rattle.tokei_table_row.specs.Bytes.{is_blank}
use Rattle.tokei_embedding.proofs.blank_search.solid_from.Given as goal

abbrev pub invariant-loop-i : goal.invariant-loop-i
invariant-loop-i l = (k : ℕ) → l.from ≤ k → k < l.i → is_blank (get_or l.text k 0) ≡ true
