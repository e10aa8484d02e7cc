use Rattle.std.proofs.Common.{◌≡◌, ◌≤◌, ◌+◌, ◌-◌, ◌^◌, ◌++◌, length}
use Rattle.std.specs.List.{slice_split, flat_map}
use Rattle.tokei_ignore.specs.IgnoreFiles.{patterns_of_line, patterns_of, is_newline, count_bad, bad_lines_of}
use Rattle.tokei_ignore.proofs.ignore_files.IgnoreFile.parse.Given as goal

abbrev pub invariant-loop-patterns : goal.invariant-loop-patterns
invariant-loop-patterns l = record {
  patterns : l.patterns ++ flat_map patterns_of_line (slice_split is_newline l.left) ≡ patterns_of l.bytes;
  bad : bad_lines_of l.bytes ≤ 2 ^ 64 - 1 → l.bad_lines + count_bad (slice_split is_newline l.left) ≡ bad_lines_of l.bytes;
}

abbrev pub decreases-loop-patterns : goal.decreases-loop-patterns
decreases-loop-patterns l = length l.left
