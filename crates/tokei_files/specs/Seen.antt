-- The code's values as the definitions see them.
use Rattle.std.specs.Prelude.{option_map}
use Rattle.tokei_count.specs.Seen.{docs_of}
use Rattle.tokei_files.specs.Files.{Counting}
use Rattle.tokei_files.specs.declared.counting.Counting as CodeCounting

-- what files are counted with: the table, how doc strings count, and the languages that are wanted
abbrev pub counting_of : CodeCounting.Counting → Counting
counting_of counting = record {
  rows = counting.counter.now;
  docs = docs_of counting.config;
  types = option_map (λ types. types.now) counting.types;
}
