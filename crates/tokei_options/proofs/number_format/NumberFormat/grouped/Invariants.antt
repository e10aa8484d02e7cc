use Rattle.std.proofs.Common.{◌≡◌, ◌++◌, drop, string_bytes}
use Rattle.tokei_options.specs.Grouping.{grouped, separator_text}
use Rattle.tokei_options.proofs.number_format.NumberFormat.grouped.Given as goal

abbrev pub invariant-loop-i : goal.invariant-loop-i
invariant-loop-i l = string_bytes l.text ++ grouped (separator_text l.self.separator) (drop l.i l.digits) ≡ grouped (separator_text l.self.separator) l.digits
