-- The bytes read so far were taken off the source, each read before this one gave at least one, none was a fault, and they
-- aren't more than there may be.
use Rattle.std.proofs.Common.{◌≡◌, ◌<◌, ◌≤◌, ◌-◌, ◌^◌, length}
use Rattle.std.specs.Io.KnownBytes.{Consumes}
use Rattle.tokei_earlier.specs.Bounds.{most_bytes}
use Rattle.tokei_earlier.proofs.input.read_all.Given as goal

abbrev pub invariant-loop : goal.invariant-loop
invariant-loop g l =
    (g.S.Source.faults l.initial.source < 2 ^ 64 - 1 → g.S.Source.faults l.source ≡ g.S.Source.faults l.initial.source)
    × Consumes (g.S.Source.remaining l.initial.source) (g.S.Source.remaining l.source) l.bytes.items
    × (l.counter ≤ length l.bytes.items)
    × (length l.bytes.items ≤ most_bytes)
