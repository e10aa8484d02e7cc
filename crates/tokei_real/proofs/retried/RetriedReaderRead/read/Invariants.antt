-- The interrupted reads have taken nothing.
use Rattle.std.specs.Io.KnownBytes.{Keeps}
use Rattle.tokei_real.proofs.retried.RetriedReaderRead.read.Given as goal

abbrev pub invariant-loop : goal.invariant-loop
invariant-loop g l = Keeps (g.R.Read.remaining l.initial.self.inner) (g.R.Read.remaining l.self.inner)
