-- The files that count as empty are those in the folders that the environment names.
use Rattle.tokei_invocation.proofs.found.configuration.Goals as goal

pub returns-clause-flawed : goal.returns-clause-flawed
returns-clause-flawed g c t told = record {
  dirs = c.in_ok-dirs.dirs;
  found = c.in_ok-dirs.ensures;
  are = c.in_ok-read.ensures.flawed t told;
}
