use Rattle.std.proofs.Common.{◌≡◌, take}
use Rattle.tokei_walk.specs.Walks.{texts_of}
use Rattle.tokei_walk.proofs.roots.copied_roots.Given as goal

abbrev pub invariant-loop-root : goal.invariant-loop-root
invariant-loop-root l = l.copies ≡ texts_of (take l.root-index l.roots)
