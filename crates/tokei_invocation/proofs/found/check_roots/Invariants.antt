-- The folders keep their tree from root to root, and something stands at each root so far.
use Rattle.std.proofs.Common.{◌≡◌, take}
use Rattle.tokei_folders.specs.Answers.{Told}
use Rattle.tokei_invocation.specs.Roots.{AllStand}
use Rattle.tokei_walk.specs.Walks.{texts_of}
use Rattle.tokei_invocation.proofs.found.check_roots.Given as goal

abbrev pub invariant-loop-root : goal.invariant-loop-root
invariant-loop-root g l =
    (g.F.Folders.tree l.folders ≡ g.F.Folders.tree l.initial.folders)
    × Told (g.F.Folders.tree l.initial.folders) (λ t. AllStand t (texts_of (take l.root-index l.roots)))
