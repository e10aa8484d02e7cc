-- Folders that tell no tree have nothing to tell of it.
use Rattle.std.proofs.Common.{◌≡◌, Option, None, Some}

pub untold : {A P : Type 0} (tree : A) → None ≡ Some tree → P
untold tree e = cc
