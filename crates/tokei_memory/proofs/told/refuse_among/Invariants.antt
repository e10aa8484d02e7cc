use Rattle.std.proofs.Common.{◌≡◌, ◌++◌, take, drop}
use Rattle.tokei_memory.specs.Refusals.{changed, refusing}
use Rattle.tokei_memory.proofs.told.refuse_among.Given as goal

abbrev pub invariant-loop-place : goal.invariant-loop-place
invariant-loop-place l = record {
  same : l.places ≡ l.fn.places;
  rest : changed (refusing l.call) l.names l.fn.places ≡ take l.place-index l.fn.places ++ changed (refusing l.call) l.names (drop l.place-index l.fn.places);
}
