use Rattle.std.proofs.Common.{◌/◌, ◌%◌, ◌==◌, ◌∙◌, get_or, sym, ap}
use Rattle.std.proofs.lemmas.Nat.Bits.{shr_and_one}
use Rattle.tokei_bytes.specs.ByteSets.{is_in}
use Rattle.tokei_bytes.proofs.BitSets.{get_or-flags_of}
use Rattle.tokei_bytes.proofs.bit_set.BitSet.has.Goals as goal

pub returns : goal.returns
returns c =
    let words = c.self.inside.words in
    let byte = c.args.byte in
    ap (λ n. n == 1) (shr_and_one (get_or words (byte / 64) 0) (byte % 64))
    ∙ sym (get_or-flags_of words byte c.ranges.byte.fits)
    ∙ ap (λ flags. is_in flags byte) c.self.view_is
