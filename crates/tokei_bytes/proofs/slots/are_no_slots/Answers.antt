use Rattle.std.proofs.Common.{◌∷◌, sym, ap, ◌∙◌, replicate}
use Rattle.std.proofs.lemmas.Slice.Eq.{bytes_eq-Decides}
use Rattle.tokei_bytes.specs.Slots.{is_slotted}
use Rattle.tokei_bytes.proofs.LowHalves.{no_slot}
use Rattle.tokei_bytes.proofs.slots.are_no_slots.Goals as goal

pub returns : goal.returns
returns c h x =
    ap (λ slots. is_slotted slots x) ((bytes_eq-Decides c.args.slots.now (1 ∷ replicate 15 0)).0 (sym c.eq.ensures ∙ h))
    ∙ no_slot x
