use Rattle.std.proofs.Common.{◌≡◌, ◌∙◌, ap, sym, subst, refl, length, false, ◌∷◌, Some}
use Rattle.tokei_table.specs.RowOf.{pair_of}
use Rattle.tokei_parts.specs.Choice.Choice.{closes, opens}
use Rattle.tokei_parts.specs.Derivation.{closer_of}
use Rattle.tokei_parts.specs.Modes.{Chain, innermost}
use Rattle.tokei_parts.specs.NestedLine.{turned_by}
use Rattle.tokei_parts.specs.Places.{block_here, choice_here}
use Rattle.tokei_parts.specs.Seen.{chain_of}
use Rattle.tokei_parts.specs.SeenChoices.{choice_of, enclosure_of}
use Rattle.tokei_parts.proofs.NestedLines.{closer_here, opener_here}
use Rattle.tokei_parts.proofs.Stack.{chain_of-push}
use Rattle.tokei_parts.proofs.Walking.{GoesIn}
use Rattle.tokei_parts.proofs.nested_line.turn_at.Goals as goal

pub returns-in-Opens : goal.returns-in-Opens
returns-in-Opens c =
    let p = c.args.place.now in
    let chain = chain_of c.args.stack.now in
    let kind = c.in-Opens.kind in
    let pair = pair_of c.in-Opens.pair.now in
    let e : choice_here p (innermost chain) ≡ opens kind pair =
    sym (ap (choice_here p) c.requires.within) ∙ sym c.choice_within.ensures.choice ∙ ap (choice_of (block_here p)) c.in-Opens.is in
    record {
      within = refl;
      goes =
          subst (λ n. GoesIn p chain n 1 (record { kind = kind; closer = c.as_bytes-closer.result.now } ∷ chain) p.at) (sym (ap length c.as_bytes.ensures.value))
          (subst (λ w. GoesIn p chain (length pair.opener) 1 (record { kind = kind; closer = w } ∷ chain) p.at) (sym c.as_bytes-closer.ensures.value)
          (opener_here p chain c.requires.closable c.requires.here c.requires.some kind pair e));
    }

pub returns-in_ok-innermost-in-Closes : goal.returns-in_ok-innermost-in-Closes
returns-in_ok-innermost-in-Closes c =
    let p = c.args.place.now in
    let chain = chain_of c.args.stack.now in
    let e : choice_here p (innermost chain) ≡ closes =
    sym (ap (choice_here p) c.requires.within) ∙ sym c.choice_within.ensures.choice ∙ ap (choice_of (block_here p)) c.in-Closes.is in
    let inner = enclosure_of c.in_ok-innermost-in-Closes.field-0 in
    let around = chain_of c.in_ok-around-in-Closes.around.now in
    let last = enclosure_of c.in_ok-around-in-Closes.field-0-0.now in
    let whole : chain ≡ last ∷ around = ap chain_of c.in_ok-around-in-Closes.ensures.cases.0 ∙ chain_of-push c.in_ok-around-in-Closes.around.now c.in_ok-around-in-Closes.field-0-0.now in
    let same : Some (enclosure_of c.args.item) ≡ Some last = c.requires.within ∙ ap innermost whole in
    let len : length last.closer ≡ length c.args.item.closer.now = ap (λ m. length (closer_of m)) (sym same) in
    let behind : around ≡ turned_by false inner chain = ap (turned_by false inner) (sym whole) in
    record {
      within = ap innermost (sym behind) ∙ sym c.in_ok-innermost-in-Closes.ensures;
      goes =
          subst (λ (d : Chain). GoesIn p chain (length c.args.item.closer.now) 1 d p.at) behind
          (subst (λ n. GoesIn p chain n 1 around p.at) len
          (closer_here p chain c.requires.closable c.requires.here c.requires.some last around whole e));
    }
