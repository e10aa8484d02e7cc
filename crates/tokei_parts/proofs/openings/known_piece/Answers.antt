use Rattle.std.proofs.Common.{◌≡◌, ◌∙◌, ◌-◌, ℕ, ◌==◌, false, Option, None, Some, is_some, get_or, take, drop, refl, sym, arith, eq-eqb}
use Rattle.std.proofs.lemmas.Grind.{common_steps}
use Rattle.std.proofs.lemmas.Bool.Decides.{Decides-eqb}
use Rattle.tokei_parts.specs.NamedLanguages.{by_word}
use Rattle.tokei_parts.proofs.LineEnd.{not_true}
use Rattle.tokei_parts.proofs.Pieces.{known_is, piece_ends, piece_goes}
use Rattle.tokei_parts.proofs.openings.known_piece.Goals as goal
use Rattle.tokei_parts.proofs.openings.known_piece.Goals.{then-byte-eq44+else-is_some, else-byte-eq44}

is_none : (o : Option ℕ) → is_some o ≡ false → o ≡ None
is_none None h = refl
is_none (Some n) h = cc

pub loop-i-init : goal.loop-i-init
loop-i-init c = record { begun = omega arith; same = known_is c.args.table.now c.args.info.now }

pub loop-i-preserved : goal.loop-i-preserved
loop-i-preserved c = record {
  begun = elim c.if-byte-eq44.branch [
    | then-byte-eq44+else-is_some w ↦ rw w.begun-is (omega arith)
    | else-byte-eq44 w ↦ rw w.begun-is (omega (arith, c.loop-i.invariant.begun))
  ];
  same = elim c.if-byte-eq44.branch [
    | then-byte-eq44+else-is_some w ↦
        let none : by_word c.args.table.now
        (take (c.loop-i.i - c.loop-i.begun) (drop c.loop-i.begun c.args.info.now))
        ≡ None =
        sym w.by_word-known.ensures
        ∙ is_none w.by_word-known.result (sym w.is_some.ensures ∙ w.if-is_some.false) in
        rw w.begun-is (piece_ends c.args.table.now c.args.info.now c.loop-i.begun c.loop-i.i
        c.loop-i.invariant.begun c.loop-i-test.true
        (eq-eqb (get_or c.args.info.now c.loop-i.i 0) 44 w.if-byte-eq44.true) none
        ∙ c.loop-i.invariant.same)
    | else-byte-eq44 w ↦
        rw w.begun-is (piece_goes c.args.table.now c.args.info.now c.loop-i.begun c.loop-i.i
        c.loop-i.invariant.begun c.loop-i-test.true
        (not_true (get_or c.args.info.now c.loop-i.i 0 == 44)
        (λ h. w.if-byte-eq44.false
        ((Decides-eqb (get_or c.args.info.now c.loop-i.i 0) 44).0 h)))
        ∙ c.loop-i.invariant.same)
  ];
}

pub returns-then-is_some : goal.returns-then-is_some
returns-then-is_some c = grind (arith, common_steps)
