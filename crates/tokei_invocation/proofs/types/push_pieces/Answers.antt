-- The pieces are those between commas.
use Rattle.std.proofs.Common.{[], ◌∷◌, ◌++◌, ℕ, List, Bor, filter, map, lit<, ap, append_assoc, sym, ◌∙◌}
use Rattle.std.proofs.lemmas.List.{map-append}
use Rattle.std.proofs.lemmas.Iterator.Consumers.{YieldsList-end}
use Rattle.std.proofs.lemmas.Iterator.Splits.{YieldsList-from_str_split}
use Rattle.tokei_invocation.proofs.Taken.{filter_drops, filter_keeps}
use Rattle.tokei_invocation.specs.Types.{is_unnamed, piece_line}
use Rattle.tokei_invocation.proofs.types.push_pieces.Goals as goal

pub returns : goal.returns
returns c =
    let t = YieldsList-end (YieldsList-from_str_split 44 c.args.word.now (lit< tt) (cc) (cc) (cc)) c.loop-piece.yielded _ c.loop-piece.yielded_by _ _ c.in-None.is c.next.ensures.steps in
    c.loop-piece.invariant ∙ ap (λ r. c.args.lines.now ++ map piece_line (filter (is_unnamed c.args.table.now) r)) t.0

abbrev text : Bor (List ℕ) → List ℕ
text piece = piece.now

pub loop-piece-preserved : goal.loop-piece-preserved
loop-piece-preserved c =
    let unnamed = is_unnamed c.args.table.now in
    let pieces = c.loop-piece.yielded in
    let piece = c.in-Some.piece in
    c.loop-piece.invariant ∙ ap (λ r. c.args.lines.now ++ map piece_line r)
    (sym (filter_drops unnamed (map text pieces) piece.now (sym c.is_unnamed.ensures ∙ c.if-is_unnamed.false))
    ∙ ap (filter unnamed) (sym (map-append text pieces (piece ∷ []))))

pub loop-piece-preserved-in-Continue-1 : goal.loop-piece-preserved-in-Continue-1
loop-piece-preserved-in-Continue-1 c =
    let unnamed = is_unnamed c.args.table.now in
    let pieces = c.loop-piece.yielded in
    let piece = c.in-Some.piece in
    let lines = c.args.lines.now in
    let before = filter unnamed (map text pieces) in
    c.in_ok-push_piece.ensures ∙ ap (λ ls. ls ++ piece_line piece.now ∷ []) c.loop-piece.invariant
    ∙ append_assoc lines (map piece_line before) (piece_line piece.now ∷ []) ∙ ap (λ r. lines ++ r) (sym (map-append piece_line before (piece.now ∷ [])))
    ∙ ap (λ r. lines ++ map piece_line r) (sym (filter_keeps unnamed (map text pieces) piece.now (sym c.is_unnamed.ensures ∙ c.if-is_unnamed.true))
    ∙ ap (filter unnamed) (sym (map-append text pieces (piece ∷ []))))
