use Rattle.std.proofs.Common.{◌≡◌, ℕ, List, [], ◌∷◌, ◌++◌, ◌&&◌, true, false, sym, ap, ◌∙◌}
use Rattle.tokei_folders.specs.Ends.{ends_in}
use Rattle.tokei_ignore.specs.Trims.{is_escaped, trimmed}
use Rattle.tokei_ignore.proofs.LineEnds.{dropped_one, shorter_by_one, trimmed_by, first_of, second_of}
use Rattle.tokei_ignore.proofs.ends.trimmed.Goals as goal

pub loop-spaces-preserved : goal.loop-spaces-preserved
loop-spaces-preserved c =
    let ends : ends_in 32 c.loop-spaces.chars ≡ true = ap (ends_in 32) (sym c.as_slice.ensures) ∙ sym c.loop-spaces-test.ensures in
    dropped_one c.loop-spaces.chars c.drop_last.new.self c.args.chars ends c.drop_last.ensures c.loop-spaces.invariant.0 c.loop-spaces.invariant.2

pub returns-then-not-keeps_space : goal.returns-then-not-keeps_space
returns-then-not-keeps_space c =
    let cs = c.loop-spaces.chars in
    let ends : ends_in 32 cs ≡ false = ap (ends_in 32) (sym c.as_slice.ensures) ∙ sym c.loop-spaces-test.ensures in
    let quoted : (c.loop-spaces.spaces && is_escaped false cs) ≡ false =
    ap (λ (ds : List ℕ). c.loop-spaces.spaces && is_escaped false ds) (sym c.as_slice-2.ensures)
    ∙ sym c.keeps_space.ensures ∙ c.if-not-keeps_space.true in
    second_of (c.loop-spaces.spaces && is_escaped false cs) (cs ++ 32 ∷ []) cs
    (trimmed c.args.chars) quoted
    (trimmed_by cs c.args.chars c.loop-spaces.spaces ends c.loop-spaces.invariant.0
    c.loop-spaces.invariant.1)

pub returns : goal.returns
returns c =
    let cs = c.loop-spaces.chars in
    let ends : ends_in 32 cs ≡ false = ap (ends_in 32) (sym c.as_slice.ensures) ∙ sym c.loop-spaces-test.ensures in
    let quoted : (c.loop-spaces.spaces && is_escaped false cs) ≡ true =
    ap (λ (ds : List ℕ). c.loop-spaces.spaces && is_escaped false ds) (sym c.as_slice-2.ensures)
    ∙ sym c.keeps_space.ensures ∙ c.if-not-keeps_space.false in
    c.in_ok-push.ensures.ok
    ∙ first_of (c.loop-spaces.spaces && is_escaped false cs) (cs ++ 32 ∷ []) cs
    (trimmed c.args.chars) quoted
    (trimmed_by cs c.args.chars c.loop-spaces.spaces ends c.loop-spaces.invariant.0
    c.loop-spaces.invariant.1)

pub loop-spaces-smaller : goal.loop-spaces-smaller
loop-spaces-smaller c =
    let ends : ends_in 32 c.loop-spaces.chars ≡ true = ap (ends_in 32) (sym c.as_slice.ensures) ∙ sym c.loop-spaces-test.ensures in
    shorter_by_one c.loop-spaces.chars c.drop_last.new.self ends c.drop_last.ensures
