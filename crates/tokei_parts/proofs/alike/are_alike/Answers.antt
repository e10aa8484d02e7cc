use Rattle.std.proofs.lemmas.Bool.{false≢true}
use Rattle.tokei_table.specs.RowOf.{row_of}
use Rattle.tokei_parts.proofs.AlikeRows.{matchers_alike}
use Rattle.tokei_parts.proofs.alike.are_alike.Goals as goal

pub returns : goal.returns
returns c = λ h.
    matchers_alike (row_of c.args.one.now) (row_of c.args.other.now)
    (c.have_same_quotes.ensures c.if-not-have_same_quotes.false) (c.have_same_comments.ensures c.if-not-have_same_comments.false) (c.have_same_texts.ensures h)

pub returns-then-not-have_same_quotes : goal.returns-then-not-have_same_quotes
returns-then-not-have_same_quotes c = λ h. absurd (false≢true h)

pub returns-then-not-have_same_comments : goal.returns-then-not-have_same_comments
returns-then-not-have_same_comments c = λ h. absurd (false≢true h)
