use Rattle.tokei_table_json.proofs.rows.put_texts.Goals as goal

pub returns-in-Extensions : goal.returns-in-Extensions
returns-in-Extensions c = λ html ds e. rw (c.in-Extensions.is, ← e)

pub returns-in-LineComment : goal.returns-in-LineComment
returns-in-LineComment c = λ html ds e. rw (c.in-LineComment.is, ← e)

pub returns-in-Env : goal.returns-in-Env
returns-in-Env c = λ html ds e. rw (c.in-Env.is, ← e)

pub returns-in-Filenames : goal.returns-in-Filenames
returns-in-Filenames c = λ html ds e. rw (c.in-Filenames.is, ← e)

pub returns-in-Shebangs : goal.returns-in-Shebangs
returns-in-Shebangs c = λ html ds e. rw (c.in-Shebangs.is, ← e)

pub returns-in-PathSuffixes : goal.returns-in-PathSuffixes
returns-in-PathSuffixes c = λ html ds e. rw (c.in-PathSuffixes.is, ← e)

pub returns-in-Mime : goal.returns-in-Mime
returns-in-Mime c = λ html ds e. rw (c.in-Mime.is, ← e)

pub returns-in-ImportantSyntax : goal.returns-in-ImportantSyntax
returns-in-ImportantSyntax c = λ html ds e. rw (c.in-ImportantSyntax.is, ← e)
