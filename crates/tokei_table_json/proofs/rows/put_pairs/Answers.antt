use Rattle.tokei_table_json.proofs.rows.put_pairs.Goals as goal

pub returns-in-MultiLineComments : goal.returns-in-MultiLineComments
returns-in-MultiLineComments c = λ html ds e. rw (c.in-MultiLineComments.is, ← e)

pub returns-in-Quotes : goal.returns-in-Quotes
returns-in-Quotes c = λ html ds e. rw (c.in-Quotes.is, ← e)

pub returns-in-VerbatimQuotes : goal.returns-in-VerbatimQuotes
returns-in-VerbatimQuotes c = λ html ds e. rw (c.in-VerbatimQuotes.is, ← e)

pub returns-in-DocQuotes : goal.returns-in-DocQuotes
returns-in-DocQuotes c = λ html ds e. rw (c.in-DocQuotes.is, ← e)

pub returns-in-NestedComments : goal.returns-in-NestedComments
returns-in-NestedComments c = λ html ds e. rw (c.in-NestedComments.is, ← e)
