use Rattle.tokei_table_json.proofs.rows.put_truth.Goals as goal

pub returns-in-Nested : goal.returns-in-Nested
returns-in-Nested c = λ html. rw c.in-Nested.is

pub returns-in-Literate : goal.returns-in-Literate
returns-in-Literate c = λ html. rw c.in-Literate.is

pub returns-in-Blank : goal.returns-in-Blank
returns-in-Blank c = λ html. rw c.in-Blank.is
