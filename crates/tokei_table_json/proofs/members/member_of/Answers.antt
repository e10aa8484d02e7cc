use Rattle.std.proofs.Common.{sym, ap}
use Rattle.tokei_table_json.specs.Members.{member_of}
use Rattle.tokei_table_json.proofs.members.member_of.Goals as goal

pub returns-in-extensions : goal.returns-in-extensions
returns-in-extensions c = sym (ap member_of c.in-extensions.is)

pub returns-in-line_comment : goal.returns-in-line_comment
returns-in-line_comment c = sym (ap member_of c.in-line_comment.is)

pub returns-in-multi_line_comments : goal.returns-in-multi_line_comments
returns-in-multi_line_comments c = sym (ap member_of c.in-multi_line_comments.is)

pub returns-in-quotes : goal.returns-in-quotes
returns-in-quotes c = sym (ap member_of c.in-quotes.is)

pub returns-in-name : goal.returns-in-name
returns-in-name c = sym (ap member_of c.in-name.is)

pub returns-in-verbatim_quotes : goal.returns-in-verbatim_quotes
returns-in-verbatim_quotes c = sym (ap member_of c.in-verbatim_quotes.is)

pub returns-in-nested : goal.returns-in-nested
returns-in-nested c = sym (ap member_of c.in-nested.is)

pub returns-in-env : goal.returns-in-env
returns-in-env c = sym (ap member_of c.in-env.is)

pub returns-in-filenames : goal.returns-in-filenames
returns-in-filenames c = sym (ap member_of c.in-filenames.is)

pub returns-in-shebangs : goal.returns-in-shebangs
returns-in-shebangs c = sym (ap member_of c.in-shebangs.is)

pub returns-in-doc_quotes : goal.returns-in-doc_quotes
returns-in-doc_quotes c = sym (ap member_of c.in-doc_quotes.is)

pub returns-in-path_suffixes : goal.returns-in-path_suffixes
returns-in-path_suffixes c = sym (ap member_of c.in-path_suffixes.is)

pub returns-in-literate : goal.returns-in-literate
returns-in-literate c = sym (ap member_of c.in-literate.is)

pub returns-in-mime : goal.returns-in-mime
returns-in-mime c = sym (ap member_of c.in-mime.is)

pub returns-in-blank : goal.returns-in-blank
returns-in-blank c = sym (ap member_of c.in-blank.is)

pub returns-in-kind : goal.returns-in-kind
returns-in-kind c = sym (ap member_of c.in-kind.is)

pub returns-in-contexts : goal.returns-in-contexts
returns-in-contexts c = sym (ap member_of c.in-contexts.is)

pub returns-in-important_syntax : goal.returns-in-important_syntax
returns-in-important_syntax c = sym (ap member_of c.in-important_syntax.is)

pub returns-in-nested_comments : goal.returns-in-nested_comments
returns-in-nested_comments c = sym (ap member_of c.in-nested_comments.is)
