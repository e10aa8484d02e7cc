use Rattle.std.proofs.lemmas.Result.{err_from_is_err_and}
use Rattle.tokei_config.proofs.document.file_flags_in.Goals as goal

pub returns-in_err-hidden-clause-refused : goal.returns-in_err-hidden-clause-refused
returns-in_err-hidden-clause-refused c =
    let p = err_from_is_err_and c.from_residual.result c.from_residual.ensures.1 in
    rw (p.1, p.2) (λ s e behind. c.in_err-hidden.ensures.refused s e _)

pub returns-in_err-no_ignore-clause-refused : goal.returns-in_err-no_ignore-clause-refused
returns-in_err-no_ignore-clause-refused c =
    let p = err_from_is_err_and c.from_residual-in_err-no_ignore.result c.from_residual-in_err-no_ignore.ensures.1 in
    rw (p.1, p.2) (λ s e behind. rw (c.in_ok-hidden.ensures.is_read) (c.in_err-no_ignore.ensures.refused s e _))

pub returns-in_err-no_ignore_parent-clause-refused : goal.returns-in_err-no_ignore_parent-clause-refused
returns-in_err-no_ignore_parent-clause-refused c =
    let p = err_from_is_err_and c.from_residual-in_err-no_ignore_parent.result c.from_residual-in_err-no_ignore_parent.ensures.1 in
    rw (p.1, p.2) (λ s e behind. rw (c.in_ok-hidden.ensures.is_read, c.in_ok-no_ignore.ensures.is_read) (c.in_err-no_ignore_parent.ensures.refused s e _))

pub returns-in_err-no_ignore_dot-clause-refused : goal.returns-in_err-no_ignore_dot-clause-refused
returns-in_err-no_ignore_dot-clause-refused c =
    let p = err_from_is_err_and c.from_residual-in_err-no_ignore_dot.result c.from_residual-in_err-no_ignore_dot.ensures.1 in
    rw (p.1, p.2) (λ s e behind. rw (c.in_ok-hidden.ensures.is_read, c.in_ok-no_ignore.ensures.is_read, c.in_ok-no_ignore_parent.ensures.is_read) (c.in_err-no_ignore_dot.ensures.refused s e _))

pub returns-in_err-no_ignore_vcs-clause-refused : goal.returns-in_err-no_ignore_vcs-clause-refused
returns-in_err-no_ignore_vcs-clause-refused c =
    let p = err_from_is_err_and c.from_residual-in_err-no_ignore_vcs.result c.from_residual-in_err-no_ignore_vcs.ensures.1 in
    rw (p.1, p.2) (λ s e behind. rw (c.in_ok-hidden.ensures.is_read, c.in_ok-no_ignore.ensures.is_read, c.in_ok-no_ignore_parent.ensures.is_read, c.in_ok-no_ignore_dot.ensures.is_read)
    (c.in_err-no_ignore_vcs.ensures.refused s e _))

pub returns-clause-are_read : goal.returns-clause-are_read
returns-clause-are_read c = record {
  hidden = c.in_ok-hidden.ensures.is_read;
  no_ignore = c.in_ok-no_ignore.ensures.is_read;
  no_ignore_parent = c.in_ok-no_ignore_parent.ensures.is_read;
  no_ignore_dot = c.in_ok-no_ignore_dot.ensures.is_read;
  no_ignore_vcs = c.in_ok-no_ignore_vcs.ensures.is_read;
}
