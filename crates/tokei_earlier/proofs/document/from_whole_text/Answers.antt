use Rattle.std.proofs.Common.{◌≡◌, ◌≢◌, Ok, Err, IfErr, IfOk, sym, ap, ◌∙◌, subst}
use Rattle.std.proofs.lemmas.Result.{err_from_is_err_and}
use Rattle.tokei_languages.specs.Seen.{languages_of}
use Rattle.tokei_earlier.specs.declared.error.InputError.TheVariants.{Memory}
use Rattle.tokei_earlier.proofs.Texts.{float_refused, text_of_tree, unread_refused}
use Rattle.tokei_earlier.proofs.document.from_whole_text.Goals as goal

pub returns-then-reading-clause-refused : goal.returns-then-reading-clause-refused
returns-then-reading-clause-refused c =
    let rows = c.args.table.now in
    let read = c.in_ok-reading in
    λ _. text_of_tree rows c.args.text.now _ c.requires read.ensures.tree ∙ float_refused rows _ (sym read.ensures.fraction ∙ c.if-reading.true)

pub returns : goal.returns
returns c =
    let told = sym (text_of_tree c.args.table.now c.args.text.now _ c.requires c.in_ok-reading.ensures.tree) in
    let outcome = c.from_tree.ensures in
    record {
      languages = subst (λ o. IfOk c.from_tree.result (λ ls. o ≡ Ok (languages_of ls))) told outcome.languages;
      refused = subst (λ o. IfErr c.from_tree.result (λ e. (e ≢ Memory) → o ≡ Err e)) told outcome.refused;
      not_unreadable = outcome.not_unreadable;
      not_too_long = outcome.not_too_long;
      not_overflow = outcome.not_overflow;
    }

pub returns-in_err-reading-clause-refused : goal.returns-in_err-reading-clause-refused
returns-in_err-reading-clause-refused c =
    let p = err_from_is_err_and c.from_residual.result c.from_residual.ensures.1 in
    rw (p.1, p.2) (λ other.
    let unread = c.in_err-reading.ensures.refused other in
    unread_refused c.args.table.now c.args.text.now c.requires unread.1 ∙ ap Err (sym unread.0))
