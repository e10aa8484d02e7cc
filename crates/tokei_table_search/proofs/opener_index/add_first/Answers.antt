use Rattle.std.proofs.Common.{◌∙◌, ap, get_or, ◌||◌}
use Rattle.tokei_bytes.specs.OneOf.{is_one_of}
use Rattle.tokei_table_search.proofs.FirstBytes.{is_one_of-push, first_equals}
use Rattle.tokei_table_search.proofs.opener_index.add_first.Goals as goal

pub returns-in_ok-push-in-len1-up : goal.returns-in_ok-push-in-len1-up
returns-in_ok-push-in-len1-up c = λ x.
    ap (λ l. is_one_of l x) c.in_ok-push-in-len1-up.ensures.items
    ∙ is_one_of-push c.args.firsts.now.items (get_or c.args.opener.now 0 0) x
    ∙ ap (λ e. is_one_of c.args.firsts.now.items x || e) (first_equals c.args.opener.now x c.in-len1-up.len_at_least)
