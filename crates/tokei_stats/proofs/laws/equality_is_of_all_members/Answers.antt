use Rattle.std.proofs.Common.{sym, ◌∙◌}
use Rattle.tokei_stats.proofs.Equality.{alike_if_equal, equal_if_alike}
use Rattle.tokei_stats.proofs.laws.equality_is_of_all_members.Goals as goal

pub returns : goal.returns
returns c = (λ h. alike_if_equal c.args.stats.now c.args.other.now (sym c.eq.ensures ∙ h), λ h. c.eq.ensures ∙ equal_if_alike c.args.stats.now c.args.other.now h)
