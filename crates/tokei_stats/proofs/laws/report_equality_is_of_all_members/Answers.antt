use Rattle.std.proofs.Common.{◌≡◌, Bool, true, ◌&&◌, string_bytes, string_eq, sym, ◌∙◌}
use lib.Pointwise.{bytes_decides}
use Rattle.tokei_stats.proofs.Equality.{equal, alike_if_equal, equal_if_alike, both_true, first_of_both, second_of_both}
use Rattle.tokei_stats.proofs.laws.report_equality_is_of_all_members.Goals as goal

pub returns : goal.returns
returns c =
    let report = c.args.report.now in
    let other = c.args.other.now in
    let stats : Bool = equal report.stats other.stats in
    let name : Bool = string_eq report.name other.name in
    let names = bytes_decides (string_bytes report.name) (string_bytes other.name) in (
      λ h. let both : (stats && name) ≡ true = sym c.eq.ensures ∙ h in
          (alike_if_equal report.stats other.stats (first_of_both stats name both), names.0 (second_of_both stats name both)),
      λ h. c.eq.ensures ∙ both_true stats name (equal_if_alike report.stats other.stats h.0) (names.1 h.1),
    )
