use Rattle.std.proofs.Common.{◌≡◌, false, subst, slice_index}
use Rattle.tokei_bytes.specs.ByteSets.{is_in}
use Rattle.tokei_parts.specs.Matchers.{Matchers}
use Rattle.tokei_parts.proofs.PlainBytes.{or_left, or_right}
use Rattle.tokei_parts.proofs.matchers.LanguageMatchers.comment_end.Goals as goal

pub returns-clause-none : goal.returns-clause-none
returns-clause-none c p low high =
    record {
      small = (c.type_inv.text p).fits;
      outside = subst (λ (m : Matchers). is_in m.begins_in_comment (slice_index c.args.text.now p) ≡ false) c.self.view_is (or_right _ _ (c.clear_end_with.ensures.passed p low high));
    }

pub returns-clause-open : goal.returns-clause-open
returns-clause-open c p low high = or_left _ _ (c.clear_end_with.ensures.passed p low high)
