use Rattle.std.proofs.Common.{◌≡◌, false, subst, slice_index}
use Rattle.tokei_bytes.specs.ByteSets.{is_in}
use Rattle.tokei_parts.specs.Matchers.{Matchers}
use Rattle.tokei_parts.proofs.matchers.LanguageMatchers.plain_end.Goals as goal

pub returns-clause-none : goal.returns-clause-none
returns-clause-none c p low high =
    record {
      small = (c.type_inv.text p).fits;
      outside = subst (λ (m : Matchers). is_in m.begins (slice_index c.args.text.now p) ≡ false) c.self.view_is (c.clear_end.ensures.passed p low high);
    }
