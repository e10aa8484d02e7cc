use Rattle.std.proofs.Common.{◌∙◌, sym}
use Rattle.tokei_invocation.proofs.FirstMissing.{empty_missing}
use Rattle.tokei_invocation.proofs.found.check_root.Goals as goal

pub returns-then-is_empty-clause-cause : goal.returns-then-is_empty-clause-cause
returns-then-is_empty-clause-cause g c t told =
    empty_missing t c.args.root.now _ (sym c.is_empty.ensures ∙ c.if-is_empty.true) c.new.ensures.bytes
