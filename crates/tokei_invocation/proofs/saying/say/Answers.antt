-- What is said where there is no memory for a line.
use Rattle.std.proofs.Common.{◌≡◌, ◌∙◌, OnOk, arith, rules, subst}
use Rattle.std.specs.Io.KnownBytes.{Appends}
use Rattle.tokei_io.proofs.Printing.{printing_counts}
use Rattle.tokei_invocation.proofs.Messages.{line_is_said, no_memory_of, no_memory_said, said_of}
use Rattle.tokei_invocation.specs.Messages.{SaysOf}
use Rattle.tokei_invocation.specs.declared.saying.TheConstants.{NO_MEMORY}
use Rattle.tokei_invocation.proofs.saying.say.Goals as goal

pub returns-in-Err-clause-said : goal.returns-in-Err-clause-said
returns-in-Err-clause-said g c one = grind (arith, printing_counts, no_memory_said)

pub returns-in-Err-clause-told : goal.returns-in-Err-clause-told
returns-in-Err-clause-told g c =
    let old = g.E.Sink.contents c.args.err.now in
    let new = g.E.Sink.contents c.put-in-Err.new.writer in
    let text : c.as_bytes-in-Err.result.now ≡ NO_MEMORY.now = search rules in
    no_memory_of c.put-in-Err.result old new (SaysOf c.args.ending.now old new)
    (subst (λ t. OnOk c.put-in-Err.result (Appends old new t)) text c.put-in-Err.ensures.bytes)

pub returns-in-Ok-clause-told : goal.returns-in-Ok-clause-told
returns-in-Ok-clause-told g c =
    said_of c.put-in-Ok.result (g.E.Sink.contents c.args.err.now) (g.E.Sink.contents c.put-in-Ok.new.writer) c.args.ending.now c.as_bytes-in-Ok.result.now
    (c.as_bytes-in-Ok.ensures.value ∙ c.in-Ok.ensures.told ∙ line_is_said c.args.ending.now c.in_default.not-Refused c.in_default.not-Input)
    c.put-in-Ok.ensures.bytes
