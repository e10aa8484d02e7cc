-- What is said where earlier results are refused.
use Rattle.std.proofs.Common.{◌≡◌, OnOk, arith, rules, subst}
use Rattle.std.specs.Io.KnownBytes.{Appends}
use Rattle.tokei_cli.specs.Printing.{failure_text}
use Rattle.tokei_invocation.proofs.Messages.{no_memory_of, no_memory_said, refused_input_said}
use Rattle.tokei_invocation.specs.declared.saying.TheConstants.{NO_MEMORY}
use Rattle.tokei_invocation.proofs.saying.say_refused_input.Goals as goal

pub returns-in-Ok-clause-said : goal.returns-in-Ok-clause-said
returns-in-Ok-clause-said g c = refused_input_said (g.E.Sink.contents c.args.err.now) (g.E.Sink.contents c.print_input_parse_failure.new.writer) c.args.name.now c.in-Ok.ensures.bytes

pub returns-in-Err-Memory-clause-said : goal.returns-in-Err-Memory-clause-said
returns-in-Err-Memory-clause-said g c = grind (arith, no_memory_said)

pub returns-in-Err-Memory-clause-told : goal.returns-in-Err-Memory-clause-told
returns-in-Err-Memory-clause-told g c =
    let old = g.E.Sink.contents c.args.err.now in
    let new = g.E.Sink.contents c.put.new.writer in
    let same : c.print_input_parse_failure.new.writer ≡ c.args.err.now = search rules in
    let text : c.as_bytes.result.now ≡ NO_MEMORY.now = search rules in
    no_memory_of c.put.result old new (Appends old new (failure_text c.args.name.now))
    (subst (λ w. OnOk c.put.result (Appends (g.E.Sink.contents w) new NO_MEMORY.now)) same
    (subst (λ t. OnOk c.put.result (Appends (g.E.Sink.contents c.print_input_parse_failure.new.writer) new t)) text c.put.ensures.bytes))
