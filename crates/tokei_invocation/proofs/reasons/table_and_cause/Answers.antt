-- The words are the sentence on a flaw that is there.
use Rattle.std.proofs.Common.{◌≡◌, ◌++◌, IfOk, codes, rules, string_bytes}
use Rattle.tokei_invocation.proofs.TableTold.{flaw_told}
use Rattle.tokei_table_json.specs.Sentences.{sentence_of}
use Rattle.tokei_invocation.proofs.reasons.table_and_cause.Goals as goal

pub returns-in-Some : goal.returns-in-Some
returns-in-Some c refused =
    let shown : IfOk c.format.result (λ text. string_bytes text ≡ c.args.place.now ++ (codes ": " ++ sentence_of c.in-Some.flaw)) = search rules in
    flaw_told c.args.place.now c.args.bytes.now c.in-Some.flaw c.format.result
    (record { cause = search rules; token = search rules; name = search rules; total = search rules; fallback = search rules }) shown
