use Rattle.std.proofs.Common.{◌∷◌, ap, ◌∙◌}
use Rattle.std.proofs.lemmas.Result.{IfOk-weaker}
use Rattle.json.specs.Reads.{token_of}
use Rattle.tokei_table_json.proofs.Next.{text_next, if_some_weaker}
use Rattle.tokei_table_json.proofs.token_lists.next_text.Goals as goal

pub returns-in-Some-String : goal.returns-in-Some-String
returns-in-Some-String c =
    let s = c.in-Some-String in
    let first = s.ensures.value ∙ ap (λ t. token_of t ∷ c.next.new.self) s.field-0-is in
    IfOk-weaker c.known_text.result _ _
    (λ found. if_some_weaker found (λ text h. text_next s.text.now c.args.reader.now c.next.new.self _ first h.0 h.1)) c.known_text.ensures
