use Rattle.std.proofs.Common.{◌++◌, string_bytes, ap, ◌∙◌, subst}
use Rattle.json.specs.Print.{print}
use Rattle.json.specs.Tree.{json_tokens}
use Rattle.serde_json.specs.Written.{outline}
use Rattle.serde_json.proofs.Texts.{print-outline}
use Rattle.tokei_json.specs.Document.{document}
use Rattle.tokei_json.specs.Tokens.{IsWritten}
use Rattle.tokei_json.proofs.Writing.{text_read}
use Rattle.tokei_languages.specs.Seen.{languages_of}
use Rattle.tokei_json.proofs.text.document_text.Goals as goal

pub text_of-requires : goal.text_of-requires
text_of-requires c = c.in_ok-write_document.ensures.before ∙ c.new-out.ensures.before ∙ c.new.ensures.items

pub returns : goal.returns
returns c =
    let d = document c.args.counted.now.table.now (languages_of c.args.counted.now.languages.now) in
    let w : IsWritten d c.new-out.result c.write_document.new.out = subst (λ e. IsWritten e c.new-out.result c.write_document.new.out) c.in_ok-members.ensures c.in_ok-write_document.ensures in
    let begun = w.tokens ∙ ap (λ ts. ts ++ json_tokens (outline d)) c.new-out.ensures.tokens in
    record {
      text = c.text_of.ensures.printed ∙ ap print begun ∙ print-outline d;
      reads_back = λ shallow. text_read d (string_bytes c.text_of.result) w.reads (c.text_of.ensures.reads_back ∙ begun) shallow;
    }
