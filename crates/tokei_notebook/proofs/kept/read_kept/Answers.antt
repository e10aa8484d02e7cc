use Rattle.std.proofs.Common.{◌≡◌, [], Some, option_and_then, sym, ap, ◌∙◌, rules}
use Rattle.json.specs.Json.{if_last, value}
use Rattle.json.specs.Lex.{tokens}
use Rattle.serde_json.specs.Read.{of_json, read}
use Rattle.tokei_json_tree.proofs.Unordered.{in_range}
use Rattle.tokei_notebook.proofs.kept.read_kept.Goals as goal

pub returns : goal.returns
returns c =
    let h = c.in_ok-tree.ensures in
    let text = c.args.text.now in
    let empty : c.read_notebook.new.reader ≡ [] = search rules in
    let whole_read : value 127 (tokens text) ≡ Some (h.whole, []) =
    ap (value 127) (sym c.in_ok-reader.ensures.ok) ∙ h.reads ∙ ap (λ ts. Some (h.whole, ts)) empty in
    let reads : read text ≡ of_json h.whole = ap (λ o. option_and_then of_json (option_and_then (λ p. if_last p.0 p.1) o)) whole_read in
    (h.whole, in_range h.whole (read text) reads h.passes, h.made)
