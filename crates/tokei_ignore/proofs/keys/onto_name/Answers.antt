use Rattle.std.proofs.Common.{◌∙◌, sym, ap, subst, IsUtf8}
use Rattle.tokei_ignore.specs.Keys.{onto_bytes}
use Rattle.tokei_ignore.proofs.KeysTell.{name_onto}
use Rattle.tokei_ignore.proofs.keys.onto_name.Goals as goal

pub returns : goal.returns
returns c =
    c.onto_bytes.ensures ∙ ap (onto_bytes c.args.dots c.args.key) (c.as_bytes.ensures.value ∙ c.as_str.ensures)
    ∙ sym (name_onto c.args.dots c.args.key c.args.name.now (subst IsUtf8 c.as_str.ensures c.as_str.utf8))
