use Rattle.std.proofs.Common.{◌≡◌, ℕ, List, [], Bor, OnOk, option_map, refl, ap, subst, ◌∙◌}
use Rattle.std.specs.Io.KnownBytes.{Appends}
use Rattle.std.specs.Prelude.{Option, None, Some, unwrap_or}
use Rattle.tokei_print.specs.NameSection.{name_section, prefix_of}
use Rattle.tokei_print.proofs.printer.Printer.print_language_name.Goals as goal

prefix_text : (p : Option (Bor (List ℕ))) (none : Bor (List ℕ)) → none.now ≡ []
    → (unwrap_or p none).now ≡ prefix_of (option_map (λ (q : Bor (List ℕ)). q.now) p)
prefix_text None none e = e
prefix_text (Some q) none e = refl

pub returns-clause-bytes : goal.returns-clause-bytes
returns-clause-bytes g c =
    subst (λ t. OnOk c.put.result (Appends (g.W.Sink.contents c.args.self.now.writer) (g.W.Sink.contents c.put.new.writer) t))
    (c.as_bytes.ensures.value ∙ c.in_ok-text.ensures
    ∙ ap (name_section c.args.self.now.layout.columns c.args.inaccurate c.args.name.now)
    (ap (λ r. r.now) c.unwrap_or-prefix.ensures ∙ prefix_text c.args.prefix _ refl))
    c.put.ensures.bytes

pub returns-clause-faults : goal.returns-clause-faults
returns-clause-faults g c = c.put.ensures.faults

pub returns-clause-overflow : goal.returns-clause-overflow
returns-clause-overflow g c = c.put.ensures.overflow
