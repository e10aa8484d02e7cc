-- The builders make the rule of the row, member by member.
use Rattle.std.proofs.Common.{◌≡◌, ◌∙◌, Bool, None, Some, ap, ap₂, rules, sym, true}
use Rattle.std.proofs.lemmas.Result.{IfOk-weaker}
use Rattle.clap.specs.Words.{Rule, new_rule}
use Rattle.tokei_cli.specs.Options.{local, rule_of_row, ruled}
use Rattle.tokei_cli.proofs.Building.{freed, parsed_is, with_letter, with_parser}
use Rattle.tokei_cli.proofs.options.OptionRow.option.Goals as goal
use Rattle.tokei_cli.proofs.options.OptionRow.option.Goals.{in-Some, in_default, in-Some-parser, in_default-parser}

pub returns : goal.returns
returns c =
    let row = c.args.self.now in
    let new : ruled c.new.result ≡ local (new_rule row.id.now) =
    ap₂ (λ r g. (r, g)) c.new.ensures.rule c.new.ensures.optional.1 in
    let long : ruled c.long.result ≡ local (record (new_rule row.id.now) { long = Some row.long.now }) =
    ap ruled c.long.ensures ∙ ap (λ (p : Rule × Bool). (record p.0 { long = Some row.long.now }, p.1)) new in
    let named : ruled c.help-option.result
    ≡ local (record (new_rule row.id.now) { long = Some row.long.now; action = Some row.action }) =
    ap ruled c.help-option.ensures ∙ ap ruled c.action.ensures
    ∙ ap (λ (p : Rule × Bool). (record p.0 { action = Some row.action }, p.1)) long in
    let lettered : ruled c.match-self.option ≡ with_letter row.letter (ruled c.help-option.result) =
    elim c.match-self.branch [
      | in-Some w ↦
          let letter : Some w.in-Some.letter ≡ row.letter = search rules in
          ap ruled w.option-is ∙ ap ruled w.short-option.ensures
          ∙ ap (λ l. with_letter l (ruled c.help-option.result)) letter
      | in_default w ↦
          let letter : None ≡ row.letter = search rules in
          ap ruled w.option-is ∙ named ∙ ap₂ with_letter letter (sym named)
    ] in
    let parsed : ruled c.match-self-2.option ≡ with_parser row.parser (ruled c.match-self.option) =
    elim c.match-self-2.branch [
      | in-Some-parser w ↦
          let parser : w.value_parser-option.result.value_parser ≡ row.parser = search rules in
          ap ruled w.option-is
          ∙ parsed_is c.match-self.option w.value_parser-option.result row.parser w.value_parser-option.ensures.others parser
      | in_default-parser w ↦
          let parser : None ≡ row.parser = search rules in
          ap ruled w.option-is ∙ (lettered ∙ ap (with_letter row.letter) named)
          ∙ ap₂ with_parser parser (sym (lettered ∙ ap (with_letter row.letter) named))
    ] in
    let made : ruled c.match-self-2.option ≡ local (record (rule_of_row row) { is_free = true }) =
    parsed ∙ ap (with_parser row.parser) (lettered ∙ ap (with_letter row.letter) named) in
    IfOk-weaker c.conflicts_with_all.result _ _
    (λ r given. freed c.match-self-2.option r row.others.now (rule_of_row row) made given) c.conflicts_with_all.ensures
