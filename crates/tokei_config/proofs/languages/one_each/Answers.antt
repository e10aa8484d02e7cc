use Rattle.std.proofs.Common.{◌≡◌, ◌∷◌, ◌∙◌, [], Some, None, cond, false, refl, ap, sym, arith, rules, fold}
use Rattle.std.proofs.lemmas.List.{nil_from_length}
use Rattle.std.specs.Vec.Iter.{into_iter_items}
use Rattle.tokei_config.specs.Languages.{named_twice, in_table_order}
use Rattle.tokei_config.specs.Seen.{additions_of, extensions_of}
use Rattle.tokei_config.proofs.InOrder.{placed, placed-seen, clash, clash-none, clash-put}
use Rattle.tokei_config.proofs.languages.one_each.Goals as goal

pub loop-language-preserved : goal.loop-language-preserved
loop-language-preserved c =
    let steps : into_iter_items c.loop-language.language-iterator ≡ (c.in-Some.language, c.in-Some.config) ∷ into_iter_items c.next.new.self = search rules in
    record {
      order = c.loop-language.invariant.order
          ∙ ap (λ es. fold placed (additions_of c.loop-language.languages.entries) (additions_of es)) steps
          ∙ ap (λ es. fold placed es (additions_of (into_iter_items c.next.new.self)))
          (sym (ap additions_of c.in_ok-put.ensures.entries ∙ placed-seen c.loop-language.languages.entries c.in-Some.language c.in-Some.config));
      clashes = c.loop-language.invariant.clashes
          ∙ ap (λ es. clash c.loop-language.languages.entries (additions_of es)) steps
          ∙ clash-put c.loop-language.languages.entries c.put.new.languages.entries c.in-Some.language c.in-Some.config (extensions_of c.in-Some.config)
          (additions_of (into_iter_items c.next.new.self)) (sym c.in_ok-put.ensures.was_there ∙ c.if-branch.false) c.in_ok-put.ensures.updates.0;
    }

pub loop-language-init : goal.loop-language-init
loop-language-init c =
    let all : into_iter_items c.into_iter-language-iterator.result ≡ c.args.found.items = search rules in
    let none : c.new-languages.result.entries ≡ [] = c.new-languages.ensures.empty in
    record {
      order = rw (all, none) refl;
      clashes = rw (all, none) (sym (clash-none (additions_of c.args.found.items)));
    }

pub returns : goal.returns
returns c =
    let none = nil_from_length (into_iter_items c.loop-language.language-iterator) (omega (arith, c.in-None.ensures.steps.0)) in
    let order = c.loop-language.invariant.order ∙ ap (λ es. fold placed (additions_of c.loop-language.languages.entries) (additions_of es)) none in
    let clashes : named_twice (additions_of c.args.found.items) ≡ false = c.loop-language.invariant.clashes ∙ ap (λ es. clash c.loop-language.languages.entries (additions_of es)) none in
    ap (λ twice. cond twice None (Some (in_table_order (additions_of c.args.found.items)))) clashes ∙ ap (λ es. Some es) order
