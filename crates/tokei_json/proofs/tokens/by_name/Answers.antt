use Rattle.std.proofs.Common.{◌≡◌, [], sym, ap, ◌∙◌, refl, nat_cmp, rules}
use Rattle.std.specs.BTreeMap.{insert_entry}
use Rattle.std.specs.Cmp.Lexicographic.{slice_cmp}
use Rattle.tokei_languages.specs.Names.{name_in}
use Rattle.tokei_json.specs.Tokens.{named}
use Rattle.tokei_json.proofs.Naming.{now_of, seen_by, insert_seen}
use Rattle.tokei_json.proofs.tokens.by_name.Goals as goal

pub loop-language-preserved : goal.loop-language-preserved
loop-language-preserved g c =
    let l = c.loop-language in
    let rows = c.args.table.now in
    let here = seen_by now_of l.members.entries in
    let called : c.name_of.result.now ≡ name_in rows c.in-Some.language.now = search rules in
    let put_here : seen_by now_of c.insert.new.self.entries ≡ insert_entry (slice_cmp nat_cmp) here (name_in rows c.in-Some.language.now) c.in-Some.value.now =
    ap (seen_by now_of) c.in-Ok.ensures.entries ∙ insert_seen now_of l.members.entries c.name_of.result c.in-Some.value ∙ rw called refl in
    l.invariant
    ∙ ap (λ es. named rows es here) c.in-Some.ensures.steps
    ∙ ap (named rows c.next.new.self) (sym put_here)

pub loop-language-init : goal.loop-language-init
loop-language-init g c =
    let rows = c.args.table.now in
    ap (λ es. named rows es []) (sym c.into_iter-language-iterator.ensures.into_iter_gives)
    ∙ ap (λ es. named rows c.into_iter-language-iterator.result (seen_by now_of es)) (sym c.new-members.ensures.empty)

pub returns : goal.returns
returns g c =
    let l = c.loop-language in
    sym (l.invariant ∙ ap (λ es. named c.args.table.now es (seen_by now_of l.members.entries)) c.in-None.ensures.steps.0)
