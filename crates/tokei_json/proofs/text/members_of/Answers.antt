use Rattle.std.proofs.Common.{◌≡◌, codes, refl, sym, ap, ◌∙◌, rules}
use Rattle.serde_json.specs.Data.{no_members, object, put}
use Rattle.tokei_languages.specs.Names.{name_in}
use Rattle.tokei_json.specs.Document.{document, named_data, language_data}
use Rattle.tokei_json.specs.Members.{member_data}
use Rattle.tokei_json.specs.Tokens.{members_by}
use Rattle.tokei_json.specs.declared.text.Member.TheVariants.{Total, Language}
use Rattle.tokei_json.proofs.Naming.{seen_by, insert_seen, insert_member}
use Rattle.tokei_languages.specs.Seen.{entries_of, language_of, languages_of}
use Rattle.tokei_languages.specs.Summaries.{total_of}
use Rattle.tokei_json.proofs.text.members_of.Goals as goal

pub loop-language-preserved : goal.loop-language-preserved
loop-language-preserved c =
    let l = c.loop-language in
    let rows = c.args.counted.now.table.now in
    let data_of = member_data rows (languages_of c.args.counted.now.languages.now) in
    let here = seen_by (λ x. x) l.members.entries in
    let called : c.name_of.result.now ≡ name_in rows c.in-Some.language.now = search rules in
    let put_here : members_by data_of (seen_by (λ x. x) c.insert.new.self.entries)
    ≡ put (name_in rows c.in-Some.language.now) (language_data rows (language_of c.in-Some.value.now)) (members_by data_of here) =
    ap (λ es. members_by data_of (seen_by (λ x. x) es)) c.in-Ok.ensures.entries
    ∙ ap (members_by data_of) (insert_seen (λ x. x) l.members.entries c.name_of.result (Language c.in-Some.value))
    ∙ insert_member data_of here c.name_of.result.now (Language c.in-Some.value) ∙ rw called refl in
    l.invariant
    ∙ ap (λ es. named_data rows (language_data rows) (entries_of es) (members_by data_of here)) c.in-Some.ensures.steps
    ∙ ap (named_data rows (language_data rows) (entries_of c.next.new.self)) (sym put_here)

pub returns-in-Ok-insert : goal.returns-in-Ok-insert
unfolding document
returns-in-Ok-insert c =
    let l = c.loop-language in
    let rows = c.args.counted.now.table.now in
    let es = languages_of c.args.counted.now.languages.now in
    let data_of = member_data rows es in
    let here = seen_by (λ x. x) l.members.entries in
    let all = l.invariant ∙ ap (λ fs. named_data rows (language_data rows) (entries_of fs) (members_by data_of here)) c.in-None.ensures.steps.0 in
    ap (λ fs. object (members_by data_of (seen_by (λ x. x) fs))) c.in-Ok-insert.ensures.entries
    ∙ ap (λ fs. object (members_by data_of fs)) (insert_seen (λ x. x) l.members.entries _ Total)
    ∙ ap object (insert_member data_of here (codes "Total") Total)
    ∙ ap (λ ms. object (put (codes "Total") (language_data rows (total_of es)) ms)) (sym all)

pub loop-language-init : goal.loop-language-init
loop-language-init c =
    let rows = c.args.counted.now.table.now in
    let data_of = member_data rows (languages_of c.args.counted.now.languages.now) in
    ap (λ es. named_data rows (language_data rows) es no_members) (sym c.iter-language-items.ensures.entries)
    ∙ ap (λ es. named_data rows (language_data rows) (entries_of es) no_members) (sym c.into_iter-language-iterator.ensures.into_iter_gives)
    ∙ ap (λ es. named_data rows (language_data rows) (entries_of c.into_iter-language-iterator.result) (members_by data_of (seen_by (λ x. x) es)))
    (sym c.new-members.ensures.empty)
