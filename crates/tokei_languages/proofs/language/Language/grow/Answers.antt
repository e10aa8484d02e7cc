use Rattle.std.proofs.Common.{◌≡◌, rules, refl, sym, ap, ap₂, ◌∙◌, ◌++◌, ◌||◌, map, subst, length, take}
use Rattle.std.proofs.lemmas.List.{map-append}
use Rattle.tokei_stats.specs.Overflow.{CountsFit}
use Rattle.tokei_stats.specs.Statistics.{plus}
use Rattle.tokei_languages.specs.Seen.{children_of, language_of, report_of, reports_of}
use Rattle.tokei_languages.specs.TakenBack.{all_taken_back}
use Rattle.tokei_languages.specs.declared.language.Language.{Language}
use Rattle.tokei_languages.proofs.Refusals.{no_refusal}
use Rattle.tokei_languages.proofs.SameLanguage.{same_language}
use Rattle.tokei_languages.proofs.TakingBack.{first_of}
use Rattle.tokei_languages.proofs.language.Language.grow.Goals.{then-self, else-self}
use Rattle.tokei_languages.proofs.language.Language.grow.Goals as goal

grown : (c : goal.After-drop-reports-2) → c.append-2.new.self.items ≡ c.args.self.now.reports.items ++ c.args.other.reports.items
grown c =
    let one : c.append-2.new.self.items ≡ c.reserve.new.self.items ++ c.args.other.reports.items = rw c.unwrap.ensures at c.append-2.ensures.items in
    one ∙ ap (λ rs. rs ++ c.args.other.reports.items) c.in_ok-reserve.ensures.items

marked : (c : goal.After-drop-reports-2) → c.if-self.self ≡ (c.args.self.now.inaccurate || c.args.other.inaccurate)
marked c =
    let as_before = ap (λ (l : Language). l.inaccurate) c.put_counts.ensures in
    elim c.if-self.branch [
      | then-self w ↦ w.self-is ∙ w.if-self.true ∙ ap (λ b. b || c.args.other.inaccurate) (sym w.if-self.true ∙ as_before)
      | else-self w ↦ w.self-is ∙ ap (λ b. b || c.args.other.inaccurate) (sym w.if-self.false ∙ as_before)
    ]

pub returns-clause-ok : goal.returns-clause-ok
returns-clause-ok c =
    same_language _ _
    (ap (λ (l : Language). (language_of l).counts) c.put_counts.ensures ∙ c.in_ok-counts.ensures.ok ∙ ap₂ plus c.counts.ensures c.counts-2.ensures)
    (ap (λ (l : Language). reports_of l.reports) c.put_counts.ensures ∙ ap (map report_of) (grown c)
    ∙ map-append report_of c.args.self.now.reports.items c.args.other.reports.items)
    (ap (λ (l : Language). children_of l.children.entries) c.put_counts.ensures ∙ c.in_ok-append.ensures.ok)
    (marked c)

pub returns-clause-back : goal.returns-clause-back
returns-clause-back c =
    same_language _ _ refl
    (ap (λ (l : Language). take c.len-2.result (reports_of l.reports)) c.put_counts.ensures
    ∙ first_of c.args.self.now.reports c.append-2.new.self c.args.other.reports c.len-2.result (grown c)
    (ap length (sym c.in_ok-reserve.ensures.items) ∙ sym c.reserve.new.self.ok.0 ∙ sym c.len-2.ensures))
    (ap (λ (l : Language). all_taken_back (children_of l.children.entries) c.in_ok-append.field-0.items) c.put_counts.ensures ∙ c.in_ok-append.ensures.back)
    refl

pub returns-clause-fits : goal.returns-clause-fits
returns-clause-fits c =
    subst CountsFit (c.in_ok-counts.ensures.ok ∙ ap₂ plus c.counts.ensures c.counts-2.ensures)
    (record { blanks = search rules; code = search rules; comments = search rules })

pub returns-clause-overflow : goal.returns-clause-overflow
returns-clause-overflow c = λ e fits. no_refusal e

pub returns-clause-memory : goal.returns-clause-memory
returns-clause-memory c = λ e. absurd (no_refusal e)
