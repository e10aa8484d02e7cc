-- A loop that adds up counts: the sum so far, and what is left.
use Rattle.std.proofs.Common.{◌≡◌, ℕ, ◌+◌, ◌<◌, ◌≤◌, List, [], ◌∷◌, map, drop, get_or, length, sym, ap, ◌∙◌, subst}
use Rattle.std.proofs.lemmas.List.{at_drop_more, at_drop_all}
use Rattle.tokei_stats.specs.Statistics.{Counts, plus, no_lines}
use Rattle.tokei_stats.specs.Overflow.{CountsFit}
use Rattle.tokei_stats.proofs.Fitting.{counts-left, counts-right}
use Rattle.tokei_stats.proofs.SumLaws.{plus_associates, plus_none}
use Rattle.tokei_stats.specs.declared.report.Report.{Report}
use Rattle.tokei_languages.specs.Seen.{report_of}
use Rattle.tokei_languages.specs.Values.{ReportValue}

-- the next counts go from what is left to the sum
pub added : (a b s rest all : Counts) → s ≡ plus a b → plus a (plus b rest) ≡ all → plus s rest ≡ all
added a b s rest all e h = ap (λ n. plus n rest) e ∙ plus_associates a b rest ∙ h

-- where the sum with the next counts doesn't fit, the whole doesn't
pub past : (a b m rest all : Counts) → m ≡ b → (CountsFit (plus a m) → ⊥) → plus a (plus b rest) ≡ all → CountsFit all → ⊥
past a b m rest all e n h f =
    n (subst (λ k. CountsFit (plus a k)) (sym e) (counts-left (plus a b) rest (subst CountsFit (sym h ∙ sym (plus_associates a b rest)) f)))

-- nor where the next counts don't fit
pub past_next : (a b rest all : Counts) → (CountsFit b → ⊥) → plus a (plus b rest) ≡ all → CountsFit all → ⊥
past_next a b rest all n h f = n (counts-left b rest (counts-right a (plus b rest) (subst CountsFit (sym h) f)))

-- the sums of what is left of reports
module _ (sum_of : List ReportValue → Counts) (a : Counts) (rs : List Report) (i : ℕ) (all : Counts) where
  abbrev Left : Type 0
  Left = plus a (sum_of (map report_of (drop i rs))) ≡ all

  -- a report is left
  pub next : Left → (r : Report) → i < length rs → r ≡ get_or rs i r → plus a (sum_of (map report_of (r ∷ drop (i + 1) rs))) ≡ all
  next h r l is =
      ap (λ x. plus a (sum_of (map report_of (x ∷ drop (i + 1) rs)))) is
      ∙ sym (at_drop_more (λ es. plus a (sum_of (map report_of es))) rs i r l) ∙ h

  -- none is left
  pub done : Left → sum_of [] ≡ no_lines → length rs ≤ i → a ≡ all
  done h none l =
      sym (plus_none a) ∙ ap (plus a) (sym none)
      ∙ sym (at_drop_all (λ es. plus a (sum_of (map report_of es))) rs i l) ∙ h
