-- The languages of a run, one file at a time.
use Rattle.std.proofs.Common.{◌≡◌, ℕ, ◌+◌, List, [], ◌∷◌, ◌++◌, Bool, true, false, ◌||◌, Option, Some, None, option_map, Result, Ok, Err, OnOk, OnErr, IfOk, IfErr, refl, sym, ◌∙◌, ap, subst, arith, append_assoc, append-nil, length, take}
use Rattle.std.proofs.Math.Bool.{or_assoc}
use Rattle.std.proofs.Math.Seq.{take-append_seam}
use Rattle.std.specs.Bool.{⊤}
use Rattle.tokei_languages.specs.Values.{ReportValue, LanguageValue, empty_language, marked}
use Rattle.tokei_languages.specs.Maps.{put_at}
use Rattle.tokei_languages.specs.Merging.{appended, blob_reports, merged_language, merged_languages, with_report}
use Rattle.tokei_stats.specs.Statistics.{Counts, Statistics, no_lines, plus, blobs}
use Rattle.tokei_walk.specs.declared.kept_file.KeptFile.{KeptFile}
use Rattle.tokei_folders.specs.Tree.{Tree}
use Rattle.tokei_files.specs.Contents.{content_at}
use Rattle.tokei_files.specs.ContentStatistics.{stats_at, stats_in}
use Rattle.tokei_files.specs.Files.{Counting, language_of_file, FileFits, ReadingsFit}
use Rattle.tokei_files.specs.declared.error.ParseFault.{ParseFault}
use Rattle.tokei_files.specs.declared.error.ParseFault.TheVariants.{Refused}
use Rattle.tokei_files.specs.Unread.{unread_note, unread_of_file}
use Rattle.tokei_files.proofs.UnreadNotes.{none_more, read_unnoted, refused_noted}
use Rattle.tokei_walk.specs.declared.kept_file.Note.{Note}
use Rattle.tokei_stats.specs.Seen.{stats_of}
use Rattle.tokei_stats.specs.declared.stats.CodeStats.{CodeStats}
use Rattle.tokei_statistics.specs.Runs.{language_from, languages_in, languages_of_file, languages_of_run, AddsFiles, AddsFirst}
use Rattle.tokei_statistics.proofs.Merges.{Ascends, AllMeet, Associates, merged_assoc, ascends_merged, meet_merged, same_put}

or_false : (a : Bool) → (a || false) ≡ a
or_false true = refl
or_false false = refl

or_true : (a : Bool) → (a || true) ≡ true
or_true true = refl
or_true false = refl

add_assoc3 : (a b c : ℕ) → (a + b) + c ≡ a + (b + c)
add_assoc3 a b c = omega arith

plus_assoc : (a b c : Counts) → plus (plus a b) c ≡ plus a (plus b c)
plus_assoc a b c = λ i. record {
  blanks = add_assoc3 a.blanks b.blanks c.blanks i;
  code = add_assoc3 a.code b.code c.code i;
  comments = add_assoc3 a.comments b.comments c.comments i;
}

add_none : (a : ℕ) → a + 0 ≡ a
add_none a = omega arith

plus_none : (a : Counts) → plus a no_lines ≡ a
plus_none a = λ i. record { blanks = add_none a.blanks i; code = add_none a.code i; comments = add_none a.comments i }

-- lists of reports

abbrev pub join_reports : List ReportValue → List ReportValue → List ReportValue
join_reports a b = a ++ b

abbrev pub any : List ReportValue → Type 0
any rs = ⊤

pub reports_append : Associates join_reports any
reports_append = record { closed = λ s t p q. tt; same = λ s t u p q. append_assoc s t u }

pub all_any : (es : List (ℕ × List ReportValue)) → AllMeet any es
all_any [] = tt
all_any (e ∷ es) = (tt, all_any es)

appended_assoc : (a b c : List (ℕ × List ReportValue)) → Ascends b → appended (appended a b) c ≡ appended a (appended b c)
appended_assoc a b c up = merged_assoc join_reports any reports_append a b c up (all_any b) (all_any c)

pub ascends_appended : (a b : List (ℕ × List ReportValue)) → Ascends a → Ascends (appended a b)
ascends_appended a b up = ascends_merged join_reports any reports_append a b up

-- languages

-- the languages inside ascend
abbrev pub IsLaidOut : LanguageValue → Type 0
IsLaidOut s = Ascends s.children

merged_language_assoc : (s t u : LanguageValue) → IsLaidOut t → merged_language (merged_language s t) u ≡ merged_language s (merged_language t u)
merged_language_assoc s t u up = λ i. record {
  counts = plus_assoc s.counts t.counts u.counts i;
  reports = append_assoc s.reports t.reports u.reports i;
  children = appended_assoc s.children t.children u.children up i;
  inaccurate = or_assoc s.inaccurate t.inaccurate u.inaccurate i;
}

pub languages_join : Associates merged_language IsLaidOut
languages_join = record {
  closed = λ s t p q. ascends_appended s.children t.children p;
  same = λ s t u p q. merged_language_assoc s t u p;
}

-- a report is added as the language of that report alone
with_report-merged : (r : ReportValue) (s : LanguageValue) → with_report s r ≡ merged_language s (with_report empty_language r)
with_report-merged r s = λ i. record {
  counts = sym (plus_none s.counts) i;
  reports = s.reports ++ r ∷ [];
  children = appended_assoc s.children [] (blob_reports r.name (blobs r.stats)) tt i;
  inaccurate = sym (or_false s.inaccurate) i;
}

marked-merged : (s : LanguageValue) → marked s ≡ merged_language s (marked empty_language)
marked-merged s = λ i. record {
  counts = sym (plus_none s.counts) i;
  reports = sym (append-nil s.reports) i;
  children = s.children;
  inaccurate = sym (or_true s.inaccurate) i;
}

-- a report that is put
pub report_put : {E F : Type 0} (q : Result (Unit {0}) E) (counted : Result CodeStats F) (c : CodeStats)
    (old new : List (ℕ × LanguageValue)) (l : ℕ) (path : List ℕ) (r : ReportValue)
    → counted ≡ Ok c → r ≡ record { name = path; stats = stats_of c }
    → OnOk q (new ≡ put_at (λ x. with_report x r) (with_report empty_language r) old l)
    → IfOk counted (λ s. OnOk q (new ≡ merged_languages old ((l, language_from path (Some (stats_of s))) ∷ [])))
report_put (Ok u) counted c old new l path r was is put =
    subst (λ (w : Result CodeStats _). IfOk w (λ s. new ≡ merged_languages old ((l, language_from path (Some (stats_of s))) ∷ []))) (sym was)
    (put
    ∙ same_put (λ x. with_report x r) (λ x. merged_language x (with_report empty_language r)) (with_report empty_language r) old l (with_report-merged r)
    ∙ ap (λ (r : ReportValue). merged_languages old ((l, with_report empty_language r) ∷ [])) is)
report_put (Err e) counted c old new l path r was is put =
    subst (λ (w : Result CodeStats _). IfOk w (λ s. ⊤)) (sym was) tt

-- a mark that is put
pub mark_put : {E F : Type 0} (q : Result (Unit {0}) E) (counted : Result CodeStats F)
    (old new : List (ℕ × LanguageValue)) (l : ℕ) (path : List ℕ)
    → OnOk q (new ≡ put_at marked (marked empty_language) old l)
    → OnErr counted (OnOk q (new ≡ merged_languages old ((l, language_from path None) ∷ [])))
mark_put q (Ok s) old new l path put = tt
mark_put (Ok u) (Err e) old new l path put =
    put ∙ same_put marked (λ s. merged_language s (marked empty_language)) (marked empty_language) old l marked-merged
mark_put (Err f) (Err e) old new l path put = tt

-- runs

from_laid_out : (path : List ℕ) (o : Option Statistics) → IsLaidOut (language_from path o)
from_laid_out path None = tt
from_laid_out path (Some s) = ascends_appended [] (blob_reports path (blobs s)) tt

module _ (c : Counting) (t : Tree) where
  in_ascends : (k : KeptFile) (o : Option ℕ) → Ascends (languages_in c t k o)
  in_ascends k None = tt
  in_ascends k (Some l) = (tt, tt)

  in_laid_out : (k : KeptFile) (o : Option ℕ) → AllMeet IsLaidOut (languages_in c t k o)
  in_laid_out k None = tt
  in_laid_out k (Some l) = (from_laid_out k.path (stats_at t c.rows c.docs l k.place), tt)

  pub file_ascends : (k : KeptFile) → Ascends (languages_of_file c t k)
  unfolding languages_of_file
  file_ascends k = in_ascends k (language_of_file c t k)

  pub file_laid_out : (k : KeptFile) → AllMeet IsLaidOut (languages_of_file c t k)
  unfolding languages_of_file
  file_laid_out k = in_laid_out k (language_of_file c t k)

  pub run_ascends : (ks : List KeptFile) → Ascends (languages_of_run c t ks)
  run_ascends [] = tt
  run_ascends (k ∷ ks) = ascends_merged merged_language IsLaidOut languages_join (languages_of_file c t k) (languages_of_run c t ks) (file_ascends k)

  pub run_laid_out : (ks : List KeptFile) → AllMeet IsLaidOut (languages_of_run c t ks)
  run_laid_out [] = tt
  run_laid_out (k ∷ ks) = meet_merged merged_language IsLaidOut languages_join (languages_of_file c t k) (languages_of_run c t ks) (file_laid_out k) (run_laid_out ks)

  one_by : (k : KeptFile) (o : Option ℕ) → languages_in c t k o ≡ merged_languages [] (languages_in c t k o)
  one_by k None = refl
  one_by k (Some l) = refl

  -- one file more at the end
  run_push : (ks : List KeptFile) (k : KeptFile) → languages_of_run c t (ks ++ k ∷ []) ≡ merged_languages (languages_of_run c t ks) (languages_of_file c t k)
  unfolding languages_of_file
  run_push [] k = one_by k (language_of_file c t k)
  run_push (j ∷ ks) k =
      ap (merged_languages (languages_of_file c t j)) (run_push ks k)
      ∙ sym (merged_assoc merged_language IsLaidOut languages_join (languages_of_file c t j) (languages_of_run c t ks) (languages_of_file c t k) (run_ascends ks) (run_laid_out ks) (file_laid_out k))

  -- the files are those that are counted and those that are to come
  pub record SoFar (files rest : List KeptFile) (old new : List (ℕ × LanguageValue)) : Type 0 where
    pub done : List KeptFile
    pub whole : done ++ rest ≡ files
    pub adds : AddsFiles c t done old new

  pub none_yet : (files : List KeptFile) (a : List (ℕ × LanguageValue)) → SoFar files files a a
  none_yet files a = record { done = []; whole = refl; adds = refl }

  -- one file more
  pub one_more : (files rest left : List KeptFile) (k : KeptFile) (a b d : List (ℕ × LanguageValue))
      → SoFar files rest a b → rest ≡ k ∷ left → d ≡ merged_languages b (languages_of_file c t k)
      → SoFar files left a d
  one_more files rest left k a b d h is one = record {
    done = h.done ++ k ∷ [];
    whole = append_assoc h.done (k ∷ []) left ∙ ap (λ (q : List KeptFile). h.done ++ q) (sym is) ∙ h.whole;
    adds =
        one
        ∙ ap (λ (q : List (ℕ × LanguageValue)). merged_languages q (languages_of_file c t k)) h.adds
        ∙ merged_assoc merged_language IsLaidOut languages_join a (languages_of_run c t h.done) (languages_of_file c t k) (run_ascends h.done) (run_laid_out h.done) (file_laid_out k)
        ∙ ap (merged_languages a) (sym (run_push h.done k));
  }

  -- all of them
  pub all_done : (files rest : List KeptFile) (a b : List (ℕ × LanguageValue)) → SoFar files rest a b → rest ≡ [] → AddsFiles c t files a b
  all_done files rest a b h none =
      let all : h.done ≡ files = sym (append-nil h.done) ∙ ap (λ (q : List KeptFile). h.done ++ q) (sym none) ∙ h.whole in
      subst (λ (q : List KeptFile). AddsFiles c t q a b) all h.adds

  -- the first of them
  pub first_done : (files rest : List KeptFile) (a b : List (ℕ × LanguageValue)) → SoFar files rest a b → AddsFirst c t files a b
  first_done files rest a b h =
      let first : h.done ≡ take (length h.done) files = sym (take-append_seam h.done rest) ∙ ap (take (length h.done)) h.whole in
      record { count = length h.done; adds = subst (λ (q : List KeptFile). AddsFiles c t q a b) first h.adds }

  fit_at : (ds : List KeptFile) (k : KeptFile) (left : List KeptFile) → ReadingsFit c t (ds ++ (k ∷ left)) → FileFits c t k
  fit_at [] k left h = h.0
  fit_at (d ∷ ds) k left h = fit_at ds k left h.1

  -- where one doesn't fit, not all do
  pub one_over : (files rest left : List KeptFile) (k : KeptFile) (a b : List (ℕ × LanguageValue)) → SoFar files rest a b → rest ≡ k ∷ left → (FileFits c t k → ⊥) → ReadingsFit c t files → ⊥
  one_over files rest left k a b h is over fit =
      over (fit_at h.done k left (subst (λ (q : List KeptFile). ReadingsFit c t q) (sym h.whole ∙ ap (λ (q : List KeptFile). h.done ++ q) is) fit))

  -- a file that counts in no language changes nothing
  pub file_passed : (k : KeptFile) (o : Option ℕ) (a : List (ℕ × LanguageValue)) → o ≡ language_of_file c t k → o ≡ None → a ≡ merged_languages a (languages_of_file c t k)
  unfolding languages_of_file
  file_passed k o a is none = sym (ap (λ (q : Option ℕ). merged_languages a (languages_in c t k q)) (sym is ∙ none))

  -- a file that counts in a language: its report where it was read, else its mark
  pub file_added : {E : Type 0} (q : Result (Unit {0}) E) (counted : Result CodeStats ParseFault) (k : KeptFile) (o : Option ℕ) (l : ℕ)
      (place : List ℕ) (a b : List (ℕ × LanguageValue))
      → o ≡ language_of_file c t k → o ≡ Some l → place ≡ k.place
      → IfOk counted (λ s. Some (stats_of s) ≡ stats_at t c.rows c.docs l place)
      → (counted ≡ Err Refused → content_at t place ≡ None)
      → IfErr counted (λ e. OnOk q (e ≡ Refused))
      → IfOk counted (λ s. OnOk q (b ≡ merged_languages a ((l, language_from k.path (Some (stats_of s))) ∷ [])))
      → OnErr counted (OnOk q (b ≡ merged_languages a ((l, language_from k.path None) ∷ [])))
      → OnOk q (b ≡ merged_languages a (languages_of_file c t k))
  unfolding languages_of_file
  file_added (Ok u) (Ok s) k o l place a b is some there read none refused reported marks =
      reported
      ∙ ap (λ (d : Option Statistics). merged_languages a ((l, language_from k.path d) ∷ [])) (read ∙ ap (stats_at t c.rows c.docs l) there)
      ∙ ap (λ (q : Option ℕ). merged_languages a (languages_in c t k q)) (sym some ∙ is)
  file_added (Ok u) (Err e) k o l place a b is some there read none refused reported marks =
      marks
      ∙ ap (λ (d : Option (List ℕ)). merged_languages a ((l, language_from k.path (option_map (stats_in c.rows c.docs l) d)) ∷ []))
      (sym (none (ap (λ (x : ParseFault). Err x) refused)) ∙ ap (content_at t) there)
      ∙ ap (λ (q : Option ℕ). merged_languages a (languages_in c t k q)) (sym some ∙ is)
  file_added (Err f) counted k o l place a b is some there read none refused reported marks = tt

  -- the note that it leaves where it wasn't read
  pub file_noted : {E : Type 0} (q : Result (Unit {0}) E) (counted : Result CodeStats ParseFault) (k : KeptFile) (o : Option ℕ) (l : ℕ)
      (place : List ℕ) (a b : List Note)
      → o ≡ language_of_file c t k → o ≡ Some l → place ≡ k.place
      → IfOk counted (λ s. Some (stats_of s) ≡ stats_at t c.rows c.docs l place)
      → (counted ≡ Err Refused → content_at t place ≡ None)
      → IfErr counted (λ e. OnOk q (e ≡ Refused))
      → OnOk counted (b ≡ a)
      → OnErr counted (OnOk q (b ≡ a ++ unread_note k ∷ []))
      → OnOk q (b ≡ a ++ unread_of_file c t k)
  file_noted (Ok u) (Ok s) k o l place a b is some there read none refused stays noted =
      stays ∙ none_more a _ (read_unnoted c t k o is l (stats_of s) some (read ∙ ap (stats_at t c.rows c.docs l) there))
  file_noted (Ok u) (Err e) k o l place a b is some there read none refused stays noted =
      noted ∙ ap (λ (q : List Note). a ++ q)
      (sym (refused_noted c t k o is l some (sym (ap (content_at t) there) ∙ none (ap (λ (x : ParseFault). Err x) refused))))
  file_noted (Err f) counted k o l place a b is some there read none refused stays noted = tt

pub always_err : {T E A : Type 0} (q : Result T E) → A → OnErr q A
always_err (Ok x) a = tt
always_err (Err e) a = a

-- none of them
pub none_added : (c : Counting) (t : Tree) (files : List KeptFile) (a : List (ℕ × LanguageValue)) → AddsFirst c t files a a
none_added c t files a = record { count = 0; adds = refl }

-- all of them, and the languages stay
pub all_added : (c : Counting) (t : Tree) (files : List KeptFile) (a b d : List (ℕ × LanguageValue)) → AddsFiles c t files a b → d ≡ b → AddsFirst c t files a d
all_added c t files a b d adds same =
    let all : take (length files) files ≡ files = ap (take (length files)) (sym (append-nil files)) ∙ take-append_seam files [] in
    record { count = length files; adds = same ∙ adds ∙ ap (λ (ks : List KeptFile). merged_languages a (languages_of_run c t ks)) (sym all) }
