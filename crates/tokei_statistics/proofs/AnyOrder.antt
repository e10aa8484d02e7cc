-- Files that are counted in another order give the same languages but for the order of reports.
use Rattle.std.proofs.Common.{◌≡◌, ℕ, ◌+◌, ◌<◌, ◌||◌, List, [], ◌∷◌, ◌++◌, refl, sym, ◌∙◌, ap, subst, arith}
use Rattle.std.proofs.Math.Bool.{or_comm}
use Rattle.std.proofs.lemmas.Cmp.{ranked}
use Rattle.std.proofs.lemmas.List.Sorted.{IsPermutation-refl, IsPermutation-sym, IsPermutation-trans, IsPermutation-append, IsPermutation-append_comm}
use Rattle.std.specs.List.Sorted.{IsPermutation}
use Rattle.std.specs.Ordering.{nat_cmp, match_ordering, MatchOrdering}
use Rattle.std.specs.declared.cmp.Ordering.{Ordering}
use Rattle.std.specs.declared.cmp.Ordering.TheVariants.{Less, Equal, Greater}
use Rattle.tokei_files.specs.Files.{Counting}
use Rattle.tokei_folders.specs.Tree.{Tree}
use Rattle.tokei_languages.specs.Maps.{put_at, merged}
use Rattle.tokei_languages.specs.Merging.{merged_language, merged_languages}
use Rattle.tokei_languages.specs.Renewing.{own_sum, renewed_languages}
use Rattle.tokei_languages.specs.Values.{ReportValue, LanguageValue}
use Rattle.tokei_stats.specs.Statistics.{Counts, plus, own}
use Rattle.tokei_walk.specs.declared.kept_file.KeptFile.{KeptFile}
use Rattle.tokei_statistics.specs.OrderLaws.{OrderKeepsLanguages}
use Rattle.tokei_statistics.specs.Runs.{languages_of_file, languages_of_run}
use Rattle.tokei_statistics.specs.SameButForOrder.{AreAlike, LanguagesAlike, SameButForOrder}
use Rattle.tokei_statistics.proofs.Merges.{IsBefore, Ascends, AllMeet, Associates, put, put_less, put_same, put_more, before_less, ascends_put, meet_put, seam, merged_assoc, ascends_merged, meet_merged}
use Rattle.tokei_statistics.proofs.Permuted.{permuted}
use Rattle.tokei_statistics.proofs.Running.{IsLaidOut, join_reports, any, reports_append, all_any, languages_join, file_ascends, file_laid_out, run_laid_out}

-- maps whose values are alike

module _ {S : Type 0} (like : S → S → Type 0) (same : (s : S) → like s s) (joined : (s t u : S) → like s t → like t u → like s u) where
  alike_same : (es : List (ℕ × S)) → AreAlike like es es
  alike_same [] = tt
  alike_same (e ∷ es) = (refl, (same e.1, alike_same es))

  alike_joined : (es fs gs : List (ℕ × S)) → AreAlike like es fs → AreAlike like fs gs → AreAlike like es gs
  alike_joined [] [] gs h k = k
  alike_joined [] (f ∷ fs) gs h k = absurd h
  alike_joined (e ∷ es) [] gs h k = absurd h
  alike_joined (e ∷ es) (f ∷ fs) [] h k = absurd k
  alike_joined (e ∷ es) (f ∷ fs) (g ∷ gs) h k = (h.0 ∙ k.0, (joined e.1 f.1 g.1 h.1.0 k.1.0, alike_joined es fs gs h.1.1 k.1.1))

  alike_at : (a b c d : List (ℕ × S)) → a ≡ b → c ≡ d → AreAlike like b d → AreAlike like a c
  alike_at a b c d e f h = subst (λ (x : List (ℕ × S)). AreAlike like x c) (sym e) (subst (λ (x : List (ℕ × S)). AreAlike like b x) (sym f) h)

  module _ (f g : S → S) (s t : S) (new : like s t) (both : (x y : S) → like x y → like (f x) (g y)) where
    put_by : (o : Ordering) (k : ℕ) (a b : ℕ × S) (xs ys more others : List (ℕ × S)) → a.0 ≡ b.0 → like a.1 b.1 → AreAlike like xs ys → AreAlike like more others
        → AreAlike like (match_ordering o ((k, s) ∷ a ∷ xs) ((a.0, f a.1) ∷ xs) (a ∷ more)) (match_ordering o ((k, t) ∷ b ∷ ys) ((b.0, g b.1) ∷ ys) (b ∷ others))
    put_by Less k a b xs ys more others key value rest later = (refl, (new, (key, (value, rest))))
    put_by Equal k a b xs ys more others key value rest later = (key, (both a.1 b.1 value, rest))
    put_by Greater k a b xs ys more others key value rest later = (key, (value, later))

    put_alike : (xs ys : List (ℕ × S)) (k : ℕ) → AreAlike like xs ys → AreAlike like (put_at f s xs k) (put_at g t ys k)
    put_alike [] [] k h = (refl, (new, tt))
    put_alike [] (b ∷ ys) k h = absurd h
    put_alike (a ∷ xs) [] k h = absurd h
    put_alike (a ∷ xs) (b ∷ ys) k h =
        subst (λ (j : ℕ). AreAlike like (put_at f s (a ∷ xs) k) (match_ordering (nat_cmp k j) ((k, t) ∷ b ∷ ys) ((b.0, g b.1) ∷ ys) (b ∷ put_at g t ys k))) h.0
        (put_by (nat_cmp k a.0) k a b xs ys (put_at f s xs k) (put_at g t ys k) h.0 h.1.0 h.1.1 (put_alike xs ys k h.1.1))

  module _ (join : S → S → S) (both : (x y u v : S) → like x y → like u v → like (join x u) (join y v)) where
    merged_alike : (a b c d : List (ℕ × S)) → AreAlike like a b → AreAlike like c d → AreAlike like (merged join a c) (merged join b d)
    merged_alike a b [] [] h k = h
    merged_alike a b [] (f ∷ fs) h k = absurd k
    merged_alike a b (e ∷ es) [] h k = absurd k
    merged_alike a b (e ∷ es) (f ∷ fs) h k =
        merged_alike (put_at (λ s. join s e.1) e.1 a e.0) (put_at (λ s. join s f.1) f.1 b f.0) es fs
        (subst (λ (j : ℕ). AreAlike like (put_at (λ s. join s e.1) e.1 a e.0) (put_at (λ s. join s f.1) f.1 b j)) k.0
        (put_alike (λ s. join s e.1) (λ s. join s f.1) e.1 f.1 k.1.0 (λ x y l. both x y e.1 f.1 l k.1.0) a b e.0 h))
        k.1.1

  -- merging the other way round

  module _ (join : S → S → S) (P : S → Type 0) (laws : Associates join P) (turns : (s t : S) → P s → P t → like (join s t) (join t s)) where
    head_stays : (x : ℕ × S) (a b : List (ℕ × S)) → IsBefore x.0 b → Ascends b → merged join (x ∷ a) b ≡ x ∷ merged join a b
    head_stays x a [] h up = refl
    head_stays x a (e ∷ es) h up =
        ap (λ (q : List (ℕ × S)). merged join q es) (put_more (λ s. join s e.1) e.1 x a e.0 h)
        ∙ head_stays x (put_at (λ s. join s e.1) e.1 a e.0) es (before_less es x.0 e.0 h up.0) up.1

    into_none : (b : List (ℕ × S)) → Ascends b → merged join [] b ≡ b
    into_none [] up = refl
    into_none (e ∷ es) up = head_stays e [] es up.0 up.1 ∙ ap (λ (q : List (ℕ × S)). e ∷ q) (into_none es up.1)

    into_one : (x : ℕ × S) (b : List (ℕ × S)) → IsBefore x.0 b → Ascends b → merged join (x ∷ []) b ≡ x ∷ b
    into_one x b h up = head_stays x [] b h up ∙ ap (λ (q : List (ℕ × S)). x ∷ q) (into_none b up)

    one_by : (o : Ordering) (e f : ℕ × S) (fs : List (ℕ × S)) → MatchOrdering o (e.0 < f.0) (e.0 ≡ f.0) (f.0 < e.0) → IsBefore f.0 fs → Ascends fs → P e.1 → P f.1
        → AreAlike like (merged join fs (e ∷ [])) (merged join (e ∷ []) fs)
        → AreAlike like (merged join (f ∷ fs) (e ∷ [])) (merged join (e ∷ []) (f ∷ fs))
    one_by Less e f fs h first up p q later =
        alike_at _ (e ∷ f ∷ fs) _ (e ∷ f ∷ fs) (put_less (λ s. join s e.1) e.1 f fs e.0 h)
        (ap (λ (x : List (ℕ × S)). merged join x fs) (put_more (λ s. join s f.1) f.1 e [] f.0 h)
        ∙ head_stays e (f ∷ []) fs (before_less fs e.0 f.0 h first) up
        ∙ ap (λ (x : List (ℕ × S)). e ∷ x) (into_one f fs first up))
        (alike_same (e ∷ f ∷ fs))
    one_by Equal e f fs h first up p q later =
        alike_at _ ((f.0, join f.1 e.1) ∷ fs) _ ((e.0, join e.1 f.1) ∷ fs) (put_same (λ s. join s e.1) e.1 f fs e.0 h)
        (ap (λ (x : List (ℕ × S)). merged join x fs) (put_same (λ s. join s f.1) f.1 e [] f.0 (sym h))
        ∙ into_one (e.0, join e.1 f.1) fs (subst (λ (j : ℕ). IsBefore j fs) (sym h) first) up)
        (sym h, (turns f.1 e.1 q p, alike_same fs))
    one_by Greater e f fs h first up p q later =
        alike_at _ (f ∷ merged join fs (e ∷ [])) _ (f ∷ merged join (e ∷ []) fs) (put_more (λ s. join s e.1) e.1 f fs e.0 h)
        (ap (λ (x : List (ℕ × S)). merged join x fs) (put_less (λ s. join s f.1) f.1 e [] f.0 h) ∙ head_stays f (e ∷ []) fs first up)
        (refl, (same f.1, later))

    one_turned : (e : ℕ × S) (b : List (ℕ × S)) → Ascends b → P e.1 → AllMeet P b → AreAlike like (merged join b (e ∷ [])) (merged join (e ∷ []) b)
    one_turned e [] up p q = alike_same (e ∷ [])
    one_turned e (f ∷ fs) up p q =
        one_by (nat_cmp e.0 f.0) e f fs (ranked e.0 f.0 _ refl) up.0 up.1 p q.0 (one_turned e fs up.1 p q.1)

    turned : (a b : List (ℕ × S)) → Ascends a → Ascends b → AllMeet P a → AllMeet P b → AreAlike like (merged join a b) (merged join b a)
    turned a [] up down p q = alike_at a a (merged join [] a) a refl (into_none a up) (alike_same a)
    turned a (e ∷ es) up down p q =
        let more = put join P laws e.1 a e.0 in
        let rest = merged join es a in
        alike_joined (merged join more es) (merged join es more) (merged join (e ∷ es) a)
        (turned more es (ascends_put (λ s. join s e.1) e.1 a e.0 up) down.1 (meet_put join P laws e.1 a e.0 q.0 p) q.1)
        (alike_at (merged join es more) (merged join rest (e ∷ [])) (merged join (e ∷ es) a) (merged join (e ∷ []) rest)
        (sym (seam join P laws e.1 es a e.0 up p q.0))
        (ap (λ (x : List (ℕ × S)). merged join x a) (sym (into_one e es down.0 down.1))
        ∙ merged_assoc join P laws (e ∷ []) es a down.1 q.1 p)
        (one_turned e rest (ascends_merged join P laws es a down.1) q.0 (meet_merged join P laws es a q.1 p)))

-- lists of reports

abbrev SameReports : List ReportValue → List ReportValue → Type 0
SameReports rs ss = IsPermutation rs ss

reports_joined : (rs ss ts : List ReportValue) → SameReports rs ss → SameReports ss ts → SameReports rs ts
reports_joined rs ss ts h k = IsPermutation-trans rs ss ts h k

reports_both : (rs ss us vs : List ReportValue) → SameReports rs ss → SameReports us vs → SameReports (rs ++ us) (ss ++ vs)
reports_both rs ss us vs h k = IsPermutation-append rs ss us vs h k

-- languages

plus_comm : (a b : Counts) → plus a b ≡ plus b a
plus_comm a b = λ i. record {
  blanks = add_comm a.blanks b.blanks i;
  code = add_comm a.code b.code i;
  comments = add_comm a.comments b.comments i;
}
  where
    add_comm : (m n : ℕ) → m + n ≡ n + m
    add_comm m n = omega arith

language_same : (s : LanguageValue) → LanguagesAlike s s
language_same s = record {
  counts = refl;
  reports = IsPermutation-refl s.reports;
  children = alike_same IsPermutation IsPermutation-refl reports_joined s.children;
  inaccurate = refl;
}

language_joined : (s t u : LanguageValue) → LanguagesAlike s t → LanguagesAlike t u → LanguagesAlike s u
language_joined s t u h k = record {
  counts = h.counts ∙ k.counts;
  reports = reports_joined s.reports t.reports u.reports h.reports k.reports;
  children = alike_joined IsPermutation IsPermutation-refl reports_joined s.children t.children u.children h.children k.children;
  inaccurate = h.inaccurate ∙ k.inaccurate;
}

language_both : (s t u v : LanguageValue) → LanguagesAlike s t → LanguagesAlike u v → LanguagesAlike (merged_language s u) (merged_language t v)
language_both s t u v h k = record {
  counts = λ i. plus (h.counts i) (k.counts i);
  reports = reports_both s.reports t.reports u.reports v.reports h.reports k.reports;
  children = merged_alike IsPermutation IsPermutation-refl reports_joined join_reports reports_both s.children t.children u.children v.children h.children k.children;
  inaccurate = λ i. h.inaccurate i || k.inaccurate i;
}

language_turns : (s t : LanguageValue) → IsLaidOut s → IsLaidOut t → LanguagesAlike (merged_language s t) (merged_language t s)
language_turns s t h k = record {
  counts = plus_comm s.counts t.counts;
  reports = IsPermutation-append_comm s.reports t.reports;
  children = turned IsPermutation IsPermutation-refl reports_joined join_reports any reports_append (λ rs ss p q. IsPermutation-append_comm rs ss)
      s.children t.children h k (all_any s.children) (all_any t.children);
  inaccurate = or_comm s.inaccurate t.inaccurate;
}

languages_same : (es : List (ℕ × LanguageValue)) → SameButForOrder es es
languages_same es = alike_same LanguagesAlike language_same language_joined es

languages_joined : (es fs gs : List (ℕ × LanguageValue)) → SameButForOrder es fs → SameButForOrder fs gs → SameButForOrder es gs
languages_joined es fs gs h k = alike_joined LanguagesAlike language_same language_joined es fs gs h k

languages_both : (a b c d : List (ℕ × LanguageValue)) → SameButForOrder a b → SameButForOrder c d → SameButForOrder (merged_languages a c) (merged_languages b d)
languages_both a b c d h k = merged_alike LanguagesAlike language_same language_joined merged_language language_both a b c d h k

languages_at : (a b c d : List (ℕ × LanguageValue)) → a ≡ b → c ≡ d → SameButForOrder b d → SameButForOrder a c
languages_at a b c d e f h = alike_at LanguagesAlike language_same language_joined a b c d e f h

-- renewed counts

plus_swaps : (a b c : Counts) → plus a (plus b c) ≡ plus b (plus a c)
plus_swaps a b c = λ i. record {
  blanks = add_swaps a.blanks b.blanks c.blanks i;
  code = add_swaps a.code b.code c.code i;
  comments = add_swaps a.comments b.comments c.comments i;
}
  where
    add_swaps : (l m n : ℕ) → l + (m + n) ≡ m + (l + n)
    add_swaps l m n = omega arith

own_alike : (rs ss : List ReportValue) → IsPermutation rs ss → own_sum rs ≡ own_sum ss
own_alike rs ss p =
    sym (permuted own_sum (λ a b. a ≡ b) (λ a. refl) (λ a b c h k. h ∙ k) (λ r xs ys h. ap (plus (own r.stats)) h)
    (λ r q xs. plus_swaps (own r.stats) (own q.stats) (own_sum xs)) rs ss p)

renewed_alike : (es fs : List (ℕ × LanguageValue)) → SameButForOrder es fs → SameButForOrder (renewed_languages es) (renewed_languages fs)
renewed_alike [] [] h = tt
renewed_alike [] (f ∷ fs) h = absurd h
renewed_alike (e ∷ es) [] h = absurd h
renewed_alike (e ∷ es) (f ∷ fs) h = (
  h.0,
  (
    record { counts = own_alike e.1.reports f.1.reports h.1.0.reports; reports = h.1.0.reports; children = h.1.0.children; inaccurate = h.1.0.inaccurate },
    renewed_alike es fs h.1.1,
  ),
)

-- runs

module _ (c : Counting) (t : Tree) where
  two_turned : (j k : KeptFile) (ks : List KeptFile) → SameButForOrder (languages_of_run c t (j ∷ k ∷ ks)) (languages_of_run c t (k ∷ j ∷ ks))
  two_turned j k ks =
      let one = languages_of_file c t j in
      let other = languages_of_file c t k in
      let rest = languages_of_run c t ks in
      languages_at _ (merged_languages (merged_languages one other) rest) _ (merged_languages (merged_languages other one) rest)
      (sym (merged_assoc merged_language IsLaidOut languages_join one other rest (file_ascends c t k) (file_laid_out c t k) (run_laid_out c t ks)))
      (sym (merged_assoc merged_language IsLaidOut languages_join other one rest (file_ascends c t j) (file_laid_out c t j) (run_laid_out c t ks)))
      (languages_both (merged_languages one other) (merged_languages other one) rest rest
      (turned LanguagesAlike language_same language_joined merged_language IsLaidOut languages_join language_turns one other (file_ascends c t j)
      (file_ascends c t k) (file_laid_out c t j) (file_laid_out c t k))
      (languages_same rest))

  run_alike : (files others : List KeptFile) → IsPermutation files others → SameButForOrder (languages_of_run c t files) (languages_of_run c t others)
  run_alike files others p =
      permuted (languages_of_run c t) SameButForOrder languages_same languages_joined
      (λ k xs ys h. languages_both (languages_of_file c t k) (languages_of_file c t k) (languages_of_run c t xs) (languages_of_run c t ys) (languages_same (languages_of_file c t k)) h)
      two_turned others files (IsPermutation-sym files others p)

-- the languages of a run don't ask in which order its files were counted, but for the order of
-- reports
pub order_keeps_languages : OrderKeepsLanguages
order_keeps_languages c t earlier files others p =
    let alike = languages_both earlier earlier (languages_of_run c t files) (languages_of_run c t others) (languages_same earlier) (run_alike c t files others p) in
    record {
      counted = alike;
      renewed = renewed_alike (merged_languages earlier (languages_of_run c t files)) (merged_languages earlier (languages_of_run c t others)) alike;
    }
