-- Equality by `==` is equality of all members, at every depth.
use Rattle.std.proofs.Common.{◌≡◌, ℕ, Bool, true, false, ◌&&◌, List, [], ◌∷◌, refl, sym, ap, ◌∙◌, arith}
use Rattle.std.proofs.lemmas.Bool.{eqb-true, false≢true}
use Rattle.std.proofs.lemmas.Bool.Decides.{nat_tests}
use Rattle.std.specs.Prelude.{◌==◌}
use lib.Pointwise.{pointwise}
use Rattle.tokei_stats.specs.contracts.stats.CodeStatsPartialEq.TheImpl.{ghosts}
use Rattle.tokei_stats.specs.contracts.stats.CodeStatsPartialEq.TheImpl.Laws.{is}
use Rattle.tokei_stats.specs.declared.stats.CodeStats.TheFolds.{fold_out-CodeStats}
use Rattle.tokei_stats.specs.declared.stats.CodeStats.{CodeStats, out-CodeStats}
use Rattle.tokei_stats.specs.Seen.{stats_of, stats_step, blobs_of, entries_of}
use Rattle.tokei_stats.specs.Statistics.{Counts, Statistics, Blobs, own, blobs}
use Rattle.tokei_stats.specs.Statistics.Statistics.{node}
use Rattle.tokei_stats.specs.Statistics.Blobs.{none, blob}
use Rattle.tokei_stats.proofs.SameMembers.{same_counts, same_node}

pub first_of_both : (x y : Bool) → (x && y) ≡ true → x ≡ true
first_of_both true y h = refl
first_of_both false y h = h

pub second_of_both : (x y : Bool) → (x && y) ≡ true → y ≡ true
second_of_both true y h = h
second_of_both false y h = absurd (false≢true h)

pub both_true : (x y : Bool) → x ≡ true → y ≡ true → (x && y) ≡ true
both_true x y h k = ap (λ v. v && y) h ∙ k

same_number : (m n : ℕ) → m ≡ n → (m == n) ≡ true
same_number m n e = grind (arith, nat_tests)

-- what `==` answers
abbrev pub equal : CodeStats → CodeStats → Bool
equal a b = ghosts.eq a b

abbrev equal_entries : List (ℕ × CodeStats) → List (ℕ × CodeStats) → Bool
equal_entries es fs = pointwise (λ p q. p.0 == q.0 && equal p.1 q.1) es fs

-- the members of a value
abbrev counts : CodeStats → Counts
counts a = record { blanks = (out-CodeStats a).blanks; code = (out-CodeStats a).code; comments = (out-CodeStats a).comments }

abbrev entries : CodeStats → List (ℕ × CodeStats)
entries a = (out-CodeStats a).blobs.entries

abbrev equal_members : CodeStats → CodeStats → Bool
equal_members a b = (counts a).blanks == (counts b).blanks
    && ((counts a).code == (counts b).code && ((counts a).comments == (counts b).comments && (equal_entries (entries a) (entries b) && true)))

by_members : (a b : CodeStats) → equal a b ≡ equal_members a b
by_members a b = is a b

seen : (a : CodeStats) → stats_of a ≡ node (counts a) (blobs_of (entries_of (entries a)))
seen a = fold_out-CodeStats Statistics stats_step a

-- what stands in the first blob
abbrev is_none : Blobs → Bool
is_none none = true
is_none (blob k t rest) = false

abbrev key_of : Blobs → ℕ
key_of none = 0
key_of (blob k t rest) = k

abbrev tree_of : Statistics → Blobs → Statistics
tree_of s none = s
tree_of s (blob k t rest) = t

abbrev rest_of : Blobs → Blobs
rest_of none = none
rest_of (blob k t rest) = rest

same_blob : (j k : ℕ) (s t : Statistics) (bs cs : Blobs) → j ≡ k → s ≡ t → bs ≡ cs → blob j s bs ≡ blob k t cs
same_blob j k s t bs cs e f g = ap (λ x. blob x s bs) e ∙ ap (λ x. blob k x bs) f ∙ ap (blob k t) g

mutual
  equal_seen : (s : Statistics) (a b : CodeStats) → s ≡ stats_of a → equal a b ≡ true → stats_of a ≡ stats_of b
  equal_seen (node n bs) a b e h =
      let all : equal_members a b ≡ true = sym (by_members a b) ∙ h in
      let but_blanks = second_of_both _ _ all in
      let but_code = second_of_both _ _ but_blanks in
      let but_comments = second_of_both _ _ but_code in
      let same : counts a ≡ counts b =
      same_counts (counts a) (counts b) (eqb-true _ _ (first_of_both _ _ all))
      (eqb-true _ _ (first_of_both _ _ but_blanks))
      (eqb-true _ _ (first_of_both _ _ but_code)) in
      seen a ∙ same_node (counts a) (counts b) _ _ same (entries_seen bs (entries a) (entries b) (ap blobs (e ∙ seen a)) (first_of_both _ _ but_comments)) ∙ sym (seen b)

  entries_seen : (bs : Blobs) (es fs : List (ℕ × CodeStats)) → bs ≡ blobs_of (entries_of es) → equal_entries es fs ≡ true → blobs_of (entries_of es) ≡ blobs_of (entries_of fs)
  entries_seen bs [] [] e h = refl
  entries_seen bs [] (q ∷ fs) e h = absurd (false≢true h)
  entries_seen bs (p ∷ es) [] e h = absurd (false≢true h)
  entries_seen none (p ∷ es) (q ∷ fs) e h = absurd (false≢true (sym (ap is_none e)))
  entries_seen (blob k t rest) (p ∷ es) (q ∷ fs) e h =
      let one = first_of_both (p.0 == q.0 && equal p.1 q.1) (equal_entries es fs) h in
      let others = second_of_both (p.0 == q.0 && equal p.1 q.1) (equal_entries es fs) h in
      same_blob p.0 q.0 (stats_of p.1) (stats_of q.1) (blobs_of (entries_of es)) (blobs_of (entries_of fs))
      (eqb-true p.0 q.0 (first_of_both _ _ one)) (equal_seen t p.1 q.1 (ap (tree_of t) e) (second_of_both _ _ one)) (entries_seen rest es fs (ap rest_of e) others)

mutual
  seen_equal : (s : Statistics) (a b : CodeStats) → s ≡ stats_of a → stats_of a ≡ stats_of b → equal a b ≡ true
  seen_equal (node n bs) a b e h =
      let same : node (counts a) (blobs_of (entries_of (entries a))) ≡ node (counts b) (blobs_of (entries_of (entries b))) = sym (seen a) ∙ h ∙ seen b in
      by_members a b
      ∙ both_true _ _ (same_number (counts a).blanks (counts b).blanks (ap (λ t. (own t).blanks) same))
      (both_true _ _ (same_number (counts a).code (counts b).code (ap (λ t. (own t).code) same))
      (both_true _ _ (same_number (counts a).comments (counts b).comments (ap (λ t. (own t).comments) same))
      (both_true _ _ (seen_entries bs (entries a) (entries b) (ap blobs (e ∙ seen a)) (ap blobs same)) refl)))

  seen_entries : (bs : Blobs) (es fs : List (ℕ × CodeStats)) → bs ≡ blobs_of (entries_of es) → blobs_of (entries_of es) ≡ blobs_of (entries_of fs) → equal_entries es fs ≡ true
  seen_entries bs [] [] e h = refl
  seen_entries bs [] (q ∷ fs) e h = absurd (false≢true (sym (ap is_none h)))
  seen_entries bs (p ∷ es) [] e h = absurd (false≢true (ap is_none h))
  seen_entries none (p ∷ es) (q ∷ fs) e h = absurd (false≢true (sym (ap is_none e)))
  seen_entries (blob k t rest) (p ∷ es) (q ∷ fs) e h =
      both_true (p.0 == q.0 && equal p.1 q.1) (equal_entries es fs)
      (both_true (p.0 == q.0) (equal p.1 q.1) (same_number p.0 q.0 (ap key_of h)) (seen_equal t p.1 q.1 (ap (tree_of t) e) (ap (tree_of t) h)))
      (seen_entries rest es fs (ap rest_of e) (ap rest_of h))

pub alike_if_equal : (a b : CodeStats) → equal a b ≡ true → stats_of a ≡ stats_of b
alike_if_equal a b h = equal_seen (stats_of a) a b refl h

pub equal_if_alike : (a b : CodeStats) → stats_of a ≡ stats_of b → equal a b ≡ true
equal_if_alike a b h = seen_equal (stats_of a) a b refl h
