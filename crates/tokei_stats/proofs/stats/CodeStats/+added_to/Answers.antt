use Rattle.std.proofs.Common.{◌≡◌, ℕ, rules, ◌∙◌, ap, ap₂, sym, subst, option_map, Ok, Err}
use Rattle.std.specs.Ordering.{nat_cmp}
use Rattle.std.specs.Map.{lookup}
use Rattle.std.specs.BTreeMap.{is_at}
use Rattle.tokei_stats.specs.Statistics.{blobs, plus, joined, sum, add_all}
use Rattle.tokei_stats.specs.Overflow.{BlobsFit, Fits}
use Rattle.tokei_stats.specs.Seen.{entries_of, blobs_of, stats_of}
use Rattle.tokei_stats.proofs.Adding.{add_one, put_one_fits, turn_fits}
use Rattle.tokei_stats.proofs.Fitting.{blobs-fit}
use Rattle.tokei_stats.proofs.NoBlobs.{added_some, none_added}
use Rattle.std.proofs.lemmas.Result.{err_from_is_err_and}
use Rattle.tokei_stats.proofs.Members.{blobs_seen, blobs_fit, sum_node}
use Rattle.tokei_stats.proofs.SameMembers.{same_node}
use Rattle.tokei_stats.proofs.stats.CodeStats.+added_to.Goals as goal
use Rattle.tokei_stats.proofs.stats.CodeStats.+added_to.Goals.{in-Some-get+in_ok-both-in-Some-get, in-None-get+in_ok-both-in-None-get}

pub loop-language-preserved : goal.loop-language-preserved
loop-language-preserved t c =
    let joined_is : stats_of c.match-get.both ≡ joined
    (option_map stats_of
    (lookup (is_at (nat_cmp c.in-Some.language.now)) c.loop-language.blobs.entries))
    (λ s. sum s (stats_of c.in-Some.stats.now)) (stats_of c.in-Some.stats.now) =
    elim c.match-get.branch [
      | in-Some-get+in_ok-both-in-Some-get w ↦ ap stats_of w.both-is
          ∙ w.in_ok-both-in-Some-get.ensures.ok
          ∙ ap
          (λ o. joined (option_map stats_of o) (λ s. sum s (stats_of c.in-Some.stats.now))
          (stats_of c.in-Some.stats.now))
          w.in-Some-get.ensures.value
      | in-None-get+in_ok-both-in-None-get w ↦ ap stats_of w.both-is
          ∙ w.in_ok-both-in-None-get.ensures.ok
          ∙ ap
          (λ o. joined (option_map stats_of o) (λ s. sum s (stats_of c.in-Some.stats.now))
          (stats_of c.in-Some.stats.now))
          w.in-None-get.ensures.value
    ] in
    let fits_here : Fits (stats_of c.match-get.both) =
    elim c.match-get.branch [
      | in-Some-get+in_ok-both-in-Some-get w ↦ subst Fits (sym (ap stats_of w.both-is ∙ w.in_ok-both-in-Some-get.ensures.ok)) w.in_ok-both-in-Some-get.ensures.fits
      | in-None-get+in_ok-both-in-None-get w ↦ subst (λ v. Fits (stats_of v)) (sym w.both-is) w.in_ok-both-in-None-get.ensures.fits
    ] in
    record {
      same = add_one c.loop-language.blobs.entries c.put.new.blobs.entries c.next.new.self c.in-Some.language.now c.match-get.both c.in-Some.stats.now joined_is c.in_ok-put.ensures.ok
          ∙ ap (λ es. add_all (blobs_of (entries_of c.loop-language.blobs.entries)) (blobs_of (entries_of es))) (sym c.in-Some.ensures.steps)
          ∙ c.loop-language.invariant.same;
      fits = put_one_fits c.loop-language.blobs.entries c.put.new.blobs.entries c.in-Some.language.now c.match-get.both c.in_ok-put.ensures.ok fits_here c.loop-language.invariant.fits;
    }

pub returns-in_err-both-in-Some-get-clause-overflow : goal.returns-in_err-both-in-Some-get-clause-overflow
returns-in_err-both-in-Some-get-clause-overflow t c =
    let p = err_from_is_err_and c.from_residual-in_err-both-in-Some-get.result c.from_residual-in_err-both-in-Some-get.ensures.1 in
    let all = ap (λ es. add_all (blobs_of (entries_of c.loop-language.blobs.entries)) (blobs_of (entries_of es))) (sym c.in-Some.ensures.steps) ∙ c.loop-language.invariant.same in
    rw (p.1, p.2) (λ is fits. c.in_err-both-in-Some-get.ensures.overflow is
    (turn_fits c.loop-language.blobs.entries c.next.new.self c.in-Some.language.now _ c.in-Some.stats.now (sym c.in-Some-get.ensures.value)
    (subst BlobsFit (sym all) (blobs-fit (stats_of c.args.other.now) (stats_of c.args.self.now) fits))))

pub returns-in_err-both-in-Some-get-clause-free : goal.returns-in_err-both-in-Some-get-clause-free
returns-in_err-both-in-Some-get-clause-free t c =
    let all = ap (λ es. add_all (blobs_of (entries_of c.loop-language.blobs.entries)) (blobs_of (entries_of es))) (sym c.in-Some.ensures.steps) ∙ c.loop-language.invariant.same in
    λ mine theirs refused. added_some (blobs_of (entries_of c.loop-language.blobs.entries)) (blobs_of (entries_of c.next.new.self)) _ c.in-Some.language.now (stats_of c.in-Some.stats.now) all
    (none_added (blobs (stats_of c.args.other.now)) (blobs (stats_of c.args.self.now)) mine theirs)

pub returns-in_err-both-in-None-get-clause-free : goal.returns-in_err-both-in-None-get-clause-free
returns-in_err-both-in-None-get-clause-free t c =
    let all = ap (λ es. add_all (blobs_of (entries_of c.loop-language.blobs.entries)) (blobs_of (entries_of es))) (sym c.in-Some.ensures.steps) ∙ c.loop-language.invariant.same in
    λ mine theirs refused. added_some (blobs_of (entries_of c.loop-language.blobs.entries)) (blobs_of (entries_of c.next.new.self)) _ c.in-Some.language.now (stats_of c.in-Some.stats.now) all
    (none_added (blobs (stats_of c.args.other.now)) (blobs (stats_of c.args.self.now)) mine theirs)

pub returns-in_err-put-clause-free : goal.returns-in_err-put-clause-free
returns-in_err-put-clause-free t c =
    let all = ap (λ es. add_all (blobs_of (entries_of c.loop-language.blobs.entries)) (blobs_of (entries_of es))) (sym c.in-Some.ensures.steps) ∙ c.loop-language.invariant.same in
    λ mine theirs refused. added_some (blobs_of (entries_of c.loop-language.blobs.entries)) (blobs_of (entries_of c.next.new.self)) _ c.in-Some.language.now (stats_of c.in-Some.stats.now) all
    (none_added (blobs (stats_of c.args.other.now)) (blobs (stats_of c.args.self.now)) mine theirs)

pub loop-language-init : goal.loop-language-init
loop-language-init t c =
    let copy = c.in_ok-blobs.field-0 in
    let rest = c.into_iter-language-iterator.ensures.into_iter_gives ∙ c.iter-language-items.ensures.rest in
    record {
      same = ap₂ add_all (sym (blobs_seen copy) ∙ ap blobs c.in_ok-blobs.ensures.ok)
          (ap (λ es. blobs_of (entries_of es)) rest ∙ sym (blobs_seen c.args.self.now));
      fits = blobs_fit copy c.in_ok-blobs.ensures.fits;
    }

total : (t : ℕ) (c : goal.After-assembled t) → stats_of c.assembled.result ≡ sum (stats_of c.args.other.now) (stats_of c.args.self.now)
total t c =
    c.assembled.ensures
    ∙ same_node _ _ _ _ (c.in_ok-own.ensures.ok ∙ ap₂ plus c.own_counts.ensures c.own_counts-2.ensures)
    (ap (λ es. add_all (blobs_of (entries_of c.loop-language.blobs.entries)) (blobs_of (entries_of es))) (sym c.in-None.ensures.steps.0) ∙ c.loop-language.invariant.same)
    ∙ sum_node (stats_of c.args.other.now) (stats_of c.args.self.now)

pub returns-clause-ok : goal.returns-clause-ok
returns-clause-ok t c = total t c

pub returns-clause-fits : goal.returns-clause-fits
returns-clause-fits t c =
    subst Fits (sym c.assembled.ensures ∙ total t c)
    (record { blanks = search rules; code = search rules; comments = search rules }, c.loop-language.invariant.fits)

never : {A B : Type 0} {x : A} {y : B} → Ok x ≡ Err y → ⊥
never e = cc

pub returns-clause-free : goal.returns-clause-free
returns-clause-free t c = λ mine theirs e. never e

pub returns-clause-overflow : goal.returns-clause-overflow
returns-clause-overflow t c = λ e fits. never e
