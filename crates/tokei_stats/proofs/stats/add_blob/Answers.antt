use Rattle.std.proofs.Common.{◌≡◌, ◌∙◌, ℕ, List, ap, sym, option_map, Some, Result, Ok, Err, OnOk, OnErr, BTreeMap, nat_cmp}
use Rattle.std.specs.Map.{lookup, set_value}
use Rattle.std.specs.BTreeMap.{insert_entry, is_at}
use Rattle.std.proofs.lemmas.Map.Steps.{set_value_same}
use Rattle.tokei_stats.specs.Statistics.{joined, sum}
use Rattle.tokei_stats.specs.Seen.{stats_of}
use Rattle.tokei_stats.specs.declared.stats.CodeStats.{CodeStats}
use Rattle.tokei_stats.proofs.Adding.{put_one}
use Rattle.tokei_stats.proofs.Joining.{joined_there, fits_there}
use Rattle.tokei_stats.proofs.stats.add_blob.Goals as goal

on_ok : {A B : Type 0} {P Q : Type 0} (r : Result A B) → (P → Q) → OnOk r P → OnOk r Q
on_ok (Ok x) f h = f h
on_ok (Err e) f h = h

on_err : {A B : Type 0} {P Q : Type 0} (r : Result A B) → (P → Q) → OnErr r P → OnErr r Q
on_err (Ok x) f h = h
on_err (Err e) f h = f h

-- The value v that the language has becomes w, which is v.
kept : (old new : List (ℕ × CodeStats)) (k : ℕ) (v w : CodeStats) → Some v ≡ lookup (is_at (nat_cmp k)) old
    → new ≡ set_value (is_at (nat_cmp k)) old w → w ≡ v → new ≡ old
kept old new k v w there set e = set ∙ ap (set_value (is_at (nat_cmp k)) old) e ∙ set_value_same (is_at (nat_cmp k)) old v (sym there)

pub returns-in-Some-clause-ok : goal.returns-in-Some-clause-ok
returns-in-Some-clause-ok c =
    on_ok c.join.result
    (joined_there c.args.blobs.now.entries c.args.language c.in-Some.there.now
    (stats_of c.args.stats) c.in-Some.ensures.value _ c.join.new.self (c.get_mut.follows.holds c.join.new.self).0
    c.in-Some.ensures.ordered)
    c.join.ensures.ok

pub returns-in-Some-clause-err : goal.returns-in-Some-clause-err
returns-in-Some-clause-err c =
    on_err c.join.result
    (kept c.args.blobs.now.entries _ c.args.language c.in-Some.there.now c.join.new.self
    c.in-Some.ensures.value (c.get_mut.follows.holds c.join.new.self).0)
    c.join.ensures.err

pub returns-in-Some-clause-overflow : goal.returns-in-Some-clause-overflow
returns-in-Some-clause-overflow c is fits =
    c.join.ensures.overflow is (fits_there c.args.blobs.now.entries c.args.language c.in-Some.there.now
    (stats_of c.args.stats) c.in-Some.ensures.value fits)

pub returns-clause-ok : goal.returns-clause-ok
returns-clause-ok c =
    let old = c.args.blobs.now.entries in
    on_ok c.put.result (λ e. put_one old c.put.new.blobs.entries c.args.language c.args.stats (stats_of c.args.stats)
    (ap (λ o. joined (option_map stats_of o) (λ s. sum s (stats_of c.args.stats)) (stats_of c.args.stats)) c.in_default.ensures.value)
    (e ∙ ap (λ (m : BTreeMap ℕ CodeStats). insert_entry nat_cmp m.entries c.args.language c.args.stats) c.get_mut.follows.holds-at-none)) c.put.ensures.ok
