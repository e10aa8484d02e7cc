use Rattle.std.proofs.Common.{◌≡◌, ℕ, List, length, Option, None, Ok, Err, refl, sym, ap, ◌∙◌, subst, arith}
use Rattle.std.specs.Prelude.{MatchOption}
use Rattle.tokei_folders.specs.declared.fs.Listing.{Listing}
use Rattle.tokei_folders.specs.declared.fs.Fault.TheVariants.{Refused}
use Rattle.tokei_folders.specs.Answers.{list_answer}
use Rattle.tokei_folders.specs.Tree.{names_of}
use Rattle.tokei_walk.specs.Sought.{listed}
use Rattle.tokei_walk.proofs.Ranking.{below_root, root_rank}
use Rattle.tokei_walk.proofs.Growing.{grows_on}
use Rattle.tokei_walk.proofs.Lasting.{lasts, answers, on_ok, on_ok_by2}
use Rattle.tokei_walk.specs.Noted.{NotesSay, noted_unlisted}
use Rattle.tokei_walk.proofs.MetRoots.{root_unlisted, root_walked}
use Rattle.tokei_walk.proofs.roots.enter_root.Goals as goal

pub returns-clause-holders : goal.returns-clause-holders
returns-clause-holders g c = on_ok c.set_context_in_root.result (omega (arith, ap length c.walk_root.ensures.holders))

pub returns-in_default-clause-bounded : goal.returns-in_default-clause-bounded
returns-in_default-clause-bounded g c = below_root c.args.stack.now

pub returns-clause-bounded : goal.returns-clause-bounded
returns-clause-bounded g c =
    let s = c.walk_root.new.stack in
    on_ok c.set_context_in_root.result
    (omega (
      arith,
      root_rank (record { context = c.set_context_in_root.new.context; place = s.place; left = s.left; holders = s.holders })
          c.walk_root.ensures.holders c.walk_root.ensures.few,
    ))

pub returns-clause-notes : goal.returns-clause-notes
returns-clause-notes g c = grows_on _ _ _ c.listing.ensures.notes c.set_context_in_root.ensures.notes

pub returns-in_default-clause-folders : goal.returns-in_default-clause-folders
returns-in_default-clause-folders g c = answers c.in_ok-listing.ensures.folders

pub returns-clause-folders : goal.returns-clause-folders
returns-clause-folders g c = lasts c.in_ok-listing.ensures.folders c.set_context_in_root.ensures.folders

pub returns-in_default-clause-met : goal.returns-in_default-clause-met
returns-in_default-clause-met g c = λ t e left below.
    let x = c.args.settings.now in let root = c.args.root in let at = c.as_str.result.now in
    let told =
    subst
    (λ (o : Option Listing). MatchOption o (list_answer t (names_of at) ≡ Err Refused)
    (λ l. list_answer t (names_of at) ≡ Ok l.entries.items))
    c.in_default.is (c.in_ok-listing.ensures.told t e) in
    let refused = ap (λ p. list_answer t (names_of p)) (sym c.as_str.ensures) ∙ told in
    let said =
    subst (λ (p : List ℕ). NotesSay c.args.notes.now c.listing.new.notes (noted_unlisted (names_of p) None)) c.as_str.ensures
    (subst (λ (o : Option Listing). NotesSay c.args.notes.now c.listing.new.notes (noted_unlisted (names_of at) o)) c.in_default.is
    (c.in_ok-listing.ensures.said t e)) in
    root_unlisted x.excludes x.rules t c.args.stack.now root c.args.notes.now c.listing.new.notes refused left below said

pub returns-clause-met : goal.returns-clause-met
returns-clause-met g c = λ t e.
    let x = c.args.settings.now in let root = c.args.root in let at = c.as_str.result.now in
    let told =
    subst
    (λ (o : Option Listing). MatchOption o (list_answer t (names_of at) ≡ Err Refused)
    (λ l. list_answer t (names_of at) ≡ Ok l.entries.items))
    c.in-Some.is (c.in_ok-listing.ensures.told t e) in
    let entries = ap (λ p. list_answer t (names_of p)) (sym c.as_str.ensures) ∙ told in
    let quiet =
    subst (λ (o : Option Listing). NotesSay c.args.notes.now c.listing.new.notes (noted_unlisted (names_of at) o)) c.in-Some.is
    (c.in_ok-listing.ensures.said t e) in
    let sought = c.sought_among-sought.ensures ∙ ap (listed x.rules) c.as_slice.ensures.value in
    let walked = c.walk_root.ensures in let s = c.walk_root.new.stack in
    let first = c.listing.ensures.folders.same ∙ e in
    on_ok_by2 c.set_context_in_root.result
    (λ made said left below.
    root_walked x.excludes x.rules t (record { context = c.set_context_in_root.new.context; place = s.place; left = s.left; holders = s.holders })
    c.set_context_in_root.new.context c.sought_among-sought.result
    root c.as_str-place.result.now c.in-Some.listing.entries.items c.args.notes.now c.listing.new.notes c.set_context_in_root.new.notes
    entries sought (c.as_str-place.ensures ∙ walked.place)
    made refl walked.place walked.entries walked.holders quiet said)
    (c.set_context_in_root.ensures.told t first) (c.set_context_in_root.ensures.noted t first)
