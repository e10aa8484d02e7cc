use Rattle.std.proofs.Common.{◌≡◌, ◌++◌, ◌∷◌, [], ℕ, List, Option, None, Ok, Err, sym, ap, ap₂, ◌∙◌, subst, refl}
use Rattle.std.specs.Prelude.{MatchOption}
use Rattle.std.proofs.lemmas.Bool.{false≢true}
use Rattle.std.proofs.lemmas.Result.{IfOk-from_err}
use Rattle.tokei_folders.specs.declared.fs.Listing.{Listing}
use Rattle.tokei_folders.specs.declared.fs.Fault.TheVariants.{Refused}
use Rattle.tokei_folders.specs.Answers.{list_answer}
use Rattle.tokei_folders.specs.Tree.{names_of}
use Rattle.tokei_walk.specs.declared.rules_files.Sought.{Sought}
use Rattle.tokei_walk.specs.declared.levels.Context.{Context}
use Rattle.tokei_walk.specs.declared.levels.Level.{Level}
use Rattle.tokei_walk.specs.Sought.{listed, level_of}
use Rattle.tokei_walk.proofs.ListedFiles.{level_listed}
use Rattle.tokei_walk.proofs.Growing.{grows_on}
use Rattle.tokei_walk.proofs.Lasting.{lasts, answers, refused}
use Rattle.tokei_walk.specs.Noted.{NotesSay, noted_of, noted_unlisted}
use Rattle.tokei_walk.proofs.Noting.{listed_noted, says_on, says_what}
use Rattle.tokei_walk.proofs.stack.enter.Goals as goal

pub returns-clause-told : goal.returns-clause-told
returns-clause-told g c = λ t e.
    let x = c.args.settings.now in let place = c.args.place in
    let first = c.listing.ensures.folders.same ∙ e in
    let told =
    subst
    (λ (o : Option Listing). MatchOption o
    (list_answer t (names_of c.as_str.result.now) ≡ Err Refused)
    (λ l. list_answer t (names_of c.as_str.result.now) ≡ Ok l.entries.items))
    c.in-Some.is (c.in_ok-listing.ensures.told t e) in
    let listed_here = ap (λ p. list_answer t (names_of p)) (sym c.as_str.ensures) ∙ told in
    let sought = c.sought_among-sought.ensures ∙ ap (listed x.rules) c.as_slice.ensures.value in
    let at = c.as_str-place.ensures ∙ c.in_ok-push_folder.ensures.place in
    let level =
    ap₂ (λ (s : Sought) (p : List ℕ). level_of t s (names_of p)) sought at
    ∙ level_listed t x.rules (names_of place) c.in-Some.listing.entries.items listed_here
    in record {
      entries_are = listed_here ∙ ap Ok (sym (c.in_ok-push_folder.ensures.entries ∙ c.from_vec.ensures));
      levels_are =
          c.in_ok-read_sought.ensures.told t first
          ∙ ap₂ (λ (x : Context) (l : Level). x.levels ++ l ∷ []) c.in_ok-push_folder.ensures.context level;
    }

pub returns-in_err-read_sought-clause-notes : goal.returns-in_err-read_sought-clause-notes
returns-in_err-read_sought-clause-notes g c = grows_on _ _ _ c.listing.ensures.notes c.read_sought.ensures.notes

pub returns-in_err-push_folder-clause-notes : goal.returns-in_err-push_folder-clause-notes
returns-in_err-push_folder-clause-notes g c = c.listing.ensures.notes

pub returns-clause-notes : goal.returns-clause-notes
returns-clause-notes g c = grows_on _ _ _ c.listing.ensures.notes c.read_sought.ensures.notes

pub returns-in_default-clause-folders : goal.returns-in_default-clause-folders
returns-in_default-clause-folders g c = answers c.in_ok-listing.ensures.folders

pub returns-in_err-read_sought-clause-folders : goal.returns-in_err-read_sought-clause-folders
returns-in_err-read_sought-clause-folders g c = refused c.from_residual-in_err-read_sought.ensures.0 (c.read_sought.ensures.folders.same ∙ c.listing.ensures.folders.same)

pub returns-in_err-push_folder-clause-folders : goal.returns-in_err-push_folder-clause-folders
returns-in_err-push_folder-clause-folders g c = refused c.from_residual-in_err-push_folder.ensures.0 c.listing.ensures.folders.same

pub returns-clause-folders : goal.returns-clause-folders
returns-clause-folders g c = answers (lasts c.in_ok-listing.ensures.folders c.in_ok-read_sought.ensures.folders)

pub returns-clause-entered : goal.returns-clause-entered
returns-clause-entered g c = λ q.
    let pushed = c.in_ok-push_folder.ensures in record {
      place_is = pushed.place;
      holders_is = pushed.holders;
      names_stay = ap (λ (x : Context). x.names) pushed.context;
      shown_stay = ap (λ (x : Context). x.shown) pushed.context;
      levels_is = c.in_ok-read_sought.ensures.last ∙ ap (λ (x : Context). x.levels) pushed.context;
      few = pushed.few;
    }

pub returns-in_default-clause-told : goal.returns-in_default-clause-told
returns-in_default-clause-told g c = λ t e.
    let at = c.as_str.result.now in
    let told =
    subst
    (λ (o : Option Listing). MatchOption o (list_answer t (names_of at) ≡ Err Refused)
    (λ l. list_answer t (names_of at) ≡ Ok l.entries.items))
    c.in_default.is (c.in_ok-listing.ensures.told t e) in
    ap (λ p. list_answer t (names_of p)) (sym c.as_str.ensures) ∙ told

pub returns-in_default-clause-noted : goal.returns-in_default-clause-noted
returns-in_default-clause-noted g c = λ t e.
    subst (λ (p : List ℕ). NotesSay c.args.notes.now c.listing.new.notes (noted_unlisted (names_of p) None)) c.as_str.ensures
    (subst (λ (o : Option Listing). NotesSay c.args.notes.now c.listing.new.notes (noted_unlisted (names_of c.as_str.result.now) o)) c.in_default.is
    (c.in_ok-listing.ensures.said t e))

pub returns-clause-noted : goal.returns-clause-noted
returns-clause-noted g c = λ t e.
    let r = c.args.settings.now.rules in let place = c.args.place in let at = c.as_str.result.now in
    let told =
    subst
    (λ (o : Option Listing). MatchOption o (list_answer t (names_of at) ≡ Err Refused)
    (λ l. list_answer t (names_of at) ≡ Ok l.entries.items))
    c.in-Some.is (c.in_ok-listing.ensures.told t e) in
    let listed_here = ap (λ p. list_answer t (names_of p)) (sym c.as_str.ensures) ∙ told in
    let quiet =
    subst (λ (o : Option Listing). NotesSay c.args.notes.now c.listing.new.notes (noted_unlisted (names_of at) o)) c.in-Some.is
    (c.in_ok-listing.ensures.said t e) in
    let sought = c.sought_among-sought.ensures ∙ ap (listed r) c.as_slice.ensures.value in
    let level =
    ap₂ (λ (s : Sought) (p : List ℕ). noted_of t s (names_of p)) sought (c.as_str-place.ensures ∙ c.in_ok-push_folder.ensures.place)
    ∙ listed_noted t r (names_of place) c.in-Some.listing.entries.items listed_here in
    says_what _ _ _ _ level (says_on _ _ _ [] _ quiet (c.in_ok-read_sought.ensures.noted t (c.listing.ensures.folders.same ∙ e)))

pub returns-clause-refused : goal.returns-clause-refused
returns-clause-refused g c = λ q. absurd (false≢true (sym q))

pub returns-in_default-clause-entered : goal.returns-in_default-clause-entered
returns-in_default-clause-entered g c = λ q. absurd (false≢true q)

pub returns-in_default-clause-refused : goal.returns-in_default-clause-refused
returns-in_default-clause-refused g c = λ q. refl

pub returns-in_default-clause-notes : goal.returns-in_default-clause-notes
returns-in_default-clause-notes g c = c.listing.ensures.notes

pub returns-in_err-read_sought-clause-told : goal.returns-in_err-read_sought-clause-told
returns-in_err-read_sought-clause-told g c = λ t e. IfOk-from_err _ _ c.from_residual-in_err-read_sought.ensures.0

pub returns-in_err-read_sought-clause-noted : goal.returns-in_err-read_sought-clause-noted
returns-in_err-read_sought-clause-noted g c = λ t e. IfOk-from_err _ _ c.from_residual-in_err-read_sought.ensures.0

pub returns-in_err-read_sought-clause-entered : goal.returns-in_err-read_sought-clause-entered
returns-in_err-read_sought-clause-entered g c = IfOk-from_err _ _ c.from_residual-in_err-read_sought.ensures.0

pub returns-in_err-read_sought-clause-refused : goal.returns-in_err-read_sought-clause-refused
returns-in_err-read_sought-clause-refused g c = IfOk-from_err _ _ c.from_residual-in_err-read_sought.ensures.0

pub returns-in_err-push_folder-clause-told : goal.returns-in_err-push_folder-clause-told
returns-in_err-push_folder-clause-told g c = λ t e. IfOk-from_err _ _ c.from_residual-in_err-push_folder.ensures.0

pub returns-in_err-push_folder-clause-noted : goal.returns-in_err-push_folder-clause-noted
returns-in_err-push_folder-clause-noted g c = λ t e. IfOk-from_err _ _ c.from_residual-in_err-push_folder.ensures.0

pub returns-in_err-push_folder-clause-entered : goal.returns-in_err-push_folder-clause-entered
returns-in_err-push_folder-clause-entered g c = IfOk-from_err _ _ c.from_residual-in_err-push_folder.ensures.0

pub returns-in_err-push_folder-clause-refused : goal.returns-in_err-push_folder-clause-refused
returns-in_err-push_folder-clause-refused g c = IfOk-from_err _ _ c.from_residual-in_err-push_folder.ensures.0
