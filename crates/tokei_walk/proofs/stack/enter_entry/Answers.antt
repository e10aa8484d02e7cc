use Rattle.std.proofs.Common.{◌≡◌, ◌<◌, ℕ, List, length, Bool, true, false, Option, OnSome, refl, ◌∙◌, subst, sym}
use Rattle.std.specs.Prelude.{IfSome}
use Rattle.std.proofs.lemmas.Bool.{false≢true}
use Rattle.tokei_folders.specs.Places.{joined}
use Rattle.tokei_walk.specs.declared.stack.Stack.{Stack}
use Rattle.tokei_walk.specs.Levels.{under, drops}
use Rattle.tokei_walk.specs.Stacks.{Enters, at_entry}
use Rattle.tokei_walk.proofs.StackSteps.{refused_stack}
use Rattle.tokei_walk.proofs.Growing.{grows_on}
use Rattle.tokei_walk.proofs.Lasting.{answers, refused}
use Rattle.tokei_walk.specs.declared.kept_file.Note.{Note}
use Rattle.tokei_walk.specs.Noted.{NotesSay}
use Rattle.tokei_walk.specs.MetSteps.{noted_entering}
use Rattle.tokei_walk.proofs.MetSteps.{meets_entered, meets_refused}
use Rattle.tokei_walk.proofs.stack.enter_entry.Goals as goal

pub returns-in_default-clause-refused : goal.returns-in_default-clause-refused
returns-in_default-clause-refused g c = λ q. c.in_ok-place.ensures.same c.in_default.is

pub returns-then-branch-clause-shallow : goal.returns-then-branch-clause-shallow
returns-then-branch-clause-shallow g c = λ q. subst (λ (o : Option (List ℕ)). OnSome o (length c.args.stack.now.holders < 256)) c.in-Some.is c.in_ok-place.ensures.shallow

pub returns-then-branch-clause-entered : goal.returns-then-branch-clause-entered
returns-then-branch-clause-entered g c = λ q.
    let s = c.args.stack.now in let name = c.args.name in let v = c.enter.new.stack in
    let at = subst (λ (o : Option (List ℕ)). IfSome o (λ p. p ≡ joined s.place name)) c.in-Some.is c.in_ok-place.ensures.place in
    let named = subst (λ (o : Option (List ℕ)). OnSome o (c.push_folder_name.new.stack ≡ at_entry s name)) c.in-Some.is c.in_ok-place.ensures.named in
    subst (λ (p : List ℕ). Enters (at_entry s name) v p) at (subst (λ (w : Stack). Enters w v c.in-Some.place) named (c.in_ok-enter.ensures.entered c.if-branch.true))

pub returns-clause-refused : goal.returns-clause-refused
returns-clause-refused g c = λ q.
    let s = c.args.stack.now in let name = c.args.name in
    let named = subst (λ (o : Option (List ℕ)). OnSome o (c.push_folder_name.new.stack ≡ at_entry s name)) c.in-Some.is c.in_ok-place.ensures.named in
    refused_stack s c.enter.new.stack (under s.context name) c.forget.new.context name (c.in_ok-enter.ensures.refused c.if-branch.false ∙ named) refl c.forget.ensures

pub returns-in_err-enter-clause-notes : goal.returns-in_err-enter-clause-notes
returns-in_err-enter-clause-notes g c = grows_on _ _ _ c.push_folder_name.ensures.notes c.enter.ensures.notes

pub returns-then-branch-clause-notes : goal.returns-then-branch-clause-notes
returns-then-branch-clause-notes g c = grows_on _ _ _ c.push_folder_name.ensures.notes c.enter.ensures.notes

pub returns-clause-notes : goal.returns-clause-notes
returns-clause-notes g c = grows_on _ _ _ c.push_folder_name.ensures.notes c.enter.ensures.notes

pub returns-in_err-enter-clause-folders : goal.returns-in_err-enter-clause-folders
returns-in_err-enter-clause-folders g c = refused c.from_residual-in_err-enter.ensures.0 c.enter.ensures.folders.same

pub returns-then-branch-clause-folders : goal.returns-then-branch-clause-folders
returns-then-branch-clause-folders g c = answers c.in_ok-enter.ensures.folders

pub returns-clause-folders : goal.returns-clause-folders
returns-clause-folders g c = answers c.in_ok-enter.ensures.folders

pub returns-then-branch-clause-met : goal.returns-then-branch-clause-met
returns-then-branch-clause-met g c = λ t e.
    let x = c.args.settings.now in let s = c.args.stack.now in let name = c.args.name in let u = c.push_folder_name.new.stack in
    let at = subst (λ (o : Option (List ℕ)). IfSome o (λ p. p ≡ joined s.place name)) c.in-Some.is c.in_ok-place.ensures.place in
    let named = subst (λ (o : Option (List ℕ)). OnSome o (u ≡ at_entry s name)) c.in-Some.is c.in_ok-place.ensures.named in
    let shallow = subst (λ (o : Option (List ℕ)). OnSome o (length s.holders < 256)) c.in-Some.is c.in_ok-place.ensures.shallow in
    let kept = subst (λ (o : Option (List ℕ)). OnSome o (drops x.excludes x.rules s.context name true ≡ false)) c.in-Some.is c.in_ok-place.ensures.kept in
    let quiet = subst (λ (o : Option (List ℕ)). OnSome o (c.push_folder_name.new.notes ≡ c.args.notes.now)) c.in-Some.is c.in_ok-place.ensures.quiet in
    let said = subst (λ (b : Bool). NotesSay c.push_folder_name.new.notes c.enter.new.notes (noted_entering t x.rules c.in-Some.place b)) c.if-branch.true (c.in_ok-enter.ensures.noted t e) in
    meets_entered x.excludes x.rules t s u c.enter.new.stack name c.in-Some.place _ c.args.notes.now c.enter.new.notes c.if-branch.true named at kept shallow
    c.in_ok-enter.ensures.entered (c.in_ok-enter.ensures.told t e)
    (subst (λ (n : List Note). NotesSay n c.enter.new.notes (noted_entering t x.rules c.in-Some.place true)) quiet said)

pub returns-clause-met : goal.returns-clause-met
returns-clause-met g c = λ t e.
    let x = c.args.settings.now in let s = c.args.stack.now in let name = c.args.name in
    let at = subst (λ (o : Option (List ℕ)). IfSome o (λ p. p ≡ joined s.place name)) c.in-Some.is c.in_ok-place.ensures.place in
    let shallow = subst (λ (o : Option (List ℕ)). OnSome o (length s.holders < 256)) c.in-Some.is c.in_ok-place.ensures.shallow in
    let kept = subst (λ (o : Option (List ℕ)). OnSome o (drops x.excludes x.rules s.context name true ≡ false)) c.in-Some.is c.in_ok-place.ensures.kept in
    let quiet = subst (λ (o : Option (List ℕ)). OnSome o (c.push_folder_name.new.notes ≡ c.args.notes.now)) c.in-Some.is c.in_ok-place.ensures.quiet in
    let said = subst (λ (b : Bool). NotesSay c.push_folder_name.new.notes c.enter.new.notes (noted_entering t x.rules c.in-Some.place b)) c.if-branch.false (c.in_ok-enter.ensures.noted t e) in
    meets_refused x.excludes x.rules t s c.push_folder_name.new.stack c.enter.new.stack name c.in-Some.place _ c.args.notes.now c.enter.new.notes c.if-branch.false at kept shallow
    (c.in_ok-enter.ensures.told t e)
    (subst (λ (n : List Note). NotesSay n c.enter.new.notes (noted_entering t x.rules c.in-Some.place false)) quiet said)

pub returns-in_default-clause-met : goal.returns-in_default-clause-met
returns-in_default-clause-met g c = λ t e. c.in_ok-place.ensures.met c.in_default.is t

pub returns-clause-entered : goal.returns-clause-entered
returns-clause-entered g c = λ q. absurd (false≢true q)

pub returns-in_default-clause-entered : goal.returns-in_default-clause-entered
returns-in_default-clause-entered g c = λ q. absurd (false≢true q)

pub returns-then-branch-clause-refused : goal.returns-then-branch-clause-refused
returns-then-branch-clause-refused g c = λ q. absurd (false≢true (sym q))

pub returns-clause-shallow : goal.returns-clause-shallow
returns-clause-shallow g c = λ q. absurd (false≢true q)

pub returns-in_default-clause-shallow : goal.returns-in_default-clause-shallow
returns-in_default-clause-shallow g c = λ q. absurd (false≢true q)
