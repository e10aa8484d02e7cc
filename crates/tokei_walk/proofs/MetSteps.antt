-- What a step of the walk leaves of what is to be met.
use Rattle.std.proofs.Common.{◌≡◌, ℕ, zero, suc, ◌-◌, ◌<◌, ◌≤◌, List, [], ◌∷◌, ◌++◌, length, reverse, Bool, true, false, cond, Some, None, Result, Ok, Err, refl, sym, ap, ap₂, ◌∙◌, arith, append_assoc, subst, IfOk, OnOk}
use Rattle.std.specs.declared.alloc.AllocError.{AllocError}
use Rattle.std.specs.Bool.{MatchBool}
use Rattle.std.proofs.lemmas.List.{reverse-append, length-reverse, length-append}
use Rattle.tokei_folders.specs.declared.fs.Entry.{Entry}
use Rattle.tokei_folders.specs.declared.fs.Kind.{Kind}
use Rattle.tokei_folders.specs.declared.fs.Kind.TheVariants.{File, Folder, Other}
use Rattle.tokei_folders.specs.declared.fs.Fault.TheVariants.{Refused}
use Rattle.tokei_folders.specs.Answers.{list_answer}
use Rattle.tokei_folders.specs.Places.{joined}
use Rattle.tokei_folders.specs.Tree.{Tree, names_of}
use Rattle.tokei_ignore.specs.declared.patterns.Pattern.{Pattern}
use Rattle.tokei_walk.specs.declared.kept_file.Note.{Note}
use Rattle.tokei_walk.specs.declared.kept_file.NoteKind.TheVariants.{TooDeep, Unlisted}
use Rattle.tokei_walk.specs.declared.levels.Context.{Context}
use Rattle.tokei_walk.specs.declared.levels.Rules.{Rules}
use Rattle.tokei_walk.specs.declared.stack.Frame.{Frame}
use Rattle.tokei_walk.specs.declared.stack.Stack.{Stack}
use Rattle.tokei_walk.specs.declared.stack.Step.{Step}
use Rattle.tokei_walk.specs.Descent.{is_folder, outer, with_level}
use Rattle.tokei_walk.specs.Levels.{level_at, drops, under}
use Rattle.tokei_walk.specs.Met.{Met, as_met, met_below, met_entries, met_entry, met_file, met_kind, met_listing, met_note}
use Rattle.tokei_walk.specs.MetSteps.{Meets, StepMeets, met_visit}
use Rattle.tokei_walk.specs.ToMeet.{met_frames, met_stack, met_top}
use Rattle.tokei_walk.specs.Noted.{NotesSay, noted_level}
use Rattle.tokei_walk.specs.Stacks.{Pops, Leaves, Enters, EntersTold, Stays, at_entry, file_kept}
use Rattle.tokei_walk.proofs.Meeting.{met_by, met_from, met_more, met_said, met_same, met_to}
use Rattle.tokei_walk.proofs.StackSteps.{entered_context, outer_is, with_context}

pub top_ends : (xs : List Pattern) (r : Rules) (t : Tree) (s : Stack) → reverse s.left ≡ [] → met_top xs r t s ≡ []
unfolding met_entries
top_ends xs r t s e = ap (met_entries xs r (met_below xs r t (256 - length s.holders)) s.context s.place) e

abbrev entry_of : List Pattern → Rules → Tree → Stack → Entry → List Met
entry_of xs r t s e = met_entry xs r (met_below xs r t (256 - length s.holders)) s.context s.place e

top_step : (xs : List Pattern) (r : Rules) (t : Tree) (s u : Stack) (entry : Entry) → Pops s u (Some entry) → met_top xs r t s ≡ entry_of xs r t u entry ++ met_top xs r t u
unfolding met_entries
top_step xs r t s u entry h =
    ap (met_entries xs r (met_below xs r t (256 - length s.holders)) s.context s.place) h.0 ∙ ap (λ (v : Stack). entry_of xs r t v entry ++ met_top xs r t v) (sym h.1)

entry_is : (xs : List Pattern) (r : Rules) (t : Tree) (u : Stack) (entry : Entry) (k : Kind) → entry.kind ≡ k
    → entry_of xs r t u entry
    ≡ met_kind k (drops xs r u.context entry.name (is_folder k)) (joined u.place entry.name)
    (met_below xs r t (256 - length u.holders) (under u.context entry.name) (joined u.place entry.name))
unfolding met_entry
entry_is xs r t u entry k e =
    ap
    (λ (j : Kind). met_kind j (drops xs r u.context entry.name (is_folder j)) (joined u.place entry.name)
    (met_below xs r t (256 - length u.holders) (under u.context entry.name) (joined u.place entry.name)))
    e

-- of the folders that hold the walked one the same is to be met
same_frames : (xs : List Pattern) (r : Rules) (t : Tree) (s u : Stack) (entry : Entry)
    → Pops s u (Some entry)
    → met_frames xs r t (outer s.context) (reverse s.holders)
    ≡ met_frames xs r t (outer u.context) (reverse u.holders)
same_frames xs r t s u entry h = ap (λ (v : Stack). met_frames xs r t (outer v.context) (reverse v.holders)) (sym h.1)

stack_step : (xs : List Pattern) (r : Rules) (t : Tree) (s u : Stack) (entry : Entry) → Pops s u (Some entry) → met_stack xs r t s ≡ entry_of xs r t u entry ++ met_stack xs r t u
stack_step xs r t s u entry h =
    ap₂ (λ (a b : List Met). a ++ b) (top_step xs r t s u entry h) (same_frames xs r t s u entry h)
    ∙ append_assoc (entry_of xs r t u entry) (met_top xs r t u) (met_frames xs r t (outer u.context) (reverse u.holders))

-- the end of a folder's entries
pub meets_ended : (xs : List Pattern) (r : Rules) (t : Tree) (s u : Stack) (n : List Note) → Pops s u None → Meets n (met_top xs r t s) n []
meets_ended xs r t s u n h = met_same n n _ [] refl (top_ends xs r t s (ap reverse h.0))

-- an entry that is neither a file nor a folder
pub meets_other : (xs : List Pattern) (r : Rules) (t : Tree) (s u : Stack) (entry : Entry) (n : List Note) → Pops s u (Some entry) → entry.kind ≡ Other
    → Meets n (met_top xs r t s) n (met_top xs r t u)
meets_other xs r t s u entry n h e =
    met_same n n _ _ refl (top_step xs r t s u entry h ∙ ap (λ (q : List Met). q ++ met_top xs r t u) (entry_is xs r t u entry Other e))

file_meets : (xs : List Pattern) (r : Rules) (t : Tree) (s u : Stack) (n : List Note) (place : List ℕ) (b : Bool)
    → met_top xs r t s ≡ cond b [] (met_file place) ++ met_top xs r t u
    → met_stack xs r t s ≡ cond b [] (met_file place) ++ met_stack xs r t u → StepMeets xs r t s u n n (file_kept b place)
file_meets xs r t s u n place true top all = met_same n n _ _ refl top
file_meets xs r t s u n place false top all = met_same n n _ _ refl all

-- a file that is kept is found
pub meets_file : (xs : List Pattern) (r : Rules) (t : Tree) (s u v : Stack) (entry : Entry) (n : List Note) (q : Result Step AllocError)
    → Pops s u (Some entry) → entry.kind ≡ File → OnOk q (v ≡ u)
    → IfOk q (λ st. st ≡ file_kept (drops xs r u.context entry.name false) (joined u.place entry.name))
    → IfOk q (λ st. StepMeets xs r t s v n n st)
meets_file xs r t s u v entry n (Err x) h e same is = tt
meets_file xs r t s u v entry n (Ok st) h e same is =
    let b = drops xs r u.context entry.name false in let place = joined u.place entry.name in
    let own = entry_is xs r t u entry File e in
    let top = top_step xs r t s u entry h ∙ ap (λ (q : List Met). q ++ met_top xs r t u) own in
    let all = stack_step xs r t s u entry h ∙ ap (λ (q : List Met). q ++ met_stack xs r t u) own in
    subst (λ (x : Step). StepMeets xs r t s v n n x) (sym is)
    (subst (λ (w : Stack). StepMeets xs r t s w n n (file_kept b place)) (sym same) (file_meets xs r t s u n place b top all))

-- a folder that gives no file, and one that does
pub meets_none : (xs : List Pattern) (r : Rules) (t : Tree) (s u v : Stack) (entry : Entry) (n m : List Note)
    → Pops s u (Some entry) → entry.kind ≡ Folder → v ≡ u
    → Meets n (met_visit xs r t u entry.name (joined u.place entry.name)) m []
    → Meets n (met_top xs r t s) m (met_top xs r t v)
meets_none xs r t s u v entry n m h e same met =
    let own = met_visit xs r t u entry.name (joined u.place entry.name) in
    met_from n m _ (own ++ met_top xs r t v) _
    (top_step xs r t s u entry h ∙ ap₂ (λ (p q : List Met). p ++ q) (entry_is xs r t u entry Folder e) (ap (met_top xs r t) (sym same)))
    (met_more n m own [] (met_top xs r t v) met)

pub meets_some : (xs : List Pattern) (r : Rules) (t : Tree) (s u : Stack) (entry : Entry) (n m : List Note) (left : List Met)
    → Pops s u (Some entry) → entry.kind ≡ Folder
    → Meets n (met_visit xs r t u entry.name (joined u.place entry.name) ++ met_stack xs r t u) m left
    → Meets n (met_stack xs r t s) m left
meets_some xs r t s u entry n m left h e met =
    met_from n m _ _ left (stack_step xs r t s u entry h ∙ ap (λ (q : List Met). q ++ met_stack xs r t u) (entry_is xs r t u entry Folder e)) met

-- with the folders that hold the walked one, which stays
pub meets_in_stack : (xs : List Pattern) (r : Rules) (t : Tree) (s v : Stack) (n m : List Note) → Stays s v
    → Meets n (met_top xs r t s) m (met_top xs r t v) → Meets n (met_stack xs r t s) m (met_stack xs r t v)
meets_in_stack xs r t s v n m stays met =
    let frames = met_frames xs r t (outer s.context) (reverse s.holders) in
    met_to n m _ (met_top xs r t v ++ frames) _
    (ap (λ (q : List Met). met_top xs r t v ++ q) (ap₂ (λ (c : Context) (fs : List Frame). met_frames xs r t (outer c) (reverse fs)) (sym stays.0) (sym stays.2)))
    (met_more n m (met_top xs r t s) (met_top xs r t v) frames met)

pub visit_dropped : (xs : List Pattern) (r : Rules) (t : Tree) (s : Stack) (name place : List ℕ) → drops xs r s.context name true ≡ true → met_visit xs r t s name place ≡ []
visit_dropped xs r t s name place e = ap (λ b. cond b [] (met_below xs r t (256 - length s.holders) (under s.context name) place)) e

visit_kept : (xs : List Pattern) (r : Rules) (t : Tree) (s : Stack) (name place : List ℕ) → drops xs r s.context name true ≡ false
    → met_visit xs r t s name place ≡ met_below xs r t (256 - length s.holders) (under s.context name) place
visit_kept xs r t s name place e = ap (λ b. cond b [] (met_below xs r t (256 - length s.holders) (under s.context name) place)) e

pub visit_deep : (xs : List Pattern) (r : Rules) (t : Tree) (s : Stack) (name place : List ℕ) → drops xs r s.context name true ≡ false → 256 ≤ length s.holders
    → met_visit xs r t s name place ≡ met_note TooDeep place
unfolding met_below
visit_deep xs r t s name place kept_in deep =
    let none : 256 - length s.holders ≡ zero = omega (arith, deep) in
    visit_kept xs r t s name place kept_in ∙ ap (λ n. met_below xs r t n (under s.context name) place) none

unlisted : (xs : List Pattern) (r : Rules) (t : Tree) (n : ℕ) (c : Context) (place : List ℕ) → list_answer t (names_of place) ≡ Err Refused
    → met_below xs r t (suc n) c place ≡ met_note Unlisted place
unfolding met_below
unlisted xs r t n c place e =
    ap (met_listing place (λ es. as_met (noted_level t r (names_of place)) ++ met_entries xs r (met_below xs r t n) (with_level c (level_at t r (names_of place))) place es)) e

visit_refused : (xs : List Pattern) (r : Rules) (t : Tree) (s : Stack) (name place : List ℕ) → drops xs r s.context name true ≡ false → length s.holders < 256
    → list_answer t (names_of place) ≡ Err Refused → met_visit xs r t s name place ≡ met_note Unlisted place
visit_refused xs r t s name place kept_in shallow e =
    let n = 255 - length s.holders in
    let more : 256 - length s.holders ≡ suc n = omega (arith, shallow) in
    visit_kept xs r t s name place kept_in ∙ ap (λ m. met_below xs r t m (under s.context name) place) more ∙ unlisted xs r t n (under s.context name) place e

listed : (xs : List Pattern) (r : Rules) (t : Tree) (n : ℕ) (c : Context) (place : List ℕ) (es : List Entry) → list_answer t (names_of place) ≡ Ok es
    → met_below xs r t (suc n) c place ≡ as_met (noted_level t r (names_of place)) ++ met_entries xs r (met_below xs r t n) (with_level c (level_at t r (names_of place))) place es
unfolding met_below
listed xs r t n c place es e =
    ap (met_listing place (λ fs. as_met (noted_level t r (names_of place)) ++ met_entries xs r (met_below xs r t n) (with_level c (level_at t r (names_of place))) place fs)) e

pub same_entries : (xs : List Pattern) (r : Rules) (t : Tree) {n n' : ℕ} {c c' : Context} {p p' : List ℕ} (es : List Entry)
    → n ≡ n' → c ≡ c' → p ≡ p' → met_entries xs r (met_below xs r t n) c p es ≡ met_entries xs r (met_below xs r t n') c' p' es
same_entries xs r t es a b q = λ i. met_entries xs r (met_below xs r t (a i)) (b i) (q i) es

visit_entered : (xs : List Pattern) (r : Rules) (t : Tree) (s u : Stack) (c : Context) (name place : List ℕ)
    → c ≡ under s.context name → drops xs r s.context name true ≡ false → length s.holders < 256
    → Enters (with_context s c) u place → EntersTold t r (with_context s c) u place
    → met_visit xs r t s name place ≡ as_met (noted_level t r (names_of place)) ++ met_top xs r t u
visit_entered xs r t s u c name place is kept_in shallow h told =
    let n = 255 - length s.holders in
    let more : 256 - length s.holders ≡ suc n = omega (arith, shallow) in
    let fewer : n ≡ 256 - length u.holders = omega (arith, shallow, ap length h.holders_is, length-append s.holders (record { place = s.place; left = s.left } ∷ [])) in
    visit_kept xs r t s name place kept_in ∙ ap (λ m. met_below xs r t m (under s.context name) place) more
    ∙ listed xs r t n (under s.context name) place (reverse u.left) told.entries_are
    ∙ ap (λ (q : List Met). as_met (noted_level t r (names_of place)) ++ q)
    (same_entries xs r t (reverse u.left) fewer (entered_context s u c (level_at t r (names_of place)) place name is h told.levels_are) (sym h.place_is))

-- an entry whose folder is entered
pub meets_entered : (xs : List Pattern) (r : Rules) (t : Tree) (s u v : Stack) (name place : List ℕ) (b : Bool) (n m : List Note)
    → b ≡ true → u ≡ at_entry s name → place ≡ joined s.place name
    → drops xs r s.context name true ≡ false → length s.holders < 256 → (b ≡ true → Enters u v place)
    → MatchBool b (EntersTold t r u v place) (list_answer t (names_of place) ≡ Err Refused)
    → NotesSay n m (noted_level t r (names_of place))
    → Meets n (met_visit xs r t s name (joined s.place name)) m (met_top xs r t v)
meets_entered xs r t s u v name place false n m is named at kept_in shallow enters told said = absurd (cc)
meets_entered xs r t s u v name place true n m is named at kept_in shallow enters told said =
    met_by n m (noted_level t r (names_of place)) (met_top xs r t v) (met_visit xs r t s name (joined s.place name))
    (ap (λ (p : List ℕ). met_visit xs r t s name p) (sym at)
    ∙ visit_entered xs r t s v (under s.context name) name place refl kept_in shallow
    (subst (λ (w : Stack). Enters w v place) named (enters is))
    (subst (λ (w : Stack). EntersTold t r w v place) named told))
    said

-- and one whose folder can't be listed
pub meets_refused : (xs : List Pattern) (r : Rules) (t : Tree) (s u v : Stack) (name place : List ℕ) (b : Bool) (n m : List Note)
    → b ≡ false → place ≡ joined s.place name → drops xs r s.context name true ≡ false → length s.holders < 256
    → MatchBool b (EntersTold t r u v place) (list_answer t (names_of place) ≡ Err Refused)
    → NotesSay n m ((Unlisted, names_of place) ∷ [])
    → Meets n (met_visit xs r t s name (joined s.place name)) m []
unfolding as_met
meets_refused xs r t s u v name place true n m is at kept_in shallow told said = absurd (cc)
meets_refused xs r t s u v name place false n m is at kept_in shallow told said =
    met_said n m ((Unlisted, names_of place) ∷ []) (met_visit xs r t s name (joined s.place name))
    (ap (λ (p : List ℕ). met_visit xs r t s name p) (sym at) ∙ visit_refused xs r t s name place kept_in shallow told) said

-- the folders that hold an entered one are those that were walked before
pub stack_entered : (xs : List Pattern) (r : Rules) (t : Tree) (s u : Stack) (c : Context) (name place : List ℕ)
    → c ≡ under s.context name → Enters (with_context s c) u place
    → met_stack xs r t u ≡ met_top xs r t u ++ met_stack xs r t s
unfolding met_frames
stack_entered xs r t s u c name place is h =
    let f : Frame = record { place = s.place; left = s.left } in
    let turned : reverse u.holders ≡ f ∷ reverse s.holders = ap reverse h.holders_is ∙ reverse-append s.holders (f ∷ []) in
    let frames = ap₂ (λ (d : Context) (fs : List Frame). met_frames xs r t d fs) (outer_is s u c name place is h) turned in
    let size = ap (λ n. met_entries xs r (met_below xs r t (256 - n)) s.context s.place (reverse s.left) ++ met_frames xs r t (outer s.context) (reverse s.holders)) (length-reverse s.holders) in
    ap (λ (q : List Met). met_top xs r t u ++ q) (frames ∙ size)

-- of an empty stack nothing is to be met
pub empty_meets : (xs : List Pattern) (r : Rules) (t : Tree) (s : Stack) → s.left ≡ [] → s.holders ≡ [] → met_stack xs r t s ≡ []
unfolding met_frames
empty_meets xs r t s left below =
    ap₂ (λ (a b : List Met). a ++ b) (top_ends xs r t s (ap reverse left)) (ap (λ (fs : List Frame). met_frames xs r t (outer s.context) (reverse fs)) below)

-- where of the walked folder nothing more is to be met, what holds it goes on
pub left_meets : (xs : List Pattern) (r : Rules) (t : Tree) (s u : Stack) (b : Bool) → b ≡ true → met_top xs r t s ≡ [] → Leaves s u b → met_stack xs r t s ≡ met_stack xs r t u
unfolding met_frames
left_meets xs r t s u false e top h = absurd (cc)
left_meets xs r t s u true e top h =
    let f : Frame = record { place = u.place; left = u.left } in
    let turned : reverse s.holders ≡ f ∷ reverse u.holders = ap reverse h.0 ∙ reverse-append u.holders (f ∷ []) in
    let size = ap (λ n. met_entries xs r (met_below xs r t (256 - n)) u.context u.place (reverse u.left) ++ met_frames xs r t (outer u.context) (reverse u.holders)) (length-reverse u.holders) in
    ap₂ (λ (a b : List Met). a ++ b) top (ap₂ (λ (d : Context) (fs : List Frame). met_frames xs r t d fs) (sym h.1) turned) ∙ size
