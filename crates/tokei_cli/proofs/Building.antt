-- What the parser's builders make of options.
use Rattle.std.proofs.Common.{◌≡◌, ◌∷◌, ◌++◌, ◌+◌, ◌<◌, ℕ, List, [], Bool, true, false, length, Option, Some, Bor, arith, refl, sym, ap, ap₂, ◌∙◌, codes, get_or, map, take}
use Rattle.std.specs.Prelude.{◌==◌, ◌&&◌, not}
use Rattle.std.proofs.lemmas.Bool.Decides.{nat_tests}
use Rattle.std.proofs.lemmas.List.{map-append, map_more}
use Rattle.clap.specs.Words.{AddsArg, AddsConflicts, AddsInTurn, App, Rule, app_of, new_app, with_rule}
use Rattle.clap.specs.Simple.{app_of_fields}
use Rattle.clap.specs.declared.builder.arg.Arg.{Arg}
use Rattle.clap.specs.declared.builder.command.Command.{Command}
use Rattle.clap.specs.declared.builder.value_parser.ValueParser.{ValueParser}
use Rattle.clap.specs.declared.builder.command.Command.TheViews.{out-Command as fields_of}
use Rattle.tokei_cli.specs.Options.{bare_app, local, rule_of_row, ruled, with_options}
use Rattle.tokei_cli.specs.declared.options.OptionRow.{OptionRow}

-- one more option
pub options_more : (options : List Arg) (a : Arg) (rules : List Rule) (r : Rule)
    → map ruled options ≡ map local rules → ruled a ≡ local r
    → map ruled (options ++ a ∷ []) ≡ map local (rules ++ r ∷ [])
options_more options a rules r so_far same =
    map-append ruled options (a ∷ []) ∙ ap₂ (λ ps p. ps ++ p ∷ []) so_far same ∙ sym (map-append local rules (r ∷ []))

-- the option of one more row
pub row_added : (rows : List OptionRow) (i : ℕ) (d : OptionRow) (options : List Arg) (a : Arg) → i < length rows
    → map ruled options ≡ map local (map rule_of_row (take i rows)) → ruled a ≡ local (rule_of_row (get_or rows i d))
    → map ruled (options ++ a ∷ []) ≡ map local (map rule_of_row (take (i + 1) rows))
row_added rows i d options a h so_far same =
    options_more options a _ _ so_far same ∙ ap (map local) (sym (map_more rule_of_row rows i d h))

-- a command with these options
pub options_added : (old new : Command) (options : List Arg) (rules : List Rule) → AddsInTurn AddsArg old options new
    → map ruled options ≡ map local rules → app_of new ≡ with_options (app_of old) rules
options_added old new [] [] added same = sym (ap app_of added)
options_added old new [] (r ∷ rules) added same = cc
options_added old new (a ∷ options) [] added same = cc
options_added old new (a ∷ options) (r ∷ rules) added same =
    let first : ruled a ≡ local r = cc in
    let rest : map ruled options ≡ map local rules = cc in
    options_added added.0 new options rules added.2 rest
    ∙ ap (λ (app : App). with_options app rules)
    (added.1.shape (ap (λ (p : Rule × Bool). p.1) first)
    ∙ ap (with_rule (app_of old)) (ap (λ (p : Rule × Bool). p.0) first))

-- an app that has a version
abbrev versioned : App → App
versioned a = record a { top = record a.top { has_version = true } }

-- the command without options
pub bare_is : (text about : Bor (List ℕ)) (a v d : Command) → app_of a ≡ new_app (codes "tokei")
    → fields_of v ≡ record (fields_of a) { version = Some text }
    → fields_of d ≡ record (fields_of v) { about = Some about }
    → app_of d ≡ bare_app
bare_is text about a v d new version told = ap app_of_fields told ∙ (ap app_of_fields version ∙ ap versioned new)

-- the name by which a usage calls the program is none of its rules
pub renamed_is : (old new : Command)
    → fields_of new ≡ record (fields_of old) { bin_name = (fields_of new).bin_name } → app_of new ≡ app_of old
renamed_is old new named = ap app_of_fields named

-- a rule with this letter
abbrev pub with_letter : Option ℕ → Rule × Bool → Rule × Bool
with_letter letter p = (record p.0 { short = letter }, p.1)

-- a rule whose values have to be this
abbrev pub with_parser : Option ValueParser → Rule × Bool → Rule × Bool
with_parser parser p = (record p.0 { parser = parser }, p.1)

-- a rule on another option, or on none
abbrev with_free : Bool → Rule × Bool → Rule × Bool
with_free free p = (record p.0 { is_free = free }, p.1)

pub parsed_is : (o p : Arg) (parser : Option ValueParser)
    → p ≡ record o { value_parser = p.value_parser } → p.value_parser ≡ parser
    → ruled p ≡ with_parser parser (ruled o)
parsed_is o p parser others given = ap ruled others ∙ ap (λ q. with_parser q (ruled o)) given

and_true : (b : Bool) → (b && true) ≡ b
and_true true = refl
and_true false = refl

free_of : (exclusive : Bool) (cs xs : List (Bor (List ℕ))) (rest : Bool)
    → (not exclusive && (length cs == 0 && rest)) ≡ true
    → (not exclusive && (length (cs ++ xs) == 0 && rest)) ≡ (length xs == 0)
free_of true cs xs rest h = cc
free_of false (c ∷ cs) xs rest h =
    let some : (length (c ∷ cs) == 0) ≡ false = grind (arith, nat_tests) in
    let never : true ≡ false = sym h ∙ ap (λ (b : Bool). b && rest) some in
    cc
free_of false [] xs false h = cc
free_of false [] xs true h = and_true (length xs == 0)

-- an option without others, and the same beside these
pub freed : (o r : Arg) (xs : List (Bor (List ℕ))) (x : Rule)
    → ruled o ≡ local (record x { is_free = true }) → AddsConflicts o r xs
    → ruled r ≡ local (record x { is_free = length xs == 0 })
freed o r xs x same added =
    let rest = length o.needs.items == 0 && (length o.r_ifs.items == 0 && (length o.r_ifs_all.items == 0
    && (length o.r_unless.items == 0 && length o.r_unless_all.items == 0))) in
    let free = ap (λ (cs : List (Bor (List ℕ))). not o.exclusive && (length cs == 0 && rest)) added.1
    ∙ free_of o.exclusive o.conflicts.items xs rest (ap (λ (p : Rule × Bool). p.0.is_free) same) in
    ap ruled added.0 ∙ ap₂ with_free free same
