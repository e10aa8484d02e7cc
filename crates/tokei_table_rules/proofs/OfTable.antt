-- A language that is found is one of the table.
use Rattle.std.proofs.Common.{◌≡◌, ℕ, suc, ◌<◌, Bool, true, false, cond, List, [], ◌∷◌, length, Option, None, Some}
use Rattle.std.proofs.Common.{option_map, sym, subst, arith}
use Rattle.std.specs.Option.{IfSome}
use Rattle.std.specs.Str.{is_utf8}
use Rattle.std.specs.Prelude.{bytes_eq, codes}
use Rattle.tokei_table_row.specs.Row.{Row}
use Rattle.tokei_table_rules.specs.Lookups.{first_where, or_else, from_extension, from_lowered_name, extension_of}
use Rattle.tokei_table_rules.specs.Lookups.{has_filename, has_path_suffix, has_extension}
use Rattle.tokei_table_rules.specs.Shebangs.{from_env, has_env, has_shebang, from_words, from_line, first_word, behind_word}

abbrev pub Within : List Row → Option ℕ → Type 0
Within rs o = IfSome o (λ l. l < length rs)

step : (r : Row) (rs : List Row) (b : Bool) (o : Option ℕ) → Within rs o
    → Within (r ∷ rs) (cond b (Some 0) (option_map suc o))
step r rs true o w = omega arith
step r rs false None w = tt
step r rs false (Some l) w = omega (arith, w)

pub first_within : (test : Row → Bool) (rs : List Row) → Within rs (first_where test rs)
first_within test [] = tt
first_within test (r ∷ rs) = step r rs (test r) (first_where test rs) (first_within test rs)

else_within : (rs : List Row) (a b : Option ℕ) → Within rs a → Within rs b → Within rs (or_else a b)
else_within rs None b v w = w
else_within rs (Some l) b v w = v

extension_within : (rs : List Row) (e : Option (List ℕ)) → Within rs (from_extension rs e)
extension_within rs None = tt
extension_within rs (Some e) = first_within (has_extension e) rs

pub name_within : (rs : List Row) (name : List ℕ) → Within rs (from_lowered_name rs name)
name_within rs name =
    else_within rs _ _ (first_within (has_filename name) rs)
    (else_within rs _ _ (first_within (has_path_suffix name) rs) (extension_within rs (extension_of name)))

env_within : (rs : List Row) (w : List ℕ) → Within rs (from_env rs w)
env_within rs [] = tt
env_within rs (b ∷ w) = first_within (has_env (b ∷ w)) rs

cond_within : (rs : List Row) (c : Bool) (o : Option ℕ) → Within rs o → Within rs (cond c o None)
cond_within rs true o w = w
cond_within rs false o w = tt

words_within : (rs : List Row) (w rest : List ℕ) → Within rs (from_words rs w rest)
words_within rs [] rest = tt
words_within rs (b ∷ w) rest =
    else_within rs _ _ (first_within (has_shebang (b ∷ w)) rs)
    (cond_within rs (bytes_eq (b ∷ w) (codes "#!/usr/bin/env")) (from_env rs (first_word rest))
    (env_within rs (first_word rest)))

pub line_within : (rs : List Row) (line : List ℕ) → Within rs (from_line rs line)
line_within rs line =
    cond_within rs (is_utf8 line) (from_words rs (first_word line) (behind_word line))
    (words_within rs (first_word line) (behind_word line))

pub same_within : (rs : List Row) (a b : Option ℕ) → a ≡ b → Within rs b → Within rs a
same_within rs a b e w = subst (Within rs) (sym e) w
