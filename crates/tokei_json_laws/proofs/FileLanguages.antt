-- The language of a file is one of the table.
use Rattle.std.proofs.Common.{ℕ, suc, ◌<◌, Bool, true, false, cond, List, [], ◌∷◌, length, Option, None, Some, option_map, is_some, Result, Ok, Err, codes, arith}
use Rattle.std.specs.Prelude.{⊤, bytes_eq, option_and_then}
use Rattle.std.specs.Str.{is_utf8, str_to_ascii_lowercase}
use Rattle.tokei_files.specs.Files.{Counting, counts, counted, language_of_file}
use Rattle.tokei_files.specs.Paths.{name_of, from_head, language_by_head, language_by_path}
use Rattle.tokei_folders.specs.Answers.{head_answer}
use Rattle.tokei_folders.specs.declared.fs.Fault.{Fault}
use Rattle.tokei_folders.specs.Tree.{Tree, node_at, names_of}
use Rattle.tokei_table.specs.Lookups.{first_where, or_else, has_extension, has_filename, has_path_suffix, extension_of, from_extension, from_file_name, from_lowered_name}
use Rattle.tokei_table.specs.Row.{Row}
use Rattle.tokei_table.specs.Shebangs.{has_env, has_shebang, from_env, from_words, from_line, first_word, behind_word, head_line}
use Rattle.tokei_walk.specs.declared.kept_file.KeptFile.{KeptFile}

-- what is there is below m
abbrev pub IsBelow : ℕ → Option ℕ → Type 0
IsBelow m None = ⊤
IsBelow m (Some n) = n < m

where_below : (test : Row → Bool) (rows : List Row) → IsBelow (length rows) (first_where test rows)
where_below test [] = tt
where_below test (r ∷ rows) = by_test (test r) (first_where test rows) (where_below test rows)
  where
    by_test : (b : Bool) (o : Option ℕ) → IsBelow (length rows) o → IsBelow (suc (length rows)) (cond b (Some 0) (option_map suc o))
    by_test true o h = omega arith
    by_test false None h = tt
    by_test false (Some n) h = omega arith

either_below : (m : ℕ) (o p : Option ℕ) → IsBelow m o → IsBelow m p → IsBelow m (or_else o p)
either_below m None p h k = k
either_below m (Some n) p h k = h

where_true : (m : ℕ) (b : Bool) (o : Option ℕ) → IsBelow m o → IsBelow m (cond b o None)
where_true m true o h = h
where_true m false o h = tt

where_false : (m : ℕ) (b : Bool) (o : Option ℕ) → IsBelow m o → IsBelow m (cond b None o)
where_false m true o h = tt
where_false m false o h = h

module _ (rows : List Row) where
  extension_below : (o : Option (List ℕ)) → IsBelow (length rows) (from_extension rows o)
  extension_below None = tt
  extension_below (Some e) = where_below (has_extension e) rows

  lowered_below : (name : List ℕ) → IsBelow (length rows) (from_lowered_name rows name)
  lowered_below name =
      either_below (length rows) (first_where (has_filename name) rows) _ (where_below (has_filename name) rows)
      (either_below (length rows) (first_where (has_path_suffix name) rows) _ (where_below (has_path_suffix name) rows) (extension_below (extension_of name)))

  env_below : (program : List ℕ) → IsBelow (length rows) (from_env rows program)
  env_below [] = tt
  env_below (b ∷ program) = where_below (has_env (b ∷ program)) rows

  words_below : (word rest : List ℕ) → IsBelow (length rows) (from_words rows word rest)
  words_below [] rest = tt
  words_below (b ∷ word) rest =
      either_below (length rows) (first_where (has_shebang (b ∷ word)) rows) _ (where_below (has_shebang (b ∷ word)) rows)
      (where_true (length rows) (bytes_eq (b ∷ word) (codes "#!/usr/bin/env")) (from_env rows (first_word rest)) (env_below (first_word rest)))

  line_below : (line : List ℕ) → IsBelow (length rows) (from_line rows line)
  line_below line =
      where_true (length rows) (is_utf8 line) (from_words rows (first_word line) (behind_word line)) (words_below (first_word line) (behind_word line))

  head_below : (r : Result (List ℕ) Fault) → IsBelow (length rows) (from_head rows r)
  head_below (Ok head) = line_below (head_line head)
  head_below (Err e) = tt

  path_below : (t : Tree) (path : List ℕ) → IsBelow (length rows) (language_by_path t rows path)
  path_below t path =
      either_below (length rows) (from_file_name rows (name_of path)) _ (lowered_below (str_to_ascii_lowercase (name_of path)))
      (where_false (length rows) (is_some (extension_of (name_of path))) (language_by_head t rows path) (head_below (head_answer (node_at t (names_of path)))))

counted_below : (m : ℕ) (types : Option (List ℕ)) (o : Option ℕ) → IsBelow m o → IsBelow m (option_and_then (counted types) o)
counted_below m types None h = tt
counted_below m types (Some l) h = where_true m (counts types l) (Some l) h

-- the language in which a file counts
pub file_below : (c : Counting) (t : Tree) (file : KeptFile) → IsBelow (length c.rows) (language_of_file c t file)
file_below c t file = counted_below (length c.rows) c.types (language_by_path t c.rows file.place) (path_below c.rows t file.place)
