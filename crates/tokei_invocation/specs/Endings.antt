-- How an ending says why a call of the program failed.
use Rattle.std.specs.Prelude.{◌≡◌, ◌<◌, ◌≤◌, ◌⊎◌, ℕ, false, ⊤, List, [], ◌∷◌, ◌++◌, length, Option, None, Some, IfSome, Err, codes, string_bytes}
use Rattle.tokei_invocation.specs.declared.ending.Ending.{Ending}
use Rattle.tokei_invocation.specs.declared.ending.Ending.TheVariants.{NoTable, Table, Input, TooLong, Unreadable, UnreadableBy, Missing, Memory, NoRoom, Overflow}
use Rattle.tokei_earlier.specs.Adding.{PassesUsize}
use Rattle.tokei_earlier.specs.Bounds.{most_bytes}
use Rattle.tokei_earlier.specs.Outcome.{outcome_of_bytes}
use Rattle.tokei_earlier.specs.declared.error.InputError.{InputError}
use Rattle.tokei_folders.specs.Tree.{Tree}
use Rattle.tokei_invocation.specs.Earlier.{bytes_named}
use Rattle.tokei_invocation.specs.Roots.{AllStand, stands}
use Rattle.tokei_invocation.specs.Tables.{content_at}
use Rattle.tokei_io.specs.Reads.{most_reads}
use Rattle.tokei_stats.specs.Shown.{shown}
use Rattle.tokei_table.specs.Row.{Row}
use Rattle.tokei_table_json.specs.Flaws.{is_flawed, rows_in, Tells}
use Rattle.tokei_table_json.specs.Outcome.{outcome}
use Rattle.tokei_table_json.specs.Sentences.{sentence_of, words_of_error}
use Rattle.tokei_table_json.specs.declared.error.TableError.{TableError}
use Rattle.tokei_table_json.specs.declared.flaw.TableFlaw.{TableFlaw}

-- A text begins with a name; behind it may stand why.
pub record Names (name text : List ℕ) : Type 0 where
  pub behind : List ℕ
  pub is : text ≡ name ++ behind

-- Bytes are refused as a table for a cause, which words tell, and no language keeps them from being
-- one.
pub record IsErrorTold (bytes words : List ℕ) : Type 0 where
  pub error : TableError
  pub told : words ≡ words_of_error error
  pub refused : outcome bytes ≡ Err error
  pub unflawed : is_flawed bytes ≡ false

-- Bytes are refused as a table for a flaw, which words tell: they name its language, and what goes
-- with it.
pub record IsFlawTold (bytes words : List ℕ) : Type 0 where
  pub flaw : TableFlaw
  pub told : words ≡ sentence_of flaw
  pub is : Tells (outcome bytes) (rows_in bytes) flaw

-- A text says of a place why the bytes there are refused as a table.
pub record IsTableTold (place bytes text : List ℕ) : Type 0 where
  pub words : List ℕ
  pub is : text ≡ place ++ (codes ": " ++ words)
  pub why : IsErrorTold bytes words ⊎ IsFlawTold bytes words

-- The ending says why the bytes at a place are refused as a table. Memory may run out.
abbrev pub IsEndingOfTable : List ℕ → List ℕ → Ending → Type 0
IsEndingOfTable place bytes (Table text) = IsTableTold place bytes (string_bytes text)
IsEndingOfTable place bytes Memory = ⊤
IsEndingOfTable place bytes (NoRoom unheld) = ⊤
IsEndingOfTable place bytes ending = ⊥

-- The ending names a place at which no table can be read. Memory may run out.
abbrev pub IsEndingOfNoTable : List ℕ → Ending → Type 0
IsEndingOfNoTable place (NoTable text) = Names place (string_bytes text)
IsEndingOfNoTable place Memory = ⊤
IsEndingOfNoTable place (NoRoom unheld) = ⊤
IsEndingOfNoTable place ending = ⊥

-- The ending says why no table was taken from a place, by the content there.
abbrev pub IsEndingAt : List ℕ → Option (List ℕ) → Ending → Type 0
IsEndingAt place None ending = IsEndingOfNoTable place ending
IsEndingAt place (Some bytes) ending = IsEndingOfTable place bytes ending

-- Bytes that are refused as earlier results.
pub record AreRefused (rows : List Row) (bytes : List ℕ) : Type 0 where
  pub cause : InputError
  pub refused : outcome_of_bytes rows bytes ≡ Err cause

-- A source that had these bytes has counted a further fault, or they are as many as the reads that
-- are made of it. Where its count was at the greatest `u64`, nothing is said.
abbrev pub HasFailed : Option (List ℕ) → ℕ → ℕ → Type 0
HasFailed bytes before after =
    before < 18446744073709551615 → after ≡ before → IfSome bytes (λ text. most_reads ≤ length text)

-- The ending says why no earlier results were taken from the bytes that a name means, where these
-- are known: that they are refused or too many, of which it has the name, or that a sum passes the
-- greatest `usize`. That they can't be read it says where reading has failed. Memory may run out.
abbrev pub IsEndingOfInput : List Row → List ℕ → Option (List ℕ) → Type 0 → Ending → Type 0
IsEndingOfInput rows name bytes Failed (Input text) =
    Names name (string_bytes text) × IfSome bytes (AreRefused rows)
IsEndingOfInput rows name bytes Failed Overflow = IfSome bytes (PassesUsize rows [])
IsEndingOfInput rows name bytes Failed (TooLong text) =
    Names name (string_bytes text) × IfSome bytes (λ whole. most_bytes < length whole)
IsEndingOfInput rows name bytes Failed Unreadable = Failed
IsEndingOfInput rows name bytes Failed (UnreadableBy cause) = Failed
IsEndingOfInput rows name bytes Failed Memory = ⊤
IsEndingOfInput rows name bytes Failed (NoRoom place) = ⊤
IsEndingOfInput rows name bytes Failed ending = ⊥

-- A name means standard input, since no file of that name can be read, and reading that has failed.
pub record InputFailed (tree : Tree) (name : List ℕ) (Failed : Type 0) : Type 0 where
  pub named : name ≡ codes "stdin"
  pub unfiled : content_at tree name ≡ None
  pub failed : Failed

-- The ending says why the earlier results of a name weren't taken, where the command line has one.
abbrev pub IsEndingOfEarlier : List Row → Tree → Option (List ℕ) → Type 0 → Option (List ℕ) → Ending
    → Type 0
IsEndingOfEarlier rows tree input Failed None ending = ⊥
IsEndingOfEarlier rows tree input Failed (Some name) ending =
    IsEndingOfInput rows name (bytes_named tree input name) (InputFailed tree name Failed) ending

-- Nothing stands at the root, which a text names.
pub record IsMissing (tree : Tree) (root text : List ℕ) : Type 0 where
  pub missing : stands tree root ≡ false
  pub named : text ≡ shown root

-- The ending says that nothing stands at the root. Memory may run out.
abbrev pub IsEndingOfRoot : Tree → List ℕ → Ending → Type 0
IsEndingOfRoot tree root (Missing text) = IsMissing tree root (string_bytes text)
IsEndingOfRoot tree root Memory = ⊤
IsEndingOfRoot tree root ending = ⊥

-- Of the roots there is a first one at which nothing stands, which a text names.
pub record IsFirstMissing (tree : Tree) (roots : List (List ℕ)) (text : List ℕ) : Type 0 where
  pub before : List (List ℕ)
  pub root : List ℕ
  pub behind : List (List ℕ)
  pub are : roots ≡ before ++ root ∷ behind
  pub stand : AllStand tree before
  pub first : IsMissing tree root text

-- The ending names the first of the roots at which nothing stands. Memory may run out.
abbrev pub IsEndingOfRoots : Tree → List (List ℕ) → Ending → Type 0
IsEndingOfRoots tree roots (Missing text) = IsFirstMissing tree roots (string_bytes text)
IsEndingOfRoots tree roots Memory = ⊤
IsEndingOfRoots tree roots ending = ⊥
