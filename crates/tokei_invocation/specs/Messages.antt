-- What is said of a run that doesn't do what was asked.
use Rattle.std.specs.Prelude.{◌≡◌, ℕ, List, [], ◌∷◌, ◌++◌, Option, codes, string_bytes}
use Rattle.std.specs.Io.KnownBytes.{Appends}
use Rattle.tokei_cli.specs.Printing.{failure_text}
use Rattle.tokei_invocation.specs.declared.ending.Ending.{Ending}
use Rattle.tokei_invocation.specs.declared.ending.Ending.TheVariants.{Refused, NoTable, Table, Input, TooLong, Unreadable, UnreadableBy, Missing, Memory, NoRoom, Overflow, Write, Unwritten}

-- a text that names a cause: it begins with `Error:` and ends with a newline
pub record IsMessage (text : List ℕ) : Type 0 where
  pub cause : List ℕ
  pub is : text ≡ codes "Error:" ++ (cause ++ 10 ∷ [])

-- behind what stood there a writer has one such text, and nothing else
pub record Says (old new : Option (List ℕ)) : Type 0 where
  pub text : List ℕ
  pub message : IsMessage text
  pub appended : Appends old new text

-- the words of an ending
abbrev pub words_of : Ending → List ℕ
words_of (Refused text) = string_bytes text
words_of (NoTable text) = codes "the table of languages can't be read: " ++ string_bytes text
words_of (Table text) = codes "the table of languages is refused: " ++ string_bytes text
words_of (Input name) = codes "failed to parse input file: " ++ string_bytes name
words_of (TooLong name) =
    codes "earlier results have more than 4,294,967,296 bytes: " ++ string_bytes name
words_of Unreadable = codes "earlier results can't be read"
words_of (UnreadableBy text) = codes "earlier results can't be read: " ++ string_bytes text
words_of (Missing root) = codes "'" ++ (string_bytes root ++ codes "' not found.")
words_of Memory = codes "out of memory"
words_of (NoRoom place) = codes "out of memory: " ++ string_bytes place
words_of Overflow = codes "a sum passes the greatest usize"
words_of Write = codes "the output can't be written"
words_of (Unwritten text) = codes "the output can't be written: " ++ string_bytes text

-- the line of an ending
abbrev pub line_of : Ending → List ℕ
line_of ending = codes "Error: " ++ (words_of ending ++ 10 ∷ [])

-- what is said of an ending: of a refused command line its text as it is, of refused earlier
-- results the original's two lines, and of any other its line
abbrev pub message_of : Ending → List ℕ
message_of (Refused text) = string_bytes text
message_of (Input name) = failure_text (string_bytes name)
message_of ending = line_of ending

-- behind what stood there a writer has what is said of the ending, and nothing else
abbrev pub SaysOf : Ending → Option (List ℕ) → Option (List ℕ) → Type 0
SaysOf ending old new = Appends old new (message_of ending)
