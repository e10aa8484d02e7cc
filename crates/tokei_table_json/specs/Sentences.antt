-- What is said of a table that is refused.
use Rattle.std.specs.Prelude.{ℕ, ◌==◌, List, [], ◌++◌, length, codes, string_bytes, if◌then◌else◌}
use Rattle.tokei_table_json.specs.Members.{member_of}
use Rattle.tokei_table_json.specs.declared.error.TableError.{TableError}
use Rattle.tokei_table_json.specs.declared.error.TableError.TheVariants.{NotJson, Layout, Escape, Token, NamedTwice, NamedTotal, Fallback, Memory}
use Rattle.tokei_table_json.specs.declared.flaw.TableFlaw.{TableFlaw}
use Rattle.tokei_table_json.specs.declared.members.Member.{Member}
use Rattle.tokei_table_json.specs.declared.members.Member.TheVariants.{Texts, Pairs, Truth, Name}
use Rattle.tokei_table_json.specs.declared.members.Member.TheVariants.{Kind, Contexts, Other}

-- The words of a cause, where no language is named.
abbrev pub words_of_error : TableError → List ℕ
words_of_error NotJson = codes "the table is no JSON text"
words_of_error Layout = codes "the table hasn't the layout of a table of languages"
words_of_error Escape = codes "a text in the table has an unknown escape"
words_of_error Token = codes "a token in the table is empty, blank or holds a newline"
words_of_error NamedTwice = codes "a name in the table stands for two languages"
words_of_error NamedTotal = codes "a language in the table is named Total"
words_of_error Fallback = codes "a language is missing that another one in the table needs"
words_of_error Memory = codes "out of memory"

-- What a member of a language has to hold.
abbrev pub form_of : Member → List ℕ
form_of Name = codes "text"
form_of Kind = codes "text"
form_of (Truth truth) = codes "truth value"
form_of (Pairs list) = codes "list of pairs of texts"
form_of Contexts = codes "list of objects, each with a tag in a language of kind 'html'"
form_of (Texts list) = codes "list of texts"
form_of Other = codes "list of texts"

-- How the sentence begins, up to the language's key. Where the layout is wrong, an empty word says
-- that the language itself is no object.
abbrev pub subject_of : TableError → List ℕ → List ℕ
subject_of Layout word =
    if length word == 0 then codes "the language '"
    else codes "'" ++ (word ++ codes "' of the language '")
subject_of Escape word = codes "'" ++ (word ++ codes "' of the language '")
subject_of NamedTwice word = codes "the name '" ++ (word ++ codes "' stands for the languages '")
subject_of cause word = codes "the language '"

-- How the sentence goes on behind the quote that closes the key.
abbrev pub fault_of : TableError → List ℕ → List ℕ → List ℕ
fault_of Layout word other =
    if length word == 0 then codes " is no object" else codes " is no " ++ form_of (member_of word)
fault_of Escape word other = codes " has an unknown escape"
fault_of Token word other =
    codes ": a token of '" ++ (word ++ codes "' is empty, blank or holds a newline")
fault_of NamedTwice word other = codes " and '" ++ (other ++ codes "'")
fault_of NamedTotal word other = codes " is named Total"
fault_of Fallback word other = codes " needs '" ++ (word ++ codes "', which is missing")
fault_of NotJson word other = []
fault_of Memory word other = []

-- The sentence on a flaw: it names the language, and the member, the name or the other language
-- that goes with it.
abbrev pub sentence_of : TableFlaw → List ℕ
sentence_of flaw =
    let word = string_bytes flaw.word in
    subject_of flaw.cause word ++ (string_bytes flaw.language
    ++ (codes "'" ++ fault_of flaw.cause word (string_bytes flaw.other)))
