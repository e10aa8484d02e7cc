-- Which parts are walked: a part that begins plain and holds no opener is skipped.
use Rattle.std.specs.Prelude.{ℕ, Bool, ◌||◌, not, List, length, is_some, unwrap_or}
use Rattle.tokei_table.specs.FirstOpener.{first_opener}
use Rattle.tokei_parts.specs.Items.{Mode}
use Rattle.tokei_parts.specs.Class.{is_plain}

-- whether some opener stands in the bytes
abbrev pub holds : List (List ℕ) → List ℕ → Bool
holds openers text = is_some (first_opener openers text)

-- A part is walked where it begins in a string or a comment, or its reach holds an opener. The
-- reach goes to the end of the part's line, also where a child breaks the part off.
abbrev pub is_walked : List (List ℕ) → Mode → List ℕ → Bool
is_walked openers begun reach = not (is_plain begun) || holds openers reach

-- A reading that skips walks such parts alone, and one that doesn't skip walks them all.
abbrev pub walks : Bool → List (List ℕ) → Mode → List ℕ → Bool
walks skips openers begun reach = not skips || is_walked openers begun reach

-- where the first opener stands, or the end of the bytes where none does
abbrev pub opener_place : List (List ℕ) → List ℕ → ℕ
opener_place openers text = unwrap_or (first_opener openers text) (length text)
