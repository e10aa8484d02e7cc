-- The keys by which patterns are found: a pattern that fits an entry has no key, or one of the
-- entry's.
use Rattle.std.specs.Prelude.{ℕ, ◌+◌, ◌*◌, ◌%◌, ◌^◌, ◌==◌, ◌&&◌, List, [], ◌∷◌, Bool, true, false, Option, Some, None, option_map, encode_utf8, length, nat_lt, if◌then◌else◌}
use Rattle.std.specs.Str.{chars}
use Rattle.tokei_ignore.specs.declared.pieces.Piece.{Piece}
use Rattle.tokei_ignore.specs.declared.pieces.Piece.TheVariants.{AnyRun, AnyOne, Exactly, Class}
use Rattle.tokei_ignore.specs.declared.pieces.Segment.{Segment}
use Rattle.tokei_ignore.specs.declared.pieces.Segment.TheVariants.{AnyNames, Name}
use Rattle.tokei_ignore.specs.declared.patterns.Pattern.{Pattern}
use Rattle.tokei_ignore.specs.IgnoreFiles.{or_else}
use Rattle.tokei_folders.specs.Tree.{dot}

-- what a list makes of a key, item after item
abbrev pub folded : {X : Type 0} → (Option ℕ → X → Option ℕ) → Option ℕ → List X → Option ℕ
folded onto key [] = key
folded onto key (x ∷ xs) = folded onto (onto key x) xs

-- the number of a key with one more byte
unfoldable pub mixed : ℕ → ℕ → ℕ
mixed number byte = (number * 1000003 % 2 ^ 64 + byte) % 2 ^ 64

-- a key with one more byte; where dots count, one begins the key
abbrev pub onto_byte : Bool → Option ℕ → ℕ → Option ℕ
onto_byte dots key byte = if dots && (byte == dot) then Some 1 else option_map (λ k. mixed k byte)
    key

-- a key with more bytes
abbrev pub onto_bytes : Bool → Option ℕ → List ℕ → Option ℕ
onto_bytes dots = folded (onto_byte dots)

-- a key with the bytes of one more character
abbrev pub onto_character : Bool → Option ℕ → ℕ → Option ℕ
onto_character dots key character = onto_bytes dots key (encode_utf8 character)

-- a key with the characters of a name
abbrev pub onto_name : Bool → Option ℕ → List ℕ → Option ℕ
onto_name dots key name = folded (onto_character dots) key (chars name)

-- only a character that fits itself alone goes on with a key
abbrev pub onto_piece : Bool → Option ℕ → Piece → Option ℕ
onto_piece dots key AnyRun = None
onto_piece dots key AnyOne = None
onto_piece dots key (Exactly c) = onto_character dots key c
onto_piece dots key (Class turned ranges) = None

-- a key with the pieces of a segment
abbrev pub onto_pieces : Bool → Option ℕ → List Piece → Option ℕ
onto_pieces dots = folded (onto_piece dots)

-- a key with one more slash
abbrev pub onto_slash : Option ℕ → Option ℕ
onto_slash key = onto_byte false key 47

-- a path's key with one more segment
abbrev pub onto_path : Option ℕ → Segment → Option ℕ
onto_path key AnyNames = None
onto_path key (Name pieces) = onto_pieces false (onto_slash key) pieces

-- the key of a segment's whole name, whatever stands before it
abbrev pub onto_whole : Option ℕ → Segment → Option ℕ
onto_whole key AnyNames = None
onto_whole key (Name pieces) = onto_pieces false (Some 2) pieces

-- the key of what follows the last dot of a segment, whatever stands before it
abbrev pub onto_extension : Option ℕ → Segment → Option ℕ
onto_extension key AnyNames = None
onto_extension key (Name pieces) = onto_pieces true None pieces

-- a path of more names has no key of its own
abbrev pub most_names : ℕ
most_names = 4

-- the key of segments that name each name of a path
unfoldable pub path_key : List Segment → Option ℕ
path_key ss = if nat_lt most_names (length ss) then None else folded onto_path (Some 3) ss

-- the key of segments that name the last name
unfoldable pub whole_key : List Segment → Option ℕ
whole_key = folded onto_whole None

-- the key of segments that name the extension of the last name
unfoldable pub extension_key : List Segment → Option ℕ
extension_key = folded onto_extension None

-- a pattern's key, of as much as it names
abbrev pub pattern_key : Pattern → Option ℕ
pattern_key pattern =
    or_else (path_key pattern.segments)
    (or_else (whole_key pattern.segments) (extension_key pattern.segments))

-- a path's key with one more name
abbrev pub onto_names : Option ℕ → List ℕ → Option ℕ
onto_names key name = onto_name false (onto_slash key) name

-- the key of an entry's names
unfoldable pub key_of_path : List (List ℕ) → Option ℕ
key_of_path names = if nat_lt most_names (length names) then None else folded onto_names (Some 3)
    names

-- the key of an entry's last name
unfoldable pub key_of_name : List (List ℕ) → Option ℕ
key_of_name = folded (λ key name. onto_name false (Some 2) name) None

-- the key of the extension of an entry's last name
unfoldable pub key_of_extension : List (List ℕ) → Option ℕ
key_of_extension = folded (λ key name. onto_name true None name) None
