-- The notes of files that count in a language and whose content can't be read, and all notes of a
-- run.
use Rattle.std.specs.Prelude.{◌≡◌, ℕ, List, [], ◌∷◌, ◌++◌, Option, Some, None}
use Rattle.std.specs.List.{flat_map}
use Rattle.tokei_folders.specs.Tree.{Tree}
use Rattle.tokei_walk.specs.declared.kept_file.KeptFile.{KeptFile}
use Rattle.tokei_walk.specs.declared.kept_file.Note.{Note}
use Rattle.tokei_walk.specs.declared.kept_file.NoteKind.TheVariants.{UnreadContent}
use Rattle.tokei_walk.specs.Noted.{Noted, said_in}
use Rattle.tokei_files.specs.Contents.{content_at}
use Rattle.tokei_files.specs.Files.{Counting, language_of_file}

-- the note of such a file, under the path that is shown
abbrev pub unread_note : KeptFile → Note
unread_note file = record { kind = UnreadContent; place = file.path }

-- a file leaves its note where there is no content
abbrev pub note_without : KeptFile → Option (List ℕ) → List Note
note_without file None = unread_note file ∷ []
note_without file (Some content) = []

-- a file that counts in this language leaves a note where its content can't be read
abbrev pub unread_in : Tree → KeptFile → Option ℕ → List Note
unread_in tree file None = []
unread_in tree file (Some language) = note_without file (content_at tree file.place)

-- the note of a file, if it leaves one
unfoldable pub unread_of_file : Counting → Tree → KeptFile → List Note
unread_of_file counting tree file = unread_in tree file (language_of_file counting tree file)

-- those of files, in their order
abbrev pub unread_of : Counting → Tree → List KeptFile → List Note
unread_of counting tree files = flat_map (unread_of_file counting tree) files

-- all notes of a run: those of its excludes, then those of its walk, which say this, and then those
-- of files that can't be read
pub record NotesAre (excludes : List Note) (said : List Noted) (unread all : List Note) : Type 0
  where
    pub walked : List Note
    pub is : all ≡ excludes ++ (walked ++ unread)
    pub says : said_in walked ≡ said
