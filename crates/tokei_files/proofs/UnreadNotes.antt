-- The notes of contents that can't be read, one file at a time.
use Rattle.std.proofs.Common.{◌≡◌, ℕ, List, [], ◌∷◌, ◌++◌, Option, Some, None, option_map, refl, sym, ap, ◌∙◌, append_assoc, append-nil}
use Rattle.tokei_folders.specs.Tree.{Tree}
use Rattle.tokei_stats.specs.Statistics.{Statistics}
use Rattle.tokei_walk.specs.declared.kept_file.KeptFile.{KeptFile}
use Rattle.tokei_walk.specs.declared.kept_file.Note.{Note}
use Rattle.tokei_walk.specs.Noted.{Noted, NotesSay}
use Rattle.tokei_walk.specs.Notes.{Grows}
use Rattle.tokei_walk.proofs.Noting.{grown_says}
use Rattle.tokei_files.specs.Contents.{content_at}
use Rattle.tokei_files.specs.ContentStatistics.{stats_at, stats_in}
use Rattle.tokei_files.specs.Files.{Counting, language_of_file}
use Rattle.tokei_files.specs.Unread.{unread_note, note_without, unread_in, unread_of_file, unread_of, NotesAre}

-- a content that has statistics is there
leaves_none : (read : List ℕ → Statistics) (file : KeptFile) (content : Option (List ℕ)) (s : Statistics) → Some s ≡ option_map read content → note_without file content ≡ []
leaves_none read file None s is = absurd (cc)
leaves_none read file (Some content) s is = refl

module _ (c : Counting) (t : Tree) where
  module _ (file : KeptFile) (o : Option ℕ) (is : o ≡ language_of_file c t file) where
    -- one that counts in no language leaves none
    pub uncounted_unnoted : o ≡ None → unread_of_file c t file ≡ []
    unfolding unread_of_file
    uncounted_unnoted none = ap (unread_in t file) (sym is ∙ none)

    -- nor does one that was read
    pub read_unnoted : (l : ℕ) (s : Statistics) → o ≡ Some l → Some s ≡ stats_at t c.rows c.docs l file.place → unread_of_file c t file ≡ []
    unfolding unread_of_file
    read_unnoted l s some read =
        ap (unread_in t file) (sym is ∙ some) ∙ leaves_none (stats_in c.rows c.docs l) file (content_at t file.place) s read

    -- one that can't be read leaves its own
    pub refused_noted : (l : ℕ) → o ≡ Some l → content_at t file.place ≡ None → unread_of_file c t file ≡ unread_note file ∷ []
    unfolding unread_of_file
    refused_noted l some none = ap (unread_in t file) (sym is ∙ some) ∙ ap (note_without file) none

  -- one file more
  pub noted_more : (rest left : List KeptFile) (k : KeptFile) (a b whole : List Note)
      → a ++ unread_of c t rest ≡ whole → rest ≡ k ∷ left → b ≡ a ++ unread_of_file c t k → b ++ unread_of c t left ≡ whole
  noted_more rest left k a b whole so is one =
      ap (λ (q : List Note). q ++ unread_of c t left) one
      ∙ append_assoc a (unread_of_file c t k) (unread_of c t left)
      ∙ ap (λ (ks : List KeptFile). a ++ unread_of c t ks) (sym is)
      ∙ so

-- all notes of a run, by what its walk added and what was put behind that
pub notes_are : (excludes begun walked taken unread all : List Note) (said : List Noted) → begun ≡ excludes → Grows begun walked → NotesSay begun walked said
    → taken ≡ walked → all ≡ taken ++ unread → NotesAre excludes said unread all
notes_are excludes begun walked taken unread all said first grown says same put = record {
  walked = grown.more;
  is =
      put ∙ ap (λ (q : List Note). q ++ unread) (same ∙ grown.is ∙ ap (λ (q : List Note). q ++ grown.more) first)
      ∙ append_assoc excludes grown.more unread;
  says = grown_says begun walked grown said says;
}

-- no note more
pub none_more : (a more : List Note) → more ≡ [] → a ≡ a ++ more
none_more a more none = sym (append-nil a) ∙ ap (λ (q : List Note). a ++ q) (sym none)
