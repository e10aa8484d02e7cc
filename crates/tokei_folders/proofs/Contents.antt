-- What a read answers, and that a told tree is sound.
use Rattle.std.proofs.Common.{◌≡◌, ℕ, List, true, false, Option, Some, None, Ok, Err, refl, sym, ap, ◌∙◌}
use Rattle.tokei_folders.specs.declared.fs.Fault.TheVariants.{Refused}
use Rattle.tokei_folders.specs.declared.nodes.Node.{Node}
use Rattle.tokei_folders.specs.declared.nodes.Node.TheVariants.{File as file, Folder as folder}
use Rattle.tokei_folders.specs.Answers.{node_content, read_answer}
use Rattle.tokei_folders.specs.FolderLaws.{answer_with}
use Rattle.tokei_folders.specs.Tree.{Tree, IsSound, is_sound}

-- a read answers the content of what stands at the place
pub reads_content : (o : Option Node) → read_answer o ≡ answer_with (node_content o)
reads_content None = refl
reads_content (Some (folder r)) = refl
reads_content (Some (file true h c)) = refl
reads_content (Some (file false h c)) = refl

-- what was read is the content
pub content_read : (o : Option Node) (c : List ℕ) → Ok c ≡ read_answer o → node_content o ≡ Some c
content_read None c e = absurd (cc)
content_read (Some (folder r)) c e = absurd (cc)
content_read (Some (file true h d)) c e = absurd (cc)
content_read (Some (file false h d)) c e = let same : c ≡ d = cc in ap Some (sym same)

-- where the read is refused there is none
pub content_refused : (o : Option Node) → Err Refused ≡ read_answer o → node_content o ≡ None
content_refused None e = refl
content_refused (Some (folder r)) e = refl
content_refused (Some (file true h d)) e = refl
content_refused (Some (file false h d)) e = absurd (cc)

-- a told tree is sound
pub sound_of : (o : Option Tree) (t : Tree) → IsSound o → o ≡ Some t → is_sound t ≡ true
sound_of None t h e = absurd (cc)
sound_of (Some u) t h e = let same : u ≡ t = cc in ap is_sound (sym same) ∙ h
