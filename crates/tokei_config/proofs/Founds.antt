-- What there is of a file, by its kind and its content.
use Rattle.std.proofs.Common.{◌≡◌, ◌≢◌, ℕ, Option, Some, None, Result, Ok, Err, refl, sym, ap, ◌∙◌}
use Rattle.std.specs.Global.{Vec}
use Rattle.tokei_config.specs.Found.{file_found}
use Rattle.tokei_folders.proofs.Contents.{content_read, content_refused}
use Rattle.tokei_folders.specs.Answers.{bytes_of, node_content, node_kind, read_answer}
use Rattle.tokei_folders.specs.declared.fs.Fault.{Fault}
use Rattle.tokei_folders.specs.declared.fs.Fault.TheVariants.{Refused, Memory}
use Rattle.tokei_folders.specs.declared.fs.Kind.{Kind}
use Rattle.tokei_folders.specs.declared.fs.Kind.TheVariants as kind
use Rattle.tokei_folders.specs.declared.nodes.Node.{Node}
use Rattle.tokei_folders.specs.declared.nodes.Node.TheVariants.{File as file, Folder as folder}

-- of a file there is its content, where it can be read
pub file_is_found : (o : Option Node) → node_kind o ≡ Some kind.File → file_found o ≡ Some (node_content o)
file_is_found None is = absurd (let h = is in cc)
file_is_found (Some (folder r)) is = absurd (let h = is in cc)
file_is_found (Some (file r h c)) is = refl

-- the kind that was told
pub kind_told : (o : Option Kind) (r : Result (Option Kind) Fault) (k : Kind) → (r ≢ Err Memory → r ≡ Ok o) → r ≡ Ok (Some k) → o ≡ Some k
kind_told o (Err e) k told is = absurd (let h = is in cc)
kind_told o (Ok p) k told is = let h = told (λ x. absurd (let y = x in cc)) in cc

-- the content that was read, and that there is none where reading was refused
pub read_told : (o : Option Node) (r : Result (Vec ℕ) Fault) (v : Vec ℕ) → (r ≢ Err Memory → bytes_of r ≡ read_answer o) → r ≡ Ok v → node_content o ≡ Some v.items
read_told o r v told is = content_read o v.items (ap bytes_of (sym is) ∙ told (λ q. let no : Ok v ≡ Err Memory = sym is ∙ q in cc))

pub refused_told : (o : Option Node) (r : Result (Vec ℕ) Fault) → (r ≢ Err Memory → bytes_of r ≡ read_answer o) → r ≡ Err Refused → node_content o ≡ None
refused_told o r told is = content_refused o (ap bytes_of (sym is) ∙ told (λ q. let no : Err Refused ≡ Err Memory = sym is ∙ q in cc))
