-- What was read of a file of a told tree is its content.
use Rattle.std.proofs.Common.{◌≡◌, ◌≢◌, ℕ, List, Option, Some, None, Result, Ok, Err, IfOk, sym, ap, ◌∙◌}
use Rattle.std.specs.Global.{Vec}
use Rattle.tokei_folders.specs.declared.fs.Fault.{Fault}
use Rattle.tokei_folders.specs.declared.fs.Fault.TheVariants.{Refused, Memory}
use Rattle.tokei_folders.specs.declared.nodes.Node.{Node}
use Rattle.tokei_folders.specs.Answers.{bytes_of, node_content, read_answer}
use Rattle.tokei_folders.proofs.Contents.{content_read, content_refused}

-- the bytes of a listed file
pub told_content : (r : Result (List ℕ) Fault) (o : Option Node) → (r ≢ Err Memory → r ≡ read_answer o) → IfOk r (λ c. node_content o ≡ Some c)
told_content (Ok bytes) o told = content_read o bytes (told (λ q. cc))
told_content (Err e) o told = tt

pub told_refused : (r : Result (List ℕ) Fault) (o : Option Node) → r ≡ Err Refused → (r ≢ Err Memory → r ≡ read_answer o) → node_content o ≡ None
told_refused r o is told = content_refused o (sym is ∙ told (λ q. let no : Err Refused ≡ Err Memory = sym is ∙ q in cc))

-- the bytes of any other file
pub read_content : (r : Result (Vec ℕ) Fault) (o : Option Node) (v : Vec ℕ) → r ≡ Ok v → (r ≢ Err Memory → bytes_of r ≡ read_answer o) → node_content o ≡ Some v.items
read_content (Ok v) o w is told = content_read o w.items (ap bytes_of (sym is) ∙ told (λ q. cc))
read_content (Err e) o w is told = absurd (cc)

pub read_refused : (r : Result (Vec ℕ) Fault) (o : Option Node) → r ≡ Err Refused → (r ≢ Err Memory → bytes_of r ≡ read_answer o) → node_content o ≡ None
read_refused r o is told = content_refused o (ap bytes_of (sym is) ∙ told (λ q. let no : Err Refused ≡ Err Memory = sym is ∙ q in cc))
