-- Words that are UTF-8, and words that aren't.
use Rattle.std.proofs.Common.{◌≡◌, ℕ, List, cond, Option, None, ◌∙◌, ap, sym}
use Rattle.tokei_table.proofs.IsUtf8.{utf8_true, utf8_false}
use Rattle.std.specs.Str.{is_utf8, IsUtf8}

pub utf8_some : (w v : List ℕ) (o : List ℕ → Option ℕ) → IsUtf8 w → v ≡ w → o v ≡ cond (is_utf8 w) (o w) None
utf8_some w v o u e = ap o e ∙ sym (ap (λ x. cond x (o w) None) (utf8_true w u))

pub utf8_none : (w : List ℕ) (o : Option ℕ) → (IsUtf8 w → ⊥) → None ≡ cond (is_utf8 w) o None
utf8_none w o u = sym (ap (λ x. cond x o None) (utf8_false w u))
