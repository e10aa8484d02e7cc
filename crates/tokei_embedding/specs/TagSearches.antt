-- What is sought for the elements of a text.
use Rattle.std.specs.Prelude.{◌≡◌, ℕ, List, codes}
use Rattle.tokei_embedding.specs.Remembered.{Sought, sought}
use Rattle.tokei_embedding.specs.Tags.{token_of, closer_of, attribute_of}
use Rattle.tokei_embedding.specs.declared.tags.Tag.{Tag}
use Rattle.tokei_embedding.specs.declared.tags.Tag.TheVariants.{Script, Style, Template}

-- A text, and the tag whose elements are sought in it.
pub record TagSought : Type 0 where
  pub tag : Tag
  pub text : List ℕ

-- The last `>` and quote marks, the tag's attributes and the first `>` are sought in the same text.
pub record SeeksOpenings (s : TagSought) (last_ends quotes attributes ends : Sought) : Type 0 where
  pub last : last_ends ≡ sought s.text (codes ">")
  pub quoted : quotes ≡ sought s.text (codes "\"")
  pub valued : attributes ≡ sought s.text (attribute_of s.tag)
  pub first : ends ≡ sought s.text (codes ">")

-- So are the tag's tokens, its openings, its closing tags and the blanks.
pub record SeeksElements (s : TagSought) (tokens : Sought) (openings : TagSought) (closers : Sought)
    (blanks : List ℕ) : Type 0 where
  pub begun : tokens ≡ sought s.text (token_of s.tag)
  pub opened : openings ≡ s
  pub closed : closers ≡ sought s.text (closer_of s.tag)
  pub blank : blanks ≡ s.text

-- The elements of each tag are sought in the text.
pub record SeeksTags (text : List ℕ) (script style template : TagSought) : Type 0 where
  pub scripts : script ≡ record { tag = Script; text = text }
  pub styles : style ≡ record { tag = Style; text = text }
  pub templates : template ≡ record { tag = Template; text = text }
