-- Script, style and template elements of HTML.
use Rattle.std.specs.Prelude.{ℕ, ◌+◌, ◌-◌, if◌then◌else◌, List, length, take, drop, codes}
use Rattle.std.specs.Prelude.{Option, None, Some, option_map}
use Rattle.tokei_table_row.specs.Bytes.{all_blank}
use Rattle.tokei_embedding.specs.Searches.{first_of, last_of, is_at}
use Rattle.tokei_embedding.specs.Spans.{Span, shifted, bytes_of}
use Rattle.tokei_embedding.specs.declared.tags.Tag.{Tag}
use Rattle.tokei_embedding.specs.declared.tags.Tag.TheVariants.{Script, Style, Template}

-- What an opening tag begins with.
abbrev pub token_of : Tag → List ℕ
token_of Script = codes "<script"
token_of Style = codes "<style"
token_of Template = codes "<template"

-- The closing tag.
abbrev pub closer_of : Tag → List ℕ
closer_of Script = codes "</script>"
closer_of Style = codes "</style>"
closer_of Template = codes "</template>"

-- What stands before the value that names the language, with its quote mark.
abbrev pub attribute_of : Tag → List ℕ
attribute_of Script = codes "type=\""
attribute_of Style = codes "lang=\""
attribute_of Template = codes "lang=\""

-- The attribute's value in the bytes before a quote mark: from behind the attribute's last place
-- there to that mark.
abbrev pub value_before : List ℕ → List ℕ → Option ℕ → Option Span
value_before attribute text None = None
value_before attribute text (Some q) =
    option_map (λ a. record { start = a + length attribute; stop = q })
    (last_of attribute (take q text))

-- The attribute's value in a tag's inside: it runs to the last quote mark.
abbrev pub value_in : List ℕ → List ℕ → Option Span
value_in attribute text = value_before attribute text (last_of (codes "\"") text)

-- The place behind the value, or the front without one.
abbrev pub value_end : Option Span → ℕ
value_end None = 0
value_end (Some v) = v.stop

-- An opening tag: all of it, and the value in it.
pub record Opening : Type 0 where
  pub whole : Span
  pub value : Option Span

-- The opening that begins at the place, by the bytes from the place `size` on, and the value in
-- them: it ends behind the first `>` after the value.
abbrev pub opening_past : ℕ → ℕ → List ℕ → Option Span → Option Opening
opening_past place number inside value =
    let behind = value_end value in
    option_map (λ k. record {
      whole = record { start = place; stop = number + (behind + k + 1) };
      value = option_map (shifted number) value;
    }) (first_of (codes ">") (drop behind inside))

-- The same, by the last `>` of these bytes: the value is sought before it. Without one nothing
-- opens.
abbrev pub opening_before : List ℕ → ℕ → ℕ → List ℕ → Option ℕ → Option Opening
opening_before attribute place number inside None = None
opening_before attribute place number inside (Some g) =
    opening_past place number inside (value_in attribute (take g inside))

-- The opening of the tag whose token stands at the place of the part.
abbrev pub opening_at : Tag → List ℕ → ℕ → Option Opening
opening_at tag part place =
    let n = place + length (token_of tag) in
    let inside = drop n part in
    opening_before (attribute_of tag) place n inside (last_of (codes ">") inside)

-- The opening of the tag at the place where its token was found.
abbrev pub opening_found : Tag → List ℕ → Option ℕ → Option Opening
opening_found tag part None = None
opening_found tag part (Some i) = opening_at tag part i

-- The part's opening of the tag, at the first place of its token.
abbrev pub first_opening : Tag → List ℕ → Option Opening
first_opening tag part = opening_found tag part (first_of (token_of tag) part)

-- An element: the value in its opening, its contents, and the length from the opening to before the
-- closing tag.
pub record TagBlock : Type 0 where
  pub value : Option (List ℕ)
  pub contents : List ℕ
  pub size : ℕ

-- The element with an opening of that size, by the bytes behind it, and the closing tag in them.
-- Without a closing tag, or with nothing but blanks before it, there is none.
abbrev pub element_to : Option (List ℕ) → ℕ → List ℕ → Option ℕ → Option TagBlock
element_to value number behind None = None
element_to value number behind (Some i) =
    if all_blank (take i behind) then None
    else Some (record { value = value; contents = take i behind; size = number + i })

-- The element of an opening of the part. `rest` is the text from the place on at which the opening
-- stands.
abbrev pub element_of : Tag → List ℕ → ℕ → List ℕ → Option Opening → Option TagBlock
element_of tag part place rest None = None
element_of tag part place rest (Some o) =
    let n = o.whole.stop - place in
    element_to (option_map (bytes_of part) o.value) n (drop n rest)
    (first_of (closer_of tag) (drop n rest))

-- The element that opens at a place of a part, where the tag's token stands there for the first
-- time in the part. `rest` is the text from the place on.
abbrev pub tag_block : Tag → List ℕ → ℕ → List ℕ → Option TagBlock
tag_block tag part place rest =
    if is_at place (first_of (token_of tag) part)
    then element_of tag part place rest (opening_at tag part place)
    else None
