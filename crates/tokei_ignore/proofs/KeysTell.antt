-- What the pieces of a segment tell of a key, the name that they fit tells too, and so for the
-- segments of a pattern and the names of a path.
use Rattle.std.proofs.Common.{◌≡◌, ℕ, ◌==◌, ◌&&◌, ◌++◌, List, [], ◌∷◌, Bool, true, false, true≢false, cond, Option, Some, None, option_map, refl, sym, ap, ◌∙◌, subst, eqb-true, suc, ◌<◌, ◌≤◌, ◌⊎◌, inl, inr, length, arith, lt-ltb, le-ltb}
use Rattle.std.specs.Str.{chars, IsUtf8}
use Rattle.std.proofs.lemmas.Str.{encodes-chars}
use lib.Utf8.{encode, encodes}
use Rattle.tokei_ignore.specs.declared.pieces.Piece.{Piece}
use Rattle.tokei_ignore.specs.declared.pieces.Piece.TheVariants.{AnyRun, AnyOne, Exactly, Class}
use Rattle.tokei_ignore.specs.declared.pieces.Segment.{Segment}
use Rattle.tokei_ignore.specs.declared.pieces.Segment.TheVariants.{AnyNames, Name}
use Rattle.tokei_ignore.specs.Fits.{fits, at_some_end, first_and_rest}
use Rattle.tokei_ignore.specs.Segments.{spans_characters, fits_character, fits_characters, spans_names, fits_name, fits_names}
use Rattle.std.proofs.lemmas.Bool.{cases_lt}
use Rattle.tokei_ignore.specs.Keys.{folded, most_names, onto_names, mixed, onto_byte, onto_bytes, onto_character, onto_name, onto_piece, onto_pieces, onto_slash, onto_path, onto_whole, onto_extension, path_key, whole_key, extension_key, key_of_path, key_of_name, key_of_extension}
use Rattle.tokei_ignore.proofs.Spans.{cases_or, cases_and}

-- a key that is told by the first is told by the second
abbrev pub Tells : Option ℕ → Option ℕ → Type 0
Tells s t = (k : ℕ) → s ≡ Some k → t ≡ Some k

pub nothing_told : (s t : Option ℕ) → s ≡ None → Tells s t
nothing_told s t e k h = absurd (let c : None ≡ Some k = sym e ∙ h in cc c)

module _ {P X : Type 0} (spans : P → Bool) (fits_one : P → X → Bool)
    (sign : Option ℕ → P → Option ℕ) (item : Option ℕ → X → Option ℕ)
    (none : (s : Option ℕ) (p : P) → spans p ≡ true → sign s p ≡ None)
    (one : (p : P) (x : X) (s t : Option ℕ) → fits_one p x ≡ true → Tells s t → Tells (sign s p) (item t x)) where
  later : (ps : List P)
      → ((xs : List X) (s t : Option ℕ) → fits spans fits_one ps xs ≡ true → Tells s t → Tells (folded sign s ps) (folded item t xs))
      → (xs : List X) (s t : Option ℕ) → s ≡ None → at_some_end (fits spans fits_one ps) xs ≡ true
      → Tells (folded sign s ps) (folded item t xs)
  later ps more [] s t n e = more [] s t e (nothing_told s t n)
  later ps more (x ∷ xs) s t n e =
      cases_or (fits spans fits_one ps (x ∷ xs)) (at_some_end (fits spans fits_one ps) xs) e
      (λ h. more (x ∷ xs) s t h (nothing_told s t n))
      (λ h. later ps more xs s (item t x) n h)

  onward : (p : P) (ps : List P)
      → ((xs : List X) (s t : Option ℕ) → fits spans fits_one ps xs ≡ true → Tells s t → Tells (folded sign s ps) (folded item t xs))
      → (xs : List X) (s t : Option ℕ) → first_and_rest (fits_one p) (fits spans fits_one ps) xs ≡ true
      → Tells s t → Tells (folded sign (sign s p) ps) (folded item t xs)
  onward p ps more [] s t e h = absurd (true≢false (sym e))
  onward p ps more (x ∷ xs) s t e h =
      let both = cases_and (fits_one p x) (fits spans fits_one ps xs) e in
      more xs (sign s p) (item t x) both.1 (one p x s t both.0 h)

  by_sign : (p : P) (ps : List P)
      → ((xs : List X) (s t : Option ℕ) → fits spans fits_one ps xs ≡ true → Tells s t → Tells (folded sign s ps) (folded item t xs))
      → (b : Bool) → spans p ≡ b → (xs : List X) (s t : Option ℕ)
      → cond b (at_some_end (fits spans fits_one ps) xs) (first_and_rest (fits_one p) (fits spans fits_one ps) xs) ≡ true
      → Tells s t → Tells (folded sign (sign s p) ps) (folded item t xs)
  by_sign p ps more true is xs s t e h = later ps more xs (sign s p) t (none s p is) e
  by_sign p ps more false is xs s t e h = onward p ps more xs s t e h

  pub told : (ps : List P) (xs : List X) (s t : Option ℕ) → fits spans fits_one ps xs ≡ true → Tells s t
      → Tells (folded sign s ps) (folded item t xs)
  told [] [] s t e h = h
  told [] (x ∷ xs) s t e h = absurd (true≢false (sym e))
  told (p ∷ ps) xs s t e h = by_sign p ps (told ps) (spans p) refl xs s t e h

-- one more byte goes on with both keys
dotted_byte : (d : Bool) (n : ℕ) (s t : Option ℕ) → Tells s t
    → Tells (cond d (Some 1) (option_map (λ k. mixed k n) s)) (cond d (Some 1) (option_map (λ k. mixed k n) t))
dotted_byte true n s t h = λ k e. e
dotted_byte false n None t h = λ k e. absurd (cc e)
dotted_byte false n (Some j) t h = λ k e. ap (option_map (λ i. mixed i n)) (h j refl) ∙ e

byte_tells : (dots : Bool) (b : ℕ) (s t : Option ℕ) → Tells s t → Tells (onto_byte dots s b) (onto_byte dots t b)
byte_tells dots b s t h = dotted_byte (dots && (b == 46)) b s t h

bytes_tell : (dots : Bool) (bs : List ℕ) (s t : Option ℕ) → Tells s t → Tells (onto_bytes dots s bs) (onto_bytes dots t bs)
bytes_tell dots [] s t h = h
bytes_tell dots (b ∷ bs) s t h = bytes_tell dots bs (onto_byte dots s b) (onto_byte dots t b) (byte_tells dots b s t h)

piece_none : (dots : Bool) (s : Option ℕ) (p : Piece) → spans_characters p ≡ true → onto_piece dots s p ≡ None
piece_none dots s AnyRun e = refl
piece_none dots s AnyOne e = refl
piece_none dots s (Exactly c) e = absurd (true≢false (sym e))
piece_none dots s (Class turned ranges) e = refl

piece_tells : (dots : Bool) (p : Piece) (c : ℕ) (s t : Option ℕ) → fits_character p c ≡ true → Tells s t
    → Tells (onto_piece dots s p) (onto_character dots t c)
piece_tells dots AnyRun c s t e h = nothing_told None (onto_character dots t c) refl
piece_tells dots AnyOne c s t e h = nothing_told None (onto_character dots t c) refl
piece_tells dots (Exactly x) c s t e h =
    let same : x ≡ c = eqb-true x c e in
    subst (λ (y : ℕ). Tells (onto_character dots s x) (onto_character dots t y)) same (bytes_tell dots (encode x) s t h)
piece_tells dots (Class turned ranges) c s t e h = nothing_told None (onto_character dots t c) refl

pieces_tell : (dots : Bool) (ps : List Piece) (name : List ℕ) (s t : Option ℕ) → fits_characters ps (chars name) ≡ true → Tells s t
    → Tells (onto_pieces dots s ps) (onto_name dots t name)
pieces_tell dots ps name s t e h =
    told spans_characters fits_character (onto_piece dots) (onto_character dots) (piece_none dots) (piece_tells dots) ps (chars name) s t e h

path_none : (s : Option ℕ) (p : Segment) → spans_names p ≡ true → onto_path s p ≡ None
path_none s AnyNames e = refl
path_none s (Name ps) e = absurd (true≢false (sym e))

path_tells : (p : Segment) (name : List ℕ) (s t : Option ℕ) → fits_name p name ≡ true → Tells s t
    → Tells (onto_path s p) (onto_name false (onto_slash t) name)
path_tells AnyNames name s t e h = absurd (true≢false (sym e))
path_tells (Name ps) name s t e h = pieces_tell false ps name (onto_slash s) (onto_slash t) e (byte_tells false 47 s t h)

whole_none : (s : Option ℕ) (p : Segment) → spans_names p ≡ true → onto_whole s p ≡ None
whole_none s AnyNames e = refl
whole_none s (Name ps) e = absurd (true≢false (sym e))

whole_tells : (p : Segment) (name : List ℕ) (s t : Option ℕ) → fits_name p name ≡ true → Tells s t
    → Tells (onto_whole s p) (onto_name false (Some 2) name)
whole_tells AnyNames name s t e h = absurd (true≢false (sym e))
whole_tells (Name ps) name s t e h = pieces_tell false ps name (Some 2) (Some 2) e (λ k j. j)

extension_none : (s : Option ℕ) (p : Segment) → spans_names p ≡ true → onto_extension s p ≡ None
extension_none s AnyNames e = refl
extension_none s (Name ps) e = absurd (true≢false (sym e))

extension_tells : (p : Segment) (name : List ℕ) (s t : Option ℕ) → fits_name p name ≡ true → Tells s t
    → Tells (onto_extension s p) (onto_name true None name)
extension_tells AnyNames name s t e h = absurd (true≢false (sym e))
extension_tells (Name ps) name s t e h = pieces_tell true ps name None None e (λ k j. j)

bytes_of_none : (bs : List ℕ) → onto_bytes false None bs ≡ None
bytes_of_none [] = refl
bytes_of_none (b ∷ bs) = bytes_of_none bs

pieces_of_none : (ps : List Piece) → onto_pieces false None ps ≡ None
pieces_of_none [] = refl
pieces_of_none (AnyRun ∷ ps) = pieces_of_none ps
pieces_of_none (AnyOne ∷ ps) = pieces_of_none ps
pieces_of_none (Exactly c ∷ ps) = ap (λ (key : Option ℕ). onto_pieces false key ps) (bytes_of_none (encode c)) ∙ pieces_of_none ps
pieces_of_none (Class turned ranges ∷ ps) = pieces_of_none ps

path_of_none : (ss : List Segment) → folded onto_path None ss ≡ None
path_of_none [] = refl
path_of_none (AnyNames ∷ ss) = path_of_none ss
path_of_none (Name ps ∷ ss) = ap (λ (key : Option ℕ). folded onto_path key ss) (pieces_of_none ps) ∙ path_of_none ss

-- segments that have a path's key fit just as many names
same_length : (ss : List Segment) (names : List (List ℕ)) (s : Option ℕ) (k : ℕ) → fits_names ss names ≡ true
    → folded onto_path s ss ≡ Some k → length names ≡ length ss
same_length [] [] s k e h = refl
same_length [] (n ∷ ns) s k e h = absurd (true≢false (sym e))
same_length (AnyNames ∷ ss) names s k e h = absurd (let c : None ≡ Some k = sym (path_of_none ss) ∙ h in cc c)
same_length (Name ps ∷ ss) [] s k e h = absurd (true≢false (sym e))
same_length (Name ps ∷ ss) (n ∷ ns) s k e h =
    ap suc (same_length ss ns (onto_path s (Name ps)) k (cases_and (fits_name (Name ps) n) (fits_names ss ns) e).1 h)

pub long_path : (ss : List Segment) → most_names < length ss → path_key ss ≡ None
unfolding path_key
long_path ss h = ap (λ b. cond b None (folded onto_path (Some 3) ss)) (lt-ltb most_names (length ss) h)

pub short_path : (ss : List Segment) → length ss ≤ most_names → path_key ss ≡ folded onto_path (Some 3) ss
unfolding path_key
short_path ss h = ap (λ b. cond b None (folded onto_path (Some 3) ss)) (le-ltb most_names (length ss) h)

pub many_names : (names : List (List ℕ)) → most_names < length names → key_of_path names ≡ None
unfolding key_of_path
many_names names h = ap (λ b. cond b None (folded onto_names (Some 3) names)) (lt-ltb most_names (length names) h)

pub few_names : (names : List (List ℕ)) → length names ≤ most_names → key_of_path names ≡ folded onto_names (Some 3) names
unfolding key_of_path
few_names names h = ap (λ b. cond b None (folded onto_names (Some 3) names)) (le-ltb most_names (length names) h)

path_by_length : (ss : List Segment) (names : List (List ℕ)) → fits_names ss names ≡ true
    → (most_names < length ss) ⊎ (length ss ≤ most_names) → Tells (path_key ss) (key_of_path names)
path_by_length ss names e (inl long) k h = absurd (let c : None ≡ Some k = sym (long_path ss long) ∙ h in cc c)
path_by_length ss names e (inr short) k h =
    let is : folded onto_path (Some 3) ss ≡ Some k = sym (short_path ss short) ∙ h in
    let same = same_length ss names (Some 3) k e is in
    let few : length names ≤ most_names = omega (arith, same, short) in
    few_names names few
    ∙ told spans_names fits_name onto_path onto_names path_none path_tells ss names (Some 3) (Some 3) e (λ i j. j) k is

-- a path's key is that of the names which the segments fit
pub path_told : (ss : List Segment) (names : List (List ℕ)) → fits_names ss names ≡ true → Tells (path_key ss) (key_of_path names)
path_told ss names e = path_by_length ss names e (cases_lt most_names (length ss))

-- and so for the last name
pub whole_told : (ss : List Segment) (names : List (List ℕ)) → fits_names ss names ≡ true → Tells (whole_key ss) (key_of_name names)
unfolding whole_key key_of_name
whole_told ss names e =
    told spans_names fits_name onto_whole (λ key name. onto_name false (Some 2) name) whole_none whole_tells ss names None None e (λ k j. j)

-- and for its extension
pub extension_told : (ss : List Segment) (names : List (List ℕ)) → fits_names ss names ≡ true → Tells (extension_key ss) (key_of_extension names)
unfolding extension_key key_of_extension
extension_told ss names e =
    told spans_names fits_name onto_extension (λ key name. onto_name true None name) extension_none extension_tells ss names None None e (λ k j. j)

folded-append : {X : Type 0} (onto : Option ℕ → X → Option ℕ) (s : Option ℕ) (xs ys : List X) → folded onto s (xs ++ ys) ≡ folded onto (folded onto s xs) ys
folded-append onto s [] ys = refl
folded-append onto s (x ∷ xs) ys = folded-append onto (onto s x) xs ys

whole_alone : (key : Option ℕ) (s : Segment) → onto_whole None s ≡ onto_whole key s
whole_alone key AnyNames = refl
whole_alone key (Name ps) = refl

extension_alone : (key : Option ℕ) (s : Segment) → onto_extension None s ≡ onto_extension key s
extension_alone key AnyNames = refl
extension_alone key (Name ps) = refl

-- the last segment alone counts
pub whole_last : (ss front : List Segment) (s : Segment) → ss ≡ front ++ s ∷ [] → onto_whole None s ≡ whole_key ss
unfolding whole_key
whole_last ss front s e =
    whole_alone (folded onto_whole None front) s ∙ sym (ap (folded onto_whole None) e ∙ folded-append onto_whole None front (s ∷ []))

pub whole_none_at_all : (ss : List Segment) → ss ≡ [] → None ≡ whole_key ss
unfolding whole_key
whole_none_at_all ss e = sym (ap (folded onto_whole None) e)

pub extension_last : (ss front : List Segment) (s : Segment) → ss ≡ front ++ s ∷ [] → onto_extension None s ≡ extension_key ss
unfolding extension_key
extension_last ss front s e =
    extension_alone (folded onto_extension None front) s
    ∙ sym (ap (folded onto_extension None) e ∙ folded-append onto_extension None front (s ∷ []))

pub extension_none_at_all : (ss : List Segment) → ss ≡ [] → None ≡ extension_key ss
unfolding extension_key
extension_none_at_all ss e = sym (ap (folded onto_extension None) e)

-- and so does the last name
pub key_of_last_name : (names front : List (List ℕ)) (name : List ℕ) → names ≡ front ++ name ∷ []
    → onto_name false (Some 2) name ≡ key_of_name names
unfolding key_of_name
key_of_last_name names front name e =
    sym (ap (folded (λ key n. onto_name false (Some 2) n) None) e ∙ folded-append (λ key n. onto_name false (Some 2) n) None front (name ∷ []))

pub key_of_no_name : (names : List (List ℕ)) → names ≡ [] → None ≡ key_of_name names
unfolding key_of_name
key_of_no_name names e = sym (ap (folded (λ key n. onto_name false (Some 2) n) None) e)

pub key_of_last_extension : (names front : List (List ℕ)) (name : List ℕ) → names ≡ front ++ name ∷ []
    → onto_name true None name ≡ key_of_extension names
unfolding key_of_extension
key_of_last_extension names front name e =
    sym (ap (folded (λ key n. onto_name true None n) None) e ∙ folded-append (λ key n. onto_name true None n) None front (name ∷ []))

pub key_of_no_extension : (names : List (List ℕ)) → names ≡ [] → None ≡ key_of_extension names
unfolding key_of_extension
key_of_no_extension names e = sym (ap (folded (λ key n. onto_name true None n) None) e)

characters_onto : (dots : Bool) (s : Option ℕ) (cs : List ℕ) → folded (onto_character dots) s cs ≡ onto_bytes dots s (encodes cs)
characters_onto dots s [] = refl
characters_onto dots s (c ∷ cs) =
    characters_onto dots (onto_character dots s c) cs ∙ sym (folded-append (onto_byte dots) s (encode c) (encodes cs))

-- a name's characters are its bytes
pub name_onto : (dots : Bool) (s : Option ℕ) (name : List ℕ) → IsUtf8 name → onto_name dots s name ≡ onto_bytes dots s name
name_onto dots s name u = characters_onto dots s (chars name) ∙ ap (onto_bytes dots s) (encodes-chars name u)
