-- A row of a well-formed table, and what its tokens are.
use Rattle.std.proofs.Common.{◌≡◌, ℕ, zero, suc, ◌<◌, Bool, true, false, ◌&&◌, List, [], ◌∷◌, map, length, get_or}
use Rattle.std.proofs.Common.{refl, arith}
use Rattle.std.specs.List.{list_all}
use Rattle.tokei_table_row.specs.Row.{Row}
use Rattle.tokei_table_row.specs.Sound.{IsSound}
use Rattle.tokei_table_rules.specs.Tokens.{has_tokens}

pub and_left : (a b : Bool) → (a && b) ≡ true → a ≡ true
and_left true b h = refl
and_left false b h = h

pub and_right : (a b : Bool) → (a && b) ≡ true → b ≡ true
and_right true b h = h
and_right false b h = cc

pub all_at : {A B : Type 0} (p : B → Bool) (f : A → B) (xs : List A) (i : ℕ) (d : A) → list_all p (map f xs) ≡ true
    → i < length xs → p (f (get_or xs i d)) ≡ true
all_at p f [] i d h l = absurd (omega (arith, l))
all_at p f (x ∷ xs) zero d h l = and_left (p (f x)) (list_all p (map f xs)) h
all_at p f (x ∷ xs) (suc i) d h l = all_at p f xs i d (and_right (p (f x)) (list_all p (map f xs)) h) (omega (arith, l))

pub sound_row : (r : Row) → has_tokens r ≡ true → IsSound r
unfolding has_tokens
sound_row r h =
    let h7 = and_left _ _ h in
    let h6 = and_left _ _ h7 in
    let h5 = and_left _ _ h6 in
    let h4 = and_left _ _ h5 in
    let h3 = and_left _ _ h4 in
    let h2 = and_left _ _ h3 in
    record {
      line_comment = and_left _ _ h2;
      multi_line_comments = and_right _ _ h2;
      nested_comments = and_right _ _ h3;
      quotes = and_right _ _ h4;
      verbatim_quotes = and_right _ _ h5;
      doc_quotes = and_right _ _ h6;
    }
