-- A row that a flaw tells of is one of the table's.
use Rattle.std.proofs.Common.{◌≡◌, ℕ, zero, suc, ◌+◌, ◌<◌, ◌≤◌, Bool, true, false, not, ◌&&◌, List, [], ◌∷◌, map, length, take, drop, get_or, refl, ap, sym, ◌∙◌, arith}
use Rattle.std.proofs.lemmas.List.{drop_all, length-map, length-take-le, take-map, get_or-map, get_or-take}
use Rattle.std.proofs.lemmas.List.Folds.{list_any_at}
use Rattle.std.proofs.Common.{Option, Result, Ok, Err, string_bytes, is_some, is_err, if◌then◌else◌}
use Rattle.std.proofs.lemmas.Result.{IfOk-weaker}
use Rattle.std.specs.declared.alloc.AllocError.{AllocError}
use Rattle.std.specs.List.{Any, list_any, list_all}
use Rattle.std.specs.Result.{IfOk}
use Rattle.tokei_table_row.specs.NewRow.{new_row}
use Rattle.tokei_table_row.specs.Row.{Row}
use Rattle.tokei_table_rules.specs.Lookups.{row_at, has_name}
use Rattle.tokei_table_rules.specs.RowNames.{shares_name, shares_earlier, names_twice, is_total, NamesBoth}
use Rattle.tokei_table_rules.specs.Fallbacks.{has_fallbacks}
use Rattle.tokei_table_rules.specs.Tokens.{has_tokens, member_has_tokens, HasBadToken}
use Rattle.tokei_table.proofs.ExtendedTables.{drop_here}
use Rattle.tokei_table_json.specs.Outcome.{tested}
use Rattle.tokei_table_json.specs.Flaws.{Tells, TellsFallback}
use Rattle.tokei_table_json.specs.declared.error.TableError.{TableError}
use Rattle.tokei_table_json.specs.declared.error.TableError.TheVariants.{Token, NamedTwice, NamedTotal, Fallback}
use Rattle.tokei_table_json.specs.declared.flaw.TableFlaw.{TableFlaw}

module _ {X : Type 0} (view : X → Row) where
  at_map : (xs : List X) (i : ℕ) (x : X) → i < length xs → x ≡ get_or xs i x → get_or (map view xs) i (view x) ≡ view x
  at_map [] i x l e = absurd (omega (arith, l))
  at_map (y ∷ ys) zero x l e = ap view (sym e)
  at_map (y ∷ ys) (suc i) x l e = at_map ys i x (omega (arith, l)) e

  pub token_told : (xs : List X) (i : ℕ) (x : X) (language word member : List ℕ) → i < length xs → x ≡ get_or xs i x
      → language ≡ (view x).key → word ≡ member → member_has_tokens (view x) member ≡ false
      → HasBadToken (map view xs) language word
  token_told xs i x language word member l at e f bad =
      (i, view x, omega (arith, l, length-map xs view), at_map xs i x l at, (sym e, ap (member_has_tokens (view x)) f ∙ bad))

  pub row_told : (P : Row → Type 0) (xs : List X) (i : ℕ) (x : X) → i < length xs → x ≡ get_or xs i x → P (view x) → Any P (map view xs)
  row_told P xs i x l at p = (i, view x, omega (arith, l, length-map xs view), at_map xs i x l at, p)

  row_here : (xs : List X) (i : ℕ) (x : X) → i < length xs → x ≡ get_or xs i x → row_at (map view xs) i ≡ view x
  row_here xs i x l at = get_or-map view xs i x (new_row []) l ∙ ap view (sym at)

  -- a step of a search for a row that fails the test
  module _ (test : Row → Bool) (xs : List X) (i : ℕ) (x : X) (inside : i < length xs) (at : x ≡ get_or xs i x)
      (kept : list_all test (map view (drop i xs)) ≡ list_all test (map view xs)) where
    here_and_later : list_all test (map view (drop i xs)) ≡ (test (view x) && list_all test (map view (drop (i + 1) xs)))
    here_and_later =
        ap (λ ys. list_all test (map view ys)) (drop_here xs i x inside at)

    pub row_passes : test (view x) ≡ true → list_all test (map view (drop (i + 1) xs)) ≡ list_all test (map view xs)
    row_passes e = sym (here_and_later ∙ ap (λ b. b && list_all test (map view (drop (i + 1) xs))) e) ∙ kept

    pub row_fails : test (view x) ≡ false → list_all test (map view xs) ≡ false
    row_fails e = sym kept ∙ here_and_later ∙ ap (λ b. b && list_all test (map view (drop (i + 1) xs))) e

  -- the row at a place, and those before it
  module _ (xs : List X) (place : ℕ) (x : X) (inside : place < length xs) (at : x ≡ get_or xs place x) where
    shares_viewed : shares_earlier (map view xs) place ≡ list_any (shares_name (view x)) (map view (take place xs))
    shares_viewed =
        ap (λ r. list_any (shares_name r) (take place (map view xs))) (row_here xs place x inside at)
        ∙ ap (list_any (shares_name (view x))) (take-map view place xs)

    pub none_shares : (i : ℕ) → length (take place xs) ≤ i
        → list_any (shares_name (view x)) (map view (drop i (take place xs))) ≡ list_any (shares_name (view x)) (map view (take place xs))
        → shares_earlier (map view xs) place ≡ false
    none_shares i end kept =
        shares_viewed ∙ sym kept ∙ ap (λ ys. list_any (shares_name (view x)) (map view ys)) (drop_all i (take place xs) end)

    module _ (i : ℕ) (y : X) (before : i < length (take place xs)) (there : y ≡ get_or (take place xs) i y) where
      earlier : i < place
      earlier = omega (arith, before, length-take-le place xs (omega (arith, inside)))

      pub one_shares : shares_name (view x) (view y) ≡ true → shares_earlier (map view xs) place ≡ true
      one_shares e =
          shares_viewed
          ∙ list_any_at (shares_name (view x)) (map view (take place xs)) i (view y)
          (omega (arith, before, length-map (take place xs) view))
          (ap (shares_name (view x)) (at_map (take place xs) i y before there) ∙ e)

      row_earlier : row_at (map view xs) i ≡ view y
      row_earlier =
          row_here xs i y (omega (arith, earlier, inside)) (there ∙ get_or-take place xs i y earlier)

      pub name_told : (word key other : List ℕ) → key ≡ (view y).key → other ≡ (view x).key → has_name word (view y) ≡ true
          → has_name word (view x) ≡ true → NamesBoth (map view xs) word key other
      name_told word key other k o named named_too = record {
        place = i;
        later = place;
        in_order = earlier;
        inside = omega (arith, inside, length-map xs view);
        keys = (ap (λ r. r.key) row_earlier ∙ sym k, ap (λ r. r.key) (row_here xs place x inside at) ∙ sym o);
        names = (ap (has_name word) row_earlier ∙ named, ap (has_name word) (row_here xs place x inside at) ∙ named_too);
      }

pub unrefused : (b : Bool) → false ≡ not b → b ≡ true
unrefused true e = refl
unrefused false e = e

pub refused : (b : Bool) → true ≡ not b → b ≡ false
refused true e = e
refused false e = refl

-- what each cause leaves to be told
module _ (rows : List Row) (f : TableFlaw) where
  pub tells_token : f.cause ≡ Token → HasBadToken rows (string_bytes f.language) (string_bytes f.word) → Tells (Err Token) rows f
  tells_token e t = record {
    cause = ap Err (sym e);
    token = λ n. t;
    name = λ n. absurd (cc);
    total = λ n. absurd (cc);
    fallback = λ n. absurd (cc);
  }

  pub tells_name : f.cause ≡ NamedTwice
      → NamesBoth rows (string_bytes f.word) (string_bytes f.language) (string_bytes f.other) → Tells (Err NamedTwice) rows f
  tells_name e t = record {
    cause = ap Err (sym e);
    token = λ n. absurd (cc);
    name = λ n. t;
    total = λ n. absurd (cc);
    fallback = λ n. absurd (cc);
  }

  pub tells_total : f.cause ≡ NamedTotal
      → Any (λ r. (r.key ≡ string_bytes f.language) × (is_total r ≡ true)) rows → Tells (Err NamedTotal) rows f
  tells_total e t = record {
    cause = ap Err (sym e);
    token = λ n. absurd (cc);
    name = λ n. absurd (cc);
    total = λ n. t;
    fallback = λ n. absurd (cc);
  }

  pub tells_fallback : f.cause ≡ Fallback → TellsFallback rows f → Tells (Err Fallback) rows f
  tells_fallback e t = record {
    cause = ap Err (sym e);
    token = λ n. absurd (cc);
    name = λ n. absurd (cc);
    total = λ n. absurd (cc);
    fallback = t;
  }

-- what `tested` answers, and what rows have that are refused for each cause
abbrev tested_by : (tokens names total fallbacks : Bool) → List Row → Result (List Row) TableError
tested_by tokens names total fallbacks rows =
    if not tokens then Err Token
    else (if names then Err NamedTwice
    else (if total then Err NamedTotal
    else (if not fallbacks then Err Fallback
    else Ok rows)))

twice : (t n o f : Bool) (rows : List Row) → tested_by t n o f rows ≡ Err NamedTwice → n ≡ true
twice false n o f rows e = absurd (cc)
twice true true o f rows e = refl
twice true false true f rows e = absurd (cc)
twice true false false false rows e = absurd (cc)
twice true false false true rows e = absurd (cc)

total : (t n o f : Bool) (rows : List Row) → tested_by t n o f rows ≡ Err NamedTotal → o ≡ true
total false n o f rows e = absurd (cc)
total true true o f rows e = absurd (cc)
total true false true f rows e = refl
total true false false false rows e = absurd (cc)
total true false false true rows e = absurd (cc)

lacking : (t n o f : Bool) (rows : List Row) → tested_by t n o f rows ≡ Err Fallback → not f ≡ true
lacking false n o f rows e = absurd (cc)
lacking true true o f rows e = absurd (cc)
lacking true false true f rows e = absurd (cc)
lacking true false false false rows e = refl
lacking true false false true rows e = absurd (cc)

module _ (rows : List Row) where
  pub refused_twice : tested rows ≡ Err NamedTwice → names_twice rows ≡ true
  unfolding tested
  refused_twice e =
      twice (list_all has_tokens rows) (names_twice rows) (list_any is_total rows) (list_all (has_fallbacks rows) rows) rows e

  pub refused_total : tested rows ≡ Err NamedTotal → list_any is_total rows ≡ true
  unfolding tested
  refused_total e =
      total (list_all has_tokens rows) (names_twice rows) (list_any is_total rows) (list_all (has_fallbacks rows) rows) rows e

  pub refused_fallback : tested rows ≡ Err Fallback → not (list_all (has_fallbacks rows) rows) ≡ true
  unfolding tested
  refused_fallback e =
      lacking (list_all has_tokens rows) (names_twice rows) (list_any is_total rows) (list_all (has_fallbacks rows) rows) rows e

-- where rows are refused, a flaw is found that the refusal is for
pub found_refused : (r : Result (Option TableFlaw) AllocError) (b : Bool) (rows : List Row) (cause : TableError) → tested rows ≡ Err cause
    → b ≡ true → IfOk r (λ o. is_some o ≡ b) → IfOk r (λ o. is_some o ≡ is_err (tested rows))
found_refused r b rows cause e is found =
    IfOk-weaker r (λ o. is_some o ≡ b) (λ o. is_some o ≡ is_err (tested rows)) (λ o same. same ∙ is ∙ sym (ap is_err e)) found
