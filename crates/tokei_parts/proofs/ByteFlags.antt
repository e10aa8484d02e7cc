-- The bytes at which a choice can begin, which are put into a set token by token.
use Rattle.std.proofs.Common.{◌≡◌, ℕ, ◌<◌, ◌==◌, Bool, true, false, ◌||◌, List, length, get_or, refl, sym, ap, ◌∙◌, arith}
use Rattle.std.proofs.lemmas.List.{ext_get_or}
use Rattle.std.specs.List.{list_any}
use Rattle.tokei_table.specs.FirstOpener.{is_first_of}
use Rattle.tokei_table.specs.Row.{Row}
use Rattle.tokei_parts.specs.Matchers.{begins_opener, begins_choice, begins_in_comment, flags}
use Rattle.tokei_parts.proofs.PlainBytes.{length-flags, flag_at}

or_more : (a b c : Bool) → ((a || b) || c) ≡ (a || (b || c))
or_more true b c = refl
or_more false b c = refl

-- flags that answer a test are the test's
pub are_flags : (fs : List Bool) (test : ℕ → Bool) (n : ℕ) → length fs ≡ n → ((x : ℕ) → x < n → get_or fs x false ≡ test x) → fs ≡ flags test n
are_flags fs test n l each = ext_get_or false fs (flags test n) (l ∙ sym (length-flags test n)) (λ x h. each x (omega (arith, h, l)) ∙ sym (flag_at test n x (omega (arith, h, l))))

pub in_comment : (r : Row) (x : ℕ) (a b c : Bool) → a ≡ (x == 92) → b ≡ (a || begins_opener r.multi_line_comments x) → c ≡ (b || begins_opener r.nested_comments x) → c ≡ begins_in_comment r x
in_comment r x a b c d e f =
    let m = begins_opener r.multi_line_comments x in
    let n = begins_opener r.nested_comments x in
    f ∙ ap (λ y. y || n) (e ∙ ap (λ y. y || m) d) ∙ or_more (x == 92) m n

regroup : (s q v d m n t : Bool)
    → ((((((s || q) || v) || d) || m) || n) || t) ≡ (s || (q || (v || (d || (m || (n || t))))))
regroup true q v d m n t = refl
regroup false true v d m n t = refl
regroup false false true d m n t = refl
regroup false false false true m n t = refl
regroup false false false false true n t = refl
regroup false false false false false true t = refl
regroup false false false false false false t = refl

pub in_plain : (r : Row) (x : ℕ) (s q v d m n t : Bool) → s ≡ (x == 92)
    → q ≡ (s || begins_opener r.quotes x) → v ≡ (q || begins_opener r.verbatim_quotes x)
    → d ≡ (v || begins_opener r.doc_quotes x) → m ≡ (d || begins_opener r.multi_line_comments x)
    → n ≡ (m || begins_opener r.nested_comments x) → t ≡ (n || list_any (is_first_of x) r.line_comment)
    → t ≡ begins_choice r x
in_plain r x s q v d m n t es eq ev ed em en et =
    let bq = begins_opener r.quotes x in
    let bv = begins_opener r.verbatim_quotes x in
    let bd = begins_opener r.doc_quotes x in
    let bm = begins_opener r.multi_line_comments x in
    let bn = begins_opener r.nested_comments x in
    let bt = list_any (is_first_of x) r.line_comment in
    et
    ∙ ap (λ y. y || bt) (en ∙ ap (λ y. y || bn) (em ∙ ap (λ y. y || bm) (ed
    ∙ ap (λ y. y || bd) (ev ∙ ap (λ y. y || bv) (eq ∙ ap (λ y. y || bq) es)))))
    ∙ regroup (x == 92) bq bv bd bm bn bt
