use Rattle.std.proofs.Common.{◌≡◌, ◌+◌, map, length, take, ap, sym, ◌∙◌, arith}
use Rattle.std.proofs.Math.Seq.{take-length}
use Rattle.tokei_table.specs.Listed.{listed, languages_from}
use Rattle.tokei_parts.specs.Matchers.{matchers_of}
use Rattle.tokei_parts.proofs.ListedLanguages.{listed_item, listed_all}
use Rattle.tokei_parts.proofs.table_matchers.TableMatchers.new.Goals as goal

pub syntax-requires : goal.syntax-requires
syntax-requires t =
    let e : map listed t.as_slice-language-items.result.now ≡ languages_from 0 t.args.table.now = ap (map listed) t.as_slice-language-items.ensures.value ∙ t.in_ok-languages.ensures in
    let p = listed_item t.args.table.now t.as_slice-language-items.result.now t.loop-language.language-index t.loop-language-item.result _ e t.loop-language-test.true t.loop-language-item.is in
    omega (arith, p.place, p.known)

pub push_matchers-requires-clause-known : goal.push_matchers-requires-clause-known
push_matchers-requires-clause-known t =
    let e : map listed t.as_slice-language-items.result.now ≡ languages_from 0 t.args.table.now = ap (map listed) t.as_slice-language-items.ensures.value ∙ t.in_ok-languages.ensures in
    let p = listed_item t.args.table.now t.as_slice-language-items.result.now t.loop-language.language-index t.loop-language-item.result _ e t.loop-language-test.true t.loop-language-item.is in
    omega (arith, p.place, p.known)

pub push_matchers-requires-clause-next : goal.push_matchers-requires-clause-next
push_matchers-requires-clause-next t =
    let e : map listed t.as_slice-language-items.result.now ≡ languages_from 0 t.args.table.now = ap (map listed) t.as_slice-language-items.ensures.value ∙ t.in_ok-languages.ensures in
    let p = listed_item t.args.table.now t.as_slice-language-items.result.now t.loop-language.language-index t.loop-language-item.result _ e t.loop-language-test.true t.loop-language-item.is in
    t.loop-language.invariant ∙ ap (λ n. map matchers_of (take n t.args.table.now)) (sym p.place)

pub loop-language-preserved : goal.loop-language-preserved
loop-language-preserved t =
    let e : map listed t.as_slice-language-items.result.now ≡ languages_from 0 t.args.table.now = ap (map listed) t.as_slice-language-items.ensures.value ∙ t.in_ok-languages.ensures in
    let p = listed_item t.args.table.now t.as_slice-language-items.result.now t.loop-language.language-index t.loop-language-item.result _ e t.loop-language-test.true t.loop-language-item.is in
    t.in_ok-push_matchers.ensures ∙ ap (λ n. map matchers_of (take (n + 1) t.args.table.now)) p.place

pub returns-clause-matchers : goal.returns-clause-matchers
returns-clause-matchers t =
    let e : map listed t.as_slice-language-items.result.now ≡ languages_from 0 t.args.table.now = ap (map listed) t.as_slice-language-items.ensures.value ∙ t.in_ok-languages.ensures in
    let all : t.loop-language.language-index ≡ length t.args.table.now =
    omega (
      arith,
      t.loop-language-test.false,
      t.loop-language.auto.language-index-end,
      listed_all t.args.table.now t.as_slice-language-items.result.now e,
    ) in
    t.loop-language.invariant ∙ ap (λ n. map matchers_of (take n t.args.table.now)) all ∙ ap (map matchers_of) (take-length t.args.table.now)
