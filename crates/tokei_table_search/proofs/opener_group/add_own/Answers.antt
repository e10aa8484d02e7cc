use Rattle.std.proofs.Common.{◌∷◌, ◌∙◌, ◌||◌, sym, ap, string_bytes}
use Rattle.tokei_table_row.specs.Bytes.{begins, begins_with_one, holds}
use Rattle.tokei_table_row.specs.FirstOpener.{is_first_of}
use Rattle.tokei_table_row.specs.RowOf.{tokens_of}
use Rattle.std.proofs.lemmas.List.{map-append}
use Rattle.tokei_table_search.proofs.OpenerGroups.{own_held, own_other, own_pushed}
use Rattle.tokei_table_search.proofs.opener_group.add_own.Goals as goal
use Rattle.tokei_table_search.proofs.opener_group.add_own.Goals.{else-is_first_of-via-then-is_first_of+else-not-holds, else-is_first_of-via-else-is_first_of}

pub returns-in_ok-push : goal.returns-in_ok-push
returns-in_ok-push c = λ t.
    let own = c.args.own.now.items in
    let u = c.args.byte ∷ t in
    ap (λ os. begins_with_one (tokens_of os) u) c.in_ok-push.ensures.items
    ∙ ap (λ os. begins_with_one os u) (map-append string_bytes own _)
    ∙ own_pushed (tokens_of own) _ u
    ∙ ap (λ o. begins_with_one (tokens_of own) u || begins o u) c.in_ok-from_str.ensures.ok

pub returns-else-is_first_of : goal.returns-else-is_first_of
returns-else-is_first_of c = λ t.
    let own = tokens_of c.args.own.now.items in
    let byte = c.args.byte in
    let opener = c.args.opener.now in
    elim c.else-is_first_of.branch [
      | else-is_first_of-via-then-is_first_of+else-not-holds w ↦ own_held own opener (byte ∷ t)
          (ap (λ s. holds (tokens_of s) opener) (sym w.deref.ensures.value)
          ∙ ap (holds (tokens_of w.deref.result.now)) (sym w.as_bytes-then-is_first_of.ensures.value)
          ∙ sym w.holds.ensures ∙ w.if-not-holds.false)
      | else-is_first_of-via-else-is_first_of w ↦ own_other own opener t byte c.requires
          (ap (is_first_of byte) (sym c.as_bytes.ensures.value) ∙ sym c.is_first_of.ensures ∙ w.if-is_first_of.false)
    ]
