use Rattle.std.proofs.Common.{◌≡◌, ◌∙◌, Bool, true, false, not, refl, sym}
use Rattle.tokei_parts.proofs.class.begins_no_comment.Goals as goal

is_false : (x : Bool) → not x ≡ true → x ≡ false
is_false true h = cc
is_false false h = refl

pub returns : goal.returns
returns c is = record {
  small = c.ranges.byte.fits;
  outside = sym c.begins_comment.ensures ∙ is_false c.begins_comment.result is;
}
