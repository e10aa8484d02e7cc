-- Tokens that are written member by member and item by item are those of the whole, and read as it.
use Rattle.std.proofs.Common.{◌≡◌, ℕ, ◌≤◌, List, [], ◌∷◌, ◌++◌, Some, option_map, option_and_then, refl, sym, ap, ◌∙◌, arith, append_assoc, append-nil, Less, Greater, nat_cmp}
use Rattle.std.specs.Bool.{⊤}
use Rattle.std.specs.Ordering.{ordering_reverse}
use Rattle.std.specs.Cmp.Lexicographic.{slice_cmp}
use Rattle.std.proofs.lemmas.Cmp.{nat_list_cmp_total}
use Rattle.json.specs.Token.{begin_object, end_object, begin_array, end_array, key}
use Rattle.json.specs.Json as json
use Rattle.json.specs.Lex.{tokens}
use Rattle.json.specs.Tree as tree
use Rattle.json.specs.Written as writer
use Rattle.json.proofs.Printed.Trees.{value-json_tokens}
use Rattle.serde_json.specs.Data.{Data, null, boolean, number, string, array, object, Items, no_items, item, Members, no_members, member, put, depth, items_depth, members_depth}
use Rattle.serde_json.specs.Read.{of_json, of_items, of_members, max_depth, read}
use Rattle.serde_json.specs.Written.{outline, items_outline, members_outline}
use Rattle.tokei_json.specs.Tokens.{IsWritten, IsMember}
use Rattle.tokei_json.proofs.Members.{AllMembers}

-- ---- an object whose names ascend is read as it is written

abbrev pub IsRead : List ℕ → Data → Type 0
IsRead k d = of_json (outline d) ≡ Some d

-- the name is below each of theirs
abbrev pub IsBelow : List ℕ → Members → Type 0
IsBelow k ms = AllMembers (λ l e. slice_cmp nat_cmp k l ≡ Less) ms

-- each name is below those behind it
abbrev pub Ascend : Members → Type 0
Ascend no_members = ⊤
Ascend (member k d ms) = IsBelow k ms × Ascend ms

-- each of their names is below the name
abbrev AreBelow : Members → List ℕ → Type 0
AreBelow done k = AllMembers (λ l e. slice_cmp nat_cmp l k ≡ Less) done

-- each name of the first is below each of the others
abbrev AreAllBelow : Members → Members → Type 0
AreAllBelow done ms = AllMembers (λ k d. AreBelow done k) ms

-- the second members behind the first
abbrev behind : Members → Members → Members
behind no_members ms = ms
behind (member k d rest) ms = member k d (behind rest ms)

behind_nothing : (ms : Members) → behind ms no_members ≡ ms
behind_nothing no_members = refl
behind_nothing (member k d ms) = ap (member k d) (behind_nothing ms)

behind_assoc : (a b c : Members) → behind (behind a b) c ≡ behind a (behind b c)
behind_assoc no_members b c = refl
behind_assoc (member k d ms) b c = ap (member k d) (behind_assoc ms b c)

put_behind : (k : List ℕ) (d : Data) (done : Members) → AreBelow done k → put k d done ≡ behind done (member k d no_members)
put_behind k d no_members h = refl
put_behind k d (member l e ms) h =
    let above : slice_cmp nat_cmp k l ≡ Greater = nat_list_cmp_total.antisymm k l ∙ ap ordering_reverse h.0 in
    rw above (ap (member l e) (put_behind k d ms h.1))

below_one_more : (done : Members) (k l : List ℕ) (d : Data) → AreBelow done l → slice_cmp nat_cmp k l ≡ Less → AreBelow (behind done (member k d no_members)) l
below_one_more no_members k l d h one = (one, tt)
below_one_more (member j e ms) k l d h one = (h.0, below_one_more ms k l d h.1 one)

all_below_one_more : (done : Members) (k : List ℕ) (d : Data) (ms : Members) → AreAllBelow done ms → IsBelow k ms → AreAllBelow (behind done (member k d no_members)) ms
all_below_one_more done k d no_members h b = tt
all_below_one_more done k d (member l e ms) h b = (below_one_more done k l d h.0 b.0, all_below_one_more done k d ms h.1 b.1)

none_below : (ms : Members) → AreAllBelow no_members ms
none_below no_members = tt
none_below (member k d ms) = (tt, none_below ms)

members_read : (ms done : Members) → AllMembers IsRead ms → Ascend ms → AreAllBelow done ms → of_members (members_outline ms) done ≡ Some (behind done ms)
members_read no_members done r a b = ap Some (sym (behind_nothing done))
members_read (member k d ms) done r a b =
    ap (option_and_then (λ x. of_members (members_outline ms) (put k x done))) r.0
    ∙ ap (of_members (members_outline ms)) (put_behind k d done b.0)
    ∙ members_read ms (behind done (member k d no_members)) r.1 a.1 (all_below_one_more done k d ms b.1 a.0)
    ∙ ap Some (behind_assoc done (member k d no_members) ms)

object_read : (ms : Members) → AllMembers IsRead ms → Ascend ms → of_json (outline (object ms)) ≡ Some (object ms)
object_read ms r a = ap (option_map object) (members_read ms no_members r a (none_below ms))

-- ---- an object that is written member by member

-- of all members those in `left` aren't written yet
pub record LacksMembers (all left : Members) (first now : writer.Written) : Type 0 where
  pub tokens : first.tokens ++ tree.members_tokens (members_outline all) ≡ now.tokens ++ tree.members_tokens (members_outline left)
  pub reads : AllMembers IsRead left → AllMembers IsRead all
  pub before : now.before ≡ first.before

pub lacks_all : (all : Members) (w : writer.Written) → LacksMembers all all w w
lacks_all all w = record { tokens = refl; reads = λ r. r; before = refl }

pub member_of : (k : List ℕ) (d : Data) (old mid new : writer.Written) → mid.tokens ≡ old.tokens ++ key k ∷ [] → mid.before ≡ old.before → IsWritten d mid new → IsMember k d old new
member_of k d old mid new named kept w = record {
  tokens = w.tokens ∙ ap (λ ts. ts ++ tree.json_tokens (outline d)) named ∙ append_assoc old.tokens (key k ∷ []) (tree.json_tokens (outline d));
  reads = w.reads;
  before = w.before ∙ kept;
}

pub lacks_fewer : (all : Members) (k : List ℕ) (d : Data) (left : Members) (first now next : writer.Written)
    → LacksMembers all (member k d left) first now → IsMember k d now next → LacksMembers all left first next
lacks_fewer all k d left first now next h w =
    let rest = tree.members_tokens (members_outline left) in
    let here = key k ∷ tree.json_tokens (outline d) in
    record {
      tokens = h.tokens ∙ sym (ap (λ ts. ts ++ rest) w.tokens ∙ append_assoc now.tokens here rest);
      reads = λ r. h.reads (w.reads, r);
      before = w.before ∙ h.before;
    }

pub object_written : (all : Members) (old first now new : writer.Written) → Ascend all → first.tokens ≡ old.tokens ++ begin_object ∷ []
    → first.before ≡ old.before → LacksMembers all no_members first now
    → new.tokens ≡ now.tokens ++ end_object ∷ [] → new.before ≡ now.before → IsWritten (object all) old new
object_written all old first now new ascend begun kept h ended kept_last =
    let inside = tree.members_tokens (members_outline all) in
    record {
      tokens = ended ∙ sym h.tokens ∙ ap (λ ts. ts ++ inside) begun ∙ append_assoc old.tokens (begin_object ∷ []) inside;
      reads = object_read all (h.reads tt) ascend;
      before = kept_last ∙ h.before ∙ kept;
    }

-- ---- an array that is written item by item

-- of all items those in `left` aren't written yet
pub record LacksItems (all left : Items) (first now : writer.Written) : Type 0 where
  pub tokens : first.tokens ++ tree.items_tokens (items_outline all) ≡ now.tokens ++ tree.items_tokens (items_outline left)
  pub reads : of_items (items_outline left) ≡ Some left → of_items (items_outline all) ≡ Some all
  pub before : now.before ≡ first.before

pub lacks_all_items : (all : Items) (w : writer.Written) → LacksItems all all w w
lacks_all_items all w = record { tokens = refl; reads = λ r. r; before = refl }

pub lacks_fewer_items : (all : Items) (d : Data) (left : Items) (first now next : writer.Written) → LacksItems all (item d left) first now → IsWritten d now next → LacksItems all left first next
lacks_fewer_items all d left first now next h w =
    let rest = tree.items_tokens (items_outline left) in
    record {
      tokens = h.tokens ∙ sym (ap (λ ts. ts ++ rest) w.tokens ∙ append_assoc now.tokens (tree.json_tokens (outline d)) rest);
      reads = λ r. h.reads (ap (option_and_then (λ x. option_map (item x) (of_items (items_outline left)))) w.reads ∙ ap (option_map (item d)) r);
      before = w.before ∙ h.before;
    }

pub array_written : (all : Items) (old first now new : writer.Written) → first.tokens ≡ old.tokens ++ begin_array ∷ [] → first.before ≡ old.before → LacksItems all no_items first now
    → new.tokens ≡ now.tokens ++ end_array ∷ [] → new.before ≡ now.before → IsWritten (array all) old new
array_written all old first now new begun kept h ended kept_last =
    let inside = tree.items_tokens (items_outline all) in
    record {
      tokens = ended ∙ sym h.tokens ∙ ap (λ ts. ts ++ inside) begun ∙ append_assoc old.tokens (begin_array ∷ []) inside;
      reads = ap (option_map array) (h.reads refl);
      before = kept_last ∙ h.before ∙ kept;
    }

-- ---- the text of a whole value is read as that value

mutual
  depth_outline : (d : Data) → tree.depth (outline d) ≡ depth d
  depth_outline null = refl
  depth_outline (boolean b) = refl
  depth_outline (number n) = refl
  depth_outline (string s) = refl
  depth_outline (array ds) = omega (arith, depth_outline_items ds)
  depth_outline (object ms) = omega (arith, depth_outline_members ms)

  depth_outline_items : (ds : Items) → tree.items_depth (items_outline ds) ≡ items_depth ds
  depth_outline_items no_items = refl
  depth_outline_items (item d ds) = omega (arith, depth_outline d, depth_outline_items ds)

  depth_outline_members : (ms : Members) → tree.members_depth (members_outline ms) ≡ members_depth ms
  depth_outline_members no_members = refl
  depth_outline_members (member k d ms) = omega (arith, depth_outline d, depth_outline_members ms)

pub text_read : (d : Data) (text : List ℕ) → of_json (outline d) ≡ Some d → tokens text ≡ tree.json_tokens (outline d) → depth d ≤ max_depth → read text ≡ Some d
text_read d text reads is shallow =
    let whole : json.value max_depth (tokens text) ≡ Some (outline d, []) =
    ap (json.value max_depth) (is ∙ sym (append-nil (tree.json_tokens (outline d)))) ∙ value-json_tokens (outline d) max_depth [] (omega (arith, depth_outline d, shallow)) in
    ap (λ r. option_and_then of_json (option_and_then (λ p. json.if_last p.0 p.1) r)) whole ∙ reads
