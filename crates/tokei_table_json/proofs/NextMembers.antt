-- What is read of a text as its tokens come: objects and their members.
use Rattle.std.proofs.Common.{◌≡◌, ℕ, ◌-◌, ◌≤◌, List, [], ◌∷◌, length, Bool, true, false, ◌&&◌, ◌||◌, Option, Some, None, IfSome, Bor, Less, refl, sym, ap, ap₂, ◌∙◌, option_map, option_and_then, arith}
use Rattle.std.specs.Cmp.Lexicographic.{slice_cmp}
use Rattle.std.specs.List.Sorted.{IsStrictlySortedBy}
use Rattle.std.specs.Ordering.{nat_cmp, match_ordering}
use Rattle.json.specs.Json as json
use Rattle.json.specs.Json.{read_key, parse_map}
use Rattle.json.specs.Token.{Token}
use Rattle.json.proofs.Grammar.{read_key-shorter, members_end, members_more}
use Rattle.serde_json.specs.Data.{Data, object, Members, no_members, member, put}
use Rattle.serde_json.specs.Read.{of_members}
use Rattle.serde_json.specs.Written.{members_have_float}
use Rattle.tokei_json_tree.specs.Ordered.{AreBefore, AreKeysInOrder, AreMembersOrdered, keys_of}
use Rattle.tokei_json_tree.specs.Orderings.{IsOrderingOf, AreMembersOrderingOf}
use Rattle.tokei_json_tree.specs.TreeData.{data_of, members_data}
use Rattle.tokei_json_tree.proofs.Orderings.{IsBeforeAll, before_all, turned}
use Rattle.tokei_table_json.specs.MemberLayout.{all_members}
use Rattle.tokei_table_json.specs.Next.{IsNext, AreMembersNext}
use Rattle.tokei_table_json.proofs.MembersOnce.{member_keys}
use Rattle.tokei_table_json.proofs.Next.{shorter}

abbrev Key : Type 0
Key = List ℕ

-- a member behind others
abbrev snoc : Members → Key → Data → Members
snoc no_members k d = member k d no_members
snoc (member l e ms) k d = member l e (snoc ms k d)

abbrev appended : Members → Members → Members
appended no_members ns = ns
appended (member k d ms) ns = member k d (appended ms ns)

append_none : (ms : Members) → appended ms no_members ≡ ms
append_none no_members = refl
append_none (member k d ms) = ap (member k d) (append_none ms)

append_snoc : (ms : Members) (k : Key) (d : Data) (ns : Members) → appended (snoc ms k d) ns ≡ appended ms (member k d ns)
append_snoc no_members k d ns = refl
append_snoc (member l e ms) k d ns = ap (member l e) (append_snoc ms k d ns)

put_last : (ms : Members) (k : Key) (d : Data) → AreBefore (member_keys ms) k → put k d ms ≡ snoc ms k d
put_last no_members k d h = refl
put_last (member l e ms) k d h =
    ap (λ o. match_ordering o (member k d (member l e ms)) (member l d ms) (member l e (put k d ms))) (turned l k h.0)
    ∙ ap (member l e) (put_last ms k d h.1)

-- each of these keys is before all of those
abbrev AreAllBefore : List Key → List Key → Type 0
AreAllBefore [] ls = Unit {0}
AreAllBefore (k ∷ ks) ls = IsBeforeAll k ls × AreAllBefore ks ls

firsts_before : (ms : Members) (l : Key) (ls : List Key) → AreAllBefore (member_keys ms) (l ∷ ls) → AreBefore (member_keys ms) l
firsts_before no_members l ls h = tt
firsts_before (member k d ms) l ls h = (h.0.0, firsts_before ms l ls h.1)

snoc_before : (ms : Members) (k : Key) (d : Data) (ls : List Key) → AreAllBefore (member_keys ms) (k ∷ ls) → IsBeforeAll k ls
    → AreAllBefore (member_keys (snoc ms k d)) ls
snoc_before no_members k d ls h more = (more, tt)
snoc_before (member l e ms) k d ls h more = (h.0.1, snoc_before ms k d ls h.1 more)

-- each member stands for what it reads as
abbrev pub AreEachPlain : json.Members → Type 0
AreEachPlain json.no_members = Unit {0}
AreEachPlain (json.member k j ms) = IsOrderingOf j j × AreEachPlain ms

read_behind : (ms : json.Members) (so_far : Members) → AreEachPlain ms → AreKeysInOrder ms → AreAllBefore (member_keys so_far) (keys_of ms)
    → of_members ms so_far ≡ Some (appended so_far (members_data ms))
unfolding IsStrictlySortedBy
read_behind json.no_members so_far each keys h = ap Some (sym (append_none so_far))
read_behind (json.member k j ms) so_far each keys h =
    ap (option_and_then (λ d. of_members ms (put k d so_far))) each.0.reads
    ∙ ap (of_members ms) (put_last so_far k (data_of j) (firsts_before so_far k (keys_of ms) h))
    ∙ read_behind ms (snoc so_far k (data_of j)) each.1 keys.1 (snoc_before so_far k (data_of j) (keys_of ms) h keys.0)
    ∙ ap Some (append_snoc so_far k (data_of j) (members_data ms))

each_ordered : (ms : json.Members) → AreEachPlain ms → AreMembersOrdered ms
each_ordered json.no_members h = tt
each_ordered (json.member k j ms) h = (h.0.ordered, each_ordered ms h.1)

each_whole : (ms : json.Members) → AreEachPlain ms → members_have_float (members_data ms) ≡ false
each_whole json.no_members h = refl
each_whole (json.member k j ms) h = ap₂ (λ x y. x || y) h.0.whole (each_whole ms h.1)

pub members_plain : (ms : json.Members) → AreEachPlain ms → AreKeysInOrder ms → AreMembersOrderingOf ms ms
members_plain ms each keys = record {
  reads = read_behind ms no_members each keys tt;
  keys = keys;
  ordered = each_ordered ms each;
  whole = each_whole ms each;
}

pub object_plain : (ms : json.Members) → AreMembersOrderingOf ms ms → IsOrderingOf (json.object ms) (json.object ms)
object_plain ms h = record {
  reads = ap (option_map object) h.reads;
  ordered = (h.keys, h.ordered);
  whole = h.whole;
}

none_below : (last : Option (Bor Key)) → IfSome last (λ l. IsBeforeAll l.now [])
none_below None = tt
none_below (Some l) = tt

below_more : (last : Option (Bor Key)) (k : Key) (ks : List Key) → IfSome last (λ l. slice_cmp nat_cmp l.now k ≡ Less) → IsBeforeAll k ks
    → IfSome last (λ l. IsBeforeAll l.now (k ∷ ks))
below_more None k ks less h = tt
below_more (Some l) k ks less h = (less, before_all l.now k ks less h)

module _ {X : Type 0} (layout escapes : Key → Data → Bool) (step : X → Key → Data → X) (read : X → Members → X)
    (none : (x : X) → read x no_members ≡ x) (more : (x : X) (k : Key) (d : Data) (ms : Members) → read x (member k d ms) ≡ read (step x k d) ms) where
  -- the members that are left, whose keys are behind the last one
  pub record AreLeft (depth n : ℕ) (old new : List Token) (last : Option (Bor Key)) (x end : X) : Type 0 where
    pub members : json.Members
    pub are : json.members (json.value depth) n old ≡ Some (members, new)
    pub each : AreEachPlain members
    pub keys : AreKeysInOrder members
    pub behind : IfSome last (λ l. IsBeforeAll l.now (keys_of members))
    pub fit : all_members layout (members_data members) ≡ true
    pub escaped : all_members escapes (members_data members) ≡ true
    pub made : read x (members_data members) ≡ end

  -- whatever the rest of the members reads as, all of them read as that behind what was read so far
  pub record MembersSoFar (depth : ℕ) (first now : List Token) (last : Option (Bor Key)) (start x : X) : Type 0 where
    pub turns : ℕ
    pub enough : length now ≤ turns
    pub goes_on : (new : List Token) (end : X) → AreLeft depth turns now new last x end → AreLeft depth (length first) first new None start end

  one_more : (depth n : ℕ) (now s r new : List Token) (last : Option (Bor Key)) (k : Bor Key) (x y end : X) → length now ≤ n
      → read_key now ≡ Some (Some k.now, s) → IfSome last (λ l. slice_cmp nat_cmp l.now k.now ≡ Less)
      → IsNext (layout k.now) (escapes k.now) (step x k.now) depth s r y → AreLeft depth (n - 1) r new (Some k) y end
      → AreLeft depth n now new last x end
  unfolding IsStrictlySortedBy
  one_more depth n now s r new last k x y end enough key less next h =
      let fewer = read_key-shorter now (Some k.now) s key in
      record {
        members = json.member k.now next.value h.members;
        are = members_more (json.value depth) n k.now now s r next.value (omega arith) key next.is
            ∙ ap (parse_map (json.member k.now next.value)) h.are;
        each = (next.plain, h.each);
        keys = (h.behind, h.keys);
        behind = below_more last k.now (keys_of h.members) less h.behind;
        fit = ap₂ (λ x y. x && y) next.fits h.fit;
        escaped = ap₂ (λ x y. x && y) next.escaped h.escaped;
        made = more x k.now (data_of next.value) (members_data h.members)
            ∙ ap (λ z. read z (members_data h.members)) next.made ∙ h.made;
      }

  pub next_member : (depth : ℕ) (first now s r : List Token) (last : Option (Bor Key)) (k : Bor Key) (start x y : X)
      → MembersSoFar depth first now last start x → read_key now ≡ Some (Some k.now, s)
      → IfSome last (λ l. slice_cmp nat_cmp l.now k.now ≡ Less)
      → IsNext (layout k.now) (escapes k.now) (step x k.now) depth s r y → MembersSoFar depth first r (Some k) start y
  next_member depth first now s r last k start x y h key less next =
      let fewer = read_key-shorter now (Some k.now) s key in
      let fewest = shorter depth s r y next in
      let le = h.enough in
      record {
        turns = h.turns - 1;
        enough = omega arith;
        goes_on = λ new end rest. h.goes_on new end (one_more depth h.turns now s r new last k x y end h.enough key less next rest);
      }

  pub members_next : (depth : ℕ) (first now r : List Token) (last : Option (Bor Key)) (start x : X)
      → MembersSoFar depth first now last start x → read_key now ≡ Some (None, r)
      → AreMembersNext layout escapes (read start) depth first r x
  unfolding IsStrictlySortedBy
  members_next depth first now r last start x h e =
      let all = h.goes_on r x (record {
        members = json.no_members;
        are = members_end (json.value depth) h.turns now r h.enough e;
        each = tt;
        keys = tt;
        behind = none_below last;
        fit = refl;
        escaped = refl;
        made = none x;
      }) in
      record {
        members = all.members;
        are = all.are;
        plain = members_plain all.members all.each all.keys;
        fit = all.fit;
        escaped = all.escaped;
        made = all.made;
      }
