-- The tree of a line beside the value that it stands for.
use Rattle.std.proofs.Common.{◌≡◌, ◌≢◌, ℕ, negsuc, List, [], ◌∷◌, length, map, Option, Some, None, option_map, Bool, true, false, ◌&&◌, ◌||◌}
use Rattle.std.proofs.Common.{true≢false, is_eq, get_or, nat_cmp, Ordering, Less, Equal, Greater, Bor, refl, sym, ap, ◌∙◌, ap₂, arith, rules, lt-ltb}
use Rattle.std.proofs.Common.{Float, bytes_eq, cond}
use Rattle.std.specs.Prelude.{option_and_then, unwrap_or, is_some, SomeIff, nat_lt, nat_le, if◌then◌else◌, ◌<◌, ◌^◌, ℤ}
use Rattle.std.specs.Float.{binary64, float_is_finite}
use Rattle.std.specs.List.{list_any, list_all}
use Rattle.std.specs.Cmp.Lexicographic.{slice_cmp}
use Rattle.std.specs.Ordering.{match_ordering}
use Rattle.std.proofs.lemmas.Cmp.{nat_list_cmp_total, tied_itself}
use Rattle.std.proofs.lemmas.Map.Text.{is_eq-slice_cmp}
use Rattle.std.proofs.lemmas.Slice.Eq.{bytes_eq-Decides}
use Rattle.fast_float.specs.Text.{Parts, IsInteger, digits_of, nearest, with_sign}
use Rattle.json.specs.Find as find
use Rattle.json.specs.Json as json
use Rattle.json.specs.Value.{items_view, members_view}
use Rattle.json.specs.declared.value.Value.{Value}
use Rattle.serde_json.specs.Data.{Num, unsigned, negative, float, Data, null, boolean, number, string, array, object, Items, item, Members}
use Rattle.serde_json.specs.Data.{no_members, member, put}
use Rattle.serde_json.specs.Find.{get, get_member, as_null, as_object, as_str, as_u64}
use Rattle.serde_json.specs.Read as serde
use Rattle.serde_json.proofs.Views.{get_member-put, get_member-put_other}
use Rattle.vclock.proofs.BoolLaws.{and-true, or-false}
use Rattle.outage_commands.specs.Reading.{all_named, is_among, only_named, has_only, sole_member, number_of, two_of, each_of, sole}
use Rattle.outage_commands.specs.Trees.{data_of, items_data, members_data, whole_of, is_whole, items_are_whole, members_are_whole, seen}

-- ---- numbers, texts and null

as_whole : (o : Option Num) → as_u64 (unwrap_or o (negative (negsuc 0))) ≡ option_and_then as_u64 o
as_whole None = refl
as_whole (Some n) = refl

no_float : (b : Bool) (x : Float) → option_and_then as_u64 (if b then Some (float x) else None) ≡ None
no_float true x = refl
no_float false x = refl

-- a number with a sign is not whole
pub signed : (p : Parts) → option_and_then as_u64 (serde.number_from true p) ≡ None
signed p = by_kind (serde.is_integer p && nat_lt 0 (digits_of p) && nat_le (digits_of p) (2 ^ 63)) (with_sign true (digits_of p))
  where
    by_kind : (b : Bool) (z : ℤ) → option_and_then as_u64 (if b then Some (negative z) else serde.float_of true p) ≡ None
    by_kind true z = refl
    by_kind false z = no_float (float_is_finite (nearest binary64 true p)) (nearest binary64 true p)

-- one without a sign is whole if it has digits alone, and is not too large
pub unsigned_number : (p : Parts) (r : Option ℕ) → SomeIff r (IsInteger p × (digits_of p < 2 ^ 64)) (digits_of p)
    → r ≡ option_and_then as_u64 (serde.number_from false p)
unsigned_number p (Some n) h = rw (lt-ltb _ _ h.0.0.0, h.0.0.1, h.0.0.2, lt-ltb _ _ h.0.1) (ap Some h.1)
unsigned_number p None h = by_kind (serde.is_integer p && nat_lt (digits_of p) (2 ^ 64)) refl
  where
    by_kind : (b : Bool) → (serde.is_integer p && nat_lt (digits_of p) (2 ^ 64)) ≡ b
        → None ≡ option_and_then as_u64 (if b then Some (unsigned (digits_of p)) else serde.float_of false p)
    by_kind true e = absurd (h (search (rules, e)))
    by_kind false e = sym (no_float (float_is_finite (nearest binary64 false p)) (nearest binary64 false p))

-- a tree is a whole number if its text is one
pub a_number : (j : json.Json) → number_of (data_of j) ≡ option_and_then whole_of (find.as_number j)
a_number json.null = refl
a_number (json.boolean b) = refl
a_number (json.number text) = as_whole (serde.number_of text)
a_number (json.string text) = refl
a_number (json.array js) = refl
a_number (json.object ms) = refl

pub a_text : (j : json.Json) → as_str (data_of j) ≡ find.as_str j
a_text json.null = refl
a_text (json.boolean b) = refl
a_text (json.number text) = refl
a_text (json.string text) = refl
a_text (json.array js) = refl
a_text (json.object ms) = refl

pub a_null : (j : json.Json) → is_some (as_null (data_of j)) ≡ find.is_null j
a_null json.null = refl
a_null (json.boolean b) = refl
a_null (json.number text) = refl
a_null (json.string text) = refl
a_null (json.array js) = refl
a_null (json.object ms) = refl

-- ---- members by their names

abbrev or_else : Option Data → Option Data → Option Data
or_else None e = e
or_else (Some d) e = Some d

or_none : (o : Option Data) → or_else o None ≡ o
or_none None = refl
or_none (Some d) = refl

-- a name is found where the tree has it last, and otherwise among the members before
found_in : (name : List ℕ) (ms : json.Members) (before : Members)
    → get_member name (members_data ms before) ≡ or_else (option_map data_of (find.get_member name ms)) (get_member name before)
found_in name json.no_members before = refl
found_in name (json.member k j ms) before = found_in name ms (put k (data_of j) before) ∙ step (find.get_member name ms) (bytes_eq k name) refl
  where
    step : (o : Option json.Json) (b : Bool) → bytes_eq k name ≡ b
        → or_else (option_map data_of o) (get_member name (put k (data_of j) before)) ≡ or_else
        (option_map data_of (find.later_or o (cond b (Some j) None))) (get_member name before)
    step (Some i) b e = refl
    step None true e = let same : k ≡ name = (bytes_eq-Decides k name).0 e in ap (λ n. get_member n (put k (data_of j) before)) (sym same)
        ∙ get_member-put k (data_of j) before
    step None false e = get_member-put_other name k (data_of j) before (λ h. true≢false (sym ((bytes_eq-Decides k name).1 (sym h)) ∙ e))

-- what the tree has under a name stands for what the value has there
pub found : (name : List ℕ) (j : json.Json) → get name (data_of j) ≡ option_map data_of (find.get name j)
found name json.null = refl
found name (json.boolean b) = refl
found name (json.number text) = refl
found name (json.string text) = refl
found name (json.array js) = refl
found name (json.object ms) = found_in name ms no_members ∙ or_none (option_map data_of (find.get_member name ms))

-- another name is not found in one member
either : (o : Ordering) (d : Data) → is_eq o ≡ false → match_ordering o None (Some d) None ≡ None
either Less d e = refl
either Equal d e = absurd (true≢false e)
either Greater d e = refl

skipped : (name other : List ℕ) (d : Data) → bytes_eq name other ≡ false → get_member name (member other d no_members) ≡ None
skipped name other d e = either (slice_cmp nat_cmp name other) d (is_eq-slice_cmp name other ∙ e)

-- ---- the names of all members

and_swaps : (a b c : Bool) → (a && (b && c)) ≡ (b && (a && c))
and_swaps true b c = refl
and_swaps false true c = refl
and_swaps false false c = refl

and_twice : (a b : Bool) → (a && b) ≡ (a && (a && b))
and_twice true b = refl
and_twice false b = refl

and_joins : (a b c : Bool) → (a && (b && c)) ≡ ((b && a) && c)
and_joins true true c = refl
and_joins true false c = refl
and_joins false true c = refl
and_joins false false c = refl

-- the names fit if that of a member which is put in fits too
put_named : (fits : List ℕ → Bool) (k : List ℕ) (d : Data) (ms : Members) → all_named fits (put k d ms) ≡ (fits k && all_named fits ms)
put_named fits k d no_members = refl
put_named fits k d (member l e ms) = by_order (slice_cmp nat_cmp k l) refl (put_named fits k d ms)
  where
    by_order : (o : Ordering) → slice_cmp nat_cmp k l ≡ o → all_named fits (put k d ms) ≡ (fits k && all_named fits ms)
        → all_named fits (match_ordering o (member k d (member l e ms)) (member l d ms) (member l e (put k d ms)))
        ≡ (fits k && (fits l && all_named fits ms))
    by_order Less h rest = refl
    by_order Equal h rest =
        let same : k ≡ l = (bytes_eq-Decides k l).0 (sym (is_eq-slice_cmp k l) ∙ ap is_eq h) in
        and_twice (fits l) (all_named fits ms) ∙ ap (λ n. fits n && (fits l && all_named fits ms)) (sym same)
    by_order Greater h rest = ap (λ b. fits l && b) rest ∙ and_swaps (fits l) (fits k) (all_named fits ms)

-- a member of a tree's object, with its name
abbrev Member : Type 0 → Type 0
Member A = Bor (List ℕ) × Value A

all_named_with : {A : Type 0} → (fits : List ℕ → Bool) (ms : List (Member A)) (before : Members)
    → all_named fits (members_data (members_view ms) before) ≡ (list_all (λ (m : Member A). fits m.0.now) ms && all_named fits before)
all_named_with fits [] before = refl
all_named_with {A} fits (m ∷ ms) before =
    all_named_with fits ms (put m.0.now (seen m.1) before)
    ∙ ap (λ b. list_all (λ (n : Member A). fits n.0.now) ms && b) (put_named fits m.0.now (seen m.1) before)
    ∙ and_joins (list_all (λ (n : Member A). fits n.0.now) ms) (fits m.0.now) (all_named fits before)

-- the names of the value are those of the tree
pub all_named_of : {A : Type 0} → (fits : List ℕ → Bool) (ms : List (Member A))
    → all_named fits (members_data (members_view ms) no_members) ≡ list_all (λ (m : Member A). fits m.0.now) ms
all_named_of {A} fits ms = all_named_with fits ms no_members ∙ and-true (list_all (λ (m : Member A). fits m.0.now) ms)

-- one of several borrowed texts
pub any_of : (fits : List ℕ → Bool) (names : List (Bor (List ℕ)))
    → list_any fits (map (λ (n : Bor (List ℕ)). n.now) names) ≡ list_any (λ (n : Bor (List ℕ)). fits n.now) names
any_of fits [] = refl
any_of fits (n ∷ names) = ap (λ b. fits n.now || b) (any_of fits names)

all_among : {A : Type 0} → (names : List (Bor (List ℕ))) (ms : List (Member A))
    → list_all (λ (m : Member A). list_any (λ (n : Bor (List ℕ)). bytes_eq n.now m.0.now) names) ms ≡ list_all
    (λ (m : Member A). is_among (map (λ (n : Bor (List ℕ)). n.now) names) m.0.now) ms
all_among names [] = refl
all_among names (m ∷ ms) = ap₂ (λ a b. a && b) (sym (any_of (λ n. bytes_eq n m.0.now) names)) (all_among names ms)

-- the names of the tree are among several borrowed texts if those of the value are
pub only_among : {A : Type 0} → (names : List (Bor (List ℕ))) (ms : List (Member A))
    → list_all (λ (m : Member A). list_any (λ (n : Bor (List ℕ)). bytes_eq n.now m.0.now) names) ms ≡ all_named
    (is_among (map (λ (n : Bor (List ℕ)). n.now) names)) (members_data (members_view ms) no_members)
only_among names ms = all_among names ms ∙ sym (all_named_of (is_among (map (λ (n : Bor (List ℕ)). n.now) names)) ms)

-- ---- an object of one name

and_first : (a b : Bool) → (a && b) ≡ true → a ≡ true
and_first true b e = refl
and_first false b e = e

and_second : (a b : Bool) → (a && b) ≡ true → b ≡ true
and_second true b e = e
and_second false b e = absurd (true≢false (sym e))

-- one of one name is that name
among_one : (name other : List ℕ) → is_among (name ∷ []) other ≡ true → name ≡ other
among_one name other e = (bytes_eq-Decides name other).0 (sym (or-false (bytes_eq name other)) ∙ e)

abbrev Sole : List ℕ → Members → Type 0
Sole name ms = (d : Data) × (ms ≡ member name d no_members)

-- members of the one name that is there replace its value
collapse : {A : Type 0} → (name : List ℕ) (ms : List (Member A)) (e : Data) → list_all (λ (m : Member A). is_among (name ∷ []) m.0.now) ms ≡ true
    → Sole name (members_data (members_view ms) (member name e no_members))
collapse name [] e all = (e, refl)
collapse name (m ∷ ms) e all =
    let same : name ≡ m.0.now = among_one name m.0.now (and_first _ _ all) in
    let replaced : put m.0.now (seen m.1) (member name e no_members) ≡ member name (seen m.1) no_members =
    ap (λ k. put k (seen m.1) (member name e no_members)) (sym same)
    ∙ ap (λ o. match_ordering o (member name (seen m.1) (member name e no_members)) (member name (seen m.1) no_members)
    (member name e (member name (seen m.1) no_members))) (tied_itself nat_list_cmp_total name) in
    let rest = collapse name ms (seen m.1) (and_second _ _ all) in
    (rest.0, ap (members_data (members_view ms)) replaced ∙ rest.1)

-- the value of a name alone
alone : (name : List ℕ) (d : Data) → get_member name (member name d no_members) ≡ Some d
alone name d = rw (tied_itself nat_list_cmp_total name)

-- an object whose members all have the first one's name has one member
pub one_name : {A : Type 0} → (m : Member A) (ms : List (Member A)) (inner : Data)
    → all_named (is_among (m.0.now ∷ [])) (members_data (members_view (m ∷ ms)) no_members) ≡ true
    → get_member m.0.now (members_data (members_view (m ∷ ms)) no_members) ≡ Some inner
    → sole (members_data (members_view (m ∷ ms)) no_members) ≡ Some (m.0.now, inner)
one_name m ms inner all is =
    let every = sym (all_named_of (is_among (m.0.now ∷ [])) (m ∷ ms)) ∙ all in
    let one = collapse m.0.now ms (seen m.1) (and_second _ _ every) in
    let same : Some one.0 ≡ Some inner = sym (alone m.0.now one.0) ∙ ap (get_member m.0.now) (sym one.1) ∙ is in
    ap sole one.1 ∙ ap (option_map (λ d. (m.0.now, d))) same

-- the first one's name is found
is_there : (o : Option json.Json) (b : Bool) (j : json.Json) → b ≡ true
    → is_some (or_else (option_map data_of (find.later_or o (cond b (Some j) None))) None) ≡ true
is_there (Some i) b j e = refl
is_there None true j e = refl
is_there None false j e = absurd (true≢false (sym e))

pub first_is_there : {A : Type 0} → (m : Member A) (ms : List (Member A))
    → is_some (get_member m.0.now (members_data (members_view (m ∷ ms)) no_members)) ≡ true
first_is_there m ms =
    ap is_some (found_in m.0.now (members_view (m ∷ ms)) no_members)
    ∙ is_there (find.get_member m.0.now (members_view ms)) (bytes_eq m.0.now m.0.now) _ ((bytes_eq-Decides m.0.now m.0.now).1 refl)

-- an object with another name than the first one's has several members
pub other_names : {A : Type 0} → (m : Member A) (ms : List (Member A))
    → all_named (is_among (m.0.now ∷ [])) (members_data (members_view (m ∷ ms)) no_members) ≡ false
    → sole (members_data (members_view (m ∷ ms)) no_members) ≡ None
other_names m ms other = by_members (members_data (members_view (m ∷ ms)) no_members) other (first_is_there m ms)
  where
    by_members : (found : Members) → all_named (is_among (m.0.now ∷ [])) found ≡ false → is_some (get_member m.0.now found) ≡ true → sole found ≡ None
    by_members no_members e there = refl
    by_members (member n d no_members) e there = by_order (bytes_eq m.0.now n) refl (sym (and-true (is_among (m.0.now ∷ []) n)) ∙ e)
      where
        by_order : (b : Bool) → bytes_eq m.0.now n ≡ b → is_among (m.0.now ∷ []) n ≡ false → sole (member n d no_members) ≡ None
        by_order true h e = absurd (true≢false (sym h ∙ sym (or-false (bytes_eq m.0.now n)) ∙ e))
        by_order false h e = absurd (true≢false (sym there ∙ ap is_some (skipped m.0.now n d h)))
    by_members (member n d (member k f more)) e there = refl

-- ---- the one member of a value

-- what an object has under a name
got : (name : List ℕ) (d : Data) (ms : Members) → Some ms ≡ as_object d → get name d ≡ get_member name ms
got name (object found) ms e = let same : ms ≡ found = cc in ap (get_member name) (sym same)
got name null ms e = absurd (cc)
got name (boolean b) ms e = absurd (cc)
got name (number n) ms e = absurd (cc)
got name (string text) ms e = absurd (cc)
got name (array ds) ms e = absurd (cc)

-- its members have the first one's name alone, or another one too
pub one_found : {A : Type 0} → (d : Data) (ms : List (Member A)) (m : Member A) (inner : Data) → 0 < length ms → m ≡ get_or ms 0 m
    → Some (members_data (members_view ms) no_members) ≡ as_object d → has_only (m.0.now ∷ []) d ≡ true
    → get m.0.now d ≡ Some inner → Some (m.0.now, inner) ≡ sole_member d
one_found d [] m inner some is e only there = absurd (omega arith)
one_found {A} d (n ∷ ms) m inner some is e only there =
    let found = members_data (members_view (n ∷ ms)) no_members in
    let all : all_named (is_among (n.0.now ∷ [])) found ≡ true = ap (λ (k : Member A). all_named (is_among (k.0.now ∷ [])) found) (sym is)
    ∙ ap (only_named (m.0.now ∷ [])) e ∙ only in
    let here : get_member n.0.now found ≡ Some inner = ap (λ (k : Member A). get_member k.0.now found) (sym is) ∙ sym (got m.0.now d found e)
    ∙ there in
    ap (λ (k : Member A). Some (k.0.now, inner)) is ∙ sym (one_name n ms inner all here) ∙ ap (option_and_then sole) e

pub several_found : {A : Type 0} → (d : Data) (ms : List (Member A)) (m : Member A) → 0 < length ms → m ≡ get_or ms 0 m
    → Some (members_data (members_view ms) no_members) ≡ as_object d → has_only (m.0.now ∷ []) d ≡ false → None ≡ sole_member d
several_found d [] m some is e only = absurd (omega arith)
several_found {A} d (n ∷ ms) m some is e only =
    let found = members_data (members_view (n ∷ ms)) no_members in
    let other : all_named (is_among (n.0.now ∷ [])) found ≡ false = ap (λ (k : Member A). all_named (is_among (k.0.now ∷ [])) found) (sym is)
    ∙ ap (only_named (m.0.now ∷ [])) e ∙ only in
    sym (other_names n ms other) ∙ ap (option_and_then sole) e

-- the first one's name is there
pub first_found : {A : Type 0} → (d : Data) (ms : List (Member A)) (m : Member A) → 0 < length ms → m ≡ get_or ms 0 m
    → Some (members_data (members_view ms) no_members) ≡ as_object d → is_some (get m.0.now d) ≡ true
first_found d [] m some is e = absurd (omega arith)
first_found {A} d (n ∷ ms) m some is e =
    let found = members_data (members_view (n ∷ ms)) no_members in
    ap is_some (got m.0.now d found e) ∙ ap (λ (k : Member A). is_some (get_member k.0.now found)) is ∙ first_is_there n ms

-- ---- what serde_json reads

pub a_whole_number : (o : Option Num) → is_some (option_and_then as_u64 o) ≡ true
    → option_map number o ≡ Some (number (unwrap_or o (negative (negsuc 0))))
a_whole_number None e = absurd (true≢false (sym e))
a_whole_number (Some n) e = refl

-- serde_json reads a tree whose numbers are whole
mutual
  pub whole_reads : (j : json.Json) → is_whole j ≡ true → serde.of_json j ≡ Some (data_of j)
  whole_reads json.null e = refl
  whole_reads (json.boolean b) e = refl
  whole_reads (json.number text) e = a_whole_number (serde.number_of text) e
  whole_reads (json.string text) e = refl
  whole_reads (json.array js) e = ap (option_map array) (items_read js e)
  whole_reads (json.object ms) e = ap (option_map object) (members_read ms no_members e)

  items_read : (js : json.Items) → items_are_whole js ≡ true → serde.of_items js ≡ Some (items_data js)
  items_read json.no_items e = refl
  items_read (json.item j js) e =
      ap₂ (λ a b. option_and_then (λ d. option_map (item d) b) a)
      (whole_reads j (and_first (is_whole j) (items_are_whole js) e)) (items_read js (and_second (is_whole j) (items_are_whole js) e))

  members_read : (ms : json.Members) (before : Members) → members_are_whole ms ≡ true → serde.of_members ms before ≡ Some (members_data ms before)
  members_read json.no_members before e = refl
  members_read (json.member k j ms) before e =
      ap (option_and_then (λ d. serde.of_members ms (put k d before))) (whole_reads j (and_first (is_whole j) (members_are_whole ms) e))
      ∙ members_read ms (put k (data_of j) before) (and_second (is_whole j) (members_are_whole ms) e)

-- what serde_json reads is what the tree stands for
abbrev Reads : {A : Type 0} → Option A → A → Type 0
Reads {A} o x = (y : A) → o ≡ Some y → Some y ≡ Some x

number_data : (o : Option Num) → Reads (option_map number o) (number (unwrap_or o (negative (negsuc 0))))
number_data None d e = cc
number_data (Some n) d e = sym e

array_data : (js : json.Items) (o : Option Items) → Reads o (items_data js) → Reads (option_map array o) (array (items_data js))
array_data js None is d e = cc
array_data js (Some ds) is d e = sym e ∙ ap (option_map array) (is ds refl)

object_data : (found : Members) (o : Option Members) → Reads o found → Reads (option_map object o) (object found)
object_data found None is d e = cc
object_data found (Some ds) is d e = sym e ∙ ap (option_map object) (is ds refl)

item_data : (j : json.Json) (js : json.Items) (o : Option Data) (p : Option Items) → Reads o (data_of j) → Reads p (items_data js)
    → Reads (option_and_then (λ d. option_map (item d) p) o) (item (data_of j) (items_data js))
item_data j js None p is are ds e = cc
item_data j js (Some d) None is are ds e = cc
item_data j js (Some d) (Some more) is are ds e = sym e ∙ ap₂ (λ a b. option_and_then (λ c. option_map (item c) b) a) (is d refl) (are more refl)

member_data : (k : List ℕ) (j : json.Json) (ms : json.Members) (before : Members) (o : Option Data) → Reads o (data_of j)
    → Reads (serde.of_members ms (put k (data_of j) before)) (members_data ms (put k (data_of j) before))
    → Reads (option_and_then (λ d. serde.of_members ms (put k d before)) o) (members_data ms (put k (data_of j) before))
member_data k j ms before None is are ds e = cc
member_data k j ms before (Some d) is are ds e = are ds (ap (option_and_then (λ c. serde.of_members ms (put k c before))) (sym (is d refl)) ∙ e)

mutual
  pub reads_data : (j : json.Json) → Reads (serde.of_json j) (data_of j)
  reads_data json.null d e = sym e
  reads_data (json.boolean b) d e = sym e
  reads_data (json.number text) d e = number_data (serde.number_of text) d e
  reads_data (json.string text) d e = sym e
  reads_data (json.array js) d e = array_data js (serde.of_items js) (items_are_data js) d e
  reads_data (json.object ms) d e = object_data (members_data ms no_members) (serde.of_members ms no_members) (members_are_data ms no_members) d e

  items_are_data : (js : json.Items) → Reads (serde.of_items js) (items_data js)
  items_are_data json.no_items ds e = sym e
  items_are_data (json.item j js) ds e = item_data j js (serde.of_json j) (serde.of_items js) (reads_data j) (items_are_data js) ds e

  members_are_data : (ms : json.Members) (before : Members) → Reads (serde.of_members ms before) (members_data ms before)
  members_are_data json.no_members before ds e = sym e
  members_are_data (json.member k j ms) before ds e =
      member_data k j ms before (serde.of_json j) (reads_data j) (members_are_data ms (put k (data_of j) before)) ds e

pub in_range : (j : json.Json) (o : Option Data) → o ≡ serde.of_json j → is_some o ≡ true → Some (data_of j) ≡ o
in_range j None e some = absurd (true≢false (sym some))
in_range j (Some d) e some = sym (reads_data j d (sym e))

-- ---- the items of a pair

-- a list of other than two items is no pair
pub other_items : {A : Type 0} → (vs : List (Value A)) → length vs ≢ 2
    → option_and_then two_of (each_of number_of (items_data (items_view vs))) ≡ None
other_items [] other = refl
other_items (v ∷ []) other = one (number_of (seen v))
  where
    one : (o : Option ℕ) → option_and_then two_of (option_and_then (λ a. Some (a ∷ [])) o) ≡ None
    one None = refl
    one (Some a) = refl
other_items (v ∷ w ∷ []) other = absurd (other refl)
other_items (v ∷ w ∷ x ∷ vs) other =
    several (number_of (seen v)) (number_of (seen w)) (number_of (seen x)) (each_of number_of (items_data (items_view vs)))
  where
    several : (o p q : Option ℕ) (r : Option (List ℕ))
        → option_and_then two_of
        (option_and_then (λ a. option_map (λ more. a ∷ more)
        (option_and_then (λ b. option_map (λ more. b ∷ more) (option_and_then (λ c. option_map (λ more. c ∷ more) r) q)) p)) o) ≡ None
    several None p q r = refl
    several (Some a) None q r = refl
    several (Some a) (Some b) None r = refl
    several (Some a) (Some b) (Some c) None = refl
    several (Some a) (Some b) (Some c) (Some r) = refl
