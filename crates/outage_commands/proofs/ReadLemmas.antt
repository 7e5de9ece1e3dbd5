-- JSON values beside what is read of them.
use Rattle.std.proofs.Common.{◌≡◌, ◌≢◌, ℕ, List, [], ◌∷◌, length, Some, None, Bool, true, false, cond, String, Global, string_bytes, slice_get, refl}
use Rattle.std.proofs.Common.{sym, ap, ◌∙◌, arith}
use Rattle.std.specs.Prelude.{IsUtf8}
use Rattle.std.specs.Str.{is_utf8}
use Rattle.std.proofs.lemmas.Str.{IsUtf8-from_is_utf8, is_utf8-from_IsUtf8}
use Rattle.serde_json.specs.Data.{Data}
use Rattle.json.specs.Json as json
use Rattle.json.specs.Lex.{tokens}
use Rattle.json.specs.Token.{Token}
use Rattle.serde_json.specs.Read.{read, of_json, max_depth}
use Rattle.serde_json.specs.View.{view, members_view}
use Rattle.serde_json.specs.declared.value.Value.{Value}
use Rattle.serde_json.proofs.Views.{Entry}
use Rattle.outage_commands.specs.Reading.{sole, value_of}

-- a line that was read has that value
pub value_read : (line : List ℕ) (d : Data) → IsUtf8 line → read line ≡ Some d → value_of line ≡ Some d
unfolding value_of
value_read line d text e = rw (is_utf8-from_IsUtf8 line text) e

-- a line that was refused has no value
pub value_refused : (line : List ℕ) → (IsUtf8 line → read line ≡ None) → value_of line ≡ None
unfolding value_of
value_refused line none = by_test (is_utf8 line) (λ h. none (IsUtf8-from_is_utf8 line h))
  where
    by_test : (b : Bool) → (b ≡ true → read line ≡ None) → cond b (read line) None ≡ None
    by_test true h = h refl
    by_test false h = refl

-- a line whose tokens are those of a tree has the tree's value
pub tree_read : (line : List ℕ) (j : json.Json) → IsUtf8 line → json.value max_depth (tokens line) ≡ Some (j, []) → value_of line ≡ of_json j
unfolding value_of
tree_read line j text e = rw (is_utf8-from_IsUtf8 line text, e) refl

-- the same in steps: the tokens of the text, all of which are read
pub tree_value : (line text : List ℕ) (start rest : List Token) (j : json.Json) → IsUtf8 line → text ≡ line → start ≡ tokens text
    → json.value max_depth start ≡ Some (j, rest) → rest ≡ [] → value_of line ≡ of_json j
tree_value line text start rest j good same from e none =
    tree_read line j good (ap (json.value max_depth) (sym (from ∙ ap tokens same)) ∙ e ∙ ap (λ r. Some (j, r)) none)

-- the first of one entry is the sole member
pub one_member : (es : List Entry) (k : String Global) (v : Value) → length es ≡ 1 → slice_get es 0 ≡ Some (k, v)
    → sole (members_view es) ≡ Some (string_bytes k, view v)
one_member [] k v one first = cc
one_member (e ∷ []) k v one first = let same : e ≡ (k, v) = cc in rw same refl
one_member (e ∷ f ∷ es) k v one first = absurd (omega arith)

-- no entry or several have no sole member
pub other_members : (es : List Entry) → length es ≢ 1 → sole (members_view es) ≡ None
other_members [] other = refl
other_members (e ∷ []) other = absurd (other refl)
other_members (e ∷ f ∷ es) other = refl
