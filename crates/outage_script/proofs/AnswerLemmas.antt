-- The tokens of answers, and their text.
use Rattle.std.proofs.Common.{◌≡◌, ℕ, suc, ◌+◌, ◌<◌, ◌≤◌, length, List, [], ◌∷◌, ◌++◌, drop, map, get_or, append_assoc, sym, ap, ◌∙◌, add-one}
use Rattle.std.proofs.Common.{drop-cons}
use Rattle.std.proofs.lemmas.List.{drop_all}
use Rattle.std.specs.Borrow.{Bor}
use Rattle.json.specs.Print.{print}
use Rattle.json.specs.Token.{Token}
use Rattle.json.specs.Tree.{items_tokens, members_tokens}
use Rattle.serde_json.specs.Data.{Data}
use Rattle.serde_json.specs.Written.{compact_text, items_outline, members_outline}
use Rattle.serde_json.proofs.Texts.{print-outline}
use Rattle.outage_script.specs.Answers.{items_of, members_of}
use Rattle.outage_script.specs.Parts.{part_data, tokens_of}
use Rattle.outage_script.specs.declared.part.Part.{Part}

-- the tokens of a value print as its text
pub printed : (d : Data) → print (tokens_of d) ≡ compact_text d
printed d = print-outline d

-- what is left at i begins with the element there
left_at : {A : Type 0} (list : List A) (i : ℕ) (a : A) → i < length list → a ≡ get_or list i a → drop i list ≡ a ∷ drop (i + 1) list
left_at list i a within is = rw (add-one, drop-cons list i a) (ap (λ x. x ∷ drop (suc i) list) (sym is))

-- ---- a list

-- the tokens of these elements, with the closing bracket
abbrev pub items_left : {A : Type 0} → (A → Data) → List A → List Token
items_left f list = items_tokens (items_outline (items_of f list))

-- one more element is written
pub item_written : {A : Type 0} (f : A → Data) (list : List A) (before after : List Token) (i : ℕ) (a : A) → i < length list → a ≡ get_or list i a
    → after ≡ before ++ tokens_of (f a) → after ++ items_left f (drop (i + 1) list) ≡ before ++ items_left f (drop i list)
item_written f list before after i a within is more =
    ap (λ ts. ts ++ items_left f (drop (i + 1) list)) more ∙ append_assoc before (tokens_of (f a)) (items_left f (drop (i + 1) list))
    ∙ ap (λ (xs : List _). before ++ items_left f xs) (sym (left_at list i a within is))

-- past the last element the bracket is left
pub items_end : {A : Type 0} (f : A → Data) (list : List A) (i : ℕ) → length list ≤ i → items_left f (drop i list) ≡ Token.end_array ∷ []
items_end f list i past = ap (items_left f) (drop_all i list past)

-- ---- an object

-- a member's name and value
abbrev Member : Type 0
Member = Bor (List ℕ) × Part

abbrev pub member_of : Member → List ℕ × Data
member_of m = (m.0.now, part_data m.1)

-- the tokens of these members, with the closing bracket
abbrev pub members_left : List Member → List Token
members_left list = members_tokens (members_outline (members_of (map member_of list)))

-- one more member is written
pub member_written : (list : List Member) (before named after : List Token) (i : ℕ) (m : Member) → i < length list → m ≡ get_or list i m
    → named ≡ before ++ Token.key m.0.now ∷ [] → after ≡ named ++ tokens_of (part_data m.1)
    → after ++ members_left (drop (i + 1) list) ≡ before ++ members_left (drop i list)
member_written list before named after i m within is name value =
    let rest = members_left (drop (i + 1) list) in
    ap (λ ts. ts ++ rest) (value ∙ ap (λ ts. ts ++ tokens_of (part_data m.1)) name)
    ∙ append_assoc (before ++ Token.key m.0.now ∷ []) (tokens_of (part_data m.1)) rest
    ∙ append_assoc before (Token.key m.0.now ∷ []) (tokens_of (part_data m.1) ++ rest)
    ∙ ap (λ (xs : List Member). before ++ members_left xs) (sym (left_at list i m within is))

-- past the last member the brace is left
pub members_end : (list : List Member) (i : ℕ) → length list ≤ i → members_left (drop i list) ≡ Token.end_object ∷ []
members_end list i past = ap members_left (drop_all i list past)

-- ---- a version

-- an object of two members is written token by token
pub two_written : (t t1 t2 t3 t4 t5 t6 first second : List Token) (opened named other closed : Token) → t1 ≡ t ++ opened ∷ [] → t2 ≡ t1 ++ named ∷ []
    → t3 ≡ t2 ++ first → t4 ≡ t3 ++ other ∷ [] → t5 ≡ t4 ++ second → t6 ≡ t5 ++ closed ∷ []
    → t6 ≡ t ++ opened ∷ named ∷ (first ++ other ∷ (second ++ closed ∷ []))
two_written t t1 t2 t3 t4 t5 t6 first second opened named other closed e1 e2 e3 e4 e5 e6 =
    let third : t3 ≡ t ++ opened ∷ named ∷ first =
    e3 ∙ ap (λ x. x ++ first) (e2 ∙ ap (λ x. x ++ named ∷ []) e1)
    ∙ ap (λ x. x ++ first) (append_assoc t (opened ∷ []) (named ∷ [])) ∙ append_assoc t (opened ∷ named ∷ []) first in
    let sixth : t6 ≡ t3 ++ other ∷ (second ++ closed ∷ []) =
    e6 ∙ ap (λ x. x ++ closed ∷ []) (e5 ∙ ap (λ x. x ++ second) e4)
    ∙ append_assoc (t3 ++ other ∷ []) second (closed ∷ []) ∙ append_assoc t3 (other ∷ []) (second ++ closed ∷ []) in
    sixth ∙ ap (λ x. x ++ other ∷ (second ++ closed ∷ [])) third ∙ append_assoc t (opened ∷ named ∷ first) (other ∷ (second ++ closed ∷ []))
