-- One front after another.
use Rattle.std.proofs.Common.{◌≡◌, ℕ, zero, suc, ◌+◌, ◌<◌, List, [], ◌∷◌, ◌++◌, length, take, drop, get_or, slice_get, refl, sym, ap, subst, ◌∙◌}
use Rattle.std.proofs.Common.{append_assoc, Option, Some, None, ◌≢◌, Bor, add-one, drop-cons, arith}
use Rattle.std.specs.Prelude.{MatchOption}
use Rattle.vclock.specs.declared.format.Format.{Format}
use Rattle.row_bytes.specs.declared.row.Row.{Row}
use Rattle.row_bytes.specs.Rows.{row_text}
use Rattle.row_bytes.specs.Strips.{Strips, StripsRows}
use Rattle.std.specs.List.{flat_map}
use Rattle.std.proofs.lemmas.List.{append_cancel_left}

-- the text doesn't begin so
abbrev pub Lacks : List ℕ → List ℕ → Type 0
Lacks front text = (rest : List ℕ) → text ≡ front ++ rest → ⊥

-- a text that lacks the first part lacks both
pub lacks_first : (a b text : List ℕ) → Lacks a text → Lacks (a ++ b) text
lacks_first a b text h rest e = h (b ++ rest) (e ∙ append_assoc a b rest)

-- a text that lacks the second part after the first lacks both
pub lacks_second : (a b text r : List ℕ) → text ≡ a ++ r → Lacks b r → Lacks (a ++ b) text
lacks_second a b text r t h rest e = h rest (append_cancel_left a r (b ++ rest) (sym t ∙ e ∙ append_assoc a b rest))

-- a text that has one part after the other has both
pub has_both : (a b text r s : List ℕ) → text ≡ a ++ r → r ≡ b ++ s → text ≡ (a ++ b) ++ s
has_both a b text r s t u = t ∙ ap (λ (x : List ℕ). a ++ x) u ∙ sym (append_assoc a b s)

-- whatever follows a in text follows b in rest, and the other way round
pub record IsBehind (text a rest b : List ℕ) : Type 0 where
  pub there : (s : List ℕ) → text ≡ a ++ s → rest ≡ b ++ s
  pub back : (s : List ℕ) → rest ≡ b ++ s → text ≡ a ++ s

-- one more part was taken
pub behind_more : (text a rest after x b : List ℕ) → IsBehind text a rest (x ++ b) → rest ≡ x ++ after → IsBehind text a after b
behind_more text a rest after x b h e = record {
  there = λ s t. append_cancel_left x after (b ++ s) (sym e ∙ h.there s t ∙ append_assoc x b s);
  back = λ s t. h.back s (e ∙ ap (λ (y : List ℕ). x ++ y) t ∙ sym (append_assoc x b s));
}

-- one item's text off the front of the others'
pub flat_map-at : {X : Type 0} (f : X → List ℕ) (xs : List X) (i : ℕ) (d : X) → i < length xs
    → flat_map f (drop i xs) ≡ f (get_or xs i d) ++ flat_map f (drop (i + 1) xs)
flat_map-at f xs i d lt = rw (add-one, drop-cons xs i d lt) refl

-- what follows the second part after the first follows both
pub strips_then : {X : Type 0} (view : X → List ℕ) (a b text r : List ℕ) (o : Option X) → text ≡ a ++ r → Strips view b r o
    → Strips view (a ++ b) text o
strips_then view a b text r None t h = lacks_second a b text r t h
strips_then view a b text r (Some x) t h = has_both a b text r (view x) t h

-- what the standard library says of a prefix
pub to_strips : (front text : List ℕ) (o : Option (Bor (List ℕ)))
    → MatchOption o ((rest : List ℕ) → text ≢ front ++ rest) (λ x. text ≡ front ++ x.now) → Strips (λ (x : Bor (List ℕ)). x.now) front text o
to_strips front text None h = h
to_strips front text (Some x) h = h

-- what stands before an item and those behind it
item_first : {X : Type 0} (f : X → List ℕ) (xs : List X) (i : ℕ) (x : X) → i < length xs → x ≡ get_or xs i x
    → flat_map f (drop i xs) ≡ f x ++ flat_map f (drop (i + 1) xs)
item_first f xs i x lt is = flat_map-at f xs i x lt ∙ ap (λ (y : _). f y ++ flat_map f (drop (i + 1) xs)) (sym is)

-- one more item is behind
pub behind_item : {X : Type 0} (f : X → List ℕ) (xs : List X) (i : ℕ) (x : X) (front text rest after : List ℕ) → i < length xs → x ≡ get_or xs i x
    → IsBehind text front rest (flat_map f (drop i xs)) → rest ≡ f x ++ after → IsBehind text front after (flat_map f (drop (i + 1) xs))
behind_item f xs i x front text rest after lt is h e =
    behind_more text front rest after (f x) (flat_map f (drop (i + 1) xs))
    (subst (λ (b : List ℕ). IsBehind text front rest b) (item_first f xs i x lt is) h) e

-- what follows the first part is the second part and what follows both
pub behind_first : (a b text rest : List ℕ) → text ≡ a ++ rest → IsBehind text (a ++ b) rest b
behind_first a b text rest t = record {
  there = λ s e. append_cancel_left a rest (b ++ s) (sym t ∙ e ∙ append_assoc a b s);
  back = λ s e. has_both a b text rest s t e;
}

-- the next part isn't there
pub behind_lacks : (text a rest x b : List ℕ) → IsBehind text a rest (x ++ b) → Lacks x rest → Lacks a text
behind_lacks text a rest x b is h s e = h (b ++ s) (is.there s e ∙ append_assoc x b s)

-- the next item isn't there
pub behind_lacks_item : {X : Type 0} (f : X → List ℕ) (xs : List X) (i : ℕ) (x : X) (front text rest : List ℕ) → i < length xs → x ≡ get_or xs i x
    → IsBehind text front rest (flat_map f (drop i xs)) → Lacks (f x) rest → Lacks front text
behind_lacks_item f xs i x front text rest lt is h lacks =
    behind_lacks text front rest (f x) (flat_map f (drop (i + 1) xs))
    (subst (λ (b : List ℕ). IsBehind text front rest b) (item_first f xs i x lt is) h) lacks

-- ---- the texts of rows

lacks_rows : (f : Row → List ℕ) (rows : List Row) (count : ℕ) (text rest : List ℕ) → count < length rows → text ≡ flat_map f (take count rows) ++ rest
    → ((r : Row) (after : List ℕ) → slice_get rows count ≡ Some r → rest ≡ f r ++ after → ⊥) → Lacks (flat_map f rows) text
lacks_rows f [] count text rest less is most after e = absurd (omega (arith, less))
lacks_rows f (r ∷ rows) zero text rest less is most after e =
    most r (flat_map f rows ++ after) refl (sym is ∙ e ∙ append_assoc (f r) (flat_map f rows) after)
lacks_rows f (r ∷ rows) (suc n) text rest less is most after e =
    let front = flat_map f (take n rows) in
    lacks_rows f rows n (front ++ rest) rest (omega (arith, less)) refl most after
    (append_cancel_left (f r) (front ++ rest) (flat_map f rows ++ after)
    (sym (append_assoc (f r) front rest) ∙ sym is ∙ e ∙ append_assoc (f r) (flat_map f rows) after))

-- a text from which not all rows were stripped does not begin with the texts of all
pub strips_not_all : (format : Format) (rows : List Row) (text : List ℕ) (count : ℕ) (rest : List ℕ) → StripsRows format rows text count rest
    → count < length rows → Lacks (flat_map (row_text format) rows) text
strips_not_all format rows text count rest is less = lacks_rows (row_text format) rows count text rest less is.text_is is.most
