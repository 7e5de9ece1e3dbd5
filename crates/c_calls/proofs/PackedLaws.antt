-- Bytes that are written to a buffer one after the other, and the entries whose texts fit into it.
use Rattle.std.proofs.Common.{◌≡◌, ℕ, suc, ◌+◌, ◌-◌, ◌<◌, ◌≤◌, Bool, cond, List, [], ◌∷◌, ◌++◌, length, take, drop, get_or, ap, sym, subst, ◌∙◌}
use Rattle.std.proofs.Common.{arith, append_assoc, drop-cons, length-append, length-drop}
use Rattle.std.proofs.Math.Seq.{take-append-add, take-append_seam, drop-append-add}
use Rattle.std.proofs.lemmas.Bool.{le-leb}
use Rattle.std.proofs.lemmas.List.{append-nil, drop-drop, length-take-le, take-append-drop, take_more}
use Rattle.std.proofs.lemmas.List.Folds.{length-flat_map-take}
use Rattle.std.proofs.lemmas.Grind.{flat_map-append}
use Rattle.std.specs.Int.{w16, to_be_bytes}
use Rattle.std.specs.List.{flat_map, AllByRecursion}
use Rattle.vclock.specs.declared.format.Format.{Format}
use Rattle.version_set.specs.Version.{version_text}
use Rattle.range_journal.specs.declared.journal.Entry.{Entry}
use Rattle.row_bytes.specs.Rows.{row_text}
use Rattle.row_bytes.proofs.TextLengthLaws.{row_text_len}
use Rattle.range_store.specs.Config.{Config}
use Rattle.range_store.specs.Store.{IsOwn}
use Rattle.c_calls.specs.Entries.{number_of_source}
use Rattle.c_calls.specs.Packed.{IsWritten, IsWithin, entry_text, fitting}

front : (n : ℕ) (P a D : List ℕ) → length P ≡ n → take (n + length a) (P ++ (a ++ D)) ≡ P ++ a
front n P a D is = subst (λ (k : ℕ). take (k + length a) (P ++ (a ++ D)) ≡ P ++ a) is
    (take-append-add P (a ++ D) (length a) ∙ ap (λ (xs : List ℕ). P ++ xs) (take-append_seam a D))

back : (n m : ℕ) (P a D : List ℕ) → length P ≡ n → drop (n + (length a + m)) (P ++ (a ++ D)) ≡ drop m D
back n m P a D is = subst (λ (k : ℕ). drop (k + (length a + m)) (P ++ (a ++ D)) ≡ drop m D) is
    (drop-append-add P (a ++ D) (length a + m) ∙ drop-append-add a D m)

-- a write leaves the length of the buffer
pub written_length : (a old new : List ℕ) (at end : ℕ) → at + length a ≤ length old → IsWritten a old at new end → length new ≡ length old
written_length a old new at end room one =
    omega (
      arith,
      room,
      one.ends,
      ap length one.is,
      length-append (take at old) (a ++ drop end old),
      length-append a (drop end old),
      length-take-le at old (omega (arith, room)),
      length-drop end old,
    )

-- nothing was written
pub nothing_written : (old : List ℕ) (at : ℕ) → IsWritten [] old at old at
nothing_written old at = record { ends = omega arith; is = sym (take-append-drop at old) }

-- two writes, the second at the end of the first, are one
pub both_written : (a b old mid new : List ℕ) (at middle end : ℕ) → at ≤ length old → IsWritten a old at mid middle → IsWritten b mid middle new end
    → IsWritten (a ++ b) old at new end
both_written a b old mid new at middle end room one two =
    let P = take at old in
    let D = drop middle old in
    let len = length-take-le at old room in
    let far : end ≡ at + (length a + length b) = omega (arith, one.ends, two.ends) in
    let before : take middle mid ≡ P ++ a = (λ i. take (one.ends i) (one.is i)) ∙ front at P a D len in
    let after : drop end mid ≡ drop end old = (λ i. drop (far i) (one.is i)) ∙ back at (length b) P a D len ∙ drop-drop (length b) middle old
    ∙ ap (λ (n : ℕ). drop n old) (sym two.ends) in
    let X = drop end old in
    record {
      ends = omega (arith, far, length-append a b);
      is = two.is ∙ (λ i. before i ++ (b ++ after i)) ∙ append_assoc P a (b ++ X) ∙ ap (λ (xs : List ℕ). P ++ xs) (sym (append_assoc a b X));
    }

-- one more text is written
pub more_written : {X : Type 0} (f : X → List ℕ) (xs : List X) (i : ℕ) (d : X) (old mid new : List ℕ) (at middle end : ℕ) → i < length xs
    → at ≤ length old
    → IsWritten (flat_map f (take i xs)) old at mid middle → IsWritten (f (get_or xs i d)) mid middle new end
    → IsWritten (flat_map f (take (i + 1) xs)) old at new end
more_written f xs i d old mid new at middle end within room one two =
    let text = f (get_or xs i d) in
    let more : flat_map f (take (i + 1) xs) ≡ flat_map f (take i xs) ++ text =
    ap (flat_map f) (take_more xs i d within) ∙ flat_map-append f (take i xs) (get_or xs i d ∷ [])
    ∙ ap (λ (ys : List ℕ). flat_map f (take i xs) ++ ys) (append-nil text) in
    subst (λ (ys : List ℕ). IsWritten ys old at new end) (sym more)
    (both_written (flat_map f (take i xs)) text old mid new at middle end room one two)

-- and there is room for it
pub room_for_more : {X : Type 0} (f : X → List ℕ) (xs : List X) (i : ℕ) (d : X) (old mid : List ℕ) (at middle : ℕ) → i < length xs
    → at + length (flat_map f xs) ≤ length old
    → IsWritten (flat_map f (take i xs)) old at mid middle → middle + length (f (get_or xs i d)) ≤ length mid
room_for_more f xs i d old mid at middle within room one =
    let part = length-flat_map-take f xs i d within in
    omega (arith, room, part, one.ends, written_length (flat_map f (take i xs)) old mid at middle (omega (arith, room, part)) one)

-- the length of an entry's text
pub entry_length : (format : Format) (e : Entry) → length (entry_text format e) ≡ 5 + length e.key + length (version_text format e.version)
entry_length format e = omega
    (arith, row_text_len format (record { key = e.key; versions = e.version ∷ [] }), length-append (version_text format e.version) [])

-- the parts of an entry's text
pub entry_parts : (format : Format) (e : Entry)
    → ((((number_of_source e.source ∷ []) ++ to_be_bytes w16 (length e.key)) ++ e.key) ++ to_be_bytes w16 1) ++ version_text format e.version
    ≡ entry_text format e
unfolding row_text
entry_parts format e = ap (λ (xs : List ℕ). number_of_source e.source ∷ (((to_be_bytes w16 (length e.key) ++ e.key) ++ to_be_bytes w16 1) ++ xs))
    (sym (append-nil (version_text format e.version)))

-- one more entry fits
pub one_more_fits : (format : Format) (es : List Entry) (i left : ℕ) (d : Entry) → i < length es → length (entry_text format (get_or es i d)) ≤ left
    → take (i + 1) es ++ fitting format (left - length (entry_text format (get_or es i d))) (drop (i + 1) es) ≡ take i es ++ fitting format left
    (drop i es)
one_more_fits format es i left d within fits =
    let e = get_or es i d in
    let len = length (entry_text format e) in
    let rest = drop (i + 1) es in
    let more = fitting format (left - len) rest in
    let next : suc i ≡ i + 1 = omega arith in
    let here : fitting format left (e ∷ rest) ≡ e ∷ more = ap (λ (b : Bool). cond b (e ∷ more) []) (le-leb len left fits) in
    let cut : drop i es ≡ e ∷ rest = drop-cons es i d within ∙ ap (λ (n : ℕ). e ∷ drop n es) next in
    ap (λ (xs : List Entry). xs ++ more) (take_more es i d within)
    ∙ append_assoc (take i es) (e ∷ []) more
    ∙ ap (λ (xs : List Entry). take i es ++ xs) (sym here)
    ∙ ap (λ (xs : List Entry). take i es ++ fitting format left xs) (sym cut)

-- the entries of a range are within the limits of its format
pub all_within : (c : Config) (es : List Entry) → AllByRecursion (IsOwn c) es → AllByRecursion (IsWithin c.format) es
all_within c [] own = tt
all_within c (e ∷ es) own = (record { key = own.0.key; value = own.0.value }, all_within c es own.1)
