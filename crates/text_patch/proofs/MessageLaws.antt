-- Outlines and patches as bytes: what their heads and their marks say.
use Rattle.std.proofs.Common.{◌≡◌, ◌^◌, ◌<◌, ℕ, List, [], ◌∷◌, ◌++◌, take, drop, get_or, refl, sym, ap, ◌∙◌, subst, arith}
use Rattle.std.specs.Prelude.{⊤, Option, Some, None, MatchOption, Result, Ok, Err}
use Rattle.std.specs.Int.{w32, from_be_bytes, to_be_bytes}
use Rattle.std.proofs.lemmas.Nat.{from_be_bytes-to_be_bytes_4}
use Rattle.vclock.specs.declared.refusal.Refusal.{Refusal}
use Rattle.vclock.specs.declared.refusal.Refusal.TheVariants as refusals
use Rattle.walk_messages.specs.declared.message.Ask.{Ask}
use Rattle.walk_messages.specs.declared.message.Message.{Message}
use Rattle.walk_messages.specs.declared.message.Message.TheVariants as messages
use Rattle.walk_messages.specs.Messages.{node_bytes, message_text, Decodes}
use Rattle.text_patch.specs.Marks.{MarkList, AreMarks}
use Rattle.text_patch.specs.Messages.{IsHead}

-- ---- heads

-- the bytes of an ask are decoded as an ask
pub reads_ask : (bytes : List ℕ) (a : Ask) (r : Result Message Refusal) → IsHead a → message_text (messages.Ask a) ≡ bytes → Decodes bytes r
    → (b : Ask) × (r ≡ Ok (messages.Ask b))
unfolding message_text
reads_ask bytes a (Ok (messages.Ask b)) is e d = (b, refl)
reads_ask bytes a (Ok (messages.Offer o)) is e d = absurd (omega (arith, ap (λ (t : List ℕ). get_or t 0 0) (d.1 ∙ sym e)))
reads_ask bytes a (Ok (messages.Answer b)) is e d = absurd (omega (arith, ap (λ (t : List ℕ). get_or t 0 0) (d.1 ∙ sym e)))
reads_ask bytes a (Err refusals.BadMessage) is e d = absurd (d (messages.Ask a) (is.number, is.node) e)
reads_ask bytes a (Err refusals.NoMemory) is e d = absurd (omega (arith, ap (λ (t : List ℕ). get_or t 0 0) (d.2 ∙ sym e)))
reads_ask bytes a (Err x) is e d = absurd d

-- the bytes of an ask, where some fields begin with its head
pub ask_of_head : (a : Ask) (rest fields head : List ℕ) → fields ≡ to_be_bytes w32 a.offer ++ node_bytes a.node ++ rest → head ≡ take 7 fields
    → message_text (messages.Ask a) ≡ 2 ∷ get_or head 0 0 ∷ get_or head 1 0 ∷ get_or head 2 0 ∷ get_or head 3 0 ∷ get_or head 4 0 ∷ get_or head 5 0
    ∷ get_or head 6 0 ∷ []
unfolding message_text
ask_of_head a rest fields head e first =
    sym (ap (λ (h : List ℕ). 2 ∷ get_or h 0 0 ∷ get_or h 1 0 ∷ get_or h 2 0 ∷ get_or h 3 0 ∷ get_or h 4 0 ∷ get_or h 5 0 ∷ get_or h 6 0 ∷ [])
    (first ∙ ap (λ (t : List ℕ). take 7 t) e))

-- ---- marks

-- a number of four bytes is spelled as no other
one_number : (m n : ℕ) → m < 2 ^ 32 → n < 2 ^ 32 → to_be_bytes w32 m ≡ to_be_bytes w32 n → m ≡ n
one_number m n f g e = sym (from_be_bytes-to_be_bytes_4 m f) ∙ ap (from_be_bytes w32) e ∙ from_be_bytes-to_be_bytes_4 n g

-- the marks that were read are those of the bytes
pub reads_marks : (width count : ℕ) (bytes marks : List ℕ) (r : Option MarkList) → count < 2 ^ 32 → bytes ≡ width ∷ to_be_bytes w32 count ++ marks
    → MatchOption r (AreMarks (record { width = width; count = count; bytes = marks }) → ⊥)
    (λ m. m ≡ record { width = width; count = count; bytes = marks }) → MatchOption r ⊤ (λ m. AreMarks m)
    → MatchOption r ((m : MarkList) → AreMarks m → bytes ≡ m.width ∷ to_be_bytes w32 m.count ++ m.bytes → ⊥)
    (λ m. AreMarks m × (bytes ≡ m.width ∷ to_be_bytes w32 m.count ++ m.bytes))
reads_marks width count bytes marks None small e none valid = λ m is f.
    let both = sym f ∙ e in
    let same : m ≡ record { width = width; count = count; bytes = marks } =
    let width-is = ap (λ (t : List ℕ). get_or t 0 0) both in
    let count-is = one_number m.count count is.few small (ap (λ (t : List ℕ). take 4 (drop 1 t)) both) in
    let bytes-is = ap (λ (t : List ℕ). drop 5 t) both in
    λ i. record { width = width-is i; count = count-is i; bytes = bytes-is i } in
    none (subst AreMarks same is)
reads_marks width count bytes marks (Some m) small e is valid =
    (valid, e ∙ ap (λ (x : MarkList). x.width ∷ to_be_bytes w32 x.count ++ x.bytes) (sym is))
