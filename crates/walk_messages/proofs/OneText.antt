-- A text is that of one message.
use Rattle.std.proofs.Common.{◌≡◌, ℕ, zero, suc, ◌^◌, ◌<◌, ◌≤◌, List, take, drop, get_or, sym, ap, ◌∙◌, arith}
use Rattle.std.specs.Int.{w16, w32, from_be_bytes, to_be_bytes}
use Rattle.std.proofs.lemmas.Nat.{from_be_bytes-to_be_bytes_2, from_be_bytes-to_be_bytes_4}
use Rattle.tree_nodes.specs.Nodes.{Node, IsNode}
use Rattle.walk_messages.specs.declared.message.Message.{Message}
use Rattle.walk_messages.specs.declared.message.Message.TheVariants as messages
use Rattle.walk_messages.specs.Messages.{IsMessage, message_text}

-- a number of two bytes is spelled as no other
one_index : (m n : ℕ) → m < 2 ^ 16 → n < 2 ^ 16 → to_be_bytes w16 m ≡ to_be_bytes w16 n → m ≡ n
one_index m n f g e = sym (from_be_bytes-to_be_bytes_2 m f) ∙ ap (from_be_bytes w16) e ∙ from_be_bytes-to_be_bytes_2 n g

-- a number of four bytes is spelled as no other
one_number : (m n : ℕ) → m < 2 ^ 32 → n < 2 ^ 32 → to_be_bytes w32 m ≡ to_be_bytes w32 n → m ≡ n
one_number m n f g e = sym (from_be_bytes-to_be_bytes_4 m f) ∙ ap (from_be_bytes w32) e ∙ from_be_bytes-to_be_bytes_4 n g

-- a node's index has two bytes
short_index : (n : Node) → IsNode 3 n → n.index < 2 ^ 16
short_index n is = below n.depth n.index is.shallow is.within
  where
    below : (depth index : ℕ) → depth ≤ 3 → index < 16 ^ depth → index < 2 ^ 16
    below zero index d i = omega arith
    below (suc zero) index d i = omega arith
    below (suc (suc zero)) index d i = omega arith
    below (suc (suc (suc zero))) index d i = omega arith
    below (suc (suc (suc (suc depth)))) index d i = absurd (omega arith)

-- two messages with one text are one
pub one_message : (m n : Message) → IsMessage m → IsMessage n → message_text m ≡ message_text n → m ≡ n
unfolding message_text
one_message (messages.Offer o) (messages.Offer p) f g e =
    let offer = one_number o.offer p.offer f.0 g.0 (ap (λ (t : List ℕ). take 4 (drop 1 t)) e) in
    let format = ap (λ (t : List ℕ). get_or t 5 0) e in
    let range = ap (λ (t : List ℕ). get_or t 6 0) e in
    let root = ap (λ (t : List ℕ). drop 7 t) e in
    λ i. messages.Offer (record { offer = offer i; format = format i; range = range i; root = root i })
one_message (messages.Offer o) (messages.Ask b) f g e = absurd (omega (arith, ap (λ (t : List ℕ). get_or t 0 0) e))
one_message (messages.Offer o) (messages.Answer b) f g e = absurd (omega (arith, ap (λ (t : List ℕ). get_or t 0 0) e))
one_message (messages.Ask a) (messages.Offer p) f g e = absurd (omega (arith, ap (λ (t : List ℕ). get_or t 0 0) e))
one_message (messages.Ask a) (messages.Ask b) f g e =
    let offer = one_number a.offer b.offer f.0 g.0 (ap (λ (t : List ℕ). take 4 (drop 1 t)) e) in
    let depth = ap (λ (t : List ℕ). get_or t 5 0) e in
    let index = one_index a.node.index b.node.index (short_index a.node f.1) (short_index b.node g.1) (ap (λ (t : List ℕ). drop 6 t) e) in
    λ i. messages.Ask (record { offer = offer i; node = record { depth = depth i; index = index i } })
one_message (messages.Ask a) (messages.Answer b) f g e = absurd (omega (arith, ap (λ (t : List ℕ). get_or t 0 0) e))
one_message (messages.Answer a) (messages.Offer p) f g e = absurd (omega (arith, ap (λ (t : List ℕ). get_or t 0 0) e))
one_message (messages.Answer a) (messages.Ask b) f g e = absurd (omega (arith, ap (λ (t : List ℕ). get_or t 0 0) e))
one_message (messages.Answer a) (messages.Answer b) f g e =
    let offer = one_number a.offer b.offer f.0 g.0 (ap (λ (t : List ℕ). take 4 (drop 1 t)) e) in
    let depth = ap (λ (t : List ℕ). get_or t 5 0) e in
    let index = one_index a.node.index b.node.index (short_index a.node f.1) (short_index b.node g.1) (ap (λ (t : List ℕ). take 2 (drop 6 t)) e) in
    let text = ap (λ (t : List ℕ). drop 16 t) e in
    λ i. messages.Answer (record { offer = offer i; node = record { depth = depth i; index = index i }; text = text i })
