-- The bytes of messages, as docs/FORMATS.md defines them. Numbers have their highest byte first.
use Rattle.std.specs.Prelude.{◌≡◌, ◌<◌, ◌^◌, ℕ, List, ◌∷◌, ◌++◌, length, Result, Ok, Err}
use Rattle.std.specs.Int.{w16, w32, w64, to_be_bytes}
use Rattle.vclock.specs.declared.refusal.Refusal.{Refusal}
use Rattle.vclock.specs.declared.refusal.Refusal.TheVariants as refusals
use Rattle.tree_nodes.specs.Nodes.{Node, IsNode}
use Rattle.walk_messages.specs.declared.message.Answer.{Answer}
use Rattle.walk_messages.specs.declared.message.Message.{Message}
use Rattle.walk_messages.specs.declared.message.Message.TheVariants as messages

-- the depth of a node, and its index there
abbrev pub node_bytes : Node → List ℕ
node_bytes node = node.depth ∷ to_be_bytes w16 node.index

-- the bytes of a message
unfoldable pub message_text : Message → List ℕ
message_text (messages.Offer o) = 1 ∷ to_be_bytes w32 o.offer ++ o.format ∷ o.range ∷ o.root
message_text (messages.Ask a) = 2 ∷ to_be_bytes w32 a.offer ++ node_bytes a.node
message_text (messages.Answer a) = 3 ∷ to_be_bytes w32 a.offer ++ node_bytes a.node ++ to_be_bytes w64 (length a.text) ++ a.text

-- a message whose offer number and digest have their widths, and whose node is one of a tree; the format and the range
-- of an offer are bytes by their types
abbrev pub IsMessage : Message → Type 0
IsMessage (messages.Offer o) = (o.offer < 2 ^ 32) × (length o.root ≡ 32)
IsMessage (messages.Ask a) = (a.offer < 2 ^ 32) × IsNode 3 a.node
IsMessage (messages.Answer a) = (a.offer < 2 ^ 32) × IsNode 3 a.node

-- The result of decoding: the message with these bytes; BadMessage if no message has them; NoMemory only if an answer
-- has them.
abbrev pub Decodes : List ℕ → Result Message Refusal → Type 0
Decodes bytes (Ok m) = IsMessage m × (message_text m ≡ bytes)
Decodes bytes (Err refusals.BadMessage) = (m : Message) → IsMessage m → message_text m ≡ bytes → ⊥
Decodes bytes (Err refusals.NoMemory) = (a : Answer) × IsMessage (messages.Answer a) × (message_text (messages.Answer a) ≡ bytes)
Decodes bytes (Err e) = ⊥

-- the bytes encode an answer
abbrev pub IsAnswerOf : List ℕ → Answer → Type 0
IsAnswerOf bytes a = IsMessage (messages.Answer a) × (message_text (messages.Answer a) ≡ bytes)

-- the bytes encode no answer
abbrev pub IsNoAnswer : List ℕ → Type 0
IsNoAnswer bytes = (a : Answer) → IsMessage (messages.Answer a) → message_text (messages.Answer a) ≡ bytes → ⊥
