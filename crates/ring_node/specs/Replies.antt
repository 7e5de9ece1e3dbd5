-- The replies of a pool of offers to the messages of a link.
use Rattle.std.specs.Prelude.{◌≡◌, List, ℕ, None, MatchOption}
use Rattle.walk_messages.specs.Messages.{message_text}
use Rattle.walk_messages.specs.declared.message.Answer.{Answer}
use Rattle.walk_messages.specs.declared.message.Ask.{Ask}
use Rattle.walk_messages.specs.declared.message.Message.{Message}
use Rattle.walk_messages.specs.declared.message.Message.TheVariants as messages
use Rattle.ring_node.specs.Moments.{FoundAtSomeMoment}
use Rattle.ring_node.specs.Offers.{Offers, AreOffers, latest, kept_under, IsAnswerIn}
use Rattle.ring_node.specs.declared.server.ServerReply.{ServerReply}
use Rattle.ring_node.specs.declared.server.ServerReply.TheVariants.{Bytes, Gone, Refused}

-- the message of the newest offer, or Gone if none was published
abbrev pub RepliesOffer : ServerReply → Type 0
RepliesOffer (Bytes bytes) = FoundAtSomeMoment AreOffers (λ o. MatchOption (latest o) ⊥ (λ offer. bytes.items ≡ message_text (messages.Offer offer)))
RepliesOffer Gone = FoundAtSomeMoment AreOffers (λ o. latest o ≡ None)
RepliesOffer Refused = Unit {0}

-- the bytes of a message, or a refusal
abbrev pub IsEncoded : Message → ServerReply → Type 0
IsEncoded message (Bytes bytes) = bytes.items ≡ message_text message
IsEncoded message Gone = ⊥
IsEncoded message Refused = Unit {0}

-- bytes are the message of an answer to an ask
pub record IsReplyIn (o : Offers) (asked bytes : List ℕ) : Type 0 where
  pub ask : Ask
  pub answer : Answer
  pub asks : message_text (messages.Ask ask) ≡ asked
  pub answers : IsAnswerIn o ask answer
  pub says : bytes ≡ message_text (messages.Answer answer)

-- an ask is for an offer that is not kept
pub record IsGoneIn (o : Offers) (asked : List ℕ) : Type 0 where
  pub ask : Ask
  pub asks : message_text (messages.Ask ask) ≡ asked
  pub gone : kept_under o ask.offer ≡ None

-- the message of an answer to an ask, or Gone if the offer is not kept
abbrev pub RepliesAsk : List ℕ → ServerReply → Type 0
RepliesAsk asked (Bytes bytes) = FoundAtSomeMoment AreOffers (λ o. IsReplyIn o asked bytes.items)
RepliesAsk asked Gone = FoundAtSomeMoment AreOffers (λ o. IsGoneIn o asked)
RepliesAsk asked Refused = Unit {0}
