-- The parts of an offer, for C.
use Rattle.std.specs.Prelude.{◌≡◌, Result, Ok, Err}
use Rattle.vclock.specs.declared.refusal.Refusal.{Refusal}
use Rattle.vclock.specs.declared.refusal.Refusal.TheVariants.{BadMessage}
use Rattle.walk_messages.specs.declared.message.Offer.{Offer}
use Rattle.walk_messages.specs.declared.message.Message.{Message}
use Rattle.walk_messages.specs.declared.message.Message.TheVariants as messages
use Rattle.c_calls.specs.declared.offer_parts.OfferParts.{OfferParts}

-- a decoded message is an offer, or refused
abbrev pub IsOffer : Result Offer Refusal → Result Message Refusal → Type 0
IsOffer r (Ok (messages.Offer offer)) = r ≡ Ok offer
IsOffer r (Ok (messages.Ask ask)) = r ≡ Err BadMessage
IsOffer r (Ok (messages.Answer answer)) = r ≡ Err BadMessage
IsOffer r (Err e) = r ≡ Err e

-- the caller gets the parts of an offer, unless it was refused
abbrev pub TellsParts : Result Offer Refusal → OfferParts → OfferParts → Type 0
TellsParts (Ok o) old new = new ≡ record { number = o.offer; format = o.format; range = o.range; root = o.root }
TellsParts (Err e) old new = new ≡ old
