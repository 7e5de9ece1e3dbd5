-- The offers that a node makes of its snapshots: the Dynamo paper, section 4.7. The number of kept offers is this
-- project's profile.
use Rattle.std.specs.Prelude.{◌≡◌, ℕ, ◌+◌, ◌-◌, ◌≤◌, ◌^◌, nat_lt, ◌==◌, List, [], ◌∷◌, ◌++◌, length, drop, find, slice_get, Option, Some, None, MatchOption, if◌then◌else◌}
use Rattle.std.specs.List.{AllByRecursion}
use Rattle.std.specs.Option.{option_map}
use Rattle.vclock.specs.Format.{format_number}
use Rattle.vclock.specs.Outcome.{Outcome, gives, ◌>>◌}
use Rattle.vclock.specs.declared.refusal.Refusal.{Refusal}
use Rattle.vclock.specs.declared.refusal.Refusal.TheVariants.{SessionsFull, Gone}
use Rattle.tree_nodes.specs.Nodes.{Node}
use Rattle.walk_messages.specs.declared.message.Answer.{Answer}
use Rattle.walk_messages.specs.declared.message.Ask.{Ask}
use Rattle.walk_messages.specs.declared.message.Offer.{Offer}
use Rattle.snapshot.specs.RowMaps.{RowMap, IsRowMap, text_at, root_of}
use Rattle.snapshot.specs.Snapshots.{answer_fault}
use Rattle.text_patch.specs.Marks.{MarkList}
use Rattle.text_patch.specs.Messages.{patch_of}
use Rattle.ring_node.specs.declared.offers.OfferCounts.{OfferCounts}

-- the rows of a snapshot that was published, with the number of its offer
pub record Offered : Type 0 where
  pub number : ℕ
  pub rows : RowMap

-- the number of the newest offer, 0 before the first, and the kept ones, the oldest first
pub record Offers : Type 0 where
  pub last : ℕ
  pub kept : List Offered

-- The facts that hold whenever the lock is free: at most 16 offers are kept, and the rows of each are valid.
pub record AreOffers (o : Offers) : Type 0 where
  pub few : length o.kept ≤ 16
  pub right : AllByRecursion (λ (p : Offered). IsRowMap p.rows) o.kept

-- nothing was published yet
abbrev pub unpublished : Offers
unpublished = record { last = 0; kept = [] }

-- the offer of some rows
abbrev pub offer_of : Offered → Offer
offer_of p = record { offer = p.number; format = format_number p.rows.format; range = p.rows.range; root = root_of p.rows }

-- the fault if nothing can be published: the last number was used
abbrev pub number_fault : Offers → Option Refusal
number_fault o = if nat_lt o.last (2 ^ 32 - 1) then None else Some SessionsFull

-- the kept offers, without the oldest if there are 16
abbrev pub with_room : List Offered → List Offered
with_room kept = if nat_lt (length kept) 16 then kept else drop 1 kept

-- rows are published under the next number
abbrev pub publish : Offers → RowMap → Outcome Offer Offers
publish o m = do
  number_fault o
  gives (offer_of (record { number = o.last + 1; rows = m })) (record { last = o.last + 1; kept = with_room o.kept ++ (record { number = o.last + 1; rows = m }) ∷ [] })

-- the newest offer, if any
abbrev pub latest : Offers → Option Offer
latest o = option_map offer_of (slice_get o.kept (length o.kept - 1))

-- the number of offers kept, and the newest offer's number
abbrev pub counts_of : Offers → OfferCounts
counts_of o = record { kept = length o.kept; newest = o.last }

-- the offer of that number, if it is kept
abbrev pub kept_under : Offers → ℕ → Option Offered
kept_under o number = find (λ (p : Offered). p.number == number) o.kept

-- the fault of an ask for the text of a node: the offer is not kept, or its tree does not have the node
abbrev pub text_fault : Option Offered → Node → Option Refusal
text_fault None node = Some Gone
text_fault (Some p) node = answer_fault p.rows node

abbrev pub serve_fault : Offers → Ask → Option Refusal
serve_fault o ask = text_fault (kept_under o ask.offer) ask.node

-- the answer to an ask: the text of the node in the tree that was offered
pub record IsAnswerOf (p : Offered) (ask : Ask) (a : Answer) : Type 0 where
  pub offer : a.offer ≡ ask.offer
  pub node : a.node ≡ ask.node
  pub text : a.text ≡ text_at p.rows ask.node.depth ask.node.index

abbrev pub IsAnswerIn : Offers → Ask → Answer → Type 0
IsAnswerIn o ask a = MatchOption (kept_under o ask.offer) ⊥ (λ p. IsAnswerOf p ask a)

-- bytes are the patch for an outline: it makes the text of the node in the tree that was offered
abbrev pub IsPatchIn : Offers → Ask → MarkList → List ℕ → Type 0
IsPatchIn o ask marks bytes = MatchOption (kept_under o ask.offer) ⊥ (λ p. bytes ≡ patch_of p.rows ask marks)
