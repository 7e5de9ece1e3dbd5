-- How a pool of offers replies to an ask.
use Rattle.std.proofs.lemmas.Bool.Decides.{nat_tests}
use Rattle.std.proofs.Common.{arith, ◌≡◌, ◌<◌, inl, inr, ℕ, List, Option, Some, None, Ok, Err, refl}
use Rattle.vclock.specs.Answer.{Answers}
use Rattle.vclock.specs.declared.refusal.Refusal.TheVariants as refusals
use Rattle.tree_nodes.specs.Nodes.{Node, tree_depth}
use Rattle.walk_messages.specs.Messages.{message_text}
use Rattle.walk_messages.specs.declared.message.Answer.{Answer}
use Rattle.walk_messages.specs.declared.message.Ask.{Ask}
use Rattle.walk_messages.specs.declared.message.Message.TheVariants as messages
use Rattle.ring_node.specs.Moments.{FoundAtSomeMoment}
use Rattle.ring_node.specs.Offers.{Offered, AreOffers, kept_under, text_fault, serve_fault, IsAnswerIn}
use Rattle.ring_node.specs.Replies.{RepliesAsk, IsEncoded, IsGoneIn}
use Rattle.ring_node.specs.declared.server.ServerReply.{ServerReply}
use Rattle.ring_node.specs.declared.server.ServerReply.TheVariants.{Bytes, Gone, Refused}
use Rattle.ring_node.proofs.CauseLaws.{where_fails}

-- an ask is too deep for the tree that was offered
pub too_deep : (o : Option Offered) (p : Offered) (node : Node) → o ≡ Some p → tree_depth p.rows.format < node.depth
    → text_fault o node ≡ Some refusals.BadMessage
too_deep o p node is deep = rw is (grind (arith, nat_tests))

-- what a pool answers to an ask, at some moment
abbrev pub Served : Ask → Answer → Type 0
Served ask a = FoundAtSomeMoment AreOffers (λ o. Answers (Ok a) (serve_fault o ask) (IsAnswerIn o ask))

pub replied : (asked : List ℕ) (ask : Ask) (a : Answer) (r : ServerReply) → message_text (messages.Ask ask) ≡ asked → Served ask a
    → IsEncoded (messages.Answer a) r → RepliesAsk asked r
replied asked ask a (Bytes bytes) asks served says = record {
  state = served.state;
  right = served.right;
  seen = record { ask = ask; answer = a; asks = asks; answers = served.seen.1; says = says };
}
replied asked ask a Gone asks served says = absurd says
replied asked ask a Refused asks served says = tt

none_kept : (o : Option Offered) (node : Node) → text_fault o node ≡ Some refusals.Gone → o ≡ None
none_kept None node is = refl
none_kept (Some p) node is = absurd (let clash : refusals.Gone ≡ refusals.BadMessage = where_fails _ refusals.BadMessage refusals.Gone is in cc)

pub gone : (asked : List ℕ) (ask : Ask) → message_text (messages.Ask ask) ≡ asked
    → FoundAtSomeMoment AreOffers (λ o. Answers {T = Answer} (Err refusals.Gone) (serve_fault o ask) (IsAnswerIn o ask))
    → FoundAtSomeMoment AreOffers (λ o. IsGoneIn o asked)
gone asked ask asks served = record {
  state = served.state;
  right = served.right;
  seen = record {
    ask = ask;
    asks = asks;
    gone = elim served.seen [
      | inl short ↦ absurd (let clash = short.1 in cc)
      | inr is ↦ none_kept (kept_under served.state ask.offer) ask.node is
    ];
  };
}
