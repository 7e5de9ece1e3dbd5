use Rattle.std.proofs.Common.{rules}
use Rattle.ring_node.proofs.ReplyLaws.{replied, gone}
use Rattle.ring_node.proofs.offers.OfferPool.reply_to.Goals as goal

pub returns-in-Ok-serve : goal.returns-in-Ok-serve
returns-in-Ok-serve g c =
    replied c.args.message.now c.in-Ok.ask c.in-Ok-serve.answer c.encoded.result (search rules) c.in-Ok-serve.ensures.moment c.encoded.ensures

pub returns-in-Err-Gone : goal.returns-in-Err-Gone
returns-in-Err-Gone g c = gone c.args.message.now c.in-Ok.ask (search rules) (search rules)
