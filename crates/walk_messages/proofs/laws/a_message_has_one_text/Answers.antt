use Rattle.walk_messages.proofs.OneText.{one_message}
use Rattle.walk_messages.proofs.laws.a_message_has_one_text.Goals as goal

pub returns : goal.returns
returns c = one_message
