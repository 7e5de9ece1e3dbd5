use Rattle.range_journal.proofs.JournalLaws.{AreNews-push}
use Rattle.range_journal.proofs.laws.news_stay_news.Goals as goal

pub returns : goal.returns
returns c entries entry news new = AreNews-push entries entry news new
