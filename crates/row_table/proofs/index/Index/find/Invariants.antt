use Rattle.row_table.proofs.TableLaws.{IsSearched}
use Rattle.row_table.proofs.index.Index.find.Given as goal

abbrev pub invariant-loop-next : goal.invariant-loop-next
invariant-loop-next l = IsSearched l.fn.seed l.self.size l.rows l.key l.next

abbrev pub decreases-loop-next : goal.decreases-loop-next
decreases-loop-next l = l.next
