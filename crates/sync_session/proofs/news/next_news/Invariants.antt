use Rattle.std.proofs.Common.{ℕ, ◌≤◌, List, length}
use Rattle.row_bytes.specs.declared.row.Row.{Row}
use Rattle.sync_session.specs.Readings.{IsReadTo}
use Rattle.sync_session.proofs.news.next_news.Given as goal

abbrev pub invariant-rows : goal.invariant-rows
invariant-rows l = record {
  read : (text : List ℕ) (others : List Row) → IsReadTo l.own l.fn.node text l.initial.last l.initial.rest others l.initial.known
      → IsReadTo l.own l.fn.node text l.last l.rest others l.known;
  shorter : length l.rest ≤ length l.initial.rest;
}

abbrev pub decreases-rows : goal.decreases-rows
decreases-rows l = length l.rest
