-- The course of an exchange: the asks in progress, the counts, and the end.
use Rattle.std.specs.Prelude.{◌≡◌, ℕ, ◌+◌, ◌-◌, ◌^◌, ◌≤◌, min, Bool, ◌||◌, nat_lt, is_some, List, [], length, replicate, Option, Some, None, if◌then◌else◌}
use Rattle.std.specs.List.{list_all, count_by}
use Rattle.vclock.specs.declared.format.Format.{Format}
use Rattle.tree_nodes.specs.Nodes.{Node, node_count}
use Rattle.walk_messages.specs.declared.message.Offer.{Offer}
use Rattle.sync_session.specs.Walks.{Walk}
use Rattle.sync_session.specs.declared.state.SessionState.{SessionState}
use Rattle.sync_session.specs.declared.state.SessionState.TheVariants as states
use Rattle.exchange.specs.declared.bounds.Bounds.{Bounds}
use Rattle.exchange.specs.declared.tally.Tally.{Tally}
use Rattle.exchange.specs.declared.standing.Standing.{Standing}
use Rattle.exchange.specs.declared.standing.Standing.TheVariants.{Unasked}
use Rattle.exchange.specs.declared.report.End.{End}
use Rattle.exchange.specs.declared.report.End.TheVariants as ends
use Rattle.exchange.specs.declared.report.Stop.{Stop}
use Rattle.exchange.specs.declared.report.Report.{Report}
use Rattle.exchange.specs.declared.report.Report.TheVariants as reports
use Rattle.exchange.specs.Standings.{is_asked, is_lost, in_flight, standing_of, was_left, lost_in, is_sent}

-- the partner's offer, the bounds, the standing of each node by its place, the counts, the cause for which asks
-- stopped, if they did, and the end, if any
pub record Course : Type 0 where
  pub offer : Offer
  pub bounds : Bounds
  pub standings : List Standing
  pub tally : Tally
  pub stop : Option Stop
  pub end : Option End

-- a sum of counts, at most 2^64 - 1
abbrev pub plus : ℕ → ℕ → ℕ
plus a b = min (a + b) (2 ^ 64 - 1)

-- nothing is counted yet
abbrev pub no_tally : Tally
no_tally = record { asks = 0; bad = 0; lost = 0; refused = 0; accepted = 0; known = 0; leaves = 0; leaf_bytes = 0 }

-- The facts of each course. Each ask beyond the first for a node follows a bad answer, a lost ask or a refused answer.
-- The number of asks is at most the number of the tree's nodes plus the bad answers and lost asks that the bounds
-- allow.
pub record IsFair (x : Course) : Type 0 where
  pub nodes : length x.standings ≤ 4369
  pub again : x.tally.asks + count_by is_lost x.standings ≤ count_by is_asked x.standings + x.tally.bad + x.tally.lost + x.tally.refused
  pub most : x.tally.asks ≤ length x.standings + x.bounds.bad + x.bounds.lost
  pub bad : x.tally.bad ≤ x.bounds.bad + 1
  pub lost : x.tally.lost ≤ x.bounds.lost + 1 + length x.standings
  pub refused : x.tally.refused + in_flight x.standings ≤ length x.standings
  pub sent : in_flight x.standings ≤ x.tally.asks
  pub going : x.stop ≡ None → x.tally.refused ≡ 0

-- it is over: it has ended, or too many answers were bad, or too many asks were lost
abbrev pub is_over : Course → Bool
is_over x = is_some x.end || nat_lt x.bounds.bad x.tally.bad || nat_lt x.bounds.lost x.tally.lost

-- ---- the start

-- no node of a tree was asked
abbrev pub unasked : Format → List Standing
unasked format = replicate (node_count format) Unasked

abbrev pub begun : Offer → Bounds → List Standing → Course
begun offer bounds standings = record { offer = offer; bounds = bounds; standings = standings; tally = no_tally; stop = None; end = None }

-- nothing has to be asked, since the roots are equal
abbrev pub level : Offer → Bounds → Course
level offer bounds = record { offer = offer; bounds = bounds; standings = []; tally = no_tally; stop = None; end = Some ends.Finished }

-- ---- lost asks

-- one more lost ask
abbrev pub with_lost : Course → Node → Course
with_lost x n = record x { standings = lost_in x.standings n; tally = record x.tally { lost = x.tally.lost + 1 } }

-- the ask for a node, if it is in progress, is lost
abbrev pub after_loss : Course → Node → Course
after_loss x n = if is_over x then x else if is_sent (standing_of x.standings n) then with_lost x n else x

-- the ask in progress for a node is withdrawn, and may be sent again
abbrev pub retracted : Course → Node → Course
retracted x n = record x { standings = lost_in x.standings n; tally = record x.tally { asks = x.tally.asks - 1 } }

-- asks are sent again, and refused answers count as lost
abbrev pub gone_on : Course → Course
gone_on x = record x { stop = None; tally = record x.tally { lost = x.tally.lost + x.tally.refused; refused = 0 } }

abbrev pub after_go_on : Course → Course
after_go_on x = if is_over x then x else gone_on x

-- ---- the end by its owner

-- the end so far, or Closed
abbrev pub closed_end : Option End → Option End
closed_end None = Some ends.Closed
closed_end (Some e) = Some e

abbrev pub closed : Course → Course
closed x = record x { end = closed_end x.end }

-- ---- the report

-- all these nodes were left
abbrev pub are_left : List Standing → List Node → Bool
are_left standings nodes = list_all (λ n. was_left (standing_of standings n)) nodes

-- the report within the bounds
abbrev pub going_report : Course → List Node → Option Stop → Report
going_report x nodes (Some e) = reports.Stopped e
going_report x nodes None = if are_left x.standings nodes then reports.Left else reports.Waiting

-- the report on a session in progress
abbrev pub bounded_report : Course → List Node → Report
bounded_report x nodes =
    if nat_lt x.bounds.bad x.tally.bad then reports.TooManyBad
    else if nat_lt x.bounds.lost x.tally.lost then reports.TooManyLost
    else going_report x nodes x.stop

abbrev pub report_by_state : Course → List Node → SessionState → Report
report_by_state x nodes states.Open = bounded_report x nodes
report_by_state x nodes states.Finished = reports.Finished
report_by_state x nodes states.Failed = reports.Failed
report_by_state x nodes states.Cancelled = reports.Gone

abbrev pub walk_report : Course → Option Walk → Report
walk_report x None = reports.Gone
walk_report x (Some w) = report_by_state x w.outstanding w.state

abbrev pub end_report : End → Report
end_report ends.Finished = reports.Finished
end_report ends.Failed = reports.Failed
end_report ends.Closed = reports.Closed

abbrev pub report_by : Course → Option Walk → Option End → Report
report_by x w (Some e) = end_report e
report_by x w None = walk_report x w

-- the report by the end, or by the walk of the session, if any
abbrev pub report_of : Course → Option Walk → Report
report_of x w = report_by x w x.end
