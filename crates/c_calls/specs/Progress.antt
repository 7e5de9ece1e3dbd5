-- The progress of an exchange, for C.
use Rattle.std.specs.Prelude.{◌≡◌, ℕ, Option, Some, None}
use Rattle.tree_nodes.specs.Nodes.{Node}
use Rattle.range_state.specs.State.{State}
use Rattle.exchange.specs.Standings.{in_flight, bytes_in_flight}
use Rattle.exchange.specs.Exchanges.{report_in}
use Rattle.exchange.specs.declared.exchange.Exchange.{Exchange}
use Rattle.exchange.specs.declared.report.Report.{Report}
use Rattle.exchange.specs.declared.report.Report.TheVariants as reports
use Rattle.c_calls.specs.Exchanges.{stop_number}
use Rattle.c_calls.specs.Numbers.{NO_VERSION}
use Rattle.c_calls.specs.declared.progress.LeftNode.{LeftNode}
use Rattle.c_calls.specs.declared.progress.Progress.{Progress}

abbrev pub report_number : Report → ℕ
report_number reports.Finished = 0
report_number reports.Waiting = 1
report_number reports.Left = 2
report_number (reports.Stopped stop) = 3
report_number reports.TooManyBad = 4
report_number reports.TooManyLost = 5
report_number reports.Failed = 6
report_number reports.Closed = 7
report_number reports.Gone = 8

-- the number of the cause, if asks stopped
abbrev pub report_cause : Report → ℕ
report_cause (reports.Stopped stop) = stop_number stop
report_cause reports.Finished = 0
report_cause reports.Waiting = 0
report_cause reports.Left = 0
report_cause reports.TooManyBad = 0
report_cause reports.TooManyLost = 0
report_cause reports.Failed = 0
report_cause reports.Closed = 0
report_cause reports.Gone = 0

-- the report of an exchange with its counts
abbrev pub progress_in : Exchange → State → Progress
progress_in x s = record { report = report_number (report_in x s); cause = report_cause (report_in x s); asks = x.course.tally.asks; in_flight = in_flight x.course.standings; bytes_in_flight = bytes_in_flight x.course.standings; bad = x.course.tally.bad; lost = x.course.tally.lost; accepted = x.course.tally.accepted; known = x.course.tally.known; leaves = x.course.tally.leaves }

-- the caller gets a node, if any; otherwise the result is NO_VERSION, and nothing is written
abbrev pub TellsNode : Option Node → ℕ → LeftNode → LeftNode → Type 0
TellsNode (Some n) code old new = (code ≡ 0) × (new ≡ record { depth = n.depth; index = n.index })
TellsNode None code old new = (code ≡ NO_VERSION) × (new ≡ old)
