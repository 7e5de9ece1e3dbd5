-- An exchange's answers: sorted, taken and refused.
use Rattle.std.specs.Prelude.{◌≡◌, ℕ, ◌+◌, nat_eq, Bool, List, length, Option, Some, None, Result, Ok, Err, if◌then◌else◌}
use Rattle.vclock.specs.declared.refusal.Refusal.{Refusal}
use Rattle.vclock.specs.declared.refusal.Refusal.TheVariants as refusals
use Rattle.tree_nodes.specs.Nodes.{Node}
use Rattle.walk_messages.specs.Messages.{IsAnswerOf, IsNoAnswer}
use Rattle.walk_messages.specs.declared.message.Answer.{Answer}
use Rattle.sync_session.specs.declared.state.SessionState.{SessionState}
use Rattle.sync_session.specs.declared.state.SessionState.TheVariants as states
use Rattle.range_state.specs.declared.event.AnswerTaken.{AnswerTaken}
use Rattle.exchange.specs.declared.tally.Tally.{Tally}
use Rattle.exchange.specs.declared.standing.Standing.{Standing}
use Rattle.exchange.specs.declared.standing.Standing.TheVariants as standings
use Rattle.exchange.specs.declared.report.Stop.{Stop}
use Rattle.exchange.specs.declared.report.Stop.TheVariants as stops
use Rattle.exchange.specs.declared.report.End.{End}
use Rattle.exchange.specs.declared.report.End.TheVariants as ends
use Rattle.exchange.specs.declared.verdict.Verdict.{Verdict}
use Rattle.exchange.specs.declared.verdict.Verdict.TheVariants as verdicts
use Rattle.exchange.specs.Standings.{standing_of, with_standing, is_sent, lost_in}
use Rattle.exchange.specs.Courses.{Course, plus}

-- ---- answers without a session

-- one more bad answer
abbrev pub with_bad : Course → Course
with_bad x = record x { tally = record x.tally { bad = x.tally.bad + 1 } }

-- an answer is due, or there is a verdict on it already
abbrev pub Sorted : Type 0
Sorted = Result Answer Verdict

-- sorted, by the standing of the node that the answer names
abbrev pub sorted_at : Course → Answer → Option Standing → Sorted × Course
sorted_at x a (Some (standings.InFlight bytes)) = (Ok a, x)
sorted_at x a (Some standings.Lost) = (Ok a, x)
sorted_at x a (Some standings.Left) = (Err verdicts.Late, x)
sorted_at x a (Some standings.Settled) = (Err verdicts.Late, x)
sorted_at x a (Some standings.Unasked) = (Err (verdicts.Bad refusals.NotAsked), with_bad x)
sorted_at x a None = (Err (verdicts.Bad refusals.NotAsked), with_bad x)

-- sorted: bytes that aren't an answer are bad, and an answer to another offer is late
abbrev pub sorted : Course → Option Answer → Sorted × Course
sorted x None = (Err (verdicts.Bad refusals.BadMessage), with_bad x)
sorted x (Some a) = if nat_eq a.offer x.offer.offer then sorted_at x a (standing_of x.standings a.node) else (Err verdicts.Late, x)

-- the node and the text of a due answer
abbrev pub IsDueBy : Sorted × Course → Node × List ℕ → Course → Type 0
IsDueBy (Ok a, c) parts new = (parts ≡ (a.node, a.text)) × (new ≡ c)
IsDueBy (Err w, c) parts new = ⊥

-- the verdict on any other answer
abbrev pub IsVerdictBy : Sorted × Course → Verdict → Course → Type 0
IsVerdictBy (Ok a, c) v new = ⊥
IsVerdictBy (Err w, c) v new = (v ≡ w) × (new ≡ c)

-- the answer with these bytes, if any
abbrev pub IsRead : List ℕ → Option Answer → Type 0
IsRead bytes None = IsNoAnswer bytes
IsRead bytes (Some a) = IsAnswerOf bytes a

-- ---- answers taken by a session

abbrev pub at_node : Course → Node → Standing → Course
at_node x n s = record x { standings = with_standing x.standings n s }

-- a text of that length was taken
abbrev pub tallied : Tally → AnswerTaken → Bool → ℕ → Tally
tallied t taken leaf len = record t { accepted = plus t.accepted (length taken.receipts.items); known = plus t.known taken.known; leaves = (if leaf then plus t.leaves 1 else t.leaves); leaf_bytes = (if leaf then plus t.leaf_bytes len else t.leaf_bytes) }

-- the end by the state of the session
abbrev pub end_by : SessionState → Option End
end_by states.Finished = Some ends.Finished
end_by states.Open = None
end_by states.Failed = None
end_by states.Cancelled = None

abbrev pub after_taken : Course → Node → Bool → ℕ → AnswerTaken → Course
after_taken x n leaf len taken = record x { standings = with_standing x.standings n standings.Settled; tally = tallied x.tally taken leaf len; end = end_by taken.state }

-- ---- answers refused by a session

-- another digest: if the node's ask was in progress, it may be sent again
abbrev pub after_wrong : Course → Node → Course
after_wrong x n = record x { standings = lost_in x.standings n; tally = record x.tally { bad = x.tally.bad + 1 } }

-- the first cause for which asks stopped
abbrev pub stop_by : Option Stop → Stop → Option Stop
stop_by None e = Some e
stop_by (Some first) e = Some first

-- an answer exceeded the capacity
abbrev pub after_refused : Course → Node → Stop → Course
after_refused x n e = record x { standings = lost_in x.standings n; tally = record x.tally { refused = x.tally.refused + (if is_sent (standing_of x.standings n) then 1 else 0) }; stop = stop_by x.stop e }

-- the verdict on an answer for a node, with a text of that length, by its session's result
abbrev pub judged : Course → Node → Bool → ℕ → Result AnswerTaken Refusal → Verdict × Course
judged x n leaf len (Ok taken) = (verdicts.Taken taken, after_taken x n leaf len taken)
judged x n leaf len (Err refusals.Crowded) = (verdicts.Left, at_node x n standings.Left)
judged x n leaf len (Err refusals.NotAsked) = (verdicts.Late, at_node x n standings.Settled)
judged x n leaf len (Err refusals.WrongDigest) = (verdicts.Bad refusals.WrongDigest, after_wrong x n)
judged x n leaf len (Err refusals.NotCanonical) = (verdicts.Failed, record x { end = Some ends.Failed })
judged x n leaf len (Err refusals.JournalFull) = (verdicts.Refused stops.JournalFull, after_refused x n stops.JournalFull)
judged x n leaf len (Err refusals.NoMemory) = (verdicts.Refused stops.NoMemory, after_refused x n stops.NoMemory)
judged x n leaf len (Err e) = (verdicts.Late, x)
