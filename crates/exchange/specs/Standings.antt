-- The state of the asks for the nodes of a tree: the standing of each node, by its place.
use Rattle.std.specs.Prelude.{ℕ, Bool, true, false, List, [], ◌∷◌, Option, Some, None, slice_get, slice_set, if◌then◌else◌}
use Rattle.std.specs.List.{filter, sum_by, count_by}
use Rattle.tree_nodes.specs.Nodes.{Node, place_of}
use Rattle.exchange.specs.declared.standing.Standing.{Standing}
use Rattle.exchange.specs.declared.standing.Standing.TheVariants.{Unasked, InFlight, Lost, Left, Settled}

-- an ask is in progress
abbrev pub is_in_flight : Standing → Bool
is_in_flight (InFlight bytes) = true
is_in_flight Unasked = false
is_in_flight Lost = false
is_in_flight Left = false
is_in_flight Settled = false

-- an ask was sent, once or more
abbrev pub is_asked : Standing → Bool
is_asked Unasked = false
is_asked (InFlight bytes) = true
is_asked Lost = true
is_asked Left = true
is_asked Settled = true

-- the last ask was lost
abbrev pub is_lost : Standing → Bool
is_lost Lost = true
is_lost Unasked = false
is_lost (InFlight bytes) = false
is_lost Left = false
is_lost Settled = false

-- the leaf was left
abbrev pub is_left : Standing → Bool
is_left Left = true
is_left Unasked = false
is_left (InFlight bytes) = false
is_left Lost = false
is_left Settled = false

-- the size of the answer to an ask in progress
abbrev pub flight_bytes : Standing → ℕ
flight_bytes (InFlight bytes) = bytes
flight_bytes Unasked = 0
flight_bytes Lost = 0
flight_bytes Left = 0
flight_bytes Settled = 0

-- the number of asks in progress, and the size of their answers
abbrev pub in_flight : List Standing → ℕ
in_flight standings = count_by is_in_flight standings

abbrev pub bytes_in_flight : List Standing → ℕ
bytes_in_flight standings = sum_by flight_bytes standings

-- the standing of a node, if the tree has it
abbrev pub standing_of : List Standing → Node → Option Standing
standing_of standings n = slice_get standings (place_of n)

abbrev pub with_standing : List Standing → Node → Standing → List Standing
with_standing standings n s = slice_set standings (place_of n) s

-- a node with this standing may be asked: it never was, or its ask was lost
abbrev pub may_ask : Option Standing → Bool
may_ask (Some Unasked) = true
may_ask (Some Lost) = true
may_ask (Some (InFlight bytes)) = false
may_ask (Some Left) = false
may_ask (Some Settled) = false
may_ask None = false

-- the answer for a node with this standing may be taken: its ask was sent, and it isn't settled
abbrev pub may_take : Option Standing → Bool
may_take (Some Unasked) = false
may_take (Some Lost) = true
may_take (Some (InFlight bytes)) = true
may_take (Some Left) = false
may_take (Some Settled) = false
may_take None = false

-- a node with this standing was ever asked
abbrev pub was_asked : Option Standing → Bool
was_asked (Some s) = is_asked s
was_asked None = false

-- the ask for a node with this standing is in progress
abbrev pub is_sent : Option Standing → Bool
is_sent (Some s) = is_in_flight s
is_sent None = false

-- the size of its answer
abbrev pub sent_bytes : Option Standing → ℕ
sent_bytes (Some s) = flight_bytes s
sent_bytes None = 0

-- the ask for a node, if it is in progress, is lost
abbrev pub lost_in : List Standing → Node → List Standing
lost_in standings n = if is_sent (standing_of standings n) then with_standing standings n Lost else standings

-- a node with this standing was left
abbrev pub was_left : Option Standing → Bool
was_left (Some s) = is_left s
was_left None = false

-- the first of some nodes that may be asked, if any
abbrev pub first_askable : List Standing → List Node → Option Node
first_askable standings [] = None
first_askable standings (n ∷ nodes) = if may_ask (standing_of standings n) then Some n else first_askable standings nodes

-- the left nodes among some nodes
abbrev pub left_in : List Standing → List Node → List Node
left_in standings nodes = filter (λ n. was_left (standing_of standings n)) nodes
