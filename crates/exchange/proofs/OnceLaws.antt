-- A node is outlined once.
use Rattle.std.proofs.Common.{◌≡◌, ℕ, List, Bool, true, false, refl}
use Rattle.std.specs.Prelude.{◌&&◌, nat_le, nat_lt, Option, Some, None, if◌then◌else◌}
use Rattle.tree_nodes.specs.Nodes.{Node, tree_depth}
use Rattle.sync_session.specs.Walks.{Walk, expected, whole_digest}
use Rattle.exchange.specs.declared.outlining.Outlining.{Outlining}
use Rattle.exchange.specs.declared.outlining.Outlining.TheVariants.{Never, Sent, Ended}
use Rattle.exchange.specs.Standings.{standing_of, is_sent}
use Rattle.exchange.specs.Courses.{Course}
use Rattle.exchange.specs.Outlines.{Outlines, outlining_of, is_never, pays, outline_by, outline_for}

never_is : (o : Option Outlining) → is_never o ≡ true → o ≡ Some Never
never_is (Some Never) e = refl
never_is (Some Sent) e = absurd (cc)
never_is (Some Ended) e = absurd (cc)
never_is None e = absurd (cc)

-- what holds if all of five tests do
of_tests : (deep sent few never pay : Bool) (found : Option (List ℕ)) (bytes : List ℕ)
    → (if deep && (sent && ((few && never) && pay)) then found else None) ≡ Some bytes → never ≡ true
of_tests true true true true pay found bytes e = refl
of_tests true true true false pay found bytes e = absurd (cc)
of_tests true true false never pay found bytes e = absurd (cc)
of_tests true false few never pay found bytes e = absurd (cc)
of_tests false sent few never pay found bytes e = absurd (cc)

pub outlined_once : (o : Outlines) (x : Course) (w : Walk) (n : Node) (room : ℕ) (bytes : List ℕ) → outline_for o x w n room ≡ Some bytes
    → outlining_of o n ≡ Some Never
outlined_once o x w n room bytes e =
    never_is (outlining_of o n)
    (of_tests (nat_le n.depth (tree_depth w.own.format)) (is_sent (standing_of x.standings n)) (nat_lt o.misses 3) (is_never (outlining_of o n))
    (pays w.own n) (outline_by x w.own n room (whole_digest (expected w.root w.taken n))) bytes e)
