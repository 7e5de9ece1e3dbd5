use Rattle.std.proofs.Common.{◌≡◌, [], ◌∷◌, ◌++◌, drop}
use Rattle.json.specs.Token.{Token}
use Rattle.outage_script.proofs.AnswerLemmas.{members_left}
use Rattle.outage_script.proofs.part.write_object.Given as goal

-- what was written and what is left are the whole object
abbrev pub invariant-loop-member : goal.invariant-loop-member
invariant-loop-member l =
    (l.out.tokens ++ members_left (drop l.member-index l.members) ≡ (l.fn.out.tokens ++ Token.begin_object ∷ []) ++ members_left l.members)
    × (l.out.before ≡ l.fn.out.before)
