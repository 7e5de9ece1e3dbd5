use Rattle.c_calls.proofs.RenewalNumberLaws.{begins, keeps_last, keeps_number}
use Rattle.c_calls.proofs.laws.entries_since_a_moment_keep_their_numbers.Goals as goal

pub returns-clause-begins : goal.returns-clause-begins
returns-clause-begins c s m limit = begins s m limit

pub returns-clause-last : goal.returns-clause-last
returns-clause-last c r k l m limit n has is = keeps_last r k l m limit n has is

pub returns-clause-numbers : goal.returns-clause-numbers
returns-clause-numbers c r k l m limit n has is number e late here = keeps_number r k l m limit n has is number e late here
