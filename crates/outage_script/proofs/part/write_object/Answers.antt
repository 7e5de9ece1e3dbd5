use Rattle.std.proofs.Common.{◌≤◌, [], ◌∷◌, ◌++◌, length, append_assoc, sym, ap, ◌∙◌}
use Rattle.json.specs.Token.{Token}
use Rattle.outage_script.proofs.AnswerLemmas.{members_left, member_written, members_end}
use Rattle.outage_script.proofs.part.write_object.Goals as goal

pub loop-member-preserved : goal.loop-member-preserved
loop-member-preserved c = (
  member_written c.args.members.now c.loop-member.out.tokens c.key.new.self.tokens c.write_part.new.out.tokens c.loop-member.member-index
      c.member-item.result c.loop-member-test.true c.member-item.is c.in_ok-key.ensures.ok c.in_ok-write_part.ensures.tokens
      ∙ c.loop-member.invariant.0,
  c.write_part.ensures.before ∙ c.in_ok-key.ensures.room.0 ∙ c.loop-member.invariant.1,
)

pub returns-clause-tokens : goal.returns-clause-tokens
returns-clause-tokens c =
    let past : length c.args.members.now ≤ c.loop-member.member-index = c.loop-member-test.false in
    c.in_ok-end_object.ensures.ok
    ∙ ap (λ ts. c.loop-member.out.tokens ++ ts) (sym (members_end c.args.members.now c.loop-member.member-index past))
    ∙ c.loop-member.invariant.0
    ∙ append_assoc c.args.out.now.tokens (Token.begin_object ∷ []) (members_left c.args.members.now)
