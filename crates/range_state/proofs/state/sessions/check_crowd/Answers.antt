use Rattle.std.proofs.Common.{rules, ◌≡◌, Some, None, length, if◌then◌else◌, ◌∙◌}
use Rattle.std.specs.Prelude.{nat_le, ◌||◌}
use Rattle.vclock.specs.declared.refusal.Refusal.TheVariants.{SessionsFull}
use Rattle.range_state.specs.Records.{open_count}
use Rattle.range_state.proofs.SessionLaws.{crowd_by}
use Rattle.range_state.proofs.state.sessions.check_crowd.Goals as goal

pub returns-then-open_count-ge-OPEN_SESSIONS_MAX : goal.returns-then-open_count-ge-OPEN_SESSIONS_MAX
returns-then-open_count-ge-OPEN_SESSIONS_MAX c =
    let rs = c.args.records.now in
    let full : (if nat_le 64 (open_count rs) || nat_le 1024 (length rs) then Some SessionsFull else None) ≡ Some SessionsFull = search rules in
    crowd_by rs ∙ full

pub returns : goal.returns
returns c =
    let rs = c.args.records.now in
    let room : (if nat_le 64 (open_count rs) || nat_le 1024 (length rs) then Some SessionsFull else None) ≡ None = search rules in
    (crowd_by rs ∙ room, tt)
