use Rattle.std.proofs.Common.{rules}
use Rattle.std.proofs.lemmas.List.Sorted.{IsPartitionPoint-from_clause}
use Rattle.hint_store.specs.Waits.{is_up_to}
use Rattle.hint_store.proofs.WaitLaws.{index_partitioned}
use Rattle.hint_store.proofs.store.place_after.Goals as goal

pub returns-clause-place : goal.returns-clause-place
returns-clause-place c =
    IsPartitionPoint-from_clause (is_up_to c.args.owner c.args.id) c.args.pending.now c.partition_point.result c.partition_point.ensures.partitioned
    (index_partitioned c.args.owner c.args.id c.args.pending.now c.requires) (λ a r f k. search rules)
