use Rattle.range_store.specs.declared.context_test.ContextTest.TheVariants.{Read}
use Rattle.range_store.proofs.PutLaws.{put_by_is_put, checked}
use Rattle.range_store.proofs.laws.a_checked_put_replaces_only_what_was_read.Goals as goal

pub returns : goal.returns
returns c = record {
  put = λ s t seat at key context kind value e given. put_by_is_put Read s seat at key context kind value e t given;
  read = λ s t seat at key context kind value e given. (checked s t seat at key context kind value e given).read;
  counter = λ s t seat at key context kind value e given. (checked s t seat at key context kind value e given).counter;
}
