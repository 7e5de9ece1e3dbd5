use Rattle.std.proofs.Common.{rules, List}
use Rattle.std.specs.Result.{IsOk}
use Rattle.row_bytes.specs.declared.row.Row.{Row}
use Rattle.hash_tree.specs.Leaves.{IsBucket}
use Rattle.hash_tree.proofs.OutcomeLaws.{does_keep, unshared}
use Rattle.hash_tree.proofs.ChunkLaws.{value-inside}
use Rattle.hash_tree.proofs.RowLengthLaws.{IsBucket-with_offer}
use Rattle.hash_tree.proofs.shared_leaf.SharedLeaf.offer.Goals as goal

pub invariant_of-self-in-Some : goal.invariant_of-self-in-Some
invariant_of-self-in-Some c =
    let s = c.self.inside in
    let was = rw c.in-Some.is at c.self.invariant.0 in
    let value = value-inside c.args.self.now s.format _ c.args.version c.self.view_is c.requires.value in
    let rows = rw (unshared _ _ c.in_ok-chunks-in-Some.ensures.value) at c.offer_to_key.ensures.rows in
    let ok : IsOk c.make_mut.result = search rules in
    rw c.make_mut.follows.holds (
      does_keep (λ (rs : List Row). IsBucket (record { format = s.format; rows = rs })) c.offer_to_key.result _ _ _ tt was
          (IsBucket-with_offer s.format c.args.key.now c.args.version _ c.requires.key value was) rows,
      c.offer_to_key.ensures.chunks,
    )

pub returns-in_ok-chunks-in-Some : goal.returns-in_ok-chunks-in-Some
returns-in_ok-chunks-in-Some c =
    let same = unshared _ _ c.in_ok-chunks-in-Some.ensures.value in
    let is = rw c.in-Some.is at c.self.view_is in
    let ok : IsOk c.make_mut.result = search rules in
    rw c.make_mut.follows.holds (search rules)
