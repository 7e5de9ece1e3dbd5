use Rattle.std.proofs.Common.{◌≡◌, ◌++◌, ◌∷◌, ◌+◌, ◌*◌, ◌≤◌, List, ℕ, take, length}
use Rattle.std.specs.List.{flat_map}
use Rattle.std.specs.Vec.{vec_capacity}
use Rattle.hash_tree.specs.Texts.{inner_byte}
use Rattle.hash_tree.proofs.texts.put_inner_text.Given as goal

abbrev pub invariant-loop-digest : goal.invariant-loop-digest
invariant-loop-digest l = record {
  so_far : l.out.items ≡ l.fn.out.items ++ inner_byte l.fn.format ∷ flat_map (λ (d : List ℕ). d) (take l.digest-index l.digests);
  long : length l.out.items ≡ length l.fn.out.items + 1 + 32 * l.digest-index;
  room : length l.fn.out.items + 513 ≤ vec_capacity l.out;
}
