-- The sizes of rows in leaves.
use Rattle.std.proofs.Common.{◌≡◌, ℕ, ◌+◌, ◌-◌, ◌^◌, ◌<◌, List, [], ◌∷◌, ◌++◌, length, take, get_or, sym, ap, ◌∙◌, arith}
use Rattle.std.specs.Prelude.{min}
use Rattle.std.specs.List.{sum_by}
use Rattle.std.proofs.lemmas.List.{take_more}
use Rattle.std.proofs.lemmas.List.Concat.{length-flat_map}
use Rattle.std.proofs.lemmas.List.Sums.{sum_by_push, sum_by-append}
use Rattle.std.proofs.lemmas.Grind.{flat_map-append}
use Rattle.vclock.specs.declared.format.Format.{Format}
use Rattle.version_set.proofs.SizeLaws.{cut_sum}
use Rattle.row_bytes.specs.declared.row.Row.{Row}
use Rattle.row_bytes.specs.Rows.{row_text}
use Rattle.hash_tree.specs.Leaves.{Bucket}
use Rattle.hash_tree.specs.Sizes.{rows_len, leaf_len}
use Rattle.hash_tree.specs.Texts.{leaf_text}
use Rattle.tree_nodes.specs.Blocks.{joined}

-- the text of a leaf is one byte and the texts of its rows
pub text_of_rows : (format : Format) (rows : List Row) → length (leaf_text format rows) ≡ 1 + rows_len format rows
unfolding leaf_text
text_of_rows format rows = let all = length-flat_map (row_text format) rows in omega arith

-- the size of one more leaf
pub one_leaf_more : (leaves : List Bucket) (i : ℕ) (b : Bucket) (a l sum : ℕ) → i < length leaves → b ≡ get_or leaves i b
    → a ≡ min (sum_by leaf_len (take i leaves)) (2 ^ 64 - 1) → l ≡ min (leaf_len b) (2 ^ 64 - 1) → sum ≡ min (a + l) (2 ^ 64 - 1)
    → sum ≡ min (sum_by leaf_len (take (i + 1) leaves)) (2 ^ 64 - 1)
one_leaf_more leaves i b a l sum within is first second added =
    let more : take (i + 1) leaves ≡ take i leaves ++ b ∷ [] = take_more leaves i b within ∙ ap (λ (x : Bucket). take i leaves ++ x ∷ []) (sym is) in
    cut_sum _ a l (sum_by leaf_len (take i leaves)) (leaf_len b) sum first second added
    ∙ ap (λ n. min n (2 ^ 64 - 1)) (sym (sum_by_push leaf_len (take i leaves) b) ∙ ap (sum_by leaf_len) (sym more))

-- the size of one more block
pub one_block_more : (blocks : List (List Bucket)) (i : ℕ) (b : List Bucket) (a l sum : ℕ) → i < length blocks → b ≡ get_or blocks i b
    → a ≡ min (sum_by leaf_len (joined (take i blocks))) (2 ^ 64 - 1) → l ≡ min (sum_by leaf_len b) (2 ^ 64 - 1) → sum ≡ min (a + l) (2 ^ 64 - 1)
    → sum ≡ min (sum_by leaf_len (joined (take (i + 1) blocks))) (2 ^ 64 - 1)
one_block_more blocks i b a l sum within is first second added =
    let more : take (i + 1) blocks ≡ take i blocks ++ b ∷ [] = take_more blocks i b within
    ∙ ap (λ (x : List Bucket). take i blocks ++ x ∷ []) (sym is) in
    cut_sum _ a l (sum_by leaf_len (joined (take i blocks))) (sum_by leaf_len b) sum first second added
    ∙ ap (λ n. min n (2 ^ 64 - 1)) (sym (one_more (take i blocks) b) ∙ ap (λ (bs : List (List Bucket)). sum_by leaf_len (joined bs)) (sym more))
  where
    one_more : (bs : List (List Bucket)) (b : List Bucket) → sum_by leaf_len (joined (bs ++ b ∷ [])) ≡ sum_by leaf_len (joined bs) + sum_by leaf_len b
    one_more bs b =
        let last : sum_by leaf_len (b ++ []) ≡ sum_by leaf_len b + 0 = sum_by-append leaf_len b [] in
        let all = ap (sum_by leaf_len) (flat_map-append (λ (x : List Bucket). x) bs (b ∷ [])) ∙ sum_by-append leaf_len (joined bs) (b ++ []) in
        omega arith
