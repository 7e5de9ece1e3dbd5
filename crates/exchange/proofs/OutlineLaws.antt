-- How long outlines are.
use Rattle.std.proofs.Common.{◌≡◌, ℕ, ◌+◌, ◌*◌, ◌++◌, List, [], ◌∷◌, length, arith, refl}
use Rattle.std.specs.List.{flat_map}
use Rattle.sha2.specs.Sha256.{sha256}
use Rattle.sha2.proofs.Facts256.{length-sha256}
use Rattle.walk_messages.specs.declared.message.Ask.{Ask}
use Rattle.text_patch.specs.Marks.{mark_of, marks_of}
use Rattle.text_patch.specs.Messages.{outline_text}
use Rattle.std.proofs.lemmas.List.{length-take, length-append}

-- the marks have three bytes each
marks_len : (salt : List ℕ) (parts : List (List ℕ)) → length (flat_map (mark_of salt 3) parts) ≡ 3 * length parts
marks_len salt [] = refl
marks_len salt (p ∷ parts) =
    omega (
      arith,
      length-append (mark_of salt 3 p) (flat_map (mark_of salt 3) parts),
      length-take 3 (sha256 (salt ++ p)),
      length-sha256 (salt ++ p),
      marks_len salt parts,
    )

-- and an outline has thirteen more
pub outline_len : (a : Ask) (salt : List ℕ) (parts : List (List ℕ)) → length (outline_text a (marks_of salt 3 parts)) ≡ 13 + 3 * length parts
unfolding outline_text
outline_len a salt parts = omega (arith, marks_len salt parts)
