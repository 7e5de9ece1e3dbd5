-- The changes that a scripted link makes to bytes.
use Rattle.std.specs.Prelude.{ℕ, ◌+◌, ◌%◌, nat_lt, List, ◌++◌, length, take, drop, slice_set, slice_index_or, if◌then◌else◌}
use Rattle.std.specs.Int.{w32, to_be_bytes}
use Rattle.ring_node.specs.declared.deed.Deed.{Deed}
use Rattle.ring_node.specs.declared.deed.Deed.TheVariants.{Change, Cut, Renumber}

-- a byte is raised by one, 255 to 0; nothing changes if the place is past the end
abbrev pub changed : List ℕ → ℕ → List ℕ
changed bytes at = if nat_lt at (length bytes) then slice_set bytes at ((slice_index_or bytes at 0 + 1) % 256) else bytes

-- the number of the offer is replaced; nothing changes if there are fewer than five bytes
abbrev pub renumbered : List ℕ → ℕ → List ℕ
renumbered bytes number = if nat_lt (length bytes) 5 then bytes else take 1 bytes ++ to_be_bytes w32 number ++ drop 5 bytes

-- the bytes after a deed
abbrev pub done_to : Deed → List ℕ → List ℕ
done_to (Change at) bytes = changed bytes at
done_to (Cut len) bytes = take len bytes
done_to (Renumber number) bytes = renumbered bytes number
done_to deed bytes = bytes
