use Rattle.std.proofs.Common.{ℕ, ◌≤◌, List, [], ◌∷◌, ◌++◌, length, ap, subst, ◌∙◌, arith}
use Rattle.std.specs.Int.{w16, to_be_bytes}
use Rattle.version_set.specs.Version.{version_text}
use Rattle.c_calls.specs.Entries.{number_of_source}
use Rattle.c_calls.specs.Packed.{IsWritten}
use Rattle.c_calls.proofs.PackedLaws.{both_written, entry_length, entry_parts}
use Rattle.c_calls.proofs.packed.put_entry.Goals as goal

pub put-key_len-requires : goal.put-key_len-requires
put-key_len-requires c =
    omega (
      arith,
      c.requires.room,
      entry_length c.args.format c.args.entry.now,
      c.put-source.ensures.ends,
      c.put-source.auto.out,
      ap length c.to_be_bytes.ensures,
    )

pub put-key_end-requires : goal.put-key_end-requires
put-key_end-requires c =
    omega (
      arith,
      c.requires.room,
      entry_length c.args.format c.args.entry.now,
      c.put-source.ensures.ends,
      c.put-source.auto.out,
      ap length c.to_be_bytes.ensures,
      c.put-key_len.ensures.ends,
      c.put-key_len.auto.out,
      ap length c.as_slice-key.ensures,
    )

pub put-count-requires : goal.put-count-requires
put-count-requires c =
    omega (
      arith,
      c.requires.room,
      entry_length c.args.format c.args.entry.now,
      c.put-source.ensures.ends,
      c.put-source.auto.out,
      ap length c.to_be_bytes.ensures,
      c.put-key_len.ensures.ends,
      c.put-key_len.auto.out,
      ap length c.as_slice-key.ensures,
      c.put-key_end.ensures.ends,
      c.put-key_end.auto.out,
      ap length c.to_be_bytes-2.ensures,
    )

pub put_version-requires-clause-room : goal.put_version-requires-clause-room
put_version-requires-clause-room c =
    omega (
      arith,
      c.requires.room,
      entry_length c.args.format c.args.entry.now,
      c.put-source.ensures.ends,
      c.put-source.auto.out,
      ap length c.to_be_bytes.ensures,
      c.put-key_len.ensures.ends,
      c.put-key_len.auto.out,
      ap length c.as_slice-key.ensures,
      c.put-key_end.ensures.ends,
      c.put-key_end.auto.out,
      ap length c.to_be_bytes-2.ensures,
      c.put-count.ensures.ends,
      c.put-count.auto.out,
    )

pub returns : goal.returns
returns c =
    let a = c.args in
    let e = a.entry.now in
    let old = a.out.now in
    let key_is = c.as_slice-key.ensures in
    let s = number_of_source e.source ∷ [] in
    let n = to_be_bytes w16 (length e.key) in
    let one = to_be_bytes w16 1 in
    let room : a.at ≤ length old = omega (arith, c.requires.room) in
    let source = subst (λ (b : ℕ). IsWritten (b ∷ []) old a.at c.put-source.new.out c.put-source.result) c.number_of.ensures c.put-source.ensures in
    let key_len = subst (λ (bs : List ℕ). IsWritten bs c.put-source.new.out c.put-source.result c.put-key_len.new.out c.put-key_len.result)
    (c.to_be_bytes.ensures ∙ ap (λ (k : List ℕ). to_be_bytes w16 (length k)) key_is) c.put-key_len.ensures in
    let key = subst (λ (bs : List ℕ). IsWritten bs c.put-key_len.new.out c.put-key_len.result c.put-key_end.new.out c.put-key_end.result) key_is
    c.put-key_end.ensures in
    let count = subst (λ (bs : List ℕ). IsWritten bs c.put-key_end.new.out c.put-key_end.result c.put-count.new.out c.put-count.result)
    c.to_be_bytes-2.ensures c.put-count.ensures in
    let two = both_written s n old c.put-source.new.out c.put-key_len.new.out a.at c.put-source.result c.put-key_len.result room source key_len in
    let three = both_written
    (s ++ n) e.key old c.put-key_len.new.out c.put-key_end.new.out a.at c.put-key_len.result c.put-key_end.result room two key in
    let four = both_written ((s ++ n) ++ e.key) one old c.put-key_end.new.out c.put-count.new.out a.at c.put-key_end.result c.put-count.result room
    three count in
    subst (λ (bs : List ℕ). IsWritten bs old a.at c.put_version.new.out c.put_version.result) (entry_parts a.format e)
    (both_written (((s ++ n) ++ e.key) ++ one)
    (version_text a.format e.version) old c.put-count.new.out c.put_version.new.out a.at c.put-count.result c.put_version.result room four
    c.put_version.ensures)
