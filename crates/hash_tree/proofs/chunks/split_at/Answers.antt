use Rattle.std.proofs.Common.{rules, refl, ◌≡◌, ◌+◌, ◌<◌, ◌^◌, List, length, get_or, set, ap, arith}
use Rattle.std.specs.List.{insert}
use Rattle.row_bytes.specs.declared.row.Row.{Row}
use Rattle.hash_tree.proofs.OutcomeLaws.{given}
use Rattle.hash_tree.proofs.ChunkPlaces.{rows_read, is_split}
use Rattle.hash_tree.proofs.chunks.split_at.Goals as goal

pub split-requires-clause-within : goal.split-requires-clause-within
split-requires-clause-within c =
    let chunks = c.args.chunks.now.items in
    let old = c.index_mut.result.now in
    let is : old ≡ get_or chunks c.args.number old = search rules in
    omega (arith, c.requires.full, c.requires.less, ap (λ (rs : List Row). length rs) (rows_read chunks c.args.number old c.requires.within is))

pub returns-clause-split : goal.returns-clause-split
returns-clause-split c =
    let chunks = c.args.chunks.now.items in
    let i = c.args.number in
    let old = c.index_mut.result.now in
    let is : old ≡ get_or chunks i old = search rules in
    let now : c.insert.new.self.items ≡ insert (set chunks i c.split.new.self) (i + 1) c.in_ok-back.back = search rules in
    let few : length chunks < 2 ^ 56 = omega (arith, c.if-len-ge-CHUNKS_MAX.false, c.len.ensures) in
    let parts = given _ _ _ _ c.in_ok-back.ensures in
    rw now (
      refl,
      is_split chunks i c.args.cut old c.split.new.self c.in_ok-back.back (record {
        within = c.requires.within;
        room = few;
        some = c.requires.some;
        less = c.requires.less;
        is = is;
        full = omega (arith, c.requires.full, ap (λ (rs : List Row). length rs) (rows_read chunks i old c.requires.within is));
        front = parts.1;
        back = parts.0;
      }),
    )
