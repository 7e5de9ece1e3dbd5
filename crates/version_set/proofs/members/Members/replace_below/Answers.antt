use Rattle.std.proofs.Common.{◌≡◌, Bool, not, filter, length, ap, ◌∙◌, arith}
use Rattle.std.proofs.lemmas.List.Sums.{length-filter, count_by-le-length}
use Rattle.version_set.specs.declared.members.Members.{Members}
use Rattle.version_set.specs.declared.version.Version.{Version}
use Rattle.version_set.specs.Members.{members_of}
use Rattle.version_set.specs.Version.{is_below}
use Rattle.version_set.proofs.members.Members.replace_below.Goals as goal

abbrev stays : Version → Version → Bool
stays v w = not (is_below w v)

pub make_room-requires : goal.make_room-requires
make_room-requires c =
    let kept : c.args.kept ≡ length (filter (stays c.args.version) c.in-Many.versions.items) = c.requires
    ∙ ap (λ (m : Members). length (filter (stays c.args.version) (members_of m))) c.in-Many.is in
    omega (
      arith,
      kept,
      length-filter (stays c.args.version) c.in-Many.versions.items,
      count_by-le-length (stays c.args.version) c.in-Many.versions.items,
    )

pub insert-requires-in-Many : goal.insert-requires-in-Many
insert-requires-in-Many c =
    let kept : c.args.kept ≡ length (filter (stays c.args.version) c.in-Many.versions.items) = c.requires
    ∙ ap (λ (m : Members). length (filter (stays c.args.version) (members_of m))) c.in-Many.is in
    let n : length c.drop_below-in-Many.new.versions.items ≡ c.args.kept = cc
    (c.drop_below-in-Many.ensures.kept, c.in_ok-make_room-in-Many.ensures.items, kept) in
    omega (arith, n, c.in_ok-make_room-in-Many.ensures.room, c.drop_below-in-Many.ensures.room, c.drop_below-in-Many.new.versions.ok.0)
