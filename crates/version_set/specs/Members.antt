-- The storage of a set.
use Rattle.std.specs.Prelude.{List, [], ◌∷◌}
use Rattle.version_set.specs.declared.members.Members.{Members}
use Rattle.version_set.specs.declared.members.Members.TheVariants.{One, Many}
use Rattle.version_set.specs.declared.version.Version.{Version}

-- the members of a set, in order
abbrev pub members_of : Members → List Version
members_of (One alloc version) = version ∷ []
members_of (Many versions) = versions.items
