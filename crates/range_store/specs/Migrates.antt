-- The migration of a range to format 2.
use Rattle.vclock.specs.Outcome.{Outcome, gives}
use Rattle.vclock.specs.declared.format.Format.{Format}
use Rattle.vclock.specs.declared.format.Format.TheVariants.{One, Two}
use Rattle.range_store.specs.Config.{Config}
use Rattle.range_store.specs.Store.{Store}
use Rattle.range_tree.specs.Trees.{all_dirty}

-- the configuration in format 2
abbrev pub config_in_two : Config → Config
config_in_two c = record c { format = Two }

-- the store in format 2: the entries are unchanged, and no node is clean
abbrev pub in_two : Store → Store
in_two s = record { config = config_in_two s.config; entries = s.entries; marks = all_dirty Two }

-- a store of format 1 is migrated, and one of format 2 is unchanged
abbrev pub migrated_from : Format → Store → Store
migrated_from One s = in_two s
migrated_from Two s = s

abbrev pub migrate : Store → Outcome (Unit {0}) Store
migrate s = gives tt (migrated_from s.config.format s)
