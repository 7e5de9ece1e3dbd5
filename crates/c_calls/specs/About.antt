-- The place of a range, and the number of its entries, for C.
use Rattle.vclock.specs.Format.{format_number}
use Rattle.c_calls.specs.Kept.{KeptState, entries_in}
use Rattle.c_calls.specs.Published.{Shown}
use Rattle.c_calls.specs.declared.about.About.{About}

abbrev pub about_of : KeptState → About
about_of k = record { format = format_number k.state.store.config.format; bits = k.state.store.config.bits; range = k.state.store.config.range; entries = entries_in k }

-- the place of a snapshot's range, and the number of entries that made its rows
abbrev pub about_shown : Shown → About
about_shown m = record { format = format_number m.rows.format; bits = m.rows.bits; range = m.rows.range; entries = m.entries }
