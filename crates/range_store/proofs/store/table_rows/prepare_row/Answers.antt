use Rattle.row_table.proofs.TableLaws.{place_within}
use Rattle.range_store.proofs.store.table_rows.prepare_row.Goals as goal

pub held_at-requires : goal.held_at-requires
held_at-requires c = place_within c.args.table.now.rows c.args.key.now c.args.place c.requires.place
