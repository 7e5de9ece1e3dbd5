use Rattle.std.proofs.Common.{◌≡◌, ◌++◌, List, length, map, sym, ap, subst, ◌∙◌, append_assoc, arith}
use Rattle.std.specs.List.{AllByRecursion}
use Rattle.std.proofs.lemmas.List.{length-append, map-append}
use Rattle.version_set.proofs.ListLaws.{all-rest}
use Rattle.range_journal.specs.Log.{Log}
use Rattle.row_bytes.specs.declared.row.Row.{Row}
use Rattle.row_table.specs.declared.table.TableRow.{TableRow}
use Rattle.range_store.specs.Offers.{offers_of}
use Rattle.range_store.specs.Store.{leaf_in}
use Rattle.range_store.specs.Renewals.{with_copies}
use Rattle.range_store.specs.TableRows.{row_of}
use Rattle.range_store.proofs.BatchLaws.{Offers}
use Rattle.range_store.proofs.RenewLaws.{with_copies_of, offers-append}
use Rattle.range_store.proofs.store.renewal.fill_leaf.Goals as goal

pub loop-run-preserved : goal.loop-run-preserved
loop-run-preserved c =
    let to = row_of c.args.config.now.bits in
    let journal = c.loop-run.journal in
    let table = c.loop-run.table.rows in
    let run = c.in-Some.run'.now in
    let rest = c.next_run.new.self in
    let split : c.loop-run.runs ≡ run ++ rest = c.in-Some.ensures.0 in
    let all : offers_of c.loop-run.runs ≡ offers_of run ++ offers_of rest = ap offers_of split ∙ offers-append run rest in
    let appended = c.in_ok-append_rows.ensures.1 in
    record {
      entries = ap (λ (log : Log). with_copies log c.args.seat (offers_of rest)) appended
          ∙ with_copies_of journal c.args.seat (offers_of run) (offers_of rest) (offers_of c.loop-run.runs) all ∙ c.loop-run.invariant.entries;
      room = omega (
        arith,
        ap (λ (os : Offers). length os) all,
        length-append (offers_of run) (offers_of rest),
        ap (λ (log : Log). log.room) appended,
        c.loop-run.invariant.room,
      );
      rows = ap (λ (rs : List TableRow). rs ++ map to rest) c.in_ok-insert_rows.ensures.1
          ∙ append_assoc table (map to run) (map to rest)
          ∙ ap (λ (rs : List TableRow). table ++ rs) (sym (map-append to run rest))
          ∙ ap (λ (rs : List Row). table ++ map to rs) (sym split)
          ∙ c.loop-run.invariant.rows;
      homes = all-rest (λ (r : Row). leaf_in c.args.config.now r.key ≡ c.args.leaf) run rest
          (subst (AllByRecursion (λ (r : Row). leaf_in c.args.config.now r.key ≡ c.args.leaf)) split c.loop-run.invariant.homes);
    }
