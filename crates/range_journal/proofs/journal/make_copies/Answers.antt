use Rattle.std.proofs.Common.{◌≡◌, ◌<◌, length, arith, refl, ap, ◌∙◌}
use Rattle.range_journal.specs.declared.journal.Entry.{Entry}
use Rattle.range_journal.specs.Copies.{as_copy}
use Rattle.range_journal.proofs.CopyLaws.{begun, next_changed, all_changed}
use Rattle.range_journal.proofs.journal.make_copies.Goals as goal

pub loop-at-init : goal.loop-at-init
loop-at-init c = (begun c.args.from c.args.entries.now.items c.requires, refl)

pub loop-at-preserved : goal.loop-at-preserved
loop-at-preserved c =
    let xs = c.args.entries.now.items in
    let items = c.loop-at.entries.items in
    let i = c.loop-at.at in
    let r : Entry = c.index_mut-entry.result.now in
    let within : i < length xs = omega arith in
    let copied : _ ≡ as_copy r = λ j. record {
      number = r.number;
      seat = r.seat;
      source = c.copied-entry.ensures j;
      key = r.key;
      version = r.version;
    } in
    (next_changed as_copy xs items i r _ within c.loop-at.invariant.0 (copied ∙ ap as_copy c.index_mut-entry.ensures.value), c.loop-at.invariant.1)

pub returns-clause-made : goal.returns-clause-made
returns-clause-made c = all_changed as_copy c.args.entries.now.items c.loop-at.entries.items c.loop-at.at
    (omega (arith, c.loop-at-test.false, c.loop-at.auto.at-end (omega (arith, c.requires.within)))) c.loop-at.invariant.0
