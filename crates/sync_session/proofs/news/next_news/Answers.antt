use Rattle.std.proofs.Common.{◌≡◌, ℕ, ◌+◌, true, false, true≢false, List, ◌∷◌, ◌++◌, ◌∙◌, length, [], None, Some, sym, ap, subst, arith}
use Rattle.std.proofs.lemmas.List.{length-append}
use Rattle.std.specs.List.{Contains}
use Rattle.row_bytes.specs.declared.row.Row.{Row}
use Rattle.row_bytes.specs.Rows.{is_before, row_text}
use Rattle.row_bytes.proofs.ManyRowLaws.{some_left}
use Rattle.hash_tree.specs.Leaves.{Bucket, AscendByKey, rows_in_leaf}
use Rattle.snapshot.specs.RowMaps.{RowMap, leaf_in}
use Rattle.tree_nodes.specs.Nodes.{Node}
use Rattle.sync_session.specs.Readings.{IsReadTo, LiesIn}
use Rattle.sync_session.proofs.NewsLaws.{way_front, way_other, leaf_ascends, begins_with_key, row_is_text, run_is_text, found_key, read_on}
use Rattle.sync_session.proofs.NewsLaws.{read_known, read_next}
use Rattle.sync_session.proofs.news.next_news.Goals as goal
use Rattle.sync_session.proofs.news.next_news.Goals.{In-Some-front_run}

pub returns-in_default : goal.returns-in_default
returns-in_default c =
    λ text others read all spelled.
    let m = c.args.own.now in
    let l = c.rows in
    let next = read_next (l.invariant.read text others read) all spelled
    (some_left c.is_empty.result l.rest.now c.is_empty.ensures c.rows-test.true) in
    let found : None ≡ Some next.row.key = c.in_default.ensures.only next.row.key _
    (begins_with_key m.format next.row l.rest.now next.after next.is next.begins) in
    absurd (cc)

pub returns-then-not-is_lt : goal.returns-then-not-is_lt
returns-then-not-is_lt c =
    λ text others read all spelled.
    let m = c.args.own.now in
    let l = c.rows in
    let key = c.in-Some.key.now in
    let next = read_next (l.invariant.read text others read) all spelled
    (some_left c.is_empty.result l.rest.now c.is_empty.ensures c.rows-test.true) in
    let same = found_key key next.row.key
    (c.in-Some.ensures.only next.row.key _ (begins_with_key m.format next.row l.rest.now next.after next.is next.begins)) in
    let off : is_before l.last.now key ≡ false = cc (c.if-not-is_lt.true, c.is_lt.ensures, c.cmp.ensures) in
    absurd (true≢false (sym next.next ∙ ap (is_before l.last.now) (sym same) ∙ off))

-- the local leaf of a node
abbrev leaf_of : RowMap → Node → Bucket
leaf_of m n = record { format = m.format; rows = rows_in_leaf (leaf_in m) n.index m.rows }

-- the text was read on by a run of the own rows
run_read : (c : In-Some-front_run) (text : List ℕ) (others : List Row)
    → IsReadTo c.args.own.now c.args.node text c.rows.last.now c.rows.rest.now others c.rows.known
    → IsReadTo c.args.own.now c.args.node text c.in-Some-front_run.skipped.last.now c.in-Some-front_run.skipped.after.now others
    (c.rows.known + c.in-Some-front_run.skipped.versions)
run_read c text others read =
    let l = c.rows in
    let skipped = c.in-Some-front_run.skipped in
    let key = c.in-Some.key.now in
    let less : is_before l.last.now key ≡ true = cc (c.if-not-is_lt.false, c.is_lt.ensures, c.cmp.ensures) in
    read_on read skipped.last.now skipped.after.now others (l.known + skipped.versions)
    (way_front c.args.own.now c.args.node c.rows-leaf.result.now text read.body l.last.now l.rest.now others l.known key skipped.versions
    skipped.last.now skipped.after.now c.format-format.ensures.valid
    (c.rows-leaf.ensures ∙ ap (leaf_of c.args.own.now) c.node.view_is) read.way c.in-Some-front_run.ensures less)

pub overflow_add-known : goal.overflow_add-known
overflow_add-known c =
    let w = c.requires.read in
    omega (arith, read_known (run_read (goal.at.overflow_add-known c).In-Some-front_run w.0 w.1 (c.rows.invariant.read w.0 w.1 w.2)))

pub rows-smaller : goal.rows-smaller
rows-smaller c =
    let skipped = c.in-Some-front_run.skipped in
    run_is_text c.rows-leaf.result.now c.in-Some.key.now c.rows.rest.now skipped.versions skipped.last.now skipped.after.now
    c.in-Some-front_run.ensures

pub rows-preserved : goal.rows-preserved
rows-preserved c =
    let skipped = c.in-Some-front_run.skipped in
    let less = run_is_text c.rows-leaf.result.now c.in-Some.key.now c.rows.rest.now skipped.versions skipped.last.now skipped.after.now
    c.in-Some-front_run.ensures in
    record {
      read = λ text others read. run_read (goal.at.rows-preserved c).In-Some-front_run text others (c.rows.invariant.read text others read);
      shorter = omega (arith, less, c.rows.invariant.shorter);
    }

pub front_run-requires : goal.front_run-requires
front_run-requires c = subst (λ (b : Bucket). AscendByKey b.rows) (sym c.rows-leaf.ensures)
    (leaf_ascends c.args.own.now c.node.inside.index c.format-format.ensures.valid)

pub returns-in_default-2 : goal.returns-in_default-2
returns-in_default-2 c =
    λ text others read all spelled.
    let l = c.rows in
    let next = read_next (l.invariant.read text others read) all spelled
    (some_left c.is_empty.result l.rest.now c.is_empty.ensures c.rows-test.true) in
    let none = rw c.in_default-2.is at c.in_ok-row.ensures.1 in
    none next.row next.after next.is (subst (λ (n : Node). LiesIn c.args.own.now n.index next.row.key) (sym c.node.view_is) next.lies) next.begins

pub returns-in-rows : goal.returns-in-rows
returns-in-rows c =
    λ text others before.
    let m = c.args.own.now in
    let n = c.args.node in
    let l = c.rows in
    let read = l.invariant.read text others before in
    let r : Row = c.in-Some-2.row in
    let after = c.in-Some-2.after.now in
    let key = c.in-Some.key.now in
    let front = rw c.in-Some-2.is at c.in_ok-row.ensures.1 in
    let same : key ≡ r.key = found_key key r.key (c.in-Some.ensures.only r.key _ (begins_with_key m.format r l.rest.now after front.0 front.2)) in
    let less : is_before l.last.now key ≡ true = cc (c.if-not-is_lt.false, c.is_lt.ensures, c.cmp.ensures) in
    let next : is_before l.last.now r.key ≡ true = ap (is_before l.last.now) (sym same) ∙ less in
    let leaf = c.rows-leaf.ensures ∙ ap (leaf_of m) c.node.view_is in
    let lies = subst (λ (k : Node). LiesIn m k.index r.key) c.node.view_is front.1 in
    let other = λ (has : Contains (rows_in_leaf (leaf_in m) n.index m.rows) r).
    c.in_default-front_run.ensures r after (subst (λ (b : Bucket). Contains b.rows r) (sym leaf) has) (sym same)
    (front.2 ∙ ap (λ (b : Bucket). row_text b.format r ++ after) (sym leaf)) in
    let way = way_other m n text read.body l.last.now l.rest.now others l.known r after read.way front.0 lies other front.2 next in (
      subst (λ (k : List ℕ). IsReadTo m n text k after (others ++ r ∷ []) l.known) (sym same)
          (read_on read r.key after (others ++ r ∷ []) l.known way),
      omega (arith, ap length front.2, length-append (row_text m.format r) after, row_is_text m.format r, l.invariant.shorter),
    )
