use Rattle.std.proofs.Common.{◌≡◌, ◌<◌, ◌+◌, ◌++◌, List, length, set, refl, sym, ap, subst, ◌∙◌, arith, inl, inr, slice_get}
use Rattle.std.specs.Prelude.{Ok, Err, MatchOption}
use Rattle.std.specs.List.{AllByRecursion}
use Rattle.std.proofs.lemmas.List.{length-append}
use Rattle.std.proofs.lemmas.Result.{err_from_is_err_and}
use Rattle.vclock.specs.declared.refusal.Refusal.{Refusal}
use Rattle.vclock.specs.declared.refusal.Refusal.TheVariants.{NoMemory}
use Rattle.range_journal.specs.declared.journal.Entry.{Entry}
use Rattle.range_journal.specs.declared.journal.Source.TheVariants.{Partner}
use Rattle.tree_nodes.specs.Nodes.{Node, IsNode}
use Rattle.sync_session.specs.Walks.{TakenText, Walk}
use Rattle.sync_session.proofs.DescentLaws.{entry}
use Rattle.range_store.specs.declared.store.loading.Loaded.{Loaded}
use Rattle.row_bytes.specs.declared.row.Row.{Row}
use Rattle.range_store.specs.Batches.{IsRowFor, IsOfferFor, IsBatchOf, IsAcceptable}
use Rattle.range_store.specs.Offers.{offers_of, crowded_in}
use Rattle.range_store.specs.Store.{Store, leaf_count}
use Rattle.range_store.proofs.BatchLaws.{Offers}
use Rattle.range_state.specs.declared.«record».Record.{Record}
use Rattle.range_state.specs.declared.event.AnswerTaken.{AnswerTaken}
use Rattle.range_state.specs.State.{State, IsRight}
use Rattle.range_state.specs.Sessions.{IsNewsRead, TakesFor, TakesLeaf}
use Rattle.range_state.proofs.AnswerLaws.{NewsRead, news_read, not_prepared, no_memory, not_accepted, AreTaken, are_taken, leaf_at, leaf_inside}
use Rattle.range_state.proofs.AnswerLaws.{taken_to, leaf_taken}
use Rattle.range_state.proofs.NewsLaws.{IsSame, news_stand, news_ready, news_homes}
use Rattle.range_state.proofs.JudgementLaws.{whole}
use Rattle.range_state.proofs.TakenLaws.{leaf_right}
use Rattle.range_state.proofs.state.RangeState.take_leaf.Goals as goal
use Rattle.range_state.proofs.state.RangeState.take_leaf.Goals.{After-self, In_ok-batch, In_ok-loaded}

-- the state before, by its fields, and the text
abbrev state : After-self → State
state c = record {
  store = c.self.inside.store;
  records = c.self.inside.records.items;
  moment = c.self.inside.moment;
  whole_before = c.self.inside.whole_before;
  next_session = c.self.inside.next_session;
  settled = c.self.inside.settled;
}

abbrev text : After-self → TakenText
text c = entry c.args.node c.args.text

-- what was read
seen : (c : After-self) → NewsRead (state c) c.args.place (text c) c.args.news.now
seen c = news_read c.args.place (text c) c.args.news.now refl c.self.invariant
    (subst (λ (u : State). MatchOption (slice_get u.records c.args.place) ⊥ (λ r. IsNewsRead u r (text c) c.args.news.now))
    (sym c.self.view_is) c.requires)

-- the news stand for all rows
same : (c : After-self) → IsSame c.self.inside.store c.args.seat (seen c).rows c.args.news.now.rows.items c.args.news.now.known
same c = news_stand c.self.inside.store c.args.seat (seen c).own (seen c).rows c.args.news.now.rows.items c.args.news.now.known (seen c).held
    (seen c).parted

-- a refusal by the state before
back : (c : After-self) (e : Refusal) → TakesFor (state c) c.args.seat c.args.place (slice_get (state c).records c.args.place) (text c) (Err e)
    (state c) → TakesFor c.args.self.now c.args.seat c.args.place (slice_get c.args.self.now.records c.args.place) (text c) (Err e) c.args.self.now
back c e is = subst (λ (u : State). TakesFor u c.args.seat c.args.place (slice_get u.records c.args.place) (text c) (Err e) u) c.self.view_is is

pub prepare-requires-clause-here : goal.prepare-requires-clause-here
prepare-requires-clause-here c =
    let ready = news_ready (seen (goal.at.prepare-requires-clause-here c).After-self) in
    subst (λ (rows : List Row). AllByRecursion (IsRowFor c.self.inside.store.config c.node.inside.index) rows) (sym c.deref.ensures.value)
    (subst (λ (n : Node). AllByRecursion (IsRowFor c.self.inside.store.config n.index) c.args.news.now.rows.items) (sym c.node.view_is) ready.0)

pub prepare-requires-clause-few : goal.prepare-requires-clause-few
prepare-requires-clause-few c =
    omega (
      arith,
      (news_ready (seen (goal.at.prepare-requires-clause-few c).After-self)).1,
      c.text-bytes.type_inv.0,
      ap length c.text-bytes.ensures,
      ap (λ (rows : List Row). length (offers_of rows)) c.deref.ensures.value,
    )

pub returns-in_err-batch-clause-answers : goal.returns-in_err-batch-clause-answers
returns-in_err-batch-clause-answers c =
    let start = (goal.at.returns-in_err-batch-clause-answers c).After-self in
    let p = err_from_is_err_and c.from_residual.result c.from_residual.ensures.1 in
    rw (p.1, p.2) (back start c.in_err-batch.field-0.0
    (not_prepared c.args.seat (seen start)
    (elim c.in_err-batch.ensures [
      | inl memory ↦ inl memory
      | inr crowd ↦ inr
          ((same start).crowded ∙ ap (λ (rows : List Row). crowded_in c.self.inside.store c.args.seat Partner (offers_of rows))
          (sym c.deref.ensures.value) ∙ crowd)
    ])))

pub returns-in_err-receipts-clause-answers : goal.returns-in_err-receipts-clause-answers
returns-in_err-receipts-clause-answers c =
    let start = (goal.at.returns-in_err-receipts-clause-answers c).After-self in
    let p = err_from_is_err_and c.from_residual-in_err-receipts.result c.from_residual-in_err-receipts.ensures.1 in
    let memory : c.in_err-receipts.field-0.0 ≡ NoMemory = elim c.in_err-receipts.ensures.copies [ inl refused ↦ refused.1 | inr clash ↦ absurd cc ] in
    rw (p.1, p.2) (back start c.in_err-receipts.field-0.0 (no_memory c.args.seat (seen start) refl memory))

-- the versions of the news
abbrev offers : After-self → Offers
offers c = offers_of c.args.news.now.rows.items

-- the batch of them can be accepted
acceptable : (c : In_ok-batch)
    → NewsRead (record {
      store = c.self.inside.store;
      records = c.self.inside.records.items;
      moment = c.self.inside.moment;
      whole_before = c.self.inside.whole_before;
      next_session = c.self.inside.next_session;
      settled = c.self.inside.settled;
    }) c.args.place
    (entry c.args.node c.args.text) c.args.news.now
    → IsAcceptable c.self.inside.store c.args.seat Partner c.node.inside.index (offers_of c.args.news.now.rows.items) c.in_ok-batch.batch
acceptable c read =
    let s = c.self.inside.store in
    let b = c.in_ok-batch.batch in
    let node = sym c.node.view_is in
    let within = (subst (IsNode 3) c.node.view_is c.node.invariant).within in
    record {
      inside = subst (λ (n : Node). n.index < leaf_count s.config) node (leaf_inside read within);
      homes = subst (λ (n : Node). AllByRecursion (λ o. IsOfferFor s.config n.index o.0 o.1) (offers_of c.args.news.now.rows.items)) node
          (news_homes read);
      fits = ap (λ (rows : List Row). crowded_in s c.args.seat Partner (offers_of rows)) (sym c.deref.ensures.value) ∙ c.in_ok-batch.ensures.0;
      batch = subst (λ (rows : List Row). IsBatchOf s c.args.seat Partner c.node.inside.index (offers_of rows) b) c.deref.ensures.value
          c.in_ok-batch.ensures.1;
    }

pub accept_batch-requires : goal.accept_batch-requires
accept_batch-requires c =
    let at = goal.at.accept_batch-requires c in
    (c.args.seat, Partner, offers_of c.args.news.now.rows.items, acceptable at.In_ok-batch (seen at.After-self))

pub invariant_of-self : goal.invariant_of-self
invariant_of-self c =
    let at = goal.at.invariant_of-self c in
    let did = c.in_err-loaded.ensures c.args.seat Partner (offers_of c.args.news.now.rows.items) (acceptable at.In_ok-batch (seen at.After-self)) in
    subst (λ (u : Store). IsRight
    (record {
      store = u;
      records = c.self.inside.records.items;
      moment = c.self.inside.moment;
      whole_before = c.self.inside.whole_before;
      next_session = c.self.inside.next_session;
      settled = c.self.inside.settled;
    })) (sym did.0) c.self.invariant

pub returns-in_err-loaded-clause-answers : goal.returns-in_err-loaded-clause-answers
returns-in_err-loaded-clause-answers c =
    let at = goal.at.returns-in_err-loaded-clause-answers c in
    let start = at.After-self in
    let read = seen start in
    let can = acceptable at.In_ok-batch read in
    let did = c.in_err-loaded.ensures c.args.seat Partner (offers start) can in
    let p = err_from_is_err_and c.from_residual-in_err-loaded.result c.from_residual-in_err-loaded.ensures.1 in
    let e = c.in_err-loaded.field-0.0 in
    let shown = not_accepted c.args.seat read (offers start) (same start).taken (same start).crowded can.fits did.1 in
    rw (p.1, p.2) (subst (λ (u : Store). TakesFor c.args.self.now c.args.seat c.args.place (slice_get c.args.self.now.records c.args.place)
    (text start) (Err e) (record {
      store = u;
      records = c.self.inside.records.items;
      moment = c.self.inside.moment;
      whole_before = c.self.inside.whole_before;
      next_session = c.self.inside.next_session;
      settled = c.self.inside.settled;
    })) (sym did.0)
    (subst (λ (u : State). TakesFor u c.args.seat c.args.place (slice_get u.records c.args.place) (text start) (Err e) (state start)) c.self.view_is
    shown))

pub index_mut-requires : goal.index_mut-requires
index_mut-requires c = omega (arith, (seen (goal.at.index_mut-requires c).After-self).within, c.self.inside.records.ok)

pub take_leaf-requires-clause-due : goal.take_leaf-requires-clause-due
take_leaf-requires-clause-due c = (leaf_at (seen (goal.at.take_leaf-requires-clause-due c).After-self) refl c.index_mut.ensures.value).read.due

pub take_leaf-requires-clause-leaf : goal.take_leaf-requires-clause-leaf
take_leaf-requires-clause-leaf c = (leaf_at (seen (goal.at.take_leaf-requires-clause-leaf c).After-self) refl c.index_mut.ensures.value).deep

pub take_leaf-requires-clause-canonical : goal.take_leaf-requires-clause-canonical
take_leaf-requires-clause-canonical c = (leaf_at (seen (goal.at.take_leaf-requires-clause-canonical c).After-self) refl c.index_mut.ensures.value).can

-- what the news become in the store, beside what all rows would
record IsDone (c : In_ok-loaded) (rows : List Row) : Type 0 where
  can : IsAcceptable c.self.inside.store c.args.seat Partner c.node.inside.index (offers_of c.args.news.now.rows.items) c.in_ok-batch.batch
  is : AreTaken c.self.inside.store c.args.seat (offers_of c.args.news.now.rows.items) c.in_ok-loaded.loaded c.accept_batch.new.self
  same : IsSame c.self.inside.store c.args.seat rows c.args.news.now.rows.items c.args.news.now.known

done : (c : In_ok-loaded) (start : After-self) (rows : List Row)
    → IsAcceptable c.self.inside.store c.args.seat Partner c.node.inside.index (offers_of c.args.news.now.rows.items) c.in_ok-batch.batch
    → IsSame c.self.inside.store c.args.seat rows c.args.news.now.rows.items c.args.news.now.known → IsDone c rows
done c start rows can same = record {
  can = can;
  is = are_taken c.self.inside.store c.args.seat (offers_of c.args.news.now.rows.items) c.in_ok-loaded.loaded c.accept_batch.new.self
      (c.in_ok-loaded.ensures c.args.seat Partner (offers_of c.args.news.now.rows.items) can);
  same = same;
}

-- as many versions were known, or are entries, as the rows have
counted : (c : In_ok-loaded) (rows : List Row) → IsDone c rows
    → length c.in_ok-batch.batch.entries.items + (c.in_ok-loaded.loaded.known + c.args.news.now.known) ≡ length (offers_of rows)
counted c rows done =
    let s = c.self.inside.store in
    let entries : length s.entries + length c.in_ok-batch.batch.entries.items ≡ length c.accept_batch.new.self.entries =
    sym (length-append s.entries c.in_ok-batch.batch.entries.items) ∙ ap length done.can.batch.entries
    ∙ ap (λ (u : Store). length u.entries) (sym done.is.is) in
    omega (arith, entries, ap (λ (a : Loaded). a.known) done.is.counts, done.can.batch.count, done.same.count)

pub overflow_add-result : goal.overflow_add-result
overflow_add-result c =
    let at = goal.at.overflow_add-result c in
    let read = seen at.After-self in
    let all = done at.In_ok-loaded at.After-self read.rows (acceptable at.In_ok-batch read) (same at.After-self) in
    omega (arith, counted at.In_ok-loaded read.rows all, all.same.count, (news_ready read).1, c.text-bytes.type_inv.0, ap length c.text-bytes.ensures)

pub invariant_of-self-2 : goal.invariant_of-self-2
invariant_of-self-2 c =
    let at = goal.at.invariant_of-self-2 c in
    let start = at.After-self in
    let read = seen start in
    let all = done at.In_ok-loaded start read.rows (acceptable at.In_ok-batch read) (same start) in
    let leaf = leaf_at read refl c.index_mut.ensures.value in
    let right = leaf_right (state start) c.args.seat c.args.place c.index_mut.result.now
    (text start) read.rows read.right leaf.within leaf.was leaf.read (all.same.crowded ∙ all.can.fits) in
    let store = all.is.is ∙ sym all.same.taken in
    subst IsRight (λ i. record {
      store = sym store i;
      records = set c.self.inside.records.items c.args.place
          (record { number = c.index_mut.result.now.number; partner = c.index_mut.result.now.partner; session = sym c.take_leaf.ensures i });
      moment =
          c.self.inside.moment;
      whole_before = c.self.inside.whole_before;
      next_session = c.self.inside.next_session;
      settled = c.self.inside.settled;
    })
    right

pub returns-clause-answers : goal.returns-clause-answers
returns-clause-answers c =
    let at = goal.at.returns-clause-answers c in
    let start = at.After-self in
    let read = seen start in
    let all = done at.In_ok-loaded start read.rows (acceptable at.In_ok-batch read) (same start) in
    let leaf = leaf_at read refl c.index_mut.ensures.value in
    let copies : c.in_ok-receipts.receipts.items ≡ c.in_ok-batch.batch.entries.items = c.in_ok-receipts.ensures.copies.1 ∙ c.entries.ensures in
    let a : AnswerTaken = record {
      receipts = c.in_ok-receipts.receipts;
      known = c.in_ok-loaded.loaded.known + c.args.news.now.known;
      state = c.state.result;
    } in
    let receipts = ap (λ (es : List Entry). c.self.inside.store.entries ++ es) copies ∙ all.can.batch.entries
    ∙ ap (λ (u : Store). u.entries) (sym all.same.taken) in
    let fault = whole c.self.inside.store c.args.seat read.rows c.args.news.now.rows.items c.args.news.now.known all.same ∙ all.is.fault in
    let known = ap (λ (es : List Entry). length es + (c.in_ok-loaded.loaded.known + c.args.news.now.known)) copies
    ∙ counted at.In_ok-loaded read.rows all in
    let r = c.index_mut.result.now in
    let takes : TakesLeaf (state start) c.args.seat c.args.place r (text start) a
    (taken_to (state start) c.args.place (text start) r c.accept_batch.new.self) = record {
      rows = read.rows;
      read = leaf.read;
      fault = fault;
      receipts = receipts;
      known = known;
      new_is = ap (taken_to (state start) c.args.place (text start) r) (all.is.is ∙ sym all.same.taken);
    } in
    let took = leaf_taken c.args.seat a leaf.here takes (c.state.ensures ∙ ap (λ (w : Walk). w.state) c.take_leaf.ensures) in
    let records : Walk → List Record = λ w. set c.self.inside.records.items c.args.place
    (record { number = c.index_mut.result.now.number; partner = c.index_mut.result.now.partner; session = w }) in
    subst (λ (u : State). TakesFor u c.args.seat c.args.place (slice_get u.records c.args.place) (text start) (Ok a)
    (record {
      store = c.accept_batch.new.self;
      records = records c.take_leaf.new.self;
      moment = c.self.inside.moment;
      whole_before = c.self.inside.whole_before;
      next_session = c.self.inside.next_session;
      settled = c.self.inside.settled;
    })) c.self.view_is
    (subst (λ (w : Walk). TakesFor (state start) c.args.seat c.args.place (slice_get c.self.inside.records.items c.args.place) (text start) (Ok a)
    (record {
      store = c.accept_batch.new.self;
      records = records w;
      moment = c.self.inside.moment;
      whole_before = c.self.inside.whole_before;
      next_session = c.self.inside.next_session;
      settled = c.self.inside.settled;
    })) (sym c.take_leaf.ensures) took)
