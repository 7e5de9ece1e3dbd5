-- A whole session with a partner that answers truly.
use Rattle.std.proofs.Common.{◌≡◌, ◌≢◌, ℕ, suc, ◌+◌, ◌-◌, ◌^◌, ◌<◌, ◌≤◌, ◌⊎◌, true, false, not, Option, Some, None, List, [], ◌∷◌, ◌++◌, length, map}
use Rattle.std.proofs.Common.{set, refl, sym, ap, subst, ◌∙◌, arith, inl, inr, append_assoc, append-nil, slice_get}
use Rattle.std.specs.Prelude.{Result, Ok, Err, MatchOption}
use Rattle.std.specs.List.{filter, AllByRecursion}
use Rattle.std.proofs.lemmas.Bool.{or_right, both_ways, cases_lt}
use Rattle.std.proofs.lemmas.List.{length-append, map-append}
use Rattle.std.proofs.lemmas.List.Folds.{list_any-append}
use Rattle.vclock.specs.declared.format.Format.{Format}
use Rattle.vclock.specs.declared.refusal.Refusal.{Refusal}
use Rattle.vclock.specs.declared.refusal.Refusal.TheVariants as refusals
use Rattle.version_set.proofs.ListLaws.{all-push}
use Rattle.range_journal.specs.Journal.{held}
use Rattle.row_bytes.specs.declared.row.Row.{Row}
use Rattle.tree_nodes.specs.Nodes.{Node, contains_node, is_same_node, place_of, tree_depth}
use Rattle.snapshot.specs.RowMaps.{RowMap, IsRowMap, root_of}
use Rattle.sync_session.specs.TreeNodes.{text_of}
use Rattle.sync_session.specs.Walks.{TakenText, IsPartners, IsCanonical, asks}
use Rattle.sync_session.specs.Steps.{started, after, state_by, IsDue}
use Rattle.sync_session.specs.Differing.{nodes_of, differ, AscendByPlace, IsTraced, IsHonest, IsNearlyDone}
use Rattle.sync_session.specs.declared.state.SessionState.{SessionState}
use Rattle.sync_session.specs.declared.state.SessionState.TheVariants.{Open, Finished, Failed, Cancelled}
use Rattle.sync_session.proofs.StepLaws.{All-weaker}
use Rattle.sync_session.proofs.DescentLaws.{entry}
use Rattle.sync_session.proofs.OrderLaws.{asked_in_order, Ascends-suffix}
use Rattle.sync_session.proofs.HonestLaws.{asked_is_differ, differ_is_asked, true_text_due}
use Rattle.range_store.specs.Config.{Config}
use Rattle.range_state.specs.declared.«record».Record.{Record}
use Rattle.range_state.specs.declared.event.AnswerTaken.{AnswerTaken}
use Rattle.range_state.specs.declared.state.sync.Synced.{Synced}
use Rattle.range_state.specs.Records.{IsKept, IsGoing}
use Rattle.range_state.specs.State.{State, IsRight, with_store}
use Rattle.range_journal.specs.declared.journal.Source.TheVariants.{Partner}
use Rattle.range_store.specs.Store.{Store, dirty_fault, rows_now}
use Rattle.vclock.specs.Outcome.{gives}
use Rattle.vclock.proofs.OutcomeLaws.{passed}
use Rattle.range_state.specs.Sessions.{standings, crowd_fault, unknown_for, unknown_at, open_with, taken_in, leaf_fault, opened, walked_to}
use Rattle.range_state.specs.Sessions.{IsLeafRead, IsLeafFault, TakesInner, TakesLeaf, TakesText, TakesFor, Refuses}
use Rattle.range_store.specs.Offers.{offers_of}
use Rattle.range_state.specs.Syncs.{IsOfRange, leaves_in, offers_at, known_in, Progress, taken_leaves, synced, ended, HasOneMore, HasAskedAll}
use Rattle.range_state.specs.Syncs.{IsSyncedTo, IsPartWay, IsFirstOf}
use Rattle.range_state.proofs.SyncLists.{AreIn, member_of, has_head, all_has, same_nodes, fits, ascends_before, without_first, differ_ascends}
use Rattle.range_state.proofs.SyncLists.{differ_inside, as_deep}
use Rattle.range_state.proofs.SyncStepLaws.{so_far, taken_more, leaf_is_taken, leaf_refused, leaves-append, leaf_counts, inner_counts, no_leaves}
use Rattle.range_state.proofs.SyncStepLaws.{nodes-push, got_last, set_last, all_last, true_rows}
use Rattle.range_store.proofs.TakenLaws.{config_stays}

-- ---- how many texts a session took

abbrev pub count_of : Option Record → ℕ
count_of None = 0
count_of (Some r) = length r.session.taken

abbrev pub taken_count : List Record → ℕ → ℕ
taken_count records id = count_of (slice_get records id)

-- ---- a session on its way

-- how far a session came that took the partner's own texts in the order in which it asked
pub record IsUnderWay (s : State) (seat : ℕ) (other : RowMap) (known : ℕ) (now : State) : Type 0 where
  pub r : Record
  pub records : now.records ≡ s.records ++ r ∷ []
  pub number : r.number ≡ s.next_session
  pub next : now.next_session ≡ s.next_session + 1
  pub config : now.store.config ≡ s.store.config
  pub own : r.session.own ≡ rows_now s.store
  pub root : root_of other ≡ r.session.root
  pub honest : IsHonest r.session other
  pub turn : r.session.asked ≡ nodes_of r.session.taken ++ r.session.outstanding
  pub stands : r.session.state ≡ state_by r.session.outstanding
  pub grown : length s.store.entries ≤ length now.store.entries
  pub progress : taken_leaves s.store seat other 0 (leaves_in s.store.config.format (nodes_of r.session.taken)) ≡ so_far now.store known

-- a session was opened
pub record HasBegun (s : State) (seat partner : ℕ) (other : RowMap) (new : State) : Type 0 where
  pub under : IsUnderWay s seat other 0 new
  pub partner_is : under.r.partner ≡ partner

-- a session that was not refused
pub open_ok : (s new : State) (partner id : ℕ) (root : List ℕ) → open_with s partner root ≡ gives id new → new ≡ opened s partner root
open_ok s new partner id root is =
    let few = passed (crowd_fault (standings s.records)) _ id new is in
    let clean = passed (dirty_fault s.store) _ id new few.1 in
    let same = clean.1 in
    cc

pub begun : (s new : State) (seat partner : ℕ) (root : List ℕ) (other : RowMap) → root ≡ root_of other → new ≡ opened s partner root
    → HasBegun s seat partner other new
begun s new seat partner root other root_is is = record {
  under = record {
    r = record { number = s.next_session; partner = partner; session = started (rows_now s.store) root };
    records = ap (λ (x : State). x.records) is;
    number = refl;
    next = ap (λ (x : State). x.next_session) is;
    config = ap (λ (x : State). x.store.config) is;
    own = refl;
    root = sym root_is;
    honest = tt;
    turn = refl;
    stands = refl;
    grown = omega (arith, ap (λ (x : State). length x.store.entries) is);
    progress = ap (λ (x : State). so_far x.store 0) (sym is);
  };
  partner_is = refl;
}

-- what is known of a session on its way
pub record IsTrueWalk (s now : State) (other : RowMap) (r : Record) : Type 0 where
  pub right : IsGoing now.store.entries r.session
  pub traced : IsTraced r.session
  pub partner : IsPartners r.session other

still_going : (nodes : List Node) → (state_by nodes ≡ Failed) ⊎ (state_by nodes ≡ Cancelled) → ⊥
still_going [] (inl e) = let clash : Finished ≡ Failed = e in cc
still_going [] (inr e) = let clash : Finished ≡ Cancelled = e in cc
still_going (n ∷ nodes) (inl e) = let clash : Open ≡ Failed = e in cc
still_going (n ∷ nodes) (inr e) = let clash : Open ≡ Cancelled = e in cc

true_walk : (s now : State) (seat known : ℕ) (other : RowMap) (u : IsUnderWay s seat other known now) → IsRight now → IsOfRange s.store.config other
    → IsRowMap other → IsTrueWalk s now other u.r
true_walk s now seat known other u ok here map =
    let kept = all_last (IsKept now.store.config now.store.entries) s.records u.r
    (subst (λ (rs : List Record). AllByRecursion (IsKept now.store.config now.store.entries) rs) u.records ok.records) in
    record {
      right = elim kept.going [
        | inl over ↦ absurd (still_going u.r.session.outstanding (elim over [
          | inl failed ↦ inl (sym u.stands ∙ failed)
          | inr cancelled ↦ inr (sym u.stands ∙ cancelled)
        ]))
        | inr right ↦ right
      ];
      traced = kept.traced;
      partner = record {
        format = here.format ∙ ap (λ (m : RowMap). m.format) (sym u.own);
        bits = here.bits ∙ ap (λ (m : RowMap). m.bits) (sym u.own);
        range = here.range ∙ ap (λ (m : RowMap). m.range) (sym u.own);
        root = u.root;
        map = map;
      };
    }

here_is : (s now : State) (seat known id : ℕ) (other : RowMap) (u : IsUnderWay s seat other known now) → id ≡ length s.records
    → slice_get now.records id ≡ Some u.r
here_is s now seat known id other u at = ap (λ (rs : List Record). slice_get rs id) u.records ∙ ap (slice_get (s.records ++ u.r ∷ [])) at
    ∙ got_last s.records u.r

-- it has a record
pub known_session : {s now : State} {seat known id : ℕ} {other : RowMap} (u : IsUnderWay s seat other known now) → id ≡ length s.records
    → unknown_at now id ≡ None
known_session {s = s} {now = now} {seat = seat} {known = known} {id = id} {other = other} u at =
    ap unknown_for (here_is s now seat known id other u at)

first_has : (nodes : List Node) (n : Node) (rest : List Node) → nodes ≡ n ∷ rest → contains_node n nodes ≡ true
first_has nodes n rest is = ap (contains_node n) is ∙ has_head n rest

first_is : (s now : State) (seat known id : ℕ) (other : RowMap) (u : IsUnderWay s seat other known now) → id ≡ length s.records → (o : Option Node)
    → MatchOption (slice_get now.records id) ⊥ (λ r. IsFirstOf r.session.outstanding o) → IsFirstOf u.r.session.outstanding o
first_is s now seat known id other u at o h =
    subst (λ (x : Option Record). MatchOption x ⊥ (λ r. IsFirstOf r.session.outstanding o)) (here_is s now seat known id other u at) h

-- the next node of a session on its way: the first outstanding one
pub record IsNext (s now : State) (seat id known : ℕ) (other : RowMap) (u : IsUnderWay s seat other known now) (n : Node) : Type 0 where
  pub at : id ≡ length s.records
  pub is : IsTrueWalk s now other u.r
  pub rest : List Node
  pub first : u.r.session.outstanding ≡ n ∷ rest

pub next_is : {s now : State} {seat known id : ℕ} {other : RowMap} {node : Node} (u : IsUnderWay s seat other known now)
    → id ≡ length s.records → IsRight now → IsOfRange s.store.config other → IsRowMap other
    → MatchOption (slice_get now.records id) ⊥ (λ r. IsFirstOf r.session.outstanding (Some node)) → IsNext s now seat id known other u node
next_is {s = s} {now = now} {seat = seat} {known = known} {id = id} {other = other} {node = node} u at ok here map h =
    let first : IsFirstOf u.r.session.outstanding (Some node) = first_is s now seat known id other u at (Some node) h in
    record { at = at; is = true_walk s now seat known other u ok here map; rest = first.0; first = first.1 }

-- a session on its way that has no next node
pub record IsDone (s now : State) (seat id known : ℕ) (other : RowMap) (u : IsUnderWay s seat other known now) : Type 0 where
  pub at : id ≡ length s.records
  pub is : IsTrueWalk s now other u.r
  pub none : u.r.session.outstanding ≡ []

pub done_is : {s now : State} {seat known id : ℕ} {other : RowMap} (u : IsUnderWay s seat other known now) → id ≡ length s.records → IsRight now
    → IsOfRange s.store.config other → IsRowMap other → MatchOption (slice_get now.records id) ⊥ (λ r. IsFirstOf r.session.outstanding None)
    → IsDone s now seat id known other u
done_is {s = s} {now = now} {seat = seat} {known = known} {id = id} {other = other} u at ok here map h =
    record { at = at; is = true_walk s now seat known other u ok here map; none = first_is s now seat known id other u at None h }

-- the first outstanding node is due, and its true text is one that it can have
pub first_due : (s now : State) (other : RowMap) (r : Record) (n : Node) (rest : List Node) → IsTrueWalk s now other r → IsHonest r.session other
    → r.session.outstanding ≡ n ∷ rest
    → IsDue r.session (entry n (text_of other n)) × IsCanonical r.session.own n (text_of other n)
first_due s now other r n rest is honest first =
    true_text_due (held now.store.entries) r.session other is.right.walked is.right.orderly is.partner honest n
    (first_has r.session.outstanding n rest first)

pub shallow : {s now : State} {seat id known : ℕ} {other : RowMap} {u : IsUnderWay s seat other known now} {n : Node}
    → IsNext s now seat id known other u n → n.depth ≤ tree_depth other.format
shallow {s = s} {now = now} {other = other} {u = u} {n = n} next = elim (first_due s now other u.r n next.rest next.is u.honest next.first).1 [
  | inl inner ↦ omega (arith, inner.0, ap tree_depth next.is.partner.format)
  | inr leaf ↦ omega (arith, leaf.0, ap tree_depth next.is.partner.format)
]

pub asked_ascend : (s now : State) (seat known : ℕ) (other : RowMap) (u : IsUnderWay s seat other known now) → IsTrueWalk s now other u.r
    → AscendByPlace u.r.session.asked
asked_ascend s now seat known other u is = asked_in_order u.r.session is.traced (u.r.session.outstanding, u.turn)

asked_in : (s now : State) (seat known : ℕ) (other : RowMap) (u : IsUnderWay s seat other known now) → IsTrueWalk s now other u.r
    → AreIn u.r.session.asked (differ (rows_now s.store) other)
asked_in s now seat known other u is n h =
    ap (λ (m : RowMap). contains_node n (differ m other)) (sym u.own) ∙ asked_is_differ u.r.session other is.traced is.partner u.honest n h

left_ascend : (s now : State) (seat known : ℕ) (other : RowMap) (u : IsUnderWay s seat other known now) (n : Node) (rest : List Node)
    → IsTrueWalk s now other u.r → u.r.session.outstanding ≡ n ∷ rest → AscendByPlace (n ∷ rest)
left_ascend s now seat known other u n rest is first =
    Ascends-suffix (nodes_of u.r.session.taken) (n ∷ rest)
    (subst (λ (xs : List Node). AscendByPlace xs) (u.turn ∙ ap (λ (xs : List Node). nodes_of u.r.session.taken ++ xs) first)
    (asked_ascend s now seat known other u is))

-- ---- the session goes on

has_left : (n : Node) (xs ys : List Node) → contains_node n ys ≡ true → contains_node n (xs ++ ys) ≡ true
has_left n xs ys h = list_any-append (is_same_node n) xs ys ∙ or_right (contains_node n xs) (contains_node n ys) h

turned : (done : List TakenText) (t : TakenText) (rest kids asked outstanding : List Node) → asked ≡ nodes_of done ++ outstanding
    → outstanding ≡ t.node ∷ rest → (left : List Node) → left ≡ rest → asked ++ kids ≡ nodes_of (done ++ t ∷ []) ++ (left ++ kids)
turned done t rest kids asked outstanding turn first left is =
    ap (λ (xs : List Node). xs ++ kids) (turn ∙ ap (λ (xs : List Node). nodes_of done ++ xs) first)
    ∙ append_assoc (nodes_of done) (t.node ∷ rest) kids
    ∙ sym (append_assoc (nodes_of done) (t.node ∷ []) (rest ++ kids))
    ∙ ap (λ (xs : List Node). xs ++ (rest ++ kids)) (sym (nodes-push done t))
    ∙ ap (λ (xs : List Node). nodes_of (done ++ t ∷ []) ++ (xs ++ kids)) (sym is)

-- a session went on by one text more
pub record HasMoved (s now new : State) (seat id count : ℕ) (other : RowMap) (r : Record) (n : Node) : Type 0 where
  pub under : IsUnderWay s seat other count new
  pub partner : under.r.partner ≡ r.partner
  pub turn : nodes_of under.r.session.taken ≡ nodes_of r.session.taken ++ n ∷ []
  pub more : taken_count new.records id ≡ length r.session.taken + 1

-- one text more was taken, and this came of it
moved : (s now new : State) (base : Store) (seat id known count : ℕ) (other : RowMap) (u : IsUnderWay s seat other known now) (n : Node)
    → IsNext s now seat id known other u n → base.config ≡ now.store.config → length now.store.entries ≤ length base.entries
    → new ≡ walked_to (with_store now base) id u.r (after u.r.session (entry n (text_of other n)))
    → taken_leaves s.store seat other 0 (leaves_in s.store.config.format (nodes_of u.r.session.taken ++ n ∷ [])) ≡ so_far base count
    → HasMoved s now new seat id count other u.r n
moved s now new base seat id known count other u n next config grown new_is progress =
    subst (λ (x : State). HasMoved s now x seat id count other u.r n) (sym new_is) (record {
      under = record {
        r = r;
        records = records;
        number = u.number;
        next = u.next;
        config = config ∙ u.config;
        own = u.own;
        root = u.root;
        honest = all-push _ u.r.session.taken t u.honest refl;
        turn = turned u.r.session.taken t next.rest (asks u.r.session.own t) u.r.session.asked u.r.session.outstanding u.turn next.first _ left;
        stands = refl;
        grown = omega (arith, u.grown, grown);
        progress = ap (λ (xs : List Node). taken_leaves s.store seat other 0 (leaves_in s.store.config.format xs)) (nodes-push u.r.session.taken t)
            ∙ progress;
      };
      partner = refl;
      turn = nodes-push u.r.session.taken t;
      more = ap (λ (rs : List Record). taken_count rs id) records ∙ ap (taken_count (s.records ++ r ∷ [])) next.at
          ∙ ap count_of (got_last s.records r)
          ∙ length-append u.r.session.taken (t ∷ []);
    })
  where
    t : TakenText
    t = entry n (text_of other n)

    r : Record
    r = record { number = u.r.number; partner = u.r.partner; session = after u.r.session t }

    records : set now.records id r ≡ s.records ++ r ∷ []
    records =
        ap (λ (rs : List Record). set rs id r) u.records
        ∙ ap (λ (k : ℕ). set (s.records ++ u.r ∷ []) k r) next.at
        ∙ set_last s.records u.r r

    left : filter (λ m. not (is_same_node m n)) u.r.session.outstanding ≡ next.rest
    left = ap (filter (λ m. not (is_same_node m n))) next.first
        ∙ without_first n next.rest (left_ascend s now seat known other u n next.rest next.is next.first).0

inner_on : (s now new : State) (seat id known : ℕ) (other : RowMap) (u : IsUnderWay s seat other known now) (n : Node) (a : AnswerTaken)
    (count : ℕ) → count ≡ known + a.known → IsNext s now seat id known other u n
    → TakesInner now id u.r (entry n (text_of other n)) a new → HasMoved s now new seat id count other u.r n
inner_on s now new seat id known other u n a count sum next took =
    let f : Format = s.store.config.format in
    let done = nodes_of u.r.session.taken in
    let less : n.depth < tree_depth f = omega (arith, took.read.inner, ap (λ (c : Config). tree_depth c.format) u.config) in
    let none : leaves_in f (done ++ n ∷ []) ≡ leaves_in f done = leaves-append f done (n ∷ [])
    ∙ ap (λ (xs : List Node). leaves_in f done ++ xs) (inner_counts f n [] less) ∙ append-nil (leaves_in f done) in
    let same : known ≡ count = omega (arith, took.known, sum) in
    moved s now new now.store seat id known count other u n next refl (omega arith) took.new_is
    (ap (taken_leaves s.store seat other 0) none ∙ u.progress ∙ ap (so_far now.store) same)

-- what a leaf's true text is read as
offers_are : (s now : State) (seat known : ℕ) (other : RowMap) (u : IsUnderWay s seat other known now) (n : Node) (rows : List Row)
    → IsTrueWalk s now other u.r → IsLeafRead now u.r (entry n (text_of other n)) rows
    → (n.depth ≡ tree_depth s.store.config.format) × (offers_of rows ≡ offers_at other n)
offers_are s now seat known other u n rows is read =
    let deep : n.depth ≡ tree_depth s.store.config.format = read.leaf ∙ ap (λ (c : Config). tree_depth c.format) u.config in
    (deep, ap offers_of (true_rows u.r.session other is.partner n (deep ∙ ap (λ (m : RowMap). tree_depth m.format) (sym u.own)) rows read.spelled))

leaf_on : (s now new : State) (seat id known : ℕ) (other : RowMap) (u : IsUnderWay s seat other known now) (n : Node) (a : AnswerTaken)
    (count : ℕ) → count ≡ known + a.known → IsNext s now seat id known other u n
    → TakesLeaf now seat id u.r (entry n (text_of other n)) a new → HasMoved s now new seat id count other u.r n
leaf_on s now new seat id known other u n a count sum next took =
    let f : Format = s.store.config.format in
    let done = nodes_of u.r.session.taken in
    let are = offers_are s now seat known other u n took.rows next.is took.read in
    let base : Store = taken_in now.store seat (offers_at other n) in
    let fits : leaf_fault now.store seat (offers_at other n) ≡ None = ap (leaf_fault now.store seat) (sym are.1) ∙ took.fault in
    let new_is : new ≡ walked_to (with_store now base) id u.r (after u.r.session (entry n (text_of other n))) =
    took.new_is ∙ ap (λ (o : List _). walked_to (with_store now (taken_in now.store seat o)) id u.r (after u.r.session (entry n (text_of other n))))
    are.1 in
    let more : leaves_in f (done ++ n ∷ []) ≡ leaves_in f done ++ n ∷ [] = leaves-append f done (n ∷ [])
    ∙ ap (λ (xs : List Node). leaves_in f done ++ xs) (leaf_counts f n [] are.0) in
    let entries : now.store.entries ++ a.receipts.items ≡ base.entries = took.receipts
    ∙ ap (λ (o : List _). (taken_in now.store seat o).entries) are.1 in
    let known_is : known + known_in now.store seat (offers_at other n) ≡ count =
    omega (arith, ap length entries, length-append now.store.entries a.receipts.items, took.known, sum, ap length are.1) in
    moved s now new base seat id known count other u n next (config_stays now.store seat Partner (offers_at other n))
    (omega (arith, ap length entries, length-append now.store.entries a.receipts.items)) new_is
    (ap (taken_leaves s.store seat other 0) more
    ∙ taken_more s.store now.store seat other 0 known (leaves_in f done) (n ∷ []) u.progress
    ∙ leaf_is_taken now.store seat other known n fits
    ∙ ap (so_far base) known_is)

went_on : (s now new : State) (seat id known : ℕ) (other : RowMap) (u : IsUnderWay s seat other known now) (n : Node) (a : AnswerTaken)
    (count : ℕ) → count ≡ known + a.known → IsNext s now seat id known other u n
    → TakesFor now seat id (slice_get now.records id) (entry n (text_of other n)) (Ok a) new → HasMoved s now new seat id count other u.r n
went_on s now new seat id known other u n a count sum next answer =
    let took : TakesText now seat id u.r (entry n (text_of other n)) (Ok a) new = subst
    (λ (o : Option Record). TakesFor now seat id o (entry n (text_of other n)) (Ok a) new) (here_is s now seat known id other u next.at) answer in
    elim took.1 [
      | inl inner ↦ inner_on s now new seat id known other u n a count sum next inner
      | inr leaf ↦ leaf_on s now new seat id known other u n a count sum next leaf
    ]

-- the next node was answered
pub answered : {s now new : State} {seat id known : ℕ} {other : RowMap} {u : IsUnderWay s seat other known now} {n : Node} {a : AnswerTaken}
    {count : ℕ} → IsNext s now seat id known other u n → count ≡ known + a.known
    → (◌≡◌ {A = Result AnswerTaken Refusal} (Ok a) (Err refusals.NoMemory) × (new ≡ now)) ⊎ TakesFor now seat id (slice_get now.records id)
    (entry n (text_of other n)) (Ok a) new → HasMoved s now new seat id count other u.r n
answered next sum (inl memory) = absurd (let clash = memory.0 in cc)
answered {s = s} {now = now} {new = new} {seat = seat} {id = id} {known = known} {other = other} {u = u} {n = n} {a = a} {count = count} next sum
    (inr took) = went_on s now new seat id known other u n a count sum next took

-- ---- a leaf is refused

refusal_of : (s new : State) (seat id : ℕ) (r : Record) (t : TakenText) (e : Refusal) → e ≢ refusals.NoMemory → IsDue r.session t
    → IsCanonical r.session.own t.node t.text → Refuses s seat id r t e new → IsLeafFault s seat r t e × (new ≡ s)
refusal_of s new seat id r t refusals.Crowded other due can h = h
refusal_of s new seat id r t refusals.JournalFull other due can h = h
refusal_of s new seat id r t refusals.NotAsked other due can h = absurd (both_ways _ h.0 due.asked)
refusal_of s new seat id r t refusals.WrongDigest other due can h = absurd (h.0.1 due.digest)
refusal_of s new seat id r t refusals.NotCanonical other due can h = absurd (h.0.1 can)
refusal_of s new seat id r t refusals.NoMemory other due can h = absurd (other refl)
refusal_of s new seat id r t e other due can h = absurd h.0

stops : (s now new : State) (seat id known : ℕ) (other : RowMap) (u : IsUnderWay s seat other known now) (n : Node) (rest : List Node) (e : Refusal)
    → IsTrueWalk s now other u.r → id ≡ length s.records → u.r.session.outstanding ≡ n ∷ rest
    → e ≢ refusals.NoMemory → TakesFor now seat id (slice_get now.records id) (entry n (text_of other n)) (Err e) new
    → IsLeafFault now seat u.r (entry n (text_of other n)) e × (new ≡ now)
stops s now new seat id known other u n rest e is at first memory answer =
    let took : Refuses now seat id u.r (entry n (text_of other n)) e new = subst
    (λ (o : Option Record). TakesFor now seat id o (entry n (text_of other n)) (Err e) new) (here_is s now seat known id other u at) answer in
    let due = first_due s now other u.r n rest is u.honest first in
    refusal_of now new seat id u.r (entry n (text_of other n)) e memory due.0 due.1 took

-- the next node is a leaf that was refused
pub stopped : {s now new : State} {seat id known : ℕ} {other : RowMap} {u : IsUnderWay s seat other known now} {n : Node} {e : Refusal}
    → IsNext s now seat id known other u n → (e ≡ refusals.NoMemory → ⊥)
    → (◌≡◌ {A = Result AnswerTaken Refusal} (Err e) (Err refusals.NoMemory) × (new ≡ now)) ⊎ TakesFor now seat id (slice_get now.records id)
    (entry n (text_of other n)) (Err e) new → IsLeafFault now seat u.r (entry n (text_of other n)) e × (new ≡ now)
stopped next memory (inl none) = absurd (memory (let same = none.0 in cc))
stopped {s = s} {now = now} {new = new} {seat = seat} {id = id} {known = known} {other = other} {u = u} {n = n} {e = e} next memory (inr took) =
    stops s now new seat id known other u n next.rest e next.is next.at next.first memory took

-- where no memory is left, nothing changes
unchanged : {s now new : State} {seat id known : ℕ} {other : RowMap} {u : IsUnderWay s seat other known now} {n : Node}
    → IsNext s now seat id known other u n
    → (◌≡◌ {A = Result AnswerTaken Refusal} (Err refusals.NoMemory) (Err refusals.NoMemory) × (new ≡ now)) ⊎ TakesFor now seat id
    (slice_get now.records id) (entry n (text_of other n)) (Err refusals.NoMemory) new → new ≡ now
unchanged next (inl none) = none.1
unchanged {s = s} {now = now} {new = new} {seat = seat} {id = id} {known = known} {other = other} {u = u} {n = n} next (inr answer) =
    let took : Refuses now seat id u.r (entry n (text_of other n)) refusals.NoMemory new = subst
    (λ (o : Option Record). TakesFor now seat id o (entry n (text_of other n)) (Err refusals.NoMemory) new)
    (here_is s now seat known id other u next.at) answer in
    took.1

-- ---- the end

none_left : (s now : State) (seat known : ℕ) (other : RowMap) (u : IsUnderWay s seat other known now) → u.r.session.outstanding ≡ []
    → IsNearlyDone u.r.session
none_left s now seat known other u done n h = let clash : false ≡ true = sym (ap (contains_node n) done) ∙ h in cc

leaves_left : (s now : State) (seat known : ℕ) (other : RowMap) (u : IsUnderWay s seat other known now) (n : Node) (rest : List Node)
    → IsTrueWalk s now other u.r → u.r.session.outstanding ≡ n ∷ rest → n.depth ≡ tree_depth s.store.config.format → IsNearlyDone u.r.session
leaves_left s now seat known other u n rest is first deep m h =
    let differs = asked_in s now seat known other u is m
    (ap (contains_node m) u.turn ∙ has_left m (nodes_of u.r.session.taken) u.r.session.outstanding h) in
    let inside = all_has _ (differ (rows_now s.store) other) (differ_inside (rows_now s.store) other) m differs in
    let format = ap (λ (x : RowMap). tree_depth x.format) u.own in
    elim (member_of m n rest (sym (ap (contains_node m) first) ∙ h)) [
      | inl same ↦ ap (λ (x : Node). x.depth) same ∙ deep ∙ sym format
      | inr later ↦
          let less : place_of n < place_of m = all_has (λ x. place_of n < place_of x) rest
          (left_ascend s now seat known other u n rest is first).0 m later in
          omega (arith, as_deep n m less inside.1, inside.0, deep, format)
    ]

pub asked_all : (s now : State) (seat known : ℕ) (other : RowMap) (u : IsUnderWay s seat other known now) → IsTrueWalk s now other u.r
    → IsNearlyDone u.r.session → u.r.session.asked ≡ differ (rows_now s.store) other
asked_all s now seat known other u is near =
    same_nodes u.r.session.asked (differ (rows_now s.store) other) (asked_ascend s now seat known other u is)
    (differ_ascends (rows_now s.store) other) (asked_in s now seat known other u is)
    (λ n h. differ_is_asked (held now.store.entries) u.r.session other is.right.walked is.right.orderly is.partner u.honest near n
    (ap (λ (m : RowMap). contains_node n (differ m other)) u.own ∙ h))

-- what is answered at the end
pub record IsShown (s now : State) (id count : ℕ) (cause : Option Refusal) (a : Synced) : Type 0 where
  pub accepted : length s.store.entries + a.accepted ≡ length now.store.entries
  pub known : a.known ≡ count
  pub asked : MatchOption (slice_get now.records id) ⊥ (λ r. a.asked ≡ length r.session.asked)
  pub fault : a.fault ≡ cause

pub is_shown : {s now : State} {id count before : ℕ} {cause : Option Refusal} {a : Synced} → before ≡ length s.store.entries
    → before + a.accepted ≡ length now.store.entries → a.known ≡ count
    → MatchOption (slice_get now.records id) ⊥ (λ r. a.asked ≡ length r.session.asked) → a.fault ≡ cause
    → IsShown s now id count cause a
is_shown {a = a} start accepted known asked fault =
    record { accepted = ap (λ k. k + a.accepted) (sym start) ∙ accepted; known = known; asked = asked; fault = fault }

ends : (s now : State) (seat id known : ℕ) (other : RowMap) (fault : Option Refusal) (a : Synced) (u : IsUnderWay s seat other known now)
    → IsTrueWalk s now other u.r → id ≡ length s.records → IsNearlyDone u.r.session
    → taken_leaves s.store seat other 0 (leaves_in s.store.config.format u.r.session.asked) ≡ record {
      store = now.store;
      known = known;
      fault = fault;
    } → u.r.session.state ≡ ended fault → IsShown s now id known fault a
    → IsSyncedTo s seat other now a
ends s now seat id known other fault a u is at near progress state shown =
    let all = asked_all s now seat known other u is near in
    let end : synced s.store seat other ≡ record { store = now.store; known = known; fault = fault } = ap
    (λ (xs : List Node). taken_leaves s.store seat other 0 (leaves_in s.store.config.format xs)) (sym all) ∙ progress in
    let asked : a.asked ≡ length u.r.session.asked = subst (λ (o : Option Record). MatchOption o ⊥ (λ r. a.asked ≡ length r.session.asked))
    (here_is s now seat known id other u at) shown.asked in
    record {
      store = sym (ap (λ (p : Progress). p.store) end);
      sessions = ap standings u.records ∙ map-append (λ (r : Record). r.session.state) s.records (u.r ∷ [])
          ∙ ap (λ (x : SessionState). standings s.records ++ x ∷ []) (state ∙ ap (λ (p : Progress). ended p.fault) (sym end));
      next = u.next;
      accepted = shown.accepted;
      known = shown.known ∙ sym (ap (λ (p : Progress). p.known) end);
      asked = asked ∙ ap length all;
      fault = shown.fault ∙ sym (ap (λ (p : Progress). p.fault) end);
    }

-- nothing is outstanding
pub finished : {s now : State} {seat id known : ℕ} {other : RowMap} {u : IsUnderWay s seat other known now} {a : Synced}
    → IsDone s now seat id known other u → IsShown s now id known None a → IsSyncedTo s seat other now a
finished {s = s} {now = now} {seat = seat} {id = id} {known = known} {other = other} {u = u} {a = a} done shown =
    let taken : u.r.session.asked ≡ nodes_of u.r.session.taken = u.turn ∙ ap (λ (xs : List Node). nodes_of u.r.session.taken ++ xs) done.none
    ∙ append-nil (nodes_of u.r.session.taken) in
    ends s now seat id known other None a u done.is done.at (none_left s now seat known other u done.none)
    (ap (λ (xs : List Node). taken_leaves s.store seat other 0 (leaves_in s.store.config.format xs)) taken ∙ u.progress)
    (u.stands ∙ ap state_by done.none) shown

-- the leaf of a node is refused
pub refused_at : {s now new : State} {seat id known : ℕ} {other : RowMap} {u : IsUnderWay s seat other known now} {a : Synced} {n : Node}
    {e : Refusal} → IsNext s now seat id known other u n → IsLeafFault now seat u.r (entry n (text_of other n)) e × (new ≡ now)
    → IsShown s new id known (Some e) a → IsSyncedTo s seat other new a
refused_at {s = s} {now = now} {seat = seat} {id = id} {known = known} {other = other} {u = u} {a = a} {n = n} {e = e} next cause shown =
    let is = next.is in
    let rest = next.rest in
    let first = next.first in
    let f : Format = s.store.config.format in
    let done = nodes_of u.r.session.taken in
    let are = offers_are s now seat known other u n cause.0.rows is cause.0.read in
    let fault : leaf_fault now.store seat (offers_at other n) ≡ Some e = ap (leaf_fault now.store seat) (sym are.1) ∙ cause.0.fault in
    let all : leaves_in f u.r.session.asked ≡ leaves_in f done ++ n ∷ leaves_in f rest =
    ap (leaves_in f) (u.turn ∙ ap (λ (xs : List Node). done ++ xs) first) ∙ leaves-append f done (n ∷ rest)
    ∙ ap (λ (xs : List Node). leaves_in f done ++ xs) (leaf_counts f n rest are.0) in
    subst (λ (x : State). IsSyncedTo s seat other x a) (sym cause.1)
    (ends s now seat id known other (Some e) a u is next.at (leaves_left s now seat known other u n rest is first are.0)
    (ap (taken_leaves s.store seat other 0) all
    ∙ taken_more s.store now.store seat other 0 known (leaves_in f done) (n ∷ leaves_in f rest) u.progress
    ∙ leaf_refused now.store seat other known n (leaves_in f rest) e fault)
    (u.stands ∙ ap state_by first)
    (subst (λ (x : State). IsShown s x id known (Some e) a) cause.1 shown))

length-nodes : (ts : List TakenText) → length (nodes_of ts) ≡ length ts
length-nodes [] = refl
length-nodes (t ∷ ts) = omega (arith, length-nodes ts)

-- each text that is taken leaves fewer of the nodes where the trees differ
pub fewer_left : {s now new : State} {seat id known : ℕ} {other : RowMap} {u : IsUnderWay s seat other known now} {count : ℕ} {n : Node}
    → IsNext s now seat id known other u n → HasMoved s now new seat id count other u.r n
    → length (differ (rows_now s.store) other) - taken_count new.records id < length (differ (rows_now s.store) other) - taken_count now.records id
fewer_left {s = s} {now = now} {seat = seat} {id = id} {known = known} {other = other} {u = u} next moved =
    let most = fits (differ (rows_now s.store) other) u.r.session.asked (asked_ascend s now seat known other u next.is)
    (differ_ascends (rows_now s.store) other) (asked_in s now seat known other u next.is) in
    let room : length u.r.session.taken < length (differ (rows_now s.store) other) =
    omega (
      arith,
      most,
      ap length u.turn,
      length-append (nodes_of u.r.session.taken) u.r.session.outstanding,
      length-nodes u.r.session.taken,
      ap length next.first,
    ) in
    omega (arith, moved.more, ap count_of (here_is s now seat known id other u next.at), room)

-- ---- a session that stopped on its way

-- where a node lies above the leaves, so do the nodes before it
all_above : (f : Format) (nodes : List Node) (n : Node) → n.depth < tree_depth f → n.index < 16 ^ n.depth
    → AllByRecursion (λ m. place_of m < place_of n) nodes → AllByRecursion (λ m. m.depth < tree_depth f) nodes
all_above f nodes n less within before = All-weaker _ _ nodes (λ m h. omega (arith, as_deep m n h within, less)) before

-- the leaves among some nodes are the first of those among all
abbrev pub AreFirst : Format → List Node → List Node → Type 0
AreFirst f nodes all = (rest : List Node) × (leaves_in f all ≡ leaves_in f nodes ++ rest)

-- the leaves taken with the next node are the first ones, since a leaf is taken only once nothing but leaves is left
up_to : (s now : State) (seat known : ℕ) (other : RowMap) (u : IsUnderWay s seat other known now) (n : Node) (rest : List Node)
    → IsTrueWalk s now other u.r → u.r.session.outstanding ≡ n ∷ rest
    → AreFirst s.store.config.format (nodes_of u.r.session.taken ++ n ∷ []) (differ (rows_now s.store) other)
up_to s now seat known other u n rest is first = elim (cases_lt n.depth (tree_depth f)) [
  | inl less ↦ (leaves_in f all, ap (λ (xs : List Node). xs ++ leaves_in f all) (sym (none less)))
  | inr more ↦ (
    leaves_in f rest,
    ap (leaves_in f) (sym (asked_all s now seat known other u is
        (leaves_left s now seat known other u n rest is first (omega (arith, more, inside.0)))) ∙ turn ∙ sym (append_assoc done (n ∷ []) rest))
        ∙ leaves-append f (done ++ n ∷ []) rest,
  )
]
  where
    f : Format
    f = s.store.config.format

    all : List Node
    all = differ (rows_now s.store) other

    done : List Node
    done = nodes_of u.r.session.taken

    turn : u.r.session.asked ≡ done ++ n ∷ rest
    turn = u.turn ∙ ap (λ (xs : List Node). done ++ xs) first

    inside : (n.depth < suc (tree_depth f)) × (n.index < 16 ^ n.depth)
    inside = all_has (λ m. (m.depth < suc (tree_depth f)) × (m.index < 16 ^ m.depth)) all (differ_inside (rows_now s.store) other) n
        (asked_in s now seat known other u is n (ap (contains_node n) turn ∙ has_left n done (n ∷ rest) (has_head n rest)))

    none : n.depth < tree_depth f → leaves_in f (done ++ n ∷ []) ≡ []
    none less = leaves-append f done (n ∷ [])
        ∙ ap (λ (xs : List Node). xs ++ leaves_in f (n ∷ []))
        (no_leaves f done (all_above f done n less inside.1
        (ascends_before done n rest (subst (λ (xs : List Node). AscendByPlace xs) turn (asked_ascend s now seat known other u is)))))
        ∙ inner_counts f n [] less

-- the record of a session on its way
one_more : (s now : State) (seat partner known : ℕ) (other : RowMap) (u : IsUnderWay s seat other known now) → u.r.partner ≡ partner
    → HasOneMore s partner other now.records
one_more s now seat partner known other u with_whom = record {
  r = u.r;
  records = u.records;
  number_is = u.number;
  partner_is = with_whom;
  own = u.own;
  root = sym u.root;
  texts = u.honest;
  turn = u.turn;
  stands = u.stands;
}

-- a session that ended has asked all
pub all_asked : {s now : State} {seat id known : ℕ} {other : RowMap} {u : IsUnderWay s seat other known now} {partner : ℕ}
    → IsDone s now seat id known other u → u.r.partner ≡ partner → HasAskedAll s partner other now.records
unfolding one_more
all_asked {s = s} {now = now} {seat = seat} {known = known} {other = other} {u = u} {partner = partner} done with_whom =
    (one_more s now seat partner known other u with_whom, asked_all s now seat known other u done.is (none_left s now seat known other u done.none))

-- and so has one of which a leaf was refused
pub all_asked_at : {s now new : State} {seat id known : ℕ} {other : RowMap} {u : IsUnderWay s seat other known now} {partner : ℕ} {n : Node}
    {e : Refusal} → IsNext s now seat id known other u n → IsLeafFault now seat u.r (entry n (text_of other n)) e × (new ≡ now)
    → u.r.partner ≡ partner → HasAskedAll s partner other new.records
unfolding one_more
all_asked_at {s = s} {now = now} {seat = seat} {known = known} {other = other} {u = u} {partner = partner} {n = n} next cause with_whom =
    let deep = (offers_are s now seat known other u n cause.0.rows next.is cause.0.read).0 in
    subst (λ (x : State). HasAskedAll s partner other x.records) (sym cause.1) (
      one_more s now seat partner known other u with_whom,
      asked_all s now seat known other u next.is (leaves_left s now seat known other u n next.rest next.is next.first deep),
    )

part_way : (s now : State) (seat partner known : ℕ) (other : RowMap) (u : IsUnderWay s seat other known now)
    → AreFirst s.store.config.format (nodes_of u.r.session.taken) (differ (rows_now s.store) other) → u.r.partner ≡ partner
    → IsPartWay s seat partner other now
part_way s now seat partner known other u first with_whom = record {
  leaves = leaves_in s.store.config.format (nodes_of u.r.session.taken);
  rest = first.0;
  first = first.1;
  fits = ap (λ (p : Progress). p.fault) u.progress;
  store = sym (ap (λ (p : Progress). p.store) u.progress);
  session = one_more s now seat partner known other u with_whom;
  next = u.next;
}

-- a session stopped before its next node
pub stopped_before : {s now new : State} {seat id known : ℕ} {other : RowMap} {u : IsUnderWay s seat other known now} {partner : ℕ} {n : Node}
    → IsNext s now seat id known other u n
    → (◌≡◌ {A = Result AnswerTaken Refusal} (Err refusals.NoMemory) (Err refusals.NoMemory) × (new ≡ now)) ⊎ TakesFor now seat id
    (slice_get now.records id) (entry n (text_of other n)) (Err refusals.NoMemory) new → u.r.partner ≡ partner
    → IsPartWay s seat partner other new
stopped_before {s = s} {now = now} {seat = seat} {known = known} {other = other} {u = u} {partner = partner} {n = n} next answer with_whom =
    let f : Format = s.store.config.format in
    let done = nodes_of u.r.session.taken in
    let more = up_to s now seat known other u n next.rest next.is next.first in
    let first = more.1 ∙ ap (λ (xs : List Node). xs ++ more.0) (leaves-append f done (n ∷ []))
    ∙ append_assoc (leaves_in f done) (leaves_in f (n ∷ [])) more.0 in
    subst (λ (x : State). IsPartWay s seat partner other x) (sym (unchanged next answer))
    (part_way s now seat partner known other u (leaves_in f (n ∷ []) ++ more.0, first) with_whom)

-- and after it
pub stopped_after : {s now new : State} {seat id known : ℕ} {other : RowMap} {u : IsUnderWay s seat other known now} {partner count : ℕ} {n : Node}
    → IsNext s now seat id known other u n → HasMoved s now new seat id count other u.r n → u.r.partner ≡ partner → IsPartWay s seat partner other new
stopped_after {s = s} {now = now} {new = new} {seat = seat} {known = known} {other = other} {u = u} {partner = partner} {count = count}
    {n = n} next moved with_whom =
    part_way s new seat partner count other moved.under
    (subst (λ (xs : List Node). AreFirst s.store.config.format xs (differ (rows_now s.store) other)) (sym moved.turn)
    (up_to s now seat known other u n next.rest next.is next.first)) (moved.partner ∙ with_whom)
