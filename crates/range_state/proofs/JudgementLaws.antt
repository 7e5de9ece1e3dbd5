-- The number of versions that are new, row by row.
use Rattle.std.proofs.Common.{◌≡◌, inl, inr, ℕ, ◌+◌, ◌≤◌, true, false, cond, Bool, Option, Some, None, List, [], ◌∷◌, ◌++◌, length, map, refl, sym}
use Rattle.std.proofs.Common.{ap, subst, ◌∙◌, arith, append-nil}
use Rattle.std.specs.Prelude.{nat_eq, nat_le, slice_get, ◌⊎◌, ◌≢◌, ◌<◌, ⊤, Result, Ok, Err}
use Rattle.std.specs.Cmp.Lexicographic.{pointwise}
use Rattle.std.proofs.lemmas.Cmp.{nat_list_eq_equiv}
use Rattle.std.proofs.lemmas.List.{length-append}
use Rattle.std.proofs.lemmas.Grind.{flat_map-append}
use Rattle.vclock.specs.Answer.{first_fault, AnswersAtOnce}
use Rattle.vclock.specs.declared.format.Format.{Format}
use Rattle.vclock.specs.declared.refusal.Refusal.{Refusal}
use Rattle.vclock.specs.declared.refusal.Refusal.TheVariants.{Crowded, JournalFull, NoMemory}
use Rattle.vclock.specs.declared.refusal.Refusal.TheVariants as refusals
use Rattle.version_set.specs.declared.version.Version.{Version}
use Rattle.version_set.specs.Version.{covered, offered, offer_fault}
use Rattle.range_journal.specs.declared.journal.Source.TheVariants.{Partner}
use Rattle.range_journal.specs.Journal.{held}
use Rattle.row_bytes.specs.declared.row.Row.{Row}
use Rattle.snapshot.specs.RowMaps.{RowMap}
use Rattle.tree_nodes.specs.Nodes.{Node, tree_depth}
use Rattle.sync_session.specs.Readings.{IsReadTo, IsReadFault, Tells}
use Rattle.sync_session.specs.Steps.{IsDue, IsTakeFault}
use Rattle.sync_session.specs.Walks.{TakenText, AreSpelled, IsInnerText}
use Rattle.sync_session.specs.declared.news.News.{News}
use Rattle.range_state.specs.declared.«record».Record.{Record}
use Rattle.range_store.specs.Store.{Store, knows, entry_of, accept_step}
use Rattle.range_store.specs.Offers.{offers_in, offers_of, crowded_in}
use Rattle.range_state.specs.State.{State}
use Rattle.range_state.specs.Sessions.{taken_in, leaf_fault, IsLeafRead, IsTakable, TextFault, TellsText, Refuses, TakesFor}
use Rattle.range_state.specs.Judgements.{HasOtherKeys, IsCounted, IsRowsFault, JudgesLeaf}
use Rattle.range_store.proofs.BatchLaws.{Offers, entries_step, alone, taken-append, crowded-append}
use Rattle.range_store.proofs.ChangeLaws.{crowded_is}
use Rattle.range_state.proofs.NewsLaws.{IsSame}
use Rattle.range_store.proofs.StoreLaws.{knows_held}
use Rattle.range_state.proofs.UnionLaws.{step_held, taken_holds}
use Rattle.range_store.proofs.HeldLaws.{none_of}

-- ---- the versions of one key

-- the offers of versions of a key
abbrev pub of_key : List ℕ → List Version → Offers
of_key key vs = map (λ (v : Version). (key, v)) vs

-- a version that is new is one entry more
step_more : (t : Store) (seat : ℕ) (key : List ℕ) (v : Version)
    → length (accept_step t seat Partner key v).entries ≡ length t.entries + cond (covered v (held t.entries key)) 0 1
step_more t seat key v = ap length (entries_step t seat Partner key v) ∙ by_case (knows t key v)
    ∙ ap (λ (b : Bool). length t.entries + cond b 0 1) (sym (knows_held t key v))
  where
    by_case : (b : Bool) → length (cond b t.entries (t.entries ++ entry_of t seat Partner key v ∷ [])) ≡ length t.entries + cond b 0 1
    by_case true = omega arith
    by_case false = omega (arith, length-append t.entries (entry_of t seat Partner key v ∷ []))

same_key : (key : List ℕ) → pointwise nat_eq key key ≡ true
same_key key = nat_list_eq_equiv.refl key

-- a version of the key itself
step_here : (t : Store) (seat : ℕ) (key : List ℕ) (v : Version) → held (accept_step t seat Partner key v).entries key ≡ offered v (held t.entries key)
step_here t seat key v = step_held t seat key v key ∙ rw (same_key key) refl

-- versions of a key that were offered in their turn, none of them too many
pub record IsTallied (s : Store) (seat : ℕ) (key : List ℕ) (vs set : List Version) (n : ℕ) : Type 0 where
  pub none : crowded_in s seat Partner (of_key key vs) ≡ None
  pub set_is : set ≡ held (taken_in s seat (of_key key vs)).entries key
  pub count : length (taken_in s seat (of_key key vs)).entries ≡ length s.entries + n
  pub few : n ≤ length vs

pub tallied_none : (s : Store) (seat : ℕ) (key : List ℕ) (set : List Version) → set ≡ held s.entries key → IsTallied s seat key [] set 0
tallied_none s seat key set is = record { none = refl; set_is = is; count = omega arith; few = omega arith }

next_fault : (s : Store) (seat : ℕ) (key : List ℕ) (vs set : List Version) (n : ℕ) (v : Version) → IsTallied s seat key vs set n
    → crowded_in (taken_in s seat (of_key key vs)) seat Partner ((key, v) ∷ []) ≡ offer_fault v set
next_fault s seat key vs set n v is = alone (taken_in s seat (of_key key vs)) seat Partner key v ∙ ap (offer_fault v) (sym is.set_is)

pub tallied_more : (s : Store) (seat : ℕ) (key : List ℕ) (vs set : List Version) (n : ℕ) (v : Version) (all now : List Version) (k : ℕ)
    → IsTallied s seat key vs set n → of_key key all ≡ of_key key vs ++ (key, v) ∷ [] → length all ≡ length vs + 1
    → offer_fault v set ≡ None → now ≡ offered v set → k ≡ n + cond (covered v set) 0 1 → IsTallied s seat key all now k
tallied_more s seat key vs set n v all now k is next long fits offer count =
    let t = taken_in s seat (of_key key vs) in
    let taken : taken_in s seat (of_key key all) ≡ accept_step t seat Partner key v = ap (taken_in s seat) next
    ∙ taken-append s seat Partner (of_key key vs) ((key, v) ∷ []) in
    record {
      none =
          ap (crowded_in s seat Partner) next ∙ crowded-append s seat Partner (of_key key vs) ((key, v) ∷ [])
          ∙ (λ i. first_fault (is.none i) (next_fault s seat key vs set n v is i)) ∙ fits;
      set_is = offer ∙ ap (offered v) is.set_is ∙ sym (step_here t seat key v) ∙ ap (λ (u : Store). held u.entries key) (sym taken);
      count = omega (
        arith,
        ap (λ (u : Store). length u.entries) taken,
        step_more t seat key v,
        is.count,
        count,
        ap {B = ℕ} (λ (S : List Version). cond (covered v S) 0 1) is.set_is,
      );
      few = omega (arith, is.few, long, count, at_most_one (covered v set));
    }
  where
    at_most_one : (b : Bool) → cond b 0 1 ≤ 1
    at_most_one true = omega arith
    at_most_one false = omega arith

-- one that is too many
pub tallied_stops : (s : Store) (seat : ℕ) (key : List ℕ) (vs set : List Version) (n : ℕ) (v : Version) (all : List Version) (rest : Offers)
    (e : Refusal) → IsTallied s seat key vs set n → of_key key all ≡ (of_key key vs ++ (key, v) ∷ []) ++ rest
    → offer_fault v set ≡ Some e → crowded_in s seat Partner (of_key key all) ≡ Some e
tallied_stops s seat key vs set n v all rest e is next full =
    let front = of_key key vs ++ (key, v) ∷ [] in
    ap (crowded_in s seat Partner) next ∙ crowded-append s seat Partner front rest
    ∙ ap (λ (o : Option Refusal). first_fault o (crowded_in (taken_in s seat front) seat Partner rest))
    (crowded-append s seat Partner (of_key key vs) ((key, v) ∷ []) ∙ (λ i. first_fault (is.none i) (next_fault s seat key vs set n v is i)) ∙ full)

-- ---- rows of other keys

-- what is held for a key decides what becomes of its versions
record IsAlike (s t : Store) (seat : ℕ) (key : List ℕ) (vs : List Version) : Type 0 where
  crowded : crowded_in s seat Partner (of_key key vs) ≡ crowded_in t seat Partner (of_key key vs)
  count : length (taken_in s seat (of_key key vs)).entries + length t.entries ≡ length (taken_in t seat (of_key key vs)).entries + length s.entries

alike : (s t : Store) (seat : ℕ) (key : List ℕ) (vs : List Version) → held s.entries key ≡ held t.entries key → IsAlike s t seat key vs
alike s t seat key [] same = record { crowded = refl; count = omega arith }
alike s t seat key (v ∷ vs) same =
    let next = step_here s seat key v ∙ ap (offered v) same ∙ sym (step_here t seat key v) in
    let rest = alike (accept_step s seat Partner key v) (accept_step t seat Partner key v) seat key vs next in
    record {
      crowded = λ i. first_fault (offer_fault v (same i)) (rest.crowded i);
      count = omega (
        arith,
        rest.count,
        step_more s seat key v,
        step_more t seat key v,
        ap {B = ℕ} (λ (S : List Version). cond (covered v S) 0 1) same,
      );
    }

-- rows of other keys change nothing of a row
pub record IsApart (s : Store) (seat : ℕ) (rows : List Row) (r : Row) : Type 0 where
  pub crowded : crowded_in (taken_in s seat (offers_of rows)) seat Partner (offers_in r) ≡ crowded_in s seat Partner (offers_in r)
  pub count : length (taken_in (taken_in s seat (offers_of rows)) seat (offers_in r)).entries + length s.entries ≡ length
      (taken_in s seat (offers_in r)).entries + length (taken_in s seat (offers_of rows)).entries

apart : (s : Store) (seat : ℕ) (rows : List Row) (r : Row) → HasOtherKeys r rows → IsApart s seat rows r
apart s seat rows r others =
    let t = taken_in s seat (offers_of rows) in
    let same : held t.entries r.key ≡ held s.entries r.key = taken_holds s seat (offers_of rows) r.key ∙ rw (none_of r.key rows others) refl in
    let is = alike t s seat r.key r.versions same in
    record { crowded = is.crowded; count = is.count }

-- ---- one row more

rows_more : (rows : List Row) (r : Row) → offers_of (rows ++ r ∷ []) ≡ offers_of rows ++ offers_in r
rows_more rows r = flat_map-append offers_in rows (r ∷ []) ∙ ap (λ (os : Offers). offers_of rows ++ os) (append-nil (offers_in r))

fault_more : (s : Store) (seat : ℕ) (rows : List Row) (r : Row) → HasOtherKeys r rows
    → crowded_in s seat Partner (offers_of (rows ++ r ∷ [])) ≡ first_fault (crowded_in s seat Partner (offers_of rows))
    (crowded_in s seat Partner (offers_in r))
fault_more s seat rows r others =
    ap (crowded_in s seat Partner) (rows_more rows r) ∙ crowded-append s seat Partner (offers_of rows) (offers_in r)
    ∙ ap (first_fault (crowded_in s seat Partner (offers_of rows))) (apart s seat rows r others).crowded

pub counted_none : (s : Store) (seat : ℕ) → IsCounted s seat [] (Some 0)
counted_none s seat = (refl, omega arith)

pub counted_more : (s : Store) (seat : ℕ) (rows : List Row) (r : Row) (n k sum : ℕ) → IsCounted s seat rows (Some n) → HasOtherKeys r rows
    → crowded_in s seat Partner (offers_in r) ≡ None
    → length (taken_in s seat (offers_in r)).entries ≡ length s.entries + k → sum ≡ n + k → IsCounted s seat (rows ++ r ∷ []) (Some sum)
counted_more s seat rows r n k sum is others fits count total = (
  fault_more s seat rows r others ∙ (λ i. first_fault (is.0 i) (fits i)),
  omega (
    arith,
    ap (λ (t : Store). length t.entries) (ap (taken_in s seat) (rows_more rows r) ∙ taken-append s seat Partner (offers_of rows) (offers_in r)),
    (apart s seat rows r others).count,
    is.1,
    count,
    total,
  ),
)

pub counted_crowds : (s : Store) (seat : ℕ) (rows : List Row) (r : Row) (n : ℕ) → IsCounted s seat rows (Some n) → HasOtherKeys r rows
    → crowded_in s seat Partner (offers_in r) ≡ Some Crowded → IsCounted s seat (rows ++ r ∷ []) None
counted_crowds s seat rows r n is others full = fault_more s seat rows r others ∙ (λ i. first_fault (is.0 i) (full i))

pub counted_stays : (s : Store) (seat : ℕ) (rows : List Row) (r : Row) → IsCounted s seat rows None → HasOtherKeys r rows
    → IsCounted s seat (rows ++ r ∷ []) None
counted_stays s seat rows r is others = fault_more s seat rows r others
    ∙ ap (λ (o : Option Refusal). first_fault o (crowded_in s seat Partner (offers_in r))) is

-- ---- a text that is read

-- the rows so far that the own ones lack, and the number of their new versions
pub record IsJudging (s : Store) (m : RowMap) (n : Node) (text last rest : List ℕ) (known : ℕ) (news : Option ℕ) : Type 0 where
  pub others : List Row
  pub read : IsReadTo m n text last rest others known
  pub counted : (seat : ℕ) → IsCounted s seat others news

-- the fault of a step
pub judge_fault : (s : Store) (seat : ℕ) (m : RowMap) (n : Node) (text : List ℕ) (e : Refusal) → IsReadFault m n text e
    → JudgesLeaf s seat m n text (Err e)
judge_fault s seat m n text refusals.NotCanonical fault = fault
judge_fault s seat m n text refusals.Crowded fault = absurd (let clash : Crowded ≡ NoMemory = fault in cc)
judge_fault s seat m n text refusals.JournalFull fault = absurd (let clash : JournalFull ≡ NoMemory = fault in cc)
judge_fault s seat m n text e fault = fault

-- no memory
pub judge_memory : (s : Store) (seat : ℕ) (m : RowMap) (n : Node) (text : List ℕ) (e : Refusal)
    → (e ≡ NoMemory) ⊎ (let none : Option Refusal = None in none ≡ Some e) → JudgesLeaf s seat m n text (Err e)
judge_memory s seat m n text e (inl memory) = subst (λ (x : Refusal). JudgesLeaf s seat m n text (Err x)) (sym memory) refl
judge_memory s seat m n text e (inr clash) = absurd (cc)

-- a leaf's versions are refused as crowded, or for want of room
leaf_cause : (s : Store) (seat : ℕ) (offers : Offers) (e : Refusal) → leaf_fault s seat offers ≡ Some e → (e ≡ Crowded) ⊎ (e ≡ JournalFull)
leaf_cause s seat offers e fault = by_case (crowded_in s seat Partner offers) (nat_le (length (taken_in s seat offers).entries) s.config.limit)
    (λ full. crowded_is s seat Partner offers e full) fault
  where
    by_case : (o : Option Refusal) (b : Bool) → (o ≡ Some e → e ≡ Crowded) → first_fault o (cond b None (Some JournalFull)) ≡ Some e
        → (e ≡ Crowded) ⊎ (e ≡ JournalFull)
    by_case (Some x) b crowd h = inl (crowd h)
    by_case None true crowd h = absurd (let clash : None ≡ Some e = h in cc)
    by_case None false crowd h = inr (let same : Some JournalFull ≡ Some e = h in cc)

pub whole : (s : Store) (seat : ℕ) (rows others : List Row) (known : ℕ) → IsSame s seat rows others known
    → leaf_fault s seat (offers_of rows) ≡ leaf_fault s seat (offers_of others)
whole s seat rows others known same =
    λ i. first_fault (same.crowded i) (cond (nat_le (length (same.taken i).entries) s.config.limit) None (Some JournalFull))

-- the judgement of the rows that the own ones lack is that of all
pub judged : (s : Store) (seat : ℕ) (m : RowMap) (n : Node) (text : List ℕ) (rows others : List Row) (known : ℕ) (result : Result (Unit {0}) Refusal)
    → AreSpelled m n text rows → IsSame s seat rows others known
    → AnswersAtOnce result (leaf_fault s seat (offers_of others)) (λ _. ⊤) → JudgesLeaf s seat m n text result
judged s seat m n text rows others known (Ok ok) spelled same shown = (rows, spelled, whole s seat rows others known same ∙ shown.0)
judged s seat m n text rows others known (Err e) spelled same shown = elim (leaf_cause s seat (offers_of others) e shown) [
  | inl is ↦ subst (λ (x : Refusal). JudgesLeaf s seat m n text (Err x)) (sym is) (
    rows,
    spelled,
    whole s seat rows others known same ∙ shown
        ∙ ap (λ (x : Refusal). Some x) is,
  )
  | inr is ↦ subst (λ (x : Refusal). JudgesLeaf s seat m n text (Err x)) (sym is) (
    rows,
    spelled,
    whole s seat rows others known same ∙ shown
        ∙ ap (λ (x : Refusal). Some x) is,
  )
]

-- ---- the text of a record's session

leaf_read : (s : State) (r : Record) (t : TakenText) (rows : List Row) → IsDue r.session t → t.node.depth ≡ tree_depth r.session.own.format
    → r.session.own.format ≡ s.store.config.format → AreSpelled r.session.own t.node t.text rows → IsLeafRead s r t rows
leaf_read s r t rows due deep format spelled = record { due = due; leaf = deep ∙ ap tree_depth format; spelled = spelled }

-- a leaf's text that can't be taken
pub text_fault : (s : State) (seat : ℕ) (r : Record) (t : TakenText) (e : Refusal) → IsDue r.session t
    → t.node.depth ≡ tree_depth r.session.own.format → r.session.own.format ≡ s.store.config.format
    → JudgesLeaf s.store seat r.session.own t.node t.text (Err e) → TextFault s seat r t e
text_fault s seat r t refusals.Crowded due deep format shown =
    record { rows = shown.0; read = leaf_read s r t shown.0 due deep format shown.1; fault = shown.2 }
text_fault s seat r t refusals.JournalFull due deep format shown =
    record { rows = shown.0; read = leaf_read s r t shown.0 due deep format shown.1; fault = shown.2 }
text_fault s seat r t refusals.NotCanonical due deep format shown = (
  due,
  λ can. elim can [
    | inl inner ↦ omega (arith, inner.0, deep)
    | inr leaf ↦ shown leaf.1.0 leaf.1.1
  ],
)
text_fault s seat r t e due deep format shown = subst (IsTakeFault r.session t) (sym shown) (due, λ less. absurd (omega (arith, less, deep)))

-- a fault of the session
pub session_fault : (s : State) (seat : ℕ) (r : Record) (t : TakenText) (e : Refusal) → IsTakeFault r.session t e → TextFault s seat r t e
session_fault s seat r t refusals.Crowded fault = absurd fault
session_fault s seat r t refusals.JournalFull fault = absurd fault
session_fault s seat r t e fault = fault

-- the news of a text that can be taken
pub text_shown : (s : State) (seat : ℕ) (r : Record) (t : TakenText) (result : Result News Refusal) → Tells r.session t result → IsTakable s seat r t
    → TellsText s seat r t result
text_shown s seat r t (Ok news) shown can = (shown, can)
text_shown s seat r t (Err e) shown can = session_fault s seat r t e shown

pub leaf_takable : (s : State) (seat : ℕ) (r : Record) (t : TakenText) → IsDue r.session t → t.node.depth ≡ tree_depth r.session.own.format
    → r.session.own.format ≡ s.store.config.format → IsRowsFault s.store seat r.session.own t.node t.text None → IsTakable s seat r t
leaf_takable s seat r t due deep format shown = inr (shown.0, leaf_read s r t shown.0 due deep format shown.1, shown.2)

pub inner_takable : (s : State) (seat : ℕ) (r : Record) (t : TakenText) → IsDue r.session t → t.node.depth < tree_depth r.session.own.format
    → r.session.own.format ≡ s.store.config.format → IsInnerText r.session.own.format t.text → IsTakable s seat r t
inner_takable s seat r t due inner format form =
    inl (record { due = due; inner = omega (arith, inner, ap tree_depth format); form = subst (λ (f : Format). IsInnerText f t.text) format form })

-- a text that is refused changes nothing, unless its session fails
pub text_refused : (s : State) (seat id : ℕ) (r : Record) (t : TakenText) (e : Refusal) → slice_get s.records id ≡ Some r → TextFault s seat r t e
    → e ≢ refusals.NotCanonical → TakesFor s seat id (slice_get s.records id) t (Err e) s
text_refused s seat id r t e here fault other = subst (λ (o : Option Record). TakesFor s seat id o t (Err e) s) (sym here) (by_cause e fault other)
  where
    by_cause : (e : Refusal) → TextFault s seat r t e → e ≢ refusals.NotCanonical → Refuses s seat id r t e s
    by_cause refusals.NotCanonical fault other = absurd (other refl)
    by_cause e fault other = (fault, refl)
