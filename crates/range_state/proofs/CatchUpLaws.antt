-- A new range catches up with the entries that the old one accepted since the moment.
use Rattle.std.proofs.Common.{◌≡◌, ◌⊎◌, inl, inr, ℕ, ◌+◌, ◌<◌, get_or, Bool, true, false, true≢false, cond, Option, Some, None, Err, List, [], ◌∷◌}
use Rattle.std.proofs.Common.{◌++◌, length, take, drop, refl, sym, ap, subst, ◌∙◌, arith}
use Rattle.std.specs.List.{AllByRecursion}
use Rattle.std.specs.Prelude.{IsTrue, ◌==◌, ◌&&◌, nat_le}
use Rattle.std.proofs.lemmas.Bool.{and_parts, eqb-true}
use Rattle.std.proofs.lemmas.List.{length-append, length-drop, take_all, take-append-drop, take_more, drop_more}
use Rattle.vclock.specs.Answer.{first_fault}
use Rattle.vclock.specs.Format.{format_number}
use Rattle.vclock.specs.declared.format.Format.{Format}
use Rattle.vclock.specs.declared.format.Format.TheVariants.{One, Two}
use Rattle.vclock.specs.Outcome.{Outcome, Does, DoesOrNoMemory, gives, refuses, is_given, through, ◌>>=◌, ◌>>◌}
use Rattle.vclock.specs.declared.refusal.Refusal.{Refusal}
use Rattle.vclock.specs.declared.refusal.Refusal.TheVariants.{Stale, NoMemory}
use Rattle.version_set.specs.Kind.{value_fault}
use Rattle.version_set.specs.Version.{offer_fault}
use Rattle.version_set.specs.declared.version.Version.{Version}
use Rattle.range_journal.specs.declared.journal.Entry.{Entry}
use Rattle.range_journal.specs.declared.journal.Source.TheVariants.{Copy}
use Rattle.range_journal.specs.Journal.{held}
use Rattle.key_ring.specs.Places.{range_at}
use Rattle.row_bytes.proofs.LimitLaws.{no_fault_else}
use Rattle.hash_tree.proofs.ChunkLaws.{all-take, all-drop}
use Rattle.range_store.specs.declared.receipt.Accepted.TheVariants.{Taken, Known}
use Rattle.range_store.specs.Config.{Config}
use Rattle.range_store.specs.Renewals.{offers_by_leaf}
use Rattle.range_store.specs.Store.{Store, IsOwn, IsSound, entry_of, full_fault, knows}
use Rattle.range_store.proofs.HeldLaws.{All-weaker}
use Rattle.range_store.proofs.LoadLaws.{placed}
use Rattle.range_state.specs.CatchUps.{Start, begun_from, Renewing, entry_fault, with_copy, with_copies_of, AreAccepted, with_later, accept_entry}
use Rattle.range_state.specs.CatchUps.{Accepts, StopsAmong, is_same_place, stranger_fault, later}
use Rattle.range_state.specs.State.{State, IsRight, accept, with_store}
use Rattle.range_state.proofs.NumberLaws.{numbered_none}
use Rattle.range_state.proofs.StoreCalls.{copies_sent}

-- ---- the beginning

-- a new range without sessions whose entries are copies
pub right_begun : (b : Start) (seat limit : ℕ) → IsSound (begun_from b seat limit).store → IsRight (begun_from b seat limit)
right_begun b seat limit sound =
    record {
      store = sound;
      records = tt;
      few = omega arith;
      few_open = omega arith;
      numbers = numbered_none b.next_session;
      partners = copies_sent 0 seat (offers_by_leaf b.basis.config b.basis.rows);
      settled = record { within = omega arith; others = tt };
      moment = tt;
    }

-- ---- one entry

abbrev given : Renewing → Outcome (Unit {0}) Renewing
given r = gives tt r

-- An entry of the range has its place: if it is new it is accepted, unless there is no room for it.
accepts_own : (s : State) (seat : ℕ) (e : Entry) → IsOwn s.store.config e
    → accept s seat Copy e.key e.version ≡ cond (knows s.store e.key e.version) (gives Known s)
    (offer_fault e.version (held s.store.entries e.key) >>
    (full_fault s.store >> gives (Taken (entry_of s.store seat Copy e.key e.version)) (with_store s (with_copy s.store seat e))))
accepts_own s seat e own =
    rw (placed s.store.config e.key e.version own.key own.value own.here)
    (by_test (knows s.store e.key e.version) (offer_fault e.version (held s.store.entries e.key)) (full_fault s.store))
  where
    by_test : (b : Bool) (crowd full : Option Refusal)
        → through (with_store s)
        (cond b (gives Known s.store)
        (crowd >> ((full >> gives (entry_of s.store seat Copy e.key e.version) (with_copy s.store seat e)) >>= λ taken. gives
        (Taken taken.0) taken.1)))
        ≡ cond b (gives Known s)
        (crowd >> (full >> gives (Taken (entry_of s.store seat Copy e.key e.version)) (with_store s (with_copy s.store seat e))))
    by_test true crowd full = refl
    by_test false (Some f) full = refl
    by_test false None (Some f) = refl
    by_test false None None = refl

-- an entry that was refused
pub accept_stays : (r now : Renewing) (seat : ℕ) (e : Entry) (key : List ℕ) (v : Version) (x : Refusal) (new : State) → r ≡ now
    → IsOwn now.state.store.config e → key ≡ e.key → v ≡ e.version → Does (Err x) r.state new (accept r.state seat Copy key v)
    → DoesOrNoMemory (Err x) now (record r { state = new }) (accept_entry now seat e)
accept_stays r now seat e key v x new view own key_is version_is refused =
    let s = now.state.store in
    let same : record r { state = new } ≡ now = ap (λ (t : State). record r { state = t }) refused.0 ∙ view in
    let said = subst (λ (y : Renewing). ((x ≡ NoMemory) × IsTrue (is_given (accept y.state seat Copy key v))) ⊎
    (accept y.state seat Copy key v ≡ refuses x)) view refused.1 in (
      same,
      by_cause (λ did. by_fault (knows s e.key e.version) (offer_fault e.version (held s.entries e.key)) (full_fault s)
          (sym (accepts_own now.state seat e own) ∙ (λ i. accept now.state seat Copy (sym key_is i) (sym version_is i)) ∙ did)) said,
    )
  where
    by_cause : {A B C : Type 0} → (A → B) → ((x ≡ NoMemory) × C) ⊎ A → (x ≡ NoMemory) ⊎ B
    by_cause f (inl h) = inl h.0
    by_cause f (inr h) = inr (f h)

    by_fault : (b : Bool) (crowd full : Option Refusal)
        → cond b (gives Known now.state)
        (crowd >> (full >> gives (Taken (entry_of now.state.store seat Copy e.key e.version))
        (with_store now.state (with_copy now.state.store seat e)))) ≡ refuses x
        → (cond b (Some Stale) (first_fault crowd full) >> given (with_later now seat (e ∷ []))) ≡ refuses x
    by_fault true crowd full is = absurd (cc)
    by_fault false (Some f) full is = cc
    by_fault false None (Some f) is = cc
    by_fault false None None is = absurd (cc)

-- ---- many of them

-- the configuration stays
pub same_config : (s : Store) (seat : ℕ) (es : List Entry) → (with_copies_of s seat es).config ≡ s.config
same_config s seat [] = refl
same_config s seat (e ∷ es) = same_config (with_copy s seat e) seat es

-- one more
pub copies_more : (s : Store) (seat : ℕ) (es : List Entry) (e : Entry)
    → with_copies_of s seat (es ++ e ∷ []) ≡ with_copy (with_copies_of s seat es) seat e
copies_more s seat [] e = refl
copies_more s seat (x ∷ es) e = copies_more (with_copy s seat x) seat es e

accepted_more : (s : Store) (seat : ℕ) (es : List Entry) (e : Entry) → AreAccepted s seat es → entry_fault (with_copies_of s seat es) e ≡ None
    → AreAccepted s seat (es ++ e ∷ [])
accepted_more s seat [] e all none = (none, tt)
accepted_more s seat (x ∷ es) e all none = (all.0, accepted_more (with_copy s seat x) seat es e all.1 none)

pub accepts_more : (r now new : Renewing) (seat : ℕ) (es : List Entry) (e : Entry) → Accepts r seat es now → entry_fault now.state.store e ≡ None
    → new ≡ with_later now seat (e ∷ []) → Accepts r seat (es ++ e ∷ []) new
accepts_more r now new seat es e is none made =
    let store : now.state.store ≡ with_copies_of r.state.store seat es = ap (λ (x : Renewing). x.state.store) is.1 in
    let count : (r.front + length es) + 1 ≡ r.front + length (es ++ e ∷ []) = omega (arith, length-append es (e ∷ [])) in (
      accepted_more r.state.store seat es e is.0 (ap (λ (s : Store). entry_fault s e) (sym store) ∙ none),
      made ∙ ap (λ (x : Renewing). with_later x seat (e ∷ [])) is.1
          ∙ (λ i. record { state = record r.state { store = sym (copies_more r.state.store seat es e) i }; began = r.began; front = count i }),
    )

fault_given : (f : Option Refusal) (a b : Renewing) → (f >> given a) ≡ given b → (f ≡ None) × (b ≡ a)
fault_given None a b is = let same : a ≡ b = cc in (refl, sym same)
fault_given (Some x) a b is = absurd (cc)

fault_refused : (f : Option Refusal) (a : Renewing) (x : Refusal) → (f >> given a) ≡ refuses x → f ≡ Some x
fault_refused None a x is = absurd (cc)
fault_refused (Some y) a x is = let same : y ≡ x = cc in ap Some same

-- at a step of a loop over the entries
pub accepts_next : (r now new : Renewing) (seat : ℕ) (es : List Entry) (i : ℕ) (e : Entry) → Accepts r seat (take i es) now → i < length es
    → e ≡ get_or es i e → accept_entry now seat e ≡ given new → Accepts r seat (take (i + 1) es) new
accepts_next r now new seat es i e is less at did =
    let given = fault_given (entry_fault now.state.store e) (with_later now seat (e ∷ [])) new did in
    subst (λ (xs : List Entry). Accepts r seat xs new) (ap (λ (x : Entry). take i es ++ x ∷ []) at ∙ sym (take_more es i e less))
    (accepts_more r now new seat (take i es) e is given.0 given.1)

pub stops_at : (r now new : Renewing) (seat : ℕ) (es : List Entry) (i : ℕ) (e : Entry) (x : Refusal) → Accepts r seat (take i es) now → i < length es
    → e ≡ get_or es i e → DoesOrNoMemory (Err x) now new (accept_entry now seat e) → StopsAmong r seat es x new
stops_at r now new seat es i e x is less at stopped = record {
  before = take i es;
  next = e;
  after = drop (i + 1) es;
  are = sym (take-append-drop i es)
      ∙ ap (λ (xs : List Entry). take i es ++ xs) (drop_more es i e less ∙ ap (λ (y : Entry). y ∷ drop (i + 1) es) (sym at));
  accepted = subst (λ (y : Renewing). Accepts r seat (take i es) y) (sym stopped.0) is;
  cause = by_cause stopped.1;
}
  where
    by_cause : (x ≡ NoMemory) ⊎ (accept_entry now seat e ≡ refuses x) → (x ≡ NoMemory) ⊎ (entry_fault new.state.store e ≡ Some x)
    by_cause (inl h) = inl h
    by_cause (inr h) = inr (ap (λ (y : Renewing). entry_fault y.state.store e) stopped.0
        ∙ fault_refused (entry_fault now.state.store e) (with_later now seat (e ∷ [])) x h)

-- ---- the old range

-- one place has one format
one_format : (f g : Format) → (format_number f == format_number g) ≡ true → f ≡ g
one_format One One same = refl
one_format Two Two same = refl
one_format One Two same = absurd (true≢false (sym same))
one_format Two One same = absurd (true≢false (sym same))

-- an entry of the old range is one of the new range's place
same_own : (c d : Config) (e : Entry) → is_same_place c d ≡ true → IsOwn d e → IsOwn c e
same_own c d e same own =
    let parts = and_parts (format_number c.format == format_number d.format && c.bits == d.bits) (c.range == d.range) same in
    let first = and_parts (format_number c.format == format_number d.format) (c.bits == d.bits) parts.0 in
    let format : d.format ≡ c.format = sym (one_format c.format d.format first.0) in
    let bits : d.bits ≡ c.bits = sym (eqb-true c.bits d.bits first.1) in
    let range : d.range ≡ c.range = sym (eqb-true c.range d.range parts.1) in
    record {
      key = own.key;
      value = ap (λ (f : Format). value_fault f e.version.kind e.version.value) (sym format) ∙ own.value;
      here = ap (λ (n : ℕ). range_at n e.key) (sym bits) ∙ own.here ∙ range;
    }

-- so are all of its entries
pub owns_later : (r : Renewing) (old : State) (n count : ℕ) (es : List Entry) → IsRight old → stranger_fault r old ≡ None → es ≡ old.store.entries
    → AllByRecursion (IsOwn r.state.store.config) (take count (take n (drop r.front es)))
owns_later r old n count es ok none are =
    let tests = and_parts (is_same_place r.state.store.config old.store.config) (nat_le r.front (length old.store.entries))
    (no_fault_else _ Stale none) in
    let own = subst (AllByRecursion (IsOwn old.store.config)) (sym are) ok.store.own in
    all-take _ (take n (drop r.front es)) count (all-take _ (drop r.front es) n (all-drop _ es r.front
    (All-weaker (IsOwn old.store.config) (IsOwn r.state.store.config) es (λ e. same_own r.state.store.config old.store.config e tests.0) own)))

-- all of its later entries
pub all_later : (r : Renewing) (old : State) (n : ℕ) → n ≡ length old.store.entries → later r old n ≡ drop r.front old.store.entries
all_later r old n is = take_all n (drop r.front old.store.entries) (omega (arith, is, length-drop r.front old.store.entries))
