-- What the outcome of a part tells of the whole.
use Rattle.std.proofs.Common.{◌≡◌, ℕ, Bool, true, false, set, get_or, List, Option, Some, None, refl, sym, ap, ◌∙◌, subst, inl, inr, cond}
use Rattle.std.proofs.lemmas.List.{set-get_or}
use Rattle.std.specs.Prelude.{Result, Ok, Err, OnOk, IfOk, IfErr, ◌≢◌}
use Rattle.std.specs.declared.alloc.AllocError.{AllocError}
use Rattle.vclock.specs.Answer.{Answers}
use Rattle.vclock.specs.Clock.{Pairs, raise_fault, raised}
use Rattle.vclock.specs.Outcome.{Outcome, gives, refuses, through, Does, DoesOrNoMemory, DoesOrBreaksOff, ◌>>◌, ◌>>=◌}
use Rattle.vclock.specs.declared.refusal.Refusal.{Refusal}
use Rattle.vclock.specs.declared.refusal.Refusal.TheVariants.{NoMemory}
use Rattle.version_set.specs.declared.kind.Kind.{Kind}
use Rattle.version_set.specs.declared.version.Version.{Version}
use Rattle.version_set.specs.Version.{offer_fault}
use Rattle.tree_nodes.specs.Nodes.{dirty_count}
use Rattle.range_journal.specs.Journal.{held}
use Rattle.range_journal.specs.declared.journal.Entry.{Entry}
use Rattle.range_journal.specs.declared.journal.Source.{Source}
use Rattle.range_store.specs.declared.receipt.Accepted.{Accepted}
use Rattle.range_store.specs.declared.receipt.Accepted.TheVariants.{Taken, Known}
use Rattle.range_store.specs.declared.context_test.ContextTest.TheVariants as tests
use Rattle.range_store.specs.Store.{Store, accept, put}
use Rattle.range_store.proofs.PutLaws.{IsSentTo, accept_gives, put_by_gives}
use Rattle.range_state.specs.State as calls
use Rattle.range_state.specs.State.{State, with_store}
use Rattle.range_state.specs.Trees.{rehashed}
use Rattle.outage_cluster.specs.Acts.{clean_at, replied}
use Rattle.outage_cluster.specs.declared.answer.CommandAnswer.{CommandAnswer}
use Rattle.outage_cluster.specs.declared.answer.CommandAnswer.TheVariants.{Refused}
use Rattle.outage_cluster.specs.Homes.{IsHome}
use Rattle.outage_cluster.specs.State.{Replica, keeping, replica_of, with_home, in_replica, in_home, at_home, left}

-- a call that wants memory for a cause says no more than one that does not
pub loosely : {T S : Type 0} (r : Result T Refusal) (old new : S) (o : Outcome T S) → Does r old new o → DoesOrNoMemory r old new o
loosely (Ok x) old new o is = is
loosely (Err e) old new o (same, inl m) = (same, inl m.0)
loosely (Err e) old new o (same, inr is) = (same, inr is)

-- what a part does is done with the whole
lifted : {T R S : Type 0} (whole : R → S) (r : Result T Refusal) (old new : R) (o : Outcome T R) → DoesOrNoMemory r old new o
    → DoesOrNoMemory r (whole old) (whole new) (through whole o)
lifted whole (Ok x) old new o is = ap (through whole) is
lifted whole (Err e) old new o (same, inl m) = (ap whole same, inl m)
lifted whole (Err e) old new o (same, inr is) = (ap whole same, inr (ap (through whole) is))

-- ---- a replica

twice : {T : Type 0} (n : ℕ) (s : State) (o : Outcome T Store) → through (replica_of n) (through (with_store s) o) ≡ in_replica (replica_of n s) o
twice n s (gives x t) = refl
twice n s (refuses e) = refl

-- a call on the store, as the script's definition sees it
pub call_seen : {T : Type 0} (n : ℕ) (r : Result T Refusal) (s t : State) (o : Outcome T Store) → DoesOrNoMemory r s t (through (with_store s) o)
    → DoesOrNoMemory r (replica_of n s) (replica_of n t) (in_replica (replica_of n s) o)
call_seen n r s t o is = subst (DoesOrNoMemory r (replica_of n s) (replica_of n t)) (twice n s o) (lifted (replica_of n) r s t _ is)

-- so is a rehash
pub rehash_seen : (n : ℕ) (r : Result ℕ Refusal) (s t : State) → Answers r None (λ hashed. hashed ≡ dirty_count s.store.marks)
    → OnOk r (t ≡ rehashed s) → DoesOrBreaksOff r (replica_of n s) (replica_of n t) (in_replica (replica_of n s) (clean_at s.store))
rehash_seen n (Ok x) s t answers ok = ap (λ (y : ℕ). gives y (replica_of n (rehashed s))) (sym answers.1)
    ∙ ap (λ (u : State). gives x (replica_of n u)) (sym ok)
rehash_seen n (Err e) s t answers ok = elim answers [ inl memory ↦ inl memory.1 | inr cause ↦ absurd (cc) ]

-- a call that keeps the configuration of the store
abbrev KeepsConfig : {T : Type 0} → Store → Outcome T Store → Type 0
KeepsConfig {T} s o = (x : T) (t : Store) → o ≡ gives x t → t.config ≡ s.config

same_config : {T : Type 0} (r : Result T Refusal) (s t : State) (o : Outcome T Store) → KeepsConfig s.store o
    → DoesOrNoMemory r s t (through (with_store s) o) → t.store.config ≡ s.store.config
same_config (Err e) s t o keeps is = ap (λ (u : State). u.store.config) is.0
same_config (Ok x) s t (gives y u) keeps is = let same : with_store s u ≡ t = cc in ap (λ (v : State). v.store.config) (sym same) ∙ keeps y u refl
same_config (Ok x) s t (refuses e) keeps is = absurd (cc)

-- the range stays the same
pub put_config : (r : Result Entry Refusal) (s t : State) (seat at : ℕ) (key : List ℕ) (context : Pairs) (kind : Kind) (value : List ℕ)
    → DoesOrNoMemory r s t (calls.put s seat at key context kind value) → t.store.config ≡ s.store.config
put_config r s t seat at key context kind value is = same_config r s t (put s.store seat at key context kind value) keeps is
  where
    keeps : KeepsConfig s.store (put s.store seat at key context kind value)
    keeps x u given = ap (λ (v : Store). v.config) (put_by_gives tests.Fresh s.store seat at key context kind value x u given).1

pub accept_config : (r : Result Accepted Refusal) (s t : State) (seat : ℕ) (source : Source) (key : List ℕ) (v : Version)
    → Does r s t (calls.accept s seat source key v) → t.store.config ≡ s.store.config
accept_config r s t seat source key v is = same_config r s t (accept s.store seat source key v) keeps (loosely r s t _ is)
  where
    after : (x : Accepted) (u : Store) → IsSentTo s.store seat source key v x u → u.config ≡ s.store.config
    after (Taken e) u sent = ap (λ (w : Store). w.config) sent.1
    after Known u sent = ap (λ (w : Store). w.config) sent

    keeps : KeepsConfig s.store (accept s.store seat source key v)
    keeps x u given = after x u (accept_gives s.store seat source key v x u given)

-- ---- the replicas of a range

-- what is done with what a node keeps, where its replica is
at_its : {T : Type 0} (n : ℕ) (reps : List Replica) (i : ℕ) (r : Replica) (call : Store → Outcome T Store) → IsHome n reps i → r ≡ get_or reps i r
    → at_home n call reps ≡ through (λ new. with_home n new reps) (call r.range)
at_its n reps i r call its is = ap (in_home n reps call) (its.holds r ∙ ap (λ (q : Replica). Some q.range) (sym is))

its_new : (n : ℕ) (reps : List Replica) (i : ℕ) (r new : Replica) (h : Store) → IsHome n reps i → r ≡ get_or reps i r → keeping h r ≡ new
    → with_home n h reps ≡ set reps i new
its_new n reps i r new h its is kept = its.keeps h r ∙ (ap (λ (q : Replica). set reps i (keeping h q)) (sym is) ∙ ap (set reps i) kept)

given : {T : Type 0} (n : ℕ) (reps : List Replica) (i : ℕ) (r new : Replica) (x : T) (o : Outcome T Store) → IsHome n reps i → r ≡ get_or reps i r
    → in_replica r o ≡ gives x new → through (λ h. with_home n h reps) o ≡ gives x (set reps i new)
given n reps i r new x (gives y h) its is e =
    let reply : y ≡ x = cc in
    let kept : keeping h r ≡ new = cc in
    ap (λ z. gives z (with_home n h reps)) reply ∙ ap (gives x) (its_new n reps i r new h its is kept)
given n reps i r new x (refuses f) its is e = absurd (cc)

turned_down : {T : Type 0} (n : ℕ) (reps : List Replica) (r : Replica) (e : Refusal) (o : Outcome T Store) → in_replica r o ≡ refuses e
    → through (λ h. with_home n h reps) o ≡ refuses e
turned_down n reps r e (gives y h) is = absurd (cc)
turned_down n reps r e (refuses f) is = cc

unchanged : (reps : List Replica) (i : ℕ) (r new : Replica) → r ≡ get_or reps i r → new ≡ r → set reps i new ≡ reps
unchanged reps i r new is same = ap (set reps i) (same ∙ is) ∙ set-get_or reps i r

-- a replica's call is one of the replicas
pub homed : {T : Type 0} (n : ℕ) (reps : List Replica) (i : ℕ) (r new : Replica) (call : Store → Outcome T Store) (result : Result T Refusal)
    → IsHome n reps i → r ≡ get_or reps i r → DoesOrNoMemory result r new (in_replica r (call r.range))
    → DoesOrNoMemory result reps (set reps i new) (at_home n call reps)
homed n reps i r new call (Ok x) its is did = at_its n reps i r call its is ∙ given n reps i r new x (call r.range) its is did
homed n reps i r new call (Err e) its is (same, inl m) = (unchanged reps i r new is same, inl m)
homed n reps i r new call (Err e) its is (same, inr cause) =
    (unchanged reps i r new is same, inr (at_its n reps i r call its is ∙ turned_down n reps r e (call r.range) cause))

-- ---- answers

-- the answer to a refusal has its name, and NoMemory has no answer
pub reply_said : {S : Type 0} (r : Result CommandAnswer Refusal) (a : Result CommandAnswer AllocError) (old new : S) (o : Outcome CommandAnswer S)
    → DoesOrBreaksOff r old new o
    → IfOk r (λ x. a ≡ Ok x) → IfErr r (λ e. IfOk a (λ x. (e ≢ NoMemory) × (x ≡ Refused e))) → IfOk a (λ x. x ≡ replied o)
reply_said (Ok x) (Ok y) old new o did ok err = let same : y ≡ x = cc in same ∙ ap replied (sym did)
reply_said (Ok x) (Err f) old new o did ok err = tt {0}
reply_said (Err e) (Ok y) old new o (inl m) ok err = absurd (err.0 m)
reply_said (Err e) (Ok y) old new o (inr is) ok err = err.1 ∙ ap replied (sym is.1)
reply_said (Err e) (Err f) old new o did ok err = tt {0}

-- and changes nothing
pub after_said : {S : Type 0} (r : Result CommandAnswer Refusal) (a : Result CommandAnswer AllocError) (old new : S) (o : Outcome CommandAnswer S)
    → DoesOrBreaksOff r old new o
    → IfOk r (λ x. a ≡ Ok x) → IfErr r (λ e. IfOk a (λ x. (e ≢ NoMemory) × (x ≡ Refused e))) → OnOk a (new ≡ left o old)
after_said (Ok x) (Ok y) old new o did ok err = ap (λ p. left p old) (sym did)
after_said (Ok x) (Err f) old new o did ok err = tt {0}
after_said (Err e) (Ok y) old new o (inl m) ok err = absurd (err.0 m)
after_said (Err e) (Ok y) old new o (inr is) ok err = is.0 ∙ ap (λ p. left p old) (sym is.1)
after_said (Err e) (Err f) old new o did ok err = tt {0}
