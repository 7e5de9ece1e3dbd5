-- A fault that is found before anything is copied is the cause of the whole call.
use Rattle.std.proofs.Common.{◌≡◌, ℕ, List, Option, Some, None, ap}
use Rattle.std.proofs.lemmas.Option.{same_Some}
use Rattle.vclock.specs.Answer.{first_fault}
use Rattle.vclock.specs.Bytes.{key_fault}
use Rattle.vclock.specs.Clock.{Pairs, pairs_fault}
use Rattle.vclock.specs.declared.format.Format.TheVariants.{Two}
use Rattle.vclock.specs.Outcome.{Outcome, refuses, through, ◌>>◌}
use Rattle.vclock.specs.declared.refusal.Refusal.{Refusal}
use Rattle.version_set.specs.Kind.{value_fault}
use Rattle.range_state.specs.State.{State, with_store}
use Rattle.range_store.specs.declared.context_test.ContextTest.{ContextTest}
use Rattle.range_store.specs.declared.context_test.ContextTest.TheVariants.{Fresh, Read}
use Rattle.c_calls.specs.Carried.{Carried, keep_at}
use Rattle.c_calls.specs.Puts.{node_fault, kind_fault, kind_numbered, parts_fault, put_at_by, accept_at}

-- the faults of the pairs, the kind, the key and the value come first
parts_refused : {T R S : Type 0} (whole : R → S) (pairs kind key value more : Option Refusal) (e : Refusal) (rest : Outcome T R)
    → first_fault pairs (first_fault kind (first_fault key value)) ≡ Some e
    → (pairs >> (kind >> through whole (first_fault key (first_fault value more) >> rest))) ≡ refuses e
parts_refused whole (Some x) kind key value more e rest is = ap refuses (same_Some _ e is)
parts_refused whole None (Some x) key value more e rest is = ap refuses (same_Some _ e is)
parts_refused whole None None (Some x) value more e rest is = ap refuses (same_Some _ e is)
parts_refused whole None None None (Some x) more e rest is = ap refuses (same_Some _ e is)
parts_refused whole None None None None more e rest is = absurd (cc)

asked_refused : {T R S : Type 0} (whole : R → S) (pairs kind key value more later : Option Refusal) (e : Refusal) (rest : Outcome T R)
    → first_fault pairs (first_fault kind (first_fault key value)) ≡ Some e
    → (pairs >> (kind >> through whole (first_fault (first_fault key (first_fault value more)) later >> rest))) ≡ refuses e
asked_refused whole (Some x) kind key value more later e rest is = ap refuses (same_Some _ e is)
asked_refused whole None (Some x) key value more later e rest is = ap refuses (same_Some _ e is)
asked_refused whole None None (Some x) value more later e rest is = ap refuses (same_Some _ e is)
asked_refused whole None None None (Some x) more later e rest is = ap refuses (same_Some _ e is)
asked_refused whole None None None None more later e rest is = absurd (cc)

-- the same where the key and the value are tested one after the other
each_refused : {T S : Type 0} (pairs kind key value : Option Refusal) (e : Refusal) (rest : Outcome T S)
    → first_fault pairs (first_fault kind (first_fault key value)) ≡ Some e
    → (pairs >> (kind >> (key >> (value >> rest)))) ≡ refuses e
each_refused (Some x) kind key value e rest is = ap refuses (same_Some _ e is)
each_refused None (Some x) key value e rest is = ap refuses (same_Some _ e is)
each_refused None None (Some x) value e rest is = ap refuses (same_Some _ e is)
each_refused None None None (Some x) e rest is = ap refuses (same_Some _ e is)
each_refused None None None None e rest is = absurd (cc)

pub put_refused : (test : ContextTest) (s : State) (node : ℕ) (key : List ℕ) (context : Pairs) (kind : ℕ) (value : List ℕ) (e : Refusal)
    → node_fault node ≡ None → parts_fault s.store.config.format key context kind value ≡ Some e
    → put_at_by test s node key context kind value ≡ refuses e
put_refused Fresh s node key context kind value e is_node is =
    rw is_node (parts_refused (with_store s) (pairs_fault context) (kind_fault kind) (key_fault key)
    (value_fault s.store.config.format (kind_numbered kind) value) _ e _ is)
put_refused Read s node key context kind value e is_node is =
    rw is_node (asked_refused (with_store s) (pairs_fault context) (kind_fault kind) (key_fault key)
    (value_fault s.store.config.format (kind_numbered kind) value) _ _ e _ is)

pub accept_refused : (s : State) (key : List ℕ) (clock : Pairs) (kind : ℕ) (value : List ℕ) (e : Refusal)
    → parts_fault s.store.config.format key clock kind value ≡ Some e → accept_at s key clock kind value ≡ refuses e
accept_refused s key clock kind value e is =
    parts_refused (with_store s) (pairs_fault clock) (kind_fault kind) (key_fault key)
    (value_fault s.store.config.format (kind_numbered kind) value) _ e _ is

pub keep_refused : (c : Carried) (owner : ℕ) (key : List ℕ) (clock : Pairs) (kind : ℕ) (value : List ℕ) (e : Refusal)
    → node_fault owner ≡ None → parts_fault Two key clock kind value ≡ Some e
    → keep_at c owner key clock kind value ≡ refuses e
keep_refused c owner key clock kind value e is_node is =
    rw is_node (each_refused (pairs_fault clock) (kind_fault kind) (key_fault key) (value_fault Two (kind_numbered kind) value) e _ is)
