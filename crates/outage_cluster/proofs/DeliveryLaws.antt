-- A delivery in the cluster.
use Rattle.std.proofs.Common.{◌≡◌, ℕ, ◌-◌, Bool, true, false, cond, List, [], filter, length, map, refl, slice_set, Option, Some, None}
use Rattle.std.specs.Prelude.{◌&&◌, ◌==◌, position, slice_get}
use Rattle.vclock.specs.Answer.{first_fault}
use Rattle.vclock.specs.declared.refusal.Refusal.{Refusal}
use Rattle.vclock.specs.declared.refusal.Refusal.TheVariants.{BadRing, Down}
use Rattle.hint_store.specs.Hints.{pending_count}
use Rattle.hint_store.specs.declared.hint.Kept.{Kept}
use Rattle.key_ring.specs.Places.{range_at}
use Rattle.range_journal.specs.declared.journal.Entry.{Entry}
use Rattle.vclock.specs.Clock.{Pairs, clock_of}
use Rattle.vclock.specs.Outcome.{Outcome, gives, refuses, ◌>>◌}
use Rattle.range_store.specs.Store as range
use Rattle.range_state.specs.Sessions.{crowd_fault}
use Rattle.outage_cluster.specs.declared.answer.CommandAnswer.{CommandAnswer}
use Rattle.outage_commands.specs.declared.command.Put.{Put}
use Rattle.outage_cluster.specs.Acts.{after_copy, put_fault, gets_hint, kept_fault, range_on, nodes_fault, put_act, put_by, put_into, replica_in}
use Rattle.outage_cluster.specs.Acts.{sync_at, synced_in, takes}
use Rattle.outage_cluster.specs.declared.answer.CommandAnswer.TheVariants as Answers
use Rattle.outage_cluster.specs.Handoff.{Round, carrier_of, deliver_at, hinted, kept_all, owners_of, round_of}
use Rattle.outage_cluster.specs.State.{Cluster, Replica, at_home, home, in_home, hints_of, is_down, is_member, replicas_of, with_replicas}
use Rattle.outage_cluster.specs.Syncs.{walk_fault}
use Rattle.outage_cluster.proofs.ListSteps.{placed}

member : (b : Bool) (later : Option Refusal) → first_fault (cond (b && true) None (Some BadRing)) later ≡ None → b ≡ true
member true later e = refl
member false later e = cc

-- a node that is not refused has a place
pub has_place : (s : Cluster) (n : ℕ) → nodes_fault s n [] ≡ None → position (λ m. m == n) s.ring.nodes ≡ None → ⊥
has_place s n fine none = placed (λ m. m == n) s.ring.nodes (member (is_member s n) (cond (is_down s n) (Some Down) None) fine) none

-- what a delivery is if the node is at i
pub delivered_at : (s : Cluster) (n i : ℕ) (hs : List Kept) (r : Round) → position (λ m. m == n) s.ring.nodes ≡ Some i → slice_get s.hints i ≡ Some hs
    → round_of s hs ≡ r → deliver_at s n (hints_of s n) ≡ gives (Answers.Deliver r.taken r.known (pending_count r.hints))
    (record s { replicas = r.replicas; hints = slice_set s.hints i r.hints })
delivered_at s n i hs r p e is = rw (p, e, is, p) refl

-- what the hints of a put do if the carrier is at i
pub hinted_some : (e : Entry) (owners : List ℕ) (s : Cluster) (o : Option ℕ) (n i : ℕ) (hs : List Kept) → o ≡ Some n
    → position (λ m. m == n) s.ring.nodes ≡ Some i → slice_get s.hints i ≡ Some hs
    → hinted e owners s o ≡ (length (kept_all e owners hs) - length hs, record s { hints = slice_set s.hints i (kept_all e owners hs) })
hinted_some e owners s o n i hs is p at = rw (is, p, at, p) refl

-- and if it has no place
pub hinted_none : (e : Entry) (owners : List ℕ) (s : Cluster) (o : Option ℕ) (n : ℕ) → o ≡ Some n → position (λ m. m == n) s.ring.nodes ≡ None
    → hinted e owners s o ≡ (0, s)
hinted_none e owners s o n is p = rw (is, p) refl

-- a put that was taken
pub put_result : (p : Put) (s : Cluster) (e : Entry) (copies n : ℕ) (owners : List ℕ) (new : List Replica) (after : Cluster) → put_fault p s ≡ None
    → put_into s.down p (replicas_of s p.key) ≡ gives (e, copies) new → owners ≡ owners_of (gets_hint s.down p.node p.lose) (replicas_of s p.key)
    → (n, after) ≡ hinted e owners (with_replicas s p.key new) (carrier_of s (range_at s.ring.bits p.key))
    → put_act p s ≡ gives (Answers.Put e.version.clock copies n e.number) after
unfolding put_act
put_result p s e copies n owners new after fine made own said = rw (fine, made, ← own, ← said) refl

-- and one that its range refused
pub put_refused : (p : Put) (s : Cluster) (e : Refusal) → put_fault p s ≡ None → put_into s.down p (replicas_of s p.key) ≡ refuses e
    → put_act p s ≡ refuses e
unfolding put_act
put_refused p s e fine refused = rw (fine, refused) refl

pub put_unasked : (p : Put) (s : Cluster) (e : Refusal) → put_fault p s ≡ Some e → put_act p s ≡ refuses e
unfolding put_act
put_unasked p s e cause = rw cause refl

-- a put at its node, said part by part
pub put_parts : (p : Put) (reps : List Replica) (node : ℕ) (key : List ℕ) (context : Pairs) → node ≡ p.node → key ≡ p.key
    → context ≡ clock_of p.context → at_home p.node (put_by p) reps ≡ at_home node (λ h. range.put h 0 node key context p.kind p.value) reps
unfolding put_by
put_parts p reps node key context a b c = rw (a, b, c) refl

-- the copies of a put that its node took
pub put_copied : (down : List ℕ) (p : Put) (reps mid : List Replica) (e : Entry) → at_home p.node (put_by p) reps ≡ gives e mid
    → put_into down p reps ≡ gives (e, length (filter (takes down p.node p.lose e) mid)) (map (after_copy down p.node p.lose e) mid)
unfolding put_into
put_copied down p reps mid e is = rw is refl

pub put_uncopied : (down : List ℕ) (p : Put) (reps : List Replica) (e : Refusal) → at_home p.node (put_by p) reps ≡ refuses e
    → put_into down p reps ≡ refuses e
unfolding put_into
put_uncopied down p reps e is = rw is refl

-- a node that keeps nothing
pub nobody_home : {T : Type 0} (n : ℕ) (reps : List Replica) (call : range.Store → Outcome T range.Store) (e : Refusal)
    → kept_fault (home n reps) ≡ Some e → at_home n call reps ≡ refuses e
nobody_home n reps call e cause = pick (home n reps) cause
  where
    pick : (o : Option range.Store) → kept_fault o ≡ Some e → in_home n reps call o ≡ refuses e
    pick None is = cc
    pick (Some h) is = cc

-- a sync that is refused
pub sync_refused : (node from r : ℕ) (s : Cluster) (e : Refusal) → walk_fault (range_on s from r) (replica_in s node r) ≡ Some e
    → sync_at node from r s ≡ refuses e
unfolding sync_at
sync_refused node from r s e cause = pick (range_on s from r) (replica_in s node r) cause
  where
    one : (f : Option Refusal) (rest : Outcome CommandAnswer Cluster) (later : Option Refusal) → (later ≡ Some e → rest ≡ refuses e)
        → first_fault f later ≡ Some e → (f >> rest) ≡ refuses e
    one (Some x) rest later more is = cc
    one None rest later more is = more is

    pick : (partner : Option range.Store) (own : Option Replica) → walk_fault partner own ≡ Some e → synced_in node r s partner own ≡ refuses e
    pick None own is = cc
    pick (Some h) None is = one (range.dirty_fault h) _ _ (λ later. cc) is
    pick (Some h) (Some own) is = one (range.dirty_fault h) _ _ (one (crowd_fault own.sessions) _ _ (stands (range.dirty_fault own.range) _)) is
      where
        stands : (f : Option Refusal) (rest : Outcome CommandAnswer Cluster) → f ≡ Some e → (f >> rest) ≡ refuses e
        stands (Some x) rest is = cc
        stands None rest is = cc
