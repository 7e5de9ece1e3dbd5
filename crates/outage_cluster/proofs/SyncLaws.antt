-- A replica as the script's definition has it: its store, without the records of its sessions.
use Rattle.vclock.specs.Answer.{Answers, AnswersOrNoMemory, first_fault}
use Rattle.std.specs.Prelude.{⊤, Result, Ok, Err, IfOk, OnOk, OnErr, filter, nat_le, ◌||◌}
use Rattle.std.proofs.Common.{◌≡◌, ◌⊎◌, inl, inr, ℕ, ◌+◌, ◌-◌, Bool, true, false, cond, Option, Some, None, List, [], ◌∷◌, length, refl, sym, ap, ◌∙◌}
use Rattle.tree_nodes.specs.Nodes.{Node, are_clean}
use Rattle.vclock.specs.declared.format.Format.{Format}
use Rattle.vclock.specs.declared.format.Format.TheVariants.{One, Two}
use Rattle.vclock.specs.declared.refusal.Refusal.{Refusal}
use Rattle.vclock.specs.declared.refusal.Refusal.TheVariants.{Dirty, NoMemory, OtherRange, SessionsFull}
use Rattle.snapshot.specs.RowMaps.{RowMap}
use Rattle.range_tree.specs.Trees.{all_dirty}
use Rattle.range_journal.specs.declared.journal.Source.TheVariants.{Partner}
use Rattle.range_store.specs.Config.{Config}
use Rattle.range_store.specs.Store as range
use Rattle.range_store.proofs.TakenLaws.{config_stays}
use Rattle.range_state.specs.State.{State}
use Rattle.range_state.specs.Records.{is_open_state}
use Rattle.range_state.specs.Sessions.{taken_in, leaf_fault}
use Rattle.range_state.specs.Syncs.{Progress, IsSyncedTo, IsPartWay, leaves_between, offers_at, known_in, taken_leaves, unless_refused}
use Rattle.range_state.specs.declared.state.sync.Synced.{Synced}
use Rattle.outage_cluster.specs.State.{Replica, range_in, replica_of}
use Rattle.outage_cluster.specs.Syncs.{IsReported, synced_with, walk_fault}

-- a replica that has a state is seen as that
pub seen : (n : ℕ) (c : Config) (o : Option State) (s : State) (r : Replica) → replica_of n (range_in c o) ≡ r → o ≡ Some s → replica_of n s ≡ r
seen n c o s r view is = ap (λ (x : Option State). replica_of n (range_in c x)) (sym is) ∙ view

-- a range that has accepted nothing has no clean node
none_clean : (f : Format) → are_clean (all_dirty f) ≡ false
unfolding all_dirty
none_clean One = refl
none_clean Two = refl

pub fresh_dirty : (c : Config) → range.dirty_fault (range.fresh c) ≡ Some Dirty
fresh_dirty c = ap (λ b. cond b None (Some Dirty)) (none_clean c.format)

-- a replica after a sync
pub synced_replica : (n : ℕ) (s new : State) (other : RowMap) (a : Synced) → IsSyncedTo s 0 other new a
    → replica_of n new ≡ synced_with other (replica_of n s)
synced_replica n s new other a is = λ i. record { node = n; range = is.store i; sessions = is.sessions i }

-- and what was counted
pub counted : (n : ℕ) (s new : State) (other : RowMap) (a : Synced) → IsSyncedTo s 0 other new a → IsReported (replica_of n s) other a
counted n s new other a is = record {
  accepted = is.accepted ∙ ap (λ (x : range.Store). length x.entries) is.store;
  asked = is.asked;
  known = is.known;
  fault = is.fault;
}

-- ---- the range stays the same

leaves_config : (s : range.Store) (seat : ℕ) (other : RowMap) (known : ℕ) (leaves : List Node)
    → (taken_leaves s seat other known leaves).store.config ≡ s.config
leaves_config s seat other known [] = refl
leaves_config s seat other known (n ∷ leaves) =
    by_case (leaf_fault s seat (offers_at other n))
    (taken_leaves (taken_in s seat (offers_at other n)) seat other (known + known_in s seat (offers_at other n)) leaves)
    (leaves_config (taken_in s seat (offers_at other n)) seat other (known + known_in s seat (offers_at other n)) leaves
    ∙ config_stays s seat Partner (offers_at other n))
  where
    by_case : (f : Option Refusal) (more : Progress) → more.store.config ≡ s.config → (unless_refused f s known more).store.config ≡ s.config
    by_case None more h = h
    by_case (Some e) more h = refl

-- whatever came of a sync
pub sync_config : (s new : State) (partner : ℕ) (other : RowMap) (r : Result Synced Refusal) → IfOk r (λ a. IsSyncedTo s 0 other new a)
    → OnErr r ((new ≡ s) ⊎ IsPartWay s 0 partner other new) → new.store.config ≡ s.store.config
sync_config s new partner other (Ok a) ok late = ap (λ (x : range.Store). x.config) ok.store
    ∙ leaves_config s.store 0 other 0 (leaves_between (range.rows_now s.store) other)
sync_config s new partner other (Err e) ok late = elim late [
  | inl same ↦ ap (λ (x : State). x.store.config) same
  | inr part ↦ ap (λ (x : range.Store). x.config) part.store ∙ leaves_config s.store 0 other 0 part.leaves
]

-- a replica after a sync, if it was not refused
pub sync_ok : (n : ℕ) (s new : State) (other : RowMap) (r : Result Synced Refusal) → IfOk r (λ a. IsSyncedTo s 0 other new a)
    → OnOk r (replica_of n new ≡ synced_with other (replica_of n s))
sync_ok n s new other (Ok a) is = synced_replica n s new other a is
sync_ok n s new other (Err e) is = tt

-- what is returned
pub sync_answers : (n : ℕ) (s new : State) (other : RowMap) (fault : Option Refusal) (r : Result Synced Refusal) → Answers r fault (λ _. ⊤)
    → IfOk r (λ a. IsSyncedTo s 0 other new a) → AnswersOrNoMemory r fault (IsReported (replica_of n s) other)
sync_answers n s new other fault (Ok a) answers is = (answers.0, counted n s new other a is)
sync_answers n s new other fault (Err e) answers is = elim answers [ inl memory ↦ inl memory.1 | inr cause ↦ inr cause ]

-- a sync is refused for a cause that is no want of memory
pub walk_is_no_memory : (partner : Option range.Store) (own : Option Replica) → walk_fault partner own ≡ Some NoMemory → ⊥
walk_is_no_memory None own e = cc
walk_is_no_memory (Some h) None e = dirty (are_clean h.marks) e
  where
    dirty : (clean : Bool) → first_fault (cond clean None (Some Dirty)) (Some OtherRange) ≡ Some NoMemory → ⊥
    dirty true e = cc
    dirty false e = cc
walk_is_no_memory (Some h) (Some r) e =
    pick (are_clean h.marks) (nat_le 64 (length (filter is_open_state r.sessions)) || nat_le 1024 (length r.sessions)) (are_clean r.range.marks) e
  where
    pick : (clean many own : Bool)
        → first_fault (cond clean None (Some Dirty)) (first_fault (cond many (Some SessionsFull) None) (cond own None (Some Dirty))) ≡ Some NoMemory
        → ⊥
    pick false many own e = cc
    pick true true own e = cc
    pick true false false e = cc
    pick true false true e = cc
