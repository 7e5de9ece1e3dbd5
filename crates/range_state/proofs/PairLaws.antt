-- What two replicas hold that caught up with each other.
use Rattle.std.proofs.Common.{◌≡◌, ℕ, ◌+◌, Option, Some, None, List, [], ◌∷◌, length, refl, sym, ap, ◌∙◌}
use Rattle.std.specs.Prelude.{Result, Ok, Err, IfOk, OnOk}
use Rattle.vclock.specs.declared.refusal.Refusal.{Refusal}
use Rattle.range_journal.specs.declared.journal.Entry.{Entry}
use Rattle.range_journal.specs.declared.journal.Source.TheVariants.{Partner}
use Rattle.range_journal.specs.Journal.{held}
use Rattle.snapshot.specs.RowMaps.{RowMap}
use Rattle.tree_nodes.specs.Nodes.{Node}
use Rattle.sync_session.specs.Walks.{NoTwoShareADigest}
use Rattle.sync_session.specs.Differing.{differ}
use Rattle.sync_session.proofs.HonestLaws.{differ_comm}
use Rattle.range_store.specs.Config.{Config}
use Rattle.range_state.specs.State.{State, IsRight}
use Rattle.range_store.specs.Store.{Store, rows_now}
use Rattle.range_state.specs.Sessions.{taken_in, leaf_fault}
use Rattle.range_state.specs.Syncs.{IsOfRange, Progress, known_in, leaves_between, offers_at, taken_leaves, unless_refused}
use Rattle.range_state.specs.declared.state.reconciliation.Reconciled.{Reconciled}
use Rattle.range_state.specs.Reconciles.{HasCaughtUp, Reconciles, HaveAskedAlike, HoldBoth, HaveEqualRoots}
use Rattle.range_store.proofs.TakenLaws.{config_stays}
use Rattle.range_state.proofs.QuietLaws.{pair_of, first_holds, second_holds, same_roots}

leaves_config : (s : Store) (seat : ℕ) (other : RowMap) (known : ℕ) (leaves : List Node)
    → (taken_leaves s seat other known leaves).store.config ≡ s.config
leaves_config s seat other known [] = refl
leaves_config s seat other known (n ∷ leaves) =
    by_case (leaf_fault s seat (offers_at other n)) _
    (leaves_config (taken_in s seat (offers_at other n)) seat other (known + known_in s seat (offers_at other n)) leaves
    ∙ config_stays s seat Partner (offers_at other n))
  where
    by_case : (f : Option Refusal) (more : Progress) → more.store.config ≡ s.config → (unless_refused f s known more).store.config ≡ s.config
    by_case None more e = e
    by_case (Some x) more e = refl

-- a range is the same one after it has caught up
same_config : (s new : State) (seat partner : ℕ) (other : RowMap) (nodes versions : ℕ) → HasCaughtUp s seat partner other nodes versions new
    → new.store.config ≡ s.store.config
same_config s new seat partner other nodes versions up = ap (λ (u : Store). u.config) up.synced.store
    ∙ leaves_config s.store seat other 0 (leaves_between (rows_now s.store) other)

pub hold_both : (a b new_a new_b : State) (at_a at_b seat : ℕ) (result : Result Reconciled Refusal) → IsRight a → IsRight b
    → IsOfRange a.store.config (rows_now b.store) → Reconciles a at_a b at_b seat result new_a new_b
    → OnOk result (NoTwoShareADigest (rows_now a.store) (rows_now b.store) [] → HoldBoth a b new_a new_b)
hold_both a b new_a new_b at_a at_b seat (Err e) ok_a ok_b here exact = tt
hold_both a b new_a new_b at_a at_b seat (Ok r) ok_a ok_b here exact = λ distinct key.
    let pair = pair_of a.store b.store ok_a.store ok_b.store here distinct in
    let up_a = exact.1 in
    let up_b = exact.2 in (
      ap (λ (u : Store). held u.entries key) up_a.synced.store ∙ first_holds a.store b.store seat pair (sym up_a.synced.fault ∙ up_a.all) key,
      ap (λ (u : Store). held u.entries key) up_b.synced.store ∙ second_holds a.store b.store seat pair (sym up_b.synced.fault ∙ up_b.all) key,
    )

pub equal_roots : (a b new_a new_b : State) (at_a at_b seat : ℕ) (result : Result Reconciled Refusal) → IsRight a → IsRight b
    → IsOfRange a.store.config (rows_now b.store) → Reconciles a at_a b at_b seat result new_a new_b
    → OnOk result (NoTwoShareADigest (rows_now a.store) (rows_now b.store) [] → HaveEqualRoots new_a new_b)
equal_roots a b new_a new_b at_a at_b seat (Err e) ok_a ok_b here exact = tt
equal_roots a b new_a new_b at_a at_b seat (Ok r) ok_a ok_b here exact = λ distinct x y of_a of_b ok_x ok_y clean_x clean_y.
    let holds = hold_both a b new_a new_b at_a at_b seat (Ok r) ok_a ok_b here exact distinct in
    let config_x : x.store.config ≡ a.store.config = of_a.0.config
    ∙ same_config a new_a seat at_b (rows_now b.store) r.asked_a r.accepted_a exact.1 in
    let config_y : y.store.config ≡ b.store.config = of_b.0.config
    ∙ same_config b new_b seat at_a (rows_now a.store) r.asked_b r.accepted_b exact.2 in
    let still : IsOfRange x.store.config (rows_now y.store) = record {
      format = ap (λ (c : Config). c.format) config_y ∙ here.format ∙ ap (λ (c : Config). c.format) (sym config_x);
      bits = ap (λ (c : Config). c.bits) config_y ∙ here.bits ∙ ap (λ (c : Config). c.bits) (sym config_x);
      range = ap (λ (c : Config). c.range) config_y ∙ here.range ∙ ap (λ (c : Config). c.range) (sym config_x);
    } in
    same_roots x.store y.store ok_x.store ok_y.store still
    (λ key. ap (λ (es : List Entry). held es key) of_a.0.entries ∙ (holds key).0 ∙ sym (holds key).1
    ∙ ap (λ (es : List Entry). held es key) (sym of_b.0.entries))
    clean_x clean_y

pub asked_alike : (a b new_a new_b : State) (at_a at_b seat : ℕ) (result : Result Reconciled Refusal) → IsOfRange a.store.config (rows_now b.store)
    → Reconciles a at_a b at_b seat result new_a new_b
    → IfOk result (λ r. HaveAskedAlike a b new_a new_b r.asked_a r.asked_b)
asked_alike a b new_a new_b at_a at_b seat (Err e) here exact = tt
asked_alike a b new_a new_b at_a at_b seat (Ok r) here exact =
    let up_a = exact.1 in
    let up_b = exact.2 in
    let back : differ (rows_now b.store) (rows_now a.store) ≡ differ (rows_now a.store) (rows_now b.store) = differ_comm (rows_now b.store)
    (rows_now a.store) here.format in
    record {
      first = record { r = up_a.session.0.r; records = up_a.session.0.records; asked = up_a.session.1 };
      second = record { r = up_b.session.0.r; records = up_b.session.0.records; asked = up_b.session.1 ∙ back };
      count_a = up_a.asked ∙ up_a.synced.asked;
      count_b = up_b.asked ∙ up_b.synced.asked ∙ ap length back;
    }
