-- What the records of a range say of its partners.
use Rattle.std.proofs.Common.{◌≡◌, ◌≢◌, ◌≤◌, true, [], refl, ap, sym, ◌∙◌, inl, inr, Contains}
use Rattle.std.specs.List.{AllByRecursion}
use Rattle.std.proofs.lemmas.Bool.{both_ways}
use Rattle.range_journal.specs.declared.journal.Entry.{Entry}
use Rattle.range_journal.specs.declared.journal.Source.TheVariants.{Partner}
use Rattle.range_journal.specs.Journal.{held}
use Rattle.snapshot.specs.RowMaps.{RowMap}
use Rattle.sync_session.specs.declared.state.SessionState.TheVariants.{Open, Finished, Failed, Cancelled}
use Rattle.tree_nodes.specs.Nodes.{Node, contains_node}
use Rattle.sync_session.specs.TreeNodes.{text_of}
use Rattle.sync_session.specs.Walks.{Walk, Held, IsCanonical, IsExpectedText, NoTwoShareADigest, IsPartners}
use Rattle.sync_session.specs.Steps.{IsDue}
use Rattle.sync_session.specs.Differing.{differ, times, IsHonest, IsNearlyDone, IsInTurn, AscendByPlace}
use Rattle.sync_session.proofs.DescentLaws.{finished_held}
use Rattle.sync_session.proofs.HonestLaws.{asked_is_differ, differ_is_asked, true_text_due}
use Rattle.sync_session.proofs.OrderLaws.{asked_in_order}
use Rattle.range_state.specs.declared.«record».Record.{Record}
use Rattle.range_state.specs.Records.{IsOver, IsGoing, IsKept}
use Rattle.range_state.specs.State.{State, IsRight, IsFromPartner}
use Rattle.range_store.proofs.SameRowLaws.{all_of}
use Rattle.range_state.proofs.TakenLaws.{not_open}

kept_of : (s : State) (r : Record) → IsRight s → Contains s.records r → IsKept s.store.config s.store.entries r
kept_of s r ok has = all_of (IsKept s.store.config s.store.entries) s.records r ok.records has

not_over : (w : Walk) → w.state ≡ Finished → ¬ IsOver w
not_over w done (inl failed) = let clash : Failed ≡ Finished = sym failed ∙ done in cc
not_over w done (inr cancelled) = let clash : Cancelled ≡ Finished = sym cancelled ∙ done in cc

going_of : (s : State) (r : Record) → IsRight s → Contains s.records r → ¬ IsOver r.session → IsGoing s.store.entries r.session
going_of s r ok has on = elim (kept_of s r ok has).going [
  | inl over ↦ absurd (on over)
  | inr going ↦ going
]

pub finished : (s : State) → IsRight s → (r : Record) → Contains s.records r → r.session.state ≡ Finished → (other : RowMap)
    → IsPartners r.session other → NoTwoShareADigest r.session.own other r.session.taken → Held other.rows (held s.store.entries)
finished s ok r has done other partner apart =
    finished_held (held s.store.entries) r.session other (going_of s r ok has (not_over r.session done)).walked done partner apart

pub from_partner : (s : State) → IsRight s → (e : Entry) → Contains s.store.entries e → e.source ≡ Partner → IsFromPartner s.records e
from_partner s ok e has source = all_of (λ (x : Entry). x.source ≡ Partner → IsFromPartner s.records x) s.store.entries e ok.partners has source

-- ---- what a session took and asked, however it ended

pub expected_texts : (s : State) → IsRight s → (r : Record) → Contains s.records r → AllByRecursion (IsExpectedText r.session) r.session.taken
expected_texts s ok r has = (kept_of s r ok has).traced.texts

pub asked_once : (s : State) → IsRight s → (r : Record) → Contains s.records r → (n : Node) → times n r.session.asked ≤ 1
asked_once s ok r has = (kept_of s r ok has).traced.once

pub asked_ordered : (s : State) → IsRight s → (r : Record) → Contains s.records r → IsInTurn r.session → AscendByPlace r.session.asked
asked_ordered s ok r has = asked_in_order r.session (kept_of s r ok has).traced

pub asked_only : (s : State) → IsRight s → (r : Record) → Contains s.records r → (other : RowMap) → IsPartners r.session other
    → IsHonest r.session other → (n : Node) → contains_node n r.session.asked ≡ true → contains_node n (differ r.session.own other) ≡ true
asked_only s ok r has other = asked_is_differ r.session other (kept_of s r ok has).traced

none_due : (w : Walk) (P : Type 0) (n : Node) → w.outstanding ≡ [] → contains_node n w.outstanding ≡ true → P
none_due w P n none asked = absurd (both_ways (contains_node n []) refl (ap (contains_node n) (sym none) ∙ asked))

pub still_due : (s : State) → IsRight s → (r : Record) → Contains s.records r → (other : RowMap) → IsPartners r.session other
    → IsHonest r.session other → (n : Node) → contains_node n r.session.outstanding ≡ true
    → IsDue r.session (record { node = n; text = text_of other n }) × IsCanonical r.session.own n (text_of other n)
still_due s ok r has other partner honest n asked =
    let kept = kept_of s r ok has in
    elim kept.going [
      | inl over ↦ none_due r.session _ n (kept.ended (not_open r.session over)) asked
      | inr on ↦ true_text_due (held s.store.entries) r.session other on.walked on.orderly partner honest n asked
    ]

pub ended_done : (s : State) → IsRight s → (r : Record) → Contains s.records r → r.session.state ≢ Open → r.session.outstanding ≡ []
ended_done s ok r has = (kept_of s r ok has).ended

-- ---- what one that was not ended early asked

-- a session of a right state that was not ended early and is nearly done, with an honest partner
pub record IsNearItsEnd (s : State) (r : Record) (other : RowMap) : Type 0 where
  pub right : IsRight s
  pub has : Contains s.records r
  pub on : ¬ IsOver r.session
  pub partner : IsPartners r.session other
  pub honest : IsHonest r.session other
  pub near : IsNearlyDone r.session

pub asked_all : (s : State) (r : Record) (other : RowMap) → IsNearItsEnd s r other
    → (n : Node) → contains_node n (differ r.session.own other) ≡ true → contains_node n r.session.asked ≡ true
asked_all s r other end n differs =
    let going = going_of s r end.right end.has end.on in
    differ_is_asked (held s.store.entries) r.session other going.walked going.orderly end.partner end.honest end.near n differs

pub finished_done : (s : State) → IsRight s → (r : Record) → Contains s.records r → r.session.state ≡ Finished
    → (¬ IsOver r.session) × IsNearlyDone r.session
finished_done s ok r has done =
    let on = not_over r.session done in
    let none = (going_of s r ok has on).walked.finished done in
    (on, λ n asked. none_due r.session _ n none asked)
