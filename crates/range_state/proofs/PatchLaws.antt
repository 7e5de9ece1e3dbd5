-- Nodes that a session of a range has outstanding.
use Rattle.std.proofs.Common.{◌≡◌, ◌≢◌, ℕ, Bool, true, false, Option, Some, None, length, ap, refl, sym, ◌∙◌, inl, inr, cond, subst}
use Rattle.std.specs.Prelude.{slice_get, MatchOption}
use Rattle.std.proofs.lemmas.Bool.{eq-eqb, le-leb}
use Rattle.vclock.specs.declared.refusal.Refusal.TheVariants.{NotAsked, BadMessage}
use Rattle.tree_nodes.specs.Nodes.{Node, contains_node}
use Rattle.snapshot.specs.Snapshots.{answer_fault}
use Rattle.sync_session.specs.Walks.{Walk, expected, whole_digest}
use Rattle.sync_session.specs.declared.state.SessionState.TheVariants.{Open, Failed, Cancelled}
use Rattle.sync_session.proofs.DueLaws.{IsAwaited, outstanding_awaited}
use Rattle.range_state.specs.declared.«record».Record.{Record}
use Rattle.range_state.specs.Records.{IsOver, place_of, record_of}
use Rattle.range_state.specs.State.{State, IsRight}
use Rattle.range_state.specs.Patches.{asked_for, asked_fault}
use Rattle.range_state.proofs.AnswerLaws.{kept_at}

-- a session that was ended early is not open
over_shut : (w : Walk) → IsOver w → w.state ≢ Open
over_shut w (inl failed) is_open = absurd (let clash : Failed ≡ Open = sym failed ∙ is_open in cc)
over_shut w (inr gone) is_open = absurd (let clash : Cancelled ≡ Open = sym gone ∙ is_open in cc)

-- an outstanding node is one of the tree, and its session expects a digest there
awaited_at : (s : State) (place : ℕ) (r : Record) (n : Node) → IsRight s → slice_get s.records place ≡ Some r
    → contains_node n r.session.outstanding ≡ true → length r.session.root ≡ 32 → IsAwaited r.session n
awaited_at s place r n ok here has long =
    let kept = kept_at s place r ok here in
    elim kept.going [
      | inl over ↦ absurd (let none : false ≡ true = sym (ap (contains_node n) (kept.ended (over_shut r.session over))) ∙ has in cc)
      | inr going ↦ outstanding_awaited r.session kept.traced going.orderly long n has
    ]

outstanding : (b : Bool) → cond b None (Some NotAsked) ≡ None → b ≡ true
outstanding true e = refl
outstanding false e = absurd (cc)

-- So is the node for which a session is returned.
pub asking_awaited : (s : State) (id : ℕ) (n : Node) (w : Walk) → IsRight s → asked_fault s id n ≡ None
    → MatchOption (record_of id s.records) ⊥ (λ r. r.session ≡ w) → length w.root ≡ 32 → IsAwaited w n
asking_awaited s id n w ok free is long = by_case (record_of id s.records) refl free is
  where
    by_case : (o : Option Record) → record_of id s.records ≡ o → asked_for o n ≡ None → MatchOption o ⊥ (λ r. r.session ≡ w) → IsAwaited w n
    by_case None at free is = absurd is
    by_case (Some r) at free is =
        subst (λ (x : Walk). IsAwaited x n) is
        (awaited_at s (place_of id s.records) r n ok at (outstanding (contains_node n r.session.outstanding) free)
        (ap (λ (x : Walk). length x.root) is ∙ long))

-- the digest that is expected there has its length, and the node has a text
pub awaited_whole : (w : Walk) (n : Node) (a : IsAwaited w n) → whole_digest (expected w.root w.taken n) ≡ Some a.digest
awaited_whole w n a = ap whole_digest a.expects ∙ ap (λ b. cond b (Some a.digest) None) (eq-eqb (length a.digest) 32 a.long)

pub awaited_shallow : (w : Walk) (n : Node) → IsAwaited w n → answer_fault w.own n ≡ None
awaited_shallow w n a = ap (λ b. cond b None (Some BadMessage)) (le-leb n.depth _ a.shallow)
