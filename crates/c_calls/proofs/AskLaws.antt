-- Outlines of the nodes that a session has outstanding.
use Rattle.std.proofs.Common.{◌≡◌, ℕ, zero, suc, true, Option, Some, None, List, [], ◌∷◌, cond, refl, sym, ap, subst, ◌∙◌, inl, inr}
use Rattle.std.specs.Prelude.{slice_get, MatchOption, Result, Ok, Err}
use Rattle.std.proofs.lemmas.Bool.{or_left, or_right}
use Rattle.vclock.specs.Answer.{Answers, first_fault}
use Rattle.vclock.specs.declared.refusal.Refusal.{Refusal}
use Rattle.vclock.specs.declared.refusal.Refusal.TheVariants.{NotAsked}
use Rattle.tree_nodes.specs.Nodes.{Node, is_same_node, contains_node}
use Rattle.text_patch.specs.Marks.{width_fault}
use Rattle.sync_session.proofs.DescentLaws.{is_node-same}
use Rattle.range_state.specs.declared.«record».Record.{Record}
use Rattle.range_state.specs.Records.{record_of}
use Rattle.range_state.specs.State.{State}
use Rattle.range_state.specs.Sessions.{unknown_for, unknown_fault}
use Rattle.range_state.specs.Patches.{asked_for, outline_fault, IsOutline, IsOutlineFor}
use Rattle.c_calls.specs.Asks.{OutlinesNode, Outlines}

some_is : (a b : Node) → Some a ≡ Some b → a ≡ b
some_is a b e = cc

-- a node at a place of a list is in it
found_has : (xs : List Node) (i : ℕ) (n : Node) → Some n ≡ slice_get xs i → contains_node n xs ≡ true
found_has [] i n e = absurd (cc)
found_has (x ∷ xs) zero n e =
    or_left (is_same_node n x) (contains_node n xs) (subst (λ (y : Node). is_same_node n y ≡ true) (some_is n x e) (is_node-same n))
found_has (x ∷ xs) (suc i) n e = or_right (is_same_node n x) (contains_node n xs) (found_has xs i n e)

-- a range's outline of the node at a place
pub outlined : (s : State) (id place number width : ℕ) (n : Node) (r : Result (List ℕ) Refusal) → width_fault width ≡ None → unknown_fault s id ≡ None
    → MatchOption (record_of id s.records) ⊥ (λ k. Some n ≡ slice_get k.session.outstanding place)
    → Answers r (outline_fault s id n width) (IsOutlineFor s id (record { offer = number; node = n }) width) → Outlines s id place number width r
outlined s id place number width n r wide known found said = by_case (record_of id s.records) (width_fault width) r wide known found said
  where
    by_case : (o : Option Record) (f : Option Refusal) (r : Result (List ℕ) Refusal) → f ≡ None → unknown_for o ≡ None
        → MatchOption o ⊥ (λ k. Some n ≡ slice_get k.session.outstanding place)
        → Answers r (first_fault f (asked_for o n))
        (λ bytes. MatchOption o ⊥ (λ k. IsOutline k.session (record { offer = number; node = n }) width bytes))
        → Answers r (first_fault f (unknown_for o)) (λ bytes. MatchOption o ⊥ (λ k. OutlinesNode k place number width bytes))
    by_case None f r wide known found said = absurd found
    by_case (Some k) (Some e) r wide known found said = absurd (cc)
    by_case (Some k) None (Ok bytes) wide known found said = (refl, record { node = Some n; is_there = found; says = said.1 })
    by_case (Some k) None (Err e) wide known found said = elim said [
      | inl short ↦ inl (refl, short.1)
      | inr is ↦
          let asked : asked_for (Some k) n ≡ None = ap (λ b. cond b None (Some NotAsked)) (found_has k.session.outstanding place n found) in
          absurd (let clash : None ≡ Some e = sym asked ∙ is in cc)
    ]
