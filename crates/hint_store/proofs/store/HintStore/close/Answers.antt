use Rattle.std.proofs.Common.{◌≡◌, ℕ, ◌-◌, ◌^◌, ap, sym, ◌∙◌, subst, arith, List, true, false, set, get_or}
use Rattle.std.specs.Prelude.{min, MatchOption}
use Rattle.hint_store.specs.declared.hint.Delivery.{Delivery}
use Rattle.hint_store.specs.declared.hint.Fate.{Fate}
use Rattle.hint_store.specs.declared.hint.Fate.TheVariants.{Pending}
use Rattle.std.specs.List.Sorted.{IsPartitionPoint}
use Rattle.hint_store.specs.declared.hint.Kept.{Kept}
use Rattle.hint_store.specs.declared.store.Waiting.{Waiting}
use Rattle.hint_store.specs.Hints.{AreHints, kept_at, fate_of, closed}
use Rattle.hint_store.specs.Waits.{is_up_to, AreWaiting}
use Rattle.hint_store.proofs.HintLaws.{get_or_same, IsFound, IsOpen, open_at, open_found, delivery_to, confirmed_at}
use Rattle.hint_store.proofs.WaitLaws.{IsItsEntry, its_entry, AreWaiting-confirm, AreHints-confirm}
use Rattle.hint_store.proofs.SizeLaws.{closed_len}
use Rattle.hint_store.proofs.store.HintStore.close.Goals as goal

-- the hint whose wait ends, as the fields have it
inside_open : (hints seen : List Kept) (id owner : ℕ) → hints ≡ seen
    → MatchOption (kept_at seen id) ⊥ (λ k. (k.fate ≡ Pending) × (k.hint.owner ≡ owner)) → IsOpen hints id owner
inside_open hints seen id owner same h =
    open_at hints id owner (subst (λ (hs : List Kept). MatchOption (kept_at hs id) ⊥ (λ k. (k.fate ≡ Pending) × (k.hint.owner ≡ owner))) (sym same) h)

-- where its entry stands
inside_entry : (hints : List Kept) (index ws : List Waiting) (id p : ℕ) (d : Delivery) → AreWaiting hints index → IsFound hints id d → ws ≡ index
    → IsPartitionPoint (λ w. is_up_to d.owner (id - 1) w ≡ true) (λ w. is_up_to d.owner (id - 1) w ≡ false) ws p → IsItsEntry index p d.owner id
inside_entry hints index ws id p d waiting f is at =
    its_entry hints index id p d waiting f
    (subst (λ (l : List Waiting). IsPartitionPoint (λ w. is_up_to d.owner (id - 1) w ≡ true) (λ w. is_up_to d.owner (id - 1) w ≡ false) l p) is
    at)

-- what is written at the hint's place
written : (hints : List Kept) (id : ℕ) (d : Delivery) (f : IsFound hints id d) (old : Kept) (fate : Fate) → old ≡ get_or hints (id - 1) old
    → fate ≡ fate_of d
    → (let new : Kept = record { hint = old.hint; fate = fate } in new) ≡ record { hint = f.kept.hint; fate = fate_of d }
written hints id d f old fate is fated =
    let same : old ≡ f.kept = is ∙ (get_or_same hints (id - 1) old f.kept f.inside ∙ f.stands) in
    λ i. record { hint = (same i).hint; fate = fated i }

pub remove-requires : goal.remove-requires
remove-requires c =
    let hints = c.self.inside.hints.items in
    let o = inside_open hints c.args.self.now c.args.id c.args.owner c.self.view_is c.requires in
    let d = delivery_to c.args.owner o.kept.hint c.args.known in
    let f = open_found hints c.args.id c.args.owner c.args.known c.self.invariant.0.numbered o in
    let e = inside_entry hints c.self.inside.pending.items c.deref.result.now c.args.id c.place_after-place.result d c.self.invariant.1 f
    c.deref.ensures.value c.place_after-place.ensures.place in
    omega (arith, e.inside)

pub index_mut-requires : goal.index_mut-requires
index_mut-requires c =
    let o = inside_open c.self.inside.hints.items c.args.self.now c.args.id c.args.owner c.self.view_is c.requires in
    let f = open_found c.self.inside.hints.items c.args.id c.args.owner c.args.known c.self.invariant.0.numbered o in
    omega (arith, f.inside)

pub invariant_of-self : goal.invariant_of-self
invariant_of-self c =
    let hints = c.self.inside.hints.items in
    let index = c.self.inside.pending.items in
    let o = inside_open hints c.args.self.now c.args.id c.args.owner c.self.view_is c.requires in
    let d = delivery_to c.args.owner o.kept.hint c.args.known in
    let f = open_found hints c.args.id c.args.owner c.args.known c.self.invariant.0.numbered o in
    let e = inside_entry hints index c.deref.result.now c.args.id c.place_after-place.result d c.self.invariant.1 f c.deref.ensures.value
    c.place_after-place.ensures.place in
    let new = ap (λ (k : Kept). set hints (c.args.id - 1) k)
    (sym (written hints c.args.id d f c.index_mut.result.now c.fate_of.result c.index_mut.ensures.value c.fate_of.ensures)) in (
      subst AreHints new (AreHints-confirm hints c.args.id d c.self.invariant.0 f),
      subst (λ (hs : List Kept). AreWaiting hs c.remove.new.self.items) new
          (subst (AreWaiting (set hints (c.args.id - 1) (record { hint = f.kept.hint; fate = fate_of d }))) (sym c.remove.ensures.items)
          (AreWaiting-confirm hints index c.args.id c.place_after-place.result d c.self.invariant.1 f e)),
      c.self.invariant.2 ∙ ap (λ n. min n (2 ^ 64 - 1))
          (sym (closed_len hints (c.args.id - 1)
          (record { hint = c.index_mut.result.now.hint; fate = c.fate_of.result }) c.index_mut.result.now f.inside
          (ap (λ (k : Kept). k.hint) c.index_mut.ensures.value))),
    )

pub returns : goal.returns
returns c =
    let hints = c.self.inside.hints.items in
    let o = inside_open hints c.args.self.now c.args.id c.args.owner c.self.view_is c.requires in
    let d = delivery_to c.args.owner o.kept.hint c.args.known in
    let f = open_found hints c.args.id c.args.owner c.args.known c.self.invariant.0.numbered o in
    ap (λ (k : Kept). set hints (c.args.id - 1) k)
    (written hints c.args.id d f c.index_mut.result.now c.fate_of.result c.index_mut.ensures.value c.fate_of.ensures)
    ∙ (sym (confirmed_at hints c.args.id d c.self.invariant.0.numbered f) ∙ ap (λ (hs : List Kept). closed hs c.args.id c.args.known) c.self.view_is)
