use Rattle.std.proofs.Common.{◌≡◌, ◌+◌, ◌-◌, ◌^◌, ◌≤◌, ◌++◌, [], ◌∷◌, ℕ, length, ap, sym, ◌∙◌, subst, arith, List, true, false, None}
use Rattle.std.specs.Prelude.{min}
use Rattle.std.specs.List.{insert}
use Rattle.std.specs.List.Sorted.{IsPartitionPoint}
use Rattle.version_set.specs.Sizes.{payload_len}
use Rattle.version_set.specs.declared.version.Version.{Version}
use Rattle.hint_store.specs.declared.hint.Kept.{Kept}
use Rattle.hint_store.specs.declared.hint.Fate.TheVariants.{Pending}
use Rattle.hint_store.specs.declared.store.Waiting.{Waiting}
use Rattle.hint_store.specs.Hints.{keep_fault, AreHints, with_hint}
use Rattle.hint_store.specs.Waits.{is_up_to, AreWaiting}
use Rattle.hint_store.proofs.WaitLaws.{AreWaiting-keep, AreHints-keep}
use Rattle.hint_store.proofs.SizeLaws.{kept_len}
use Rattle.hint_store.proofs.store.HintStore.keep.Goals as goal

-- a hint and its entry that were added to the fields of a store, which had room for them
record IsAdded (pushed : List Kept) (inserted : List Waiting) : Type 0 where
  pub hints : List Kept
  pub seen : List Kept
  pub index : List Waiting
  pub places : List Waiting
  pub owner : ℕ
  pub key : List ℕ
  pub version : Version
  pub last : ℕ
  pub place : ℕ
  pub view : hints ≡ seen
  pub are_hints : AreHints hints
  pub are_waiting : AreWaiting hints index
  pub room : keep_fault seen ≡ None
  pub count : last ≡ length hints
  pub same_places : places ≡ index
  pub place_is : IsPartitionPoint (λ w. is_up_to owner last w ≡ true) (λ w. is_up_to owner last w ≡ false) places place
  pub within : place ≤ length places
  pub push : pushed ≡ hints ++ record { hint = record { id = last + 1; owner = owner; key = key; version = version }; fate = Pending } ∷ []
  pub put : inserted ≡ insert index place (record { owner = owner; id = last + 1 })

-- the fields after a hint and its entry were added, in their own words
added : (pushed : List Kept) (inserted : List Waiting) → IsAdded pushed inserted → AreHints pushed × AreWaiting pushed inserted
added pushed inserted a =
    let hints = a.hints in
    let index = a.index in
    let o = a.owner in
    let p = a.place in
    let at_index = subst (λ (n : ℕ). IsPartitionPoint (λ w. is_up_to o n w ≡ true) (λ w. is_up_to o n w ≡ false) index p) a.count
    (subst (λ (l : List Waiting). IsPartitionPoint (λ w. is_up_to o a.last w ≡ true) (λ w. is_up_to o a.last w ≡ false) l p)
    a.same_places a.place_is) in
    let bound : p ≤ length index = omega (arith, ap length a.same_places, a.within) in
    let whole : pushed ≡ with_hint hints o a.key a.version = a.push
    ∙ ap (λ (n : ℕ). hints ++ record { hint = record { id = n + 1; owner = o; key = a.key; version = a.version }; fate = Pending } ∷ []) a.count in
    let entry : inserted ≡ insert index p (record { owner = o; id = length hints + 1 }) = a.put
    ∙ ap (λ (n : ℕ). insert index p (record { owner = o; id = n + 1 })) a.count in (
      subst AreHints (sym whole) (AreHints-keep hints o a.key a.version a.are_hints (ap keep_fault a.view ∙ a.room)),
      subst (λ (l : List Waiting). AreWaiting pushed l) (sym entry)
          (subst (λ (l : List Kept). AreWaiting l (insert index p (record { owner = o; id = length hints + 1 }))) (sym whole)
          (AreWaiting-keep hints index o p a.key a.version a.are_hints.numbered a.are_waiting at_index bound)),
    )

pub invariant_of-self-2 : goal.invariant_of-self-2
invariant_of-self-2 c =
    let hints = c.self.inside.hints.items in
    let index = c.self.inside.pending.items in
    let count : c.len-last.result ≡ length hints = omega (arith, c.len-last.ensures, c.reserve.ensures.len) in
    let put : c.insert.new.self.items ≡ insert index c.place_after-place.result
    (record { owner = c.args.owner; id = c.len-last.result + 1 }) = rw c.unwrap.ensures at c.insert.ensures.items
    ∙ ap (λ (l : List Waiting). insert l c.place_after-place.result (record { owner = c.args.owner; id = c.len-last.result + 1 }))
    c.reserve-2.ensures.items in
    let push : c.push.new.self.items ≡ hints
    ++ record {
      hint = record { id = c.len-last.result + 1; owner = c.args.owner; key = c.args.key; version = c.args.version };
      fate = Pending;
    } ∷ [] = rw c.unwrap-2.ensures at c.push.ensures.items
    ∙ ap (λ (l : List Kept). l
    ++ record {
      hint = record { id = c.len-last.result + 1; owner = c.args.owner; key = c.args.key; version = c.args.version };
      fate = Pending;
    } ∷ []) c.reserve.ensures.items in
    let both = added c.push.new.self.items c.insert.new.self.items (record {
      hints = hints;
      seen = c.args.self.now;
      index = index;
      places = c.deref.result.now;
      owner = c.args.owner;
      key = c.args.key;
      version = c.args.version;
      last = c.len-last.result;
      place = c.place_after-place.result;
      view = c.self.view_is;
      are_hints = c.self.invariant.0;
      are_waiting = c.self.invariant.1;
      room = c.if-is_full.ensures;
      count = count;
      same_places = c.deref.ensures.value ∙ c.reserve-2.ensures.items;
      place_is = c.place_after-place.ensures.place;
      within = c.place_after-place.ensures.bound;
      push = push;
      put = put;
    }) in (
      both.0,
      both.1,
      kept_len hints c.push.new.self.items _ _ _ _ c.self.invariant.2
          (c.payload_len-len.ensures
          ∙ ap (λ (key : List ℕ). min (payload_len key c.args.version) (2 ^ 64 - 1)) c.as_slice.ensures) c.saturating_add-self-inside.ensures push,
    )
