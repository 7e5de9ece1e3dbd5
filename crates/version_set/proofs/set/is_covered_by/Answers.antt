use Rattle.std.proofs.Common.{◌≡◌, ◌≢◌, Bool, true, false, not, ◌&&◌, nat_eq, refl, ap, inl, inr, ◌∙◌, sym}
use Rattle.std.proofs.lemmas.Bool.{cases_Bool}
use Rattle.std.specs.Ordering.{is_eq, ordering_index}
use Rattle.std.specs.declared.cmp.Ordering.{Ordering}
use Rattle.std.specs.declared.cmp.Ordering.TheVariants.{Less, Equal, Greater}
use Rattle.vclock.specs.Clock.{at_most, order_of}
use Rattle.vclock.proofs.BoolLaws.{or-false}
use Rattle.vclock.specs.declared.clock.ClockOrder.TheVariants as clocks
use Rattle.version_set.specs.declared.version.Version.{Version}
use Rattle.version_set.specs.Version.{is_below, is_same}
use Rattle.version_set.proofs.SetLaws.{is_same-exact}
use Rattle.version_set.proofs.set.is_covered_by.Goals as goal

-- versions of different clocks differ
not_same : (v w : Version) → v.clock ≢ w.clock → is_same v w ≡ false
not_same v w n = elim (cases_Bool (is_same v w)) [
  | inl t ↦ absurd (n (ap (λ x. x.clock) (is_same-exact v w t)))
  | inr f ↦ f
]

-- a version is not below another unless its clock is before
not_below : (a b : Bool) → order_of a b ≢ clocks.Before → (a && not b) ≡ false
not_below true true n = refl
not_below true false n = absurd (n refl)
not_below false b n = refl

equal_is : (o : Ordering) → nat_eq (ordering_index o) 1 ≡ is_eq o
equal_is Less = refl
equal_is Equal = refl
equal_is Greater = refl

pub returns-in-Equal : goal.returns-in-Equal
returns-in-Equal c =
    let v = c.args.version.now in
    let w = c.args.held.now in
    let below : is_below v w ≡ false = not_below (at_most v.clock w.clock) (at_most w.clock v.clock)
    (λ e. let no : clocks.Equal ≡ clocks.Before = sym c.in-Equal.is ∙ c.compare.ensures.order ∙ e in cc) in
    rw below (c.eq.ensures ∙ equal_is c.text_order.result ∙ ap is_eq c.text_order.ensures.fields ∙ sym (or-false (is_same v w)))

pub returns-in-After : goal.returns-in-After
returns-in-After c =
    let v = c.args.version.now in
    let w = c.args.held.now in
    let same : is_same v w ≡ false = not_same v w (λ e. let no : c.compare.result ≡ clocks.Equal = c.compare.ensures.equal.1 e in
    elim c.in-After.is [ inl after ↦ cc | inr apart ↦ cc ]) in
    let below : is_below v w ≡ false = not_below (at_most v.clock w.clock) (at_most w.clock v.clock)
    (λ e. let no : c.compare.result ≡ clocks.Before = c.compare.ensures.order ∙ e in elim c.in-After.is [ inl after ↦ cc | inr apart ↦ cc ]) in
    rw (same, below) refl
