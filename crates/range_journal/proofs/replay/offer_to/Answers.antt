use Rattle.std.proofs.Common.{◌≡◌, ℕ, List, [], cond, sym, ap, subst, ◌∙◌, rules}
use Rattle.std.specs.Prelude.{bytes_eq, unwrap_or}
use Rattle.std.specs.Option.{option_copied_mut}
use Rattle.version_set.specs.Version.{offered}
use Rattle.range_journal.specs.Replays.{set_at}
use Rattle.range_journal.proofs.ReplayLaws.{kept, took}
use Rattle.range_journal.proofs.replay.offer_to.Goals as goal

pub returns-in_err-offer-clause-err : goal.returns-in_err-offer-clause-err
returns-in_err-offer-clause-err c =
    let u = (c.get_mut.follows.holds c.offer.new.self).3 (search rules) in
    let found : c.in-Some.set.now ≡ set_at (λ j. j.now) c.args.sets.now c.args.key.now = ap (λ o. unwrap_or o [])
    (ap option_copied_mut (sym c.in-Some.is) ∙ c.get_mut.ensures.value) in
    let same : c.offer.new.self ≡ c.in-Some.set.now = search rules in
    let all = kept (λ j. j.now) c.args.key.now c.offer.new.self c.args.sets.now (c.get_mut.follows.lender c.offer.new.self) u.1 u.3 (same ∙ found) in
    search rules

pub returns-in-Some-clause-ok : goal.returns-in-Some-clause-ok
returns-in-Some-clause-ok c =
    let u = (c.get_mut.follows.holds c.offer.new.self).3 (search rules) in
    let found : c.in-Some.set.now ≡ set_at (λ j. j.now) c.args.sets.now c.args.key.now = ap (λ o. unwrap_or o [])
    (ap option_copied_mut (sym c.in-Some.is) ∙ c.get_mut.ensures.value) in
    let now : c.offer.new.self ≡ offered c.args.version c.in-Some.set.now = search rules in
    took (λ j. j.now) c.args.key.now c.offer.new.self c.args.sets.now (c.get_mut.follows.lender c.offer.new.self) u.1 u.3 c.args.version
    (now ∙ ap (offered c.args.version) found)

pub returns-clause-ok : goal.returns-clause-ok
returns-clause-ok c =
    let u = c.in_ok-insert.ensures.updates in
    let none = c.get_mut.follows.holds-at-none in
    let not = c.in_default.not-Some in
    let absent : set_at (λ j. j.now) c.args.sets.now c.args.key.now ≡ [] = search rules in
    let now : c.offer-2.new.self ≡ offered c.args.version [] = search rules in
    subst (λ m. (k : List ℕ)
    → set_at (λ j. j.now) c.insert.new.self k ≡ cond (bytes_eq c.args.key.now k) (offered c.args.version (set_at (λ j. j.now) m k))
    (set_at (λ j. j.now) m k)) none
    (took (λ j. j.now) c.args.key.now c.offer-2.new.self c.get_mut.follows.lender-at-none c.insert.new.self u.1 u.3 c.args.version
    (now ∙ ap (offered c.args.version) (sym absent ∙ ap (λ m. set_at (λ j. j.now) m c.args.key.now) (sym none))))
