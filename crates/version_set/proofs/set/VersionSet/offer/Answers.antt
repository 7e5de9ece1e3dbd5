use Rattle.std.proofs.Common.{◌≡◌, ◌<◌, false, not, filter, length, None, Some, arith, inl, inr}
use Rattle.std.proofs.lemmas.Bool.{both_ways}
use Rattle.std.proofs.lemmas.Result.{err_from_is_err_and}
use Rattle.version_set.proofs.OfferLemmas.{Made, made, crowded, not_crowded}
use Rattle.version_set.specs.Members.{members_of}
use Rattle.version_set.specs.Version.{is_below, covered, with_version}
use Rattle.version_set.proofs.set.VersionSet.offer.Goals as goal
use Rattle.version_set.proofs.set.VersionSet.offer.Goals.{In_ok-replace_below}

made_here : (c : In_ok-replace_below) → Made c.args.version c.args.self.now (members_of c.replace_below.new.self)
made_here c =
    let f : covered c.args.version c.args.self.now ≡ false = cc (c.is_covered.ensures, c.as_slice.ensures.all, c.if-is_covered.false) in
    let kept : length (filter (λ w. not (is_below w c.args.version)) c.args.self.now) ≡ c.count_kept-kept.result = cc
    (c.count_kept-kept.ensures.count, c.as_slice-2.ensures.all) in
    let room : length (filter (λ w. not (is_below w c.args.version)) c.args.self.now) < 64 = omega (arith, kept, c.if-kept-ge-VERSIONS_MAX.false) in
    let e : members_of c.replace_below.new.self ≡ with_version c.args.version (filter (λ w. not (is_below w c.args.version)) c.args.self.now) = cc
    (c.in_ok-replace_below.ensures.answers.1, c.self.view_is) in
    made c.args.version c.args.self.now (members_of c.replace_below.new.self) c.pairs-valid.ensures.valid c.as_slice.ensures.valid f room e

pub returns-then-kept-ge-VERSIONS_MAX-clause-answers : goal.returns-then-kept-ge-VERSIONS_MAX-clause-answers
returns-then-kept-ge-VERSIONS_MAX-clause-answers c =
    let f : covered c.args.version c.args.self.now ≡ false = cc (c.is_covered.ensures, c.as_slice.ensures.all, c.if-is_covered.false) in
    let kept : length (filter (λ w. not (is_below w c.args.version)) c.args.self.now) ≡ c.count_kept-kept.result = cc
    (c.count_kept-kept.ensures.count, c.as_slice-2.ensures.all) in
    inr (crowded c.args.version c.args.self.now c.as_slice.ensures.valid f (omega (arith, kept, c.if-kept-ge-VERSIONS_MAX.true)))

pub returns-clause-set : goal.returns-clause-set
returns-clause-set c = (made_here c).is

pub invariant_of-self-2 : goal.invariant_of-self-2
invariant_of-self-2 c = (made_here c).set

is_new : (c : In_ok-replace_below) → covered c.args.version c.args.self.now ≡ false
is_new c = cc (c.is_covered.ensures, c.as_slice.ensures.all, c.if-is_covered.false)

pub returns-clause-answers : goal.returns-clause-answers
returns-clause-answers c = ((made_here c).none, ((λ e. cc), (λ t. absurd (both_ways _ (is_new c) t))))

pub returns-in_err-replace_below-clause-answers : goal.returns-in_err-replace_below-clause-answers
returns-in_err-replace_below-clause-answers c =
    let f : covered c.args.version c.args.self.now ≡ false = cc (c.is_covered.ensures, c.as_slice.ensures.all, c.if-is_covered.false) in
    let kept : length (filter (λ w. not (is_below w c.args.version)) c.args.self.now) ≡ c.count_kept-kept.result = cc
    (c.count_kept-kept.ensures.count, c.as_slice-2.ensures.all) in
    let p = err_from_is_err_and c.from_residual.result c.from_residual.ensures.1 in
    rw (p.1, p.2) (elim c.in_err-replace_below.ensures.answers [
      | inl memory ↦ inl (
        not_crowded c.args.version c.args.self.now c.as_slice.ensures.valid f
            (omega (arith, kept, c.if-kept-ge-VERSIONS_MAX.false)),
        memory.1,
      )
      | inr e ↦ absurd (let no : None ≡ Some _ = e in cc)
    ])
