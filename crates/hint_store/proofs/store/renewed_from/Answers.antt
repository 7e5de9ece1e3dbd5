use Rattle.std.proofs.Common.{◌≡◌, refl, ap, sym, ◌∙◌, inl, None}
use Rattle.std.proofs.lemmas.Result.{err_from_is_err_and}
use Rattle.vclock.specs.declared.refusal.Refusal.TheVariants.{NoMemory}
use Rattle.hint_store.specs.Hints.{keep_fault, with_hint}
use Rattle.hint_store.proofs.RenewLaws.{renewed-more, renewed-room, kept-ok, kept-err}
use Rattle.hint_store.proofs.store.renewed_from.Goals as goal

pub returns-in_err-keep : goal.returns-in_err-keep
returns-in_err-keep c =
    let k = c.kept-item.result in
    let room : keep_fault c.loop-kept.store ≡ None =
    ap keep_fault c.loop-kept.invariant ∙ renewed-room c.args.hints.now c.loop-kept.kept-index k c.requires c.loop-kept-test.true c.kept-item.is
    (sym c.if-not-is_open.ensures) in
    let e = c.in_err-keep.field-0.0 in
    let memory : e ≡ NoMemory = kept-err e c.loop-kept.store k.hint.owner c.in_ok-key.key c.in_ok-version.version room c.in_err-keep.ensures.1 in
    let p = err_from_is_err_and c.from_residual-in_err-keep.result c.from_residual-in_err-keep.ensures.1 in
    rw (p.1, p.2) (inl (refl, memory))

pub loop-kept-preserved : goal.loop-kept-preserved
loop-kept-preserved c =
    let hints = c.args.hints.now in
    let i = c.loop-kept.kept-index in
    let k = c.kept-item.result in
    let pending = sym c.if-not-is_open.ensures in
    let room : keep_fault c.loop-kept.store ≡ None = ap keep_fault c.loop-kept.invariant
    ∙ renewed-room hints i k c.requires c.loop-kept-test.true c.kept-item.is pending in
    kept-ok c.in_ok-keep.field-0 c.loop-kept.store c.keep.new.self k.hint.owner c.in_ok-key.key c.in_ok-version.version room c.in_ok-keep.ensures
    ∙ ((λ j. with_hint (c.loop-kept.invariant j) k.hint.owner (c.in_ok-key.ensures.1 j) (c.in_ok-version.ensures.1 j))
    ∙ sym (renewed-more hints i k c.loop-kept-test.true c.kept-item.is pending))
