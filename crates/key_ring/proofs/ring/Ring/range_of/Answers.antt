use Rattle.std.proofs.Common.{◌≡◌, ℕ, sym, ap, ◌∙◌, arith}
use Rattle.key_ring.specs.Places.{range_at}
use Rattle.key_ring.specs.Ring.{Places}
use Rattle.key_ring.proofs.Cuts.{range_below}
use Rattle.key_ring.proofs.ring.Ring.range_of.Goals as goal

pub returns-then-self-eq0-clause-place : goal.returns-then-self-eq0-clause-place
returns-then-self-eq0-clause-place c =
    let none : c.args.self.now.bits ≡ 0 = ap (λ (p : Places). p.bits) (sym c.self.view_is) ∙ c.if-self-eq0.true in
    let only = range_below 0 c.args.key.now (omega arith) in
    let first : 0 ≡ range_at 0 c.args.key.now = omega (arith, only) in
    first ∙ ap (λ (b : ℕ). range_at b c.args.key.now) (sym none)
