use Rattle.std.proofs.Common.{◌≡◌, ◌/◌, ◌-◌, ◌^◌, arith, sym, ◌∙◌}
use Rattle.key_ring.specs.Places.{range_at}
use Rattle.key_ring.proofs.Cuts.{range_is, range_below, range_fits, leaf_is, mask_is}
use Rattle.key_ring.proofs.hashed_key.HashedKey.place.Goals as goal

-- what is left of the first bits is the range
is_range : (c : goal.After-leaf_bits-leaf_bits)
    → c.first_bits-first.result / 2 ^ (24 - c.from-below_range.result) ≡ range_at c.args.bits c.args.self.now
is_range c =
    let is = range_is c.args.bits c.args.self.now c.requires in
    cc

pub overflow_cast-range : goal.overflow_cast-range
overflow_cast-range c = omega (arith, is_range c, range_fits c.args.bits c.args.self.now c.requires)

pub returns-clause-range : goal.returns-clause-range
returns-clause-range c = is_range c

pub returns-clause-leaf : goal.returns-clause-leaf
returns-clause-leaf c =
    rw (c.leaf_bits-leaf_bits.ensures, c.from-below_range.ensures, c.first_bits-first.ensures.bits)
    (mask_is c.args.format _ ∙ sym (leaf_is c.args.format c.args.bits c.args.self.now c.requires))

pub returns-clause-in_ring : goal.returns-clause-in_ring
returns-clause-in_ring c = rw (is_range c) (range_below c.args.bits c.args.self.now c.requires)
