use Rattle.std.proofs.Common.{ℕ, List, [], ◌∷◌, ◌++◌, length, length-append, ap, subst, ◌∙◌, arith}
use Rattle.std.specs.Int.{w32, to_be_bytes}
use Rattle.std.specs.List.{flat_map}
use Rattle.vclock.specs.Clock.{Pairs}
use Rattle.version_set.specs.Version.{pair_text}
use Rattle.c_calls.specs.Packed.{IsWritten}
use Rattle.c_calls.proofs.PackedLaws.{both_written}
use Rattle.c_calls.proofs.packed.put_plain.Goals as goal

pub returns : goal.returns
returns c =
    let a = c.args in
    let v = a.version.now in
    let count = c.put-count in
    let clock = c.put_pairs-clock in
    let len = c.put-value_len in
    let pairs = flat_map pair_text v.clock in
    let four = to_be_bytes w32 (length v.value) in
    let value_is = c.as_slice-value.ensures in
    let counted = subst (λ (ps : Pairs). IsWritten (length ps ∷ []) a.out.now a.at count.new.out count.result) c.pairs-pairs.ensures.all
    count.ensures in
    let clocked = subst (λ (ps : Pairs). IsWritten (flat_map pair_text ps) count.new.out count.result clock.new.out clock.result)
    c.pairs-pairs.ensures.all clock.ensures in
    let measured = subst (λ (bs : List ℕ). IsWritten bs clock.new.out clock.result len.new.out len.result)
    (c.to_be_bytes.ensures ∙ ap (λ (bs : List ℕ). to_be_bytes w32 (length bs)) value_is) len.ensures in
    let valued = subst (λ (bs : List ℕ). IsWritten bs len.new.out len.result c.put.new.out c.put.result) value_is c.put.ensures in
    let whole = length-append pairs (four ++ v.value) in
    let end = both_written four v.value clock.new.out len.new.out c.put.new.out clock.result len.result c.put.result
    (omega (arith, c.requires.room, whole, counted.ends, clocked.ends, count.auto.out, clock.auto.out)) measured valued in
    let rest = both_written pairs (four ++ v.value) count.new.out clock.new.out c.put.new.out count.result clock.result c.put.result
    (omega (arith, c.requires.room, counted.ends, count.auto.out)) clocked end in
    both_written (length v.clock ∷ []) (pairs ++ (four ++ v.value)) a.out.now count.new.out c.put.new.out a.at count.result c.put.result
    (omega (arith, c.requires.room)) counted rest
