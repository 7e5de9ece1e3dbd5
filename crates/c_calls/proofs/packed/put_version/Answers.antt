use Rattle.std.proofs.Common.{ℕ, [], ◌∷◌, sym, subst, arith}
use Rattle.vclock.specs.declared.format.Format.{Format}
use Rattle.version_set.specs.Kind.{kind_byte}
use Rattle.version_set.specs.Version.{plain_text, version_text}
use Rattle.c_calls.specs.Packed.{IsWritten}
use Rattle.c_calls.proofs.PackedLaws.{both_written}
use Rattle.c_calls.proofs.packed.put_version.Goals as goal

pub returns-in-Two : goal.returns-in-Two
returns-in-Two c =
    let a = c.args in
    let v = a.version.now in
    let new = c.put_plain-in-Two.new.out in
    let end = c.put_plain-in-Two.result in
    let kind = subst (λ (b : ℕ). IsWritten (b ∷ []) a.out.now a.at c.put-kind.new.out c.put-kind.result) c.byte.ensures c.put-kind.ensures in
    subst (λ (f : Format). IsWritten (version_text f v) a.out.now a.at new end) (sym c.in-Two.is)
    (both_written (kind_byte v.kind ∷ []) (plain_text v) a.out.now c.put-kind.new.out new a.at c.put-kind.result end
    (omega (arith, c.requires.room)) kind c.put_plain-in-Two.ensures)
