use Rattle.std.proofs.Common.{rules, ◌≡◌, ◌++◌, ℕ, List, [], ◌∷◌, length, w32, Bor}
use Rattle.std.specs.Int.{to_be_bytes}
use Rattle.std.specs.List.{flat_map}
use Rattle.version_set.specs.Version.{pair_text}
use Rattle.row_bytes.proofs.StripLaws.{Lacks, lacks_first, lacks_second, strips_then}
use Rattle.row_bytes.proofs.comparison.strip_plain.Goals as goal

pub returns-in_err-rest-3 : goal.returns-in_err-rest-3
returns-in_err-rest-3 c =
    let v = c.args.version.now in
    let count = length v.clock ∷ [] in
    let pairs = flat_map pair_text v.clock in
    let len = to_be_bytes w32 (length v.value) in
    let text = c.args.text.now in
    let first : text ≡ count ++ c.in_ok-rest.rest.now = search rules in
    let second : c.in_ok-rest.rest.now ≡ pairs ++ c.in_ok-rest-2.rest.now = search rules in
    let third : Lacks len c.in_ok-rest-2.rest.now = rw c.as_slice-value.ensures at (rw c.to_be_bytes.ensures at c.in_err-rest-3.ensures) in
    rw c.from_residual-in_err-rest-3.ensures
    (lacks_second count (pairs ++ (len ++ v.value)) text c.in_ok-rest.rest.now first
    (lacks_second pairs (len ++ v.value) c.in_ok-rest.rest.now c.in_ok-rest-2.rest.now second
    (lacks_first len v.value c.in_ok-rest-2.rest.now third)))

pub returns : goal.returns
returns c =
    let view = λ (x : Bor (List ℕ)). x.now in
    let v = c.args.version.now in
    let count = length v.clock ∷ [] in
    let pairs = flat_map pair_text v.clock in
    let len = to_be_bytes w32 (length v.value) in
    let text = c.args.text.now in
    let first : text ≡ count ++ c.in_ok-rest.rest.now = search rules in
    let second : c.in_ok-rest.rest.now ≡ pairs ++ c.in_ok-rest-2.rest.now = search rules in
    let third : c.in_ok-rest-2.rest.now ≡ len ++ c.in_ok-rest-3.rest.now = rw c.as_slice-value.ensures at
    (rw c.to_be_bytes.ensures at c.in_ok-rest-3.ensures) in
    let last = rw c.as_slice-value.ensures at c.strip-3.ensures in
    strips_then view count (pairs ++ (len ++ v.value)) text c.in_ok-rest.rest.now c.strip-3.result first
    (strips_then view pairs (len ++ v.value) c.in_ok-rest.rest.now c.in_ok-rest-2.rest.now c.strip-3.result second
    (strips_then view len v.value c.in_ok-rest-2.rest.now c.in_ok-rest-3.rest.now c.strip-3.result third last))
