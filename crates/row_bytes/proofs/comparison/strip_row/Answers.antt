use Rattle.std.proofs.Common.{rules, ◌≡◌, ◌++◌, ℕ, List, length, subst, sym, append_assoc, Bor}
use Rattle.std.specs.Int.{w16, to_be_bytes}
use Rattle.std.specs.List.{flat_map}
use Rattle.version_set.specs.Version.{version_text}
use Rattle.row_bytes.specs.Rows.{row_text}
use Rattle.row_bytes.proofs.StripLaws.{Lacks, lacks_first, lacks_second, has_both, strips_then}
use Rattle.row_bytes.specs.Strips.{Strips}
use Rattle.row_bytes.proofs.comparison.strip_row.Goals as goal

pub returns-in_err-rest : goal.returns-in_err-rest
unfolding row_text
returns-in_err-rest c =
    let r = c.args.row.now in
    let n = to_be_bytes w16 (length r.key) in
    let k = to_be_bytes w16 (length r.versions) in
    let text = c.args.text.now in
    let lacks : Lacks n text = rw c.as_slice-key.ensures at (rw c.to_be_bytes.ensures at c.in_err-rest.ensures) in
    rw c.from_residual.ensures
    (lacks_first (n ++ r.key ++ k) (flat_map (version_text c.args.format) r.versions) text
    (lacks_first (n ++ r.key) k text (lacks_first n r.key text lacks)))

pub returns-in_err-rest-2 : goal.returns-in_err-rest-2
unfolding row_text
returns-in_err-rest-2 c =
    let r = c.args.row.now in
    let n = to_be_bytes w16 (length r.key) in
    let k = to_be_bytes w16 (length r.versions) in
    let text = c.args.text.now in
    let first : text ≡ n ++ c.in_ok-rest.rest.now = search rules in
    let lacks : Lacks r.key c.in_ok-rest.rest.now = rw c.as_slice-key.ensures at c.in_err-rest-2.ensures in
    rw c.from_residual-in_err-rest-2.ensures
    (lacks_first (n ++ r.key ++ k) (flat_map (version_text c.args.format) r.versions) text
    (lacks_first (n ++ r.key) k text (lacks_second n r.key text c.in_ok-rest.rest.now first lacks)))

pub returns : goal.returns
unfolding row_text
returns c =
    let view = λ (x : Bor (List ℕ)). x.now in
    let r = c.args.row.now in
    let n = to_be_bytes w16 (length r.key) in
    let k = to_be_bytes w16 (length r.versions) in
    let vs = flat_map (version_text c.args.format) r.versions in
    let text = c.args.text.now in
    let first : text ≡ n ++ c.in_ok-rest.rest.now = search rules in
    let second : c.in_ok-rest.rest.now ≡ r.key ++ c.in_ok-rest-2.rest.now = search rules in
    let last : Strips view (k ++ vs) c.in_ok-rest-2.rest.now c.strip_versions.result = rw c.as_slice.ensures.all at c.strip_versions.ensures in
    subst (λ (front : List ℕ). Strips view front text c.strip_versions.result) (sym (append_assoc (n ++ r.key) k vs))
    (strips_then view (n ++ r.key) (k ++ vs) text c.in_ok-rest-2.rest.now c.strip_versions.result
    (has_both n r.key text c.in_ok-rest.rest.now c.in_ok-rest-2.rest.now first second) last)
