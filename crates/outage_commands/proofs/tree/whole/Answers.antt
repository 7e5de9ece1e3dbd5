use Rattle.std.proofs.Common.{◌≡◌, get_or, true, false, ◌==◌, drop, sym, ap, ◌∙◌}
use Rattle.std.specs.Prelude.{option_and_then}
use Rattle.fast_float.specs.Text.{scan}
use Rattle.serde_json.specs.Find.{as_u64}
use Rattle.serde_json.specs.Read.{number_of, number_from}
use Rattle.outage_commands.specs.Trees.{whole_of}
use Rattle.outage_commands.proofs.TreeLemmas.{signed}
use Rattle.outage_commands.proofs.tree.whole.Goals as goal

pub returns-then-has_minus : goal.returns-then-has_minus
unfolding number_of
returns-then-has_minus c =
    let s = c.as_bytes-digits.result.now in
    let minus : (get_or s 0 0 == 45) ≡ true = sym c.if-has_minus.ensures in
    let read : number_from true (scan (drop 1 s)) ≡ number_of s = rw minus in
    sym (ap whole_of (sym c.as_bytes-digits.ensures.value) ∙ ap (option_and_then as_u64) (sym read) ∙ signed (scan (drop 1 s)))

pub returns : goal.returns
unfolding number_of
returns c =
    let s = c.as_bytes-digits.result.now in
    let none : (get_or s 0 0 == 45) ≡ false = sym c.if-has_minus.ensures in
    let read : number_from false (scan s) ≡ number_of s = rw none in
    c.without_sign.ensures ∙ ap (λ p. option_and_then as_u64 (number_from false p)) c.scan.ensures.parts ∙ ap (option_and_then as_u64) read
    ∙ ap whole_of c.as_bytes-digits.ensures.value
