use Rattle.std.proofs.Common.{◌≡◌, ◌+◌, ◌*◌, ◌-◌, ◌≤◌, ℕ, List, length, take, drop, sym, subst, ◌∙◌, arith}
use Rattle.std.proofs.lemmas.List.{length-drop, take_all}
use Rattle.sync_session.proofs.node_list.digest_in.Goals as goal

short : (start at : ℕ) (text : List ℕ) → start ≡ at → length text - start ≤ 32 → take (length text - start) (drop start text) ≡ take 32 (drop at text)
short start at text e le =
    subst (λ (k : ℕ). take (length text - start) (drop start text) ≡ take 32 (drop k text)) e
    (take_all (length text - start) (drop start text) (omega (arith, length-drop start text))
    ∙ sym (take_all 32 (drop start text) (omega (arith, length-drop start text))))

pub returns-then-rest-lt-DIGEST_LEN : goal.returns-then-rest-lt-DIGEST_LEN
returns-then-rest-lt-DIGEST_LEN c =
    short (32 * c.from.result + 1) (32 * c.args.j + 1) c.args.text.now (omega (arith, c.from.ensures)) (omega (arith, c.if-rest-lt-DIGEST_LEN.true))
