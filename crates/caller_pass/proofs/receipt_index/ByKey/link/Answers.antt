use Rattle.std.proofs.Common.{rules, ◌≡◌, ◌+◌, [], ◌∷◌, ◌++◌, Some, refl, length, get_or, slice_get, ℕ, cond, ap, ◌∙◌}
use Rattle.std.specs.Prelude.{nat_eq, unwrap_or}
use Rattle.std.proofs.lemmas.Map.{count_at-update}
use Rattle.std.proofs.lemmas.Option.{slice_get_read}
use Rattle.std.specs.HashMap.{get}
use Rattle.caller_pass.specs.Indexes.{found_in}
use Rattle.caller_pass.specs.declared.receipt_index.ByKey.{ByKey}
use Rattle.caller_pass.proofs.IndexLaws.{linked}
use Rattle.caller_pass.proofs.receipt_index.ByKey.link.Goals as goal

pub returns-clause-index : goal.returns-clause-index
returns-clause-index c =
    let old = c.know_next.new.self in
    let new : ByKey = record { last = c.insert.new.self; earlier = c.push_reserved.new.self; hashes = old.hashes } in
    let hash = c.index.result.now in
    let place : c.len-place.result ≡ length old.earlier.items = search rules in
    let at : slice_get old.hashes.items (length old.earlier.items) ≡ Some hash =
    slice_get_read old.hashes.items (length old.hashes.items) (length old.earlier.items) hash refl c.in_ok-know_next.ensures.known
    (c.index.ensures ∙ ap (λ n. get_or old.hashes.items n hash) place) in
    let before : c.unwrap_or.result ≡ found_in old hash = c.unwrap_or.ensures ∙ ap (λ o. unwrap_or o 0) c.in_ok-earlier.ensures.old in
    let items : new.earlier.items ≡ old.earlier.items ++ found_in old hash ∷ [] =
    c.push_reserved.ensures.items ∙ (λ i. c.in_ok-reserve.ensures.items i ++ before i ∷ []) in
    let puts : (q : ℕ) → found_in new q ≡ cond (nat_eq hash q) (length old.earlier.items + 1) (found_in old q) =
    λ q. ap (λ o. unwrap_or o 0) (c.in_ok-earlier.ensures.updates.0 q) ∙ count_at-update nat_eq (get nat_eq old.last) hash (c.len-place.result + 1) q
    ∙ ap (λ n. cond (nat_eq hash q) (n + 1) (found_in old q)) place in
    linked c.args.receipts.now old new hash c.in_ok-know_next.ensures.index at refl items puts
