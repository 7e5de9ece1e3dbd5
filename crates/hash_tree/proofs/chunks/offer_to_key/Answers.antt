use Rattle.std.proofs.Common.{rules, ℕ, Result, ◌≡◌, ◌∙◌, Ok, Err, None, [], List, sym, ap, subst}
use Rattle.std.specs.List.{insert}
use Rattle.vclock.specs.Outcome.{Does, gives}
use Rattle.version_set.specs.declared.version.Version.{Version}
use Rattle.version_set.specs.Version.{offered, offer_fault}
use Rattle.row_bytes.specs.declared.row.Row.{Row}
use Rattle.hash_tree.specs.Leaves.{Bucket}
use Rattle.hash_tree.specs.declared.chunks.Spot.{Spot}
use Rattle.hash_tree.specs.Chunks.{all_rows, place_in, IsSpot}
use Rattle.hash_tree.proofs.ChunkPlaces.{values_fit}
use Rattle.hash_tree.proofs.KeySpotLaws.{at_offers, at_holds}
use Rattle.hash_tree.proofs.chunks.offer_to_key.Goals as goal

-- a spot of an equal key among equal chunks
spot_here : (k key : List ℕ) (cs chunks : List Bucket) (found : Result Spot Spot) → k ≡ key → cs ≡ chunks → IsSpot k cs found
    → IsSpot key chunks found
spot_here k key cs chunks found same is spot =
    subst (λ (x : List ℕ). IsSpot x chunks found) same (subst (λ (x : List Bucket). IsSpot k x found) is spot)

pub offer_at-requires-clause-spot : goal.offer_at-requires-clause-spot
offer_at-requires-clause-spot c =
    (spot_here c.as_slice.result.now c.args.key.now _ c.args.chunks.now.items
    (Ok c.in-Ok.spot) c.as_slice.ensures c.deref.ensures.value c.in-Ok.ensures).0

pub offer_at-requires-clause-value : goal.offer_at-requires-clause-value
offer_at-requires-clause-value c = values_fit c.args.format c.args.chunks.now.items c.args.version c.requires.chunks.each c.requires.value

pub offer_at-requires-clause-room : goal.offer_at-requires-clause-room
offer_at-requires-clause-room c =
    let chunks = c.args.chunks.now.items in
    let k = c.args.key.now in
    let at = spot_here c.as_slice.result.now k _ chunks (Ok c.in-Ok.spot) c.as_slice.ensures c.deref.ensures.value c.in-Ok.ensures in
    subst (λ (S : List Version). offer_fault c.args.version S ≡ None)
    (sym (at_holds k (all_rows chunks) (place_in chunks c.in-Ok.spot) at.1)) c.requires.room

pub returns-in-Ok-clause-rows : goal.returns-in-Ok-clause-rows
returns-in-Ok-clause-rows c =
    let chunks = c.args.chunks.now.items in
    let k = c.args.key.now in
    let at = spot_here c.as_slice.result.now k _ chunks (Ok c.in-Ok.spot) c.as_slice.ensures c.deref.ensures.value c.in-Ok.ensures in
    subst (λ (rs : List Row). Does c.offer_at.result (all_rows chunks) (all_rows c.offer_at.new.chunks.items) (gives tt rs))
    (at_offers k c.args.version (all_rows chunks) (place_in chunks c.in-Ok.spot) at.1) c.offer_at.ensures.rows

pub returns-in-Ok-clause-chunks : goal.returns-in-Ok-clause-chunks
returns-in-Ok-clause-chunks c = c.offer_at.ensures.chunks c.args.format c.requires.chunks

pub insert_at-requires-clause-gap : goal.insert_at-requires-clause-gap
insert_at-requires-clause-gap c =
    (spot_here c.as_slice.result.now c.args.key.now _ c.args.chunks.now.items
    (Err c.in-Err.gap) c.as_slice.ensures c.deref.ensures.value c.in-Err.ensures).0

pub returns-in_ok-row-in-Err-clause-rows : goal.returns-in_ok-row-in-Err-clause-rows
returns-in_ok-row-in-Err-clause-rows c =
    let chunks = c.args.chunks.now.items in
    let k = c.args.key.now in
    let place = place_in chunks c.in-Err.gap in
    let between = spot_here c.as_slice.result.now k _ chunks (Err c.in-Err.gap) c.as_slice.ensures c.deref.ensures.value c.in-Err.ensures in
    let row : c.in_ok-row-in-Err.row ≡ record { key = k; versions = offered c.args.version [] } = search rules in
    subst (λ (rs : List Row). Does c.insert_at.result (all_rows chunks) (all_rows c.insert_at.new.chunks.items) (gives tt rs))
    (ap (insert (all_rows chunks) place) row ∙ sym (between.1.offers c.args.version)) c.insert_at.ensures.rows
