-- The row of a key, or the place for one, is that of its chunk among all rows.
use Rattle.std.proofs.Common.{◌≡◌, ℕ, zero, suc, ◌+◌, ◌-◌, ◌<◌, ◌≤◌, true, false, Ok, Err, None, List, [], ◌∷◌, ◌++◌, length, get_or, set, take}
use Rattle.std.proofs.Common.{drop, refl, sym, ap, subst, ◌∙◌, append_assoc, arith}
use Rattle.std.specs.List.{AllByRecursion, insert}
use Rattle.std.specs.List.Sorted.{IsPartitionedBy, IsPartitionPoint}
use Rattle.std.specs.Ordering.{is_le}
use Rattle.std.specs.declared.cmp.Ordering.TheVariants.{Less, Equal, Greater}
use Rattle.std.proofs.lemmas.List.{length-append, take-append-drop, drop_more, set-append_left, set-append_right, get_or_append_left}
use Rattle.std.proofs.lemmas.List.{get_or-append-add}
use Rattle.std.proofs.lemmas.List.Edits.{insert-append_left, insert-append_right}
use Rattle.vclock.specs.declared.format.Format.{Format}
use Rattle.version_set.specs.declared.version.Version.{Version}
use Rattle.version_set.specs.Order.{place_by}
use Rattle.version_set.specs.Version.{offered}
use Rattle.version_set.proofs.ListLaws.{all-append, all-rest}
use Rattle.row_bytes.specs.declared.row.Row.{Row}
use Rattle.hash_tree.specs.Leaves.{key_cmp, Bucket, IsBucket, AscendByKey, IsAt, IsBetween, IsRun, FindsRun, with_offer, versions_in}
use Rattle.hash_tree.specs.Chunks.{all_rows, chunk_rows, begin_by, place_in, IsSpot, IsRowSpot, row_versions, offered_at}
use Rattle.hash_tree.specs.declared.chunks.Spot.{Spot}
use Rattle.hash_tree.proofs.KeyLaws.{key_exact, turned, less_trans}
use Rattle.hash_tree.proofs.LeafLaws.{offer_first, in_first, no_row, some_each}
use Rattle.hash_tree.proofs.ChunkLaws.{versions_at-get, offered_at-set}
use Rattle.hash_tree.proofs.ChunkPlaces.{three_parts, rows_read}

-- ---- rows in order, in parts

all_front : {X : Type 0} (P : X → Type 0) (xs ys : List X) → AllByRecursion P (xs ++ ys) → AllByRecursion P xs
all_front P [] ys all = tt
all_front P (x ∷ xs) ys all = (all.0, all_front P xs ys all.1)

ascend_front : (xs ys : List Row) → AscendByKey (xs ++ ys) → AscendByKey xs
ascend_front [] ys a = tt
ascend_front (x ∷ xs) ys a = (all_front (λ (y : Row). key_cmp x.key y.key ≡ Less) xs ys a.0, ascend_front xs ys a.1)

ascend_back : (xs ys : List Row) → AscendByKey (xs ++ ys) → AscendByKey ys
ascend_back [] ys a = a
ascend_back (x ∷ xs) ys a = ascend_back xs ys a.1

-- rows between others are in order
pub ascend_middle : (front rows back : List Row) → AscendByKey (front ++ rows ++ back) → AscendByKey rows
ascend_middle front rows back a = ascend_back front rows (ascend_front (front ++ rows) back a)

-- ---- the chunk of a key

-- what is less than a key that is at most k is less than k
less_through : (x y k : List ℕ) → key_cmp x y ≡ Less → is_le (key_cmp y k) ≡ true → key_cmp k x ≡ Greater
less_through x y k less at_most = elim (key_cmp y k) as (λ o. key_cmp y k ≡ o → is_le o ≡ true → key_cmp k x ≡ Greater) [
  | Less ↦ λ o t. turned x k Less (less_trans x y k less o)
  | Equal ↦ λ o t. turned x k Less (subst (λ (z : List ℕ). key_cmp x z ≡ Less) (key_exact y k o) less)
  | Greater ↦ λ o t. absurd (cc t)
] refl at_most

-- a row that is less than the rows of all chunks is less than a key by which one of them begins
less_first : (x k : List ℕ) (chunks : List Bucket) (j : ℕ) (d : Bucket) → AllByRecursion (λ (y : Row). key_cmp x y.key ≡ Less) (all_rows chunks)
    → j < length chunks → begin_by k (get_or chunks j d).rows ≡ true → key_cmp k x ≡ Greater
less_first x k [] j d all h begins = absurd (omega arith)
less_first x k (c ∷ chunks) zero d all h begins = first c.rows all begins
  where
    first : (rows : List Row) → AllByRecursion (λ (y : Row). key_cmp x y.key ≡ Less) (rows ++ all_rows chunks) → begin_by k rows ≡ true
        → key_cmp k x ≡ Greater
    first [] less t = absurd (cc t)
    first (y ∷ rows) less t = less_through x y.key k less.0 t
less_first x k (c ∷ chunks) (suc j) d all h begins =
    less_first x k chunks j d (all-rest (λ (y : Row). key_cmp x y.key ≡ Less) c.rows (all_rows chunks) all) (omega arith) begins

-- rows before all chunks are less than a key by which one of these begins
less_rows_first : (k : List ℕ) (rows : List Row) (chunks : List Bucket) (j : ℕ) (d : Bucket) → AscendByKey (rows ++ all_rows chunks)
    → j < length chunks → begin_by k (get_or chunks j d).rows ≡ true → AllByRecursion (λ (y : Row). key_cmp k y.key ≡ Greater) rows
less_rows_first k [] chunks j d a h begins = tt
less_rows_first k (r ∷ rows) chunks j d a h begins = (
  less_first r.key k chunks j d (all-rest (λ (y : Row). key_cmp r.key y.key ≡ Less) rows (all_rows chunks) a.0) h begins,
  less_rows_first k rows chunks j d a.1 h begins,
)

-- the rows of all chunks before one that begins by a key are less than the key
before_less : (k : List ℕ) (chunks : List Bucket) (n : ℕ) (d : Bucket) → AscendByKey (all_rows chunks) → n < length chunks
    → begin_by k (get_or chunks n d).rows ≡ true → AllByRecursion (λ (y : Row). key_cmp k y.key ≡ Greater) (all_rows (take n chunks))
before_less k [] n d a h begins = absurd (omega arith)
before_less k (c ∷ chunks) zero d a h begins = tt
before_less k (c ∷ chunks) (suc n) d a h begins =
    all-append (λ (y : Row). key_cmp k y.key ≡ Greater) c.rows (all_rows (take n chunks)) (less_rows_first k c.rows chunks n d a (omega arith) begins)
    (before_less k chunks n d (ascend_back c.rows (all_rows chunks) a) (omega arith) begins)

-- ascending rows that don't begin by a key are greater than it
greater_rows : (k : List ℕ) (rows : List Row) → AscendByKey rows → 1 ≤ length rows → begin_by k rows ≡ false
    → AllByRecursion (λ (y : Row). key_cmp k y.key ≡ Less) rows
greater_rows k [] a some begins = tt
greater_rows k (r ∷ rows) a some begins =
    elim (key_cmp r.key k) as (λ o. key_cmp r.key k ≡ o → is_le o ≡ false → AllByRecursion (λ (y : Row). key_cmp k y.key ≡ Less) (r ∷ rows)) [
      | Less ↦ λ o f. absurd (cc f)
      | Equal ↦ λ o f. absurd (cc f)
      | Greater ↦ λ o f. (turned r.key k Greater o, rest (turned r.key k Greater o) rows a.0)
    ] refl begins
  where
    rest : key_cmp k r.key ≡ Less → (rs : List Row) → AllByRecursion (λ (y : Row). key_cmp r.key y.key ≡ Less) rs
        → AllByRecursion (λ (y : Row). key_cmp k y.key ≡ Less) rs
    rest h [] all = tt
    rest h (y ∷ rs) all = (less_trans k r.key y.key h all.0, rest h rs all.1)

-- the rows of chunks from a place on are greater than a key by which none of these begins
after_greater : (k : List ℕ) (chunks : List Bucket) (n : ℕ) → AscendByKey (all_rows chunks)
    → AllByRecursion (λ (c : Bucket). 1 ≤ length c.rows) chunks
    → ((i : ℕ) (d : Bucket) → n ≤ i → i < length chunks → begin_by k (get_or chunks i d).rows ≡ false)
    → AllByRecursion (λ (y : Row). key_cmp k y.key ≡ Less) (all_rows (drop n chunks))
after_greater k [] zero a some begins = tt
after_greater k [] (suc n) a some begins = tt
after_greater k (c ∷ chunks) zero a some begins =
    all-append (λ (y : Row). key_cmp k y.key ≡ Less) c.rows (all_rows chunks)
    (greater_rows k c.rows (ascend_front c.rows (all_rows chunks) a) some.0 (begins 0 c (omega arith) (omega arith)))
    (after_greater k chunks zero (ascend_back c.rows (all_rows chunks) a) some.1 (λ i d from within. begins (suc i) d (omega arith) (omega arith)))
after_greater k (c ∷ chunks) (suc n) a some begins =
    after_greater k chunks n (ascend_back c.rows (all_rows chunks) a) some.1 (λ i d from within. begins (suc i) d (omega arith) (omega arith))

-- no chunk that begins by a key comes after one that doesn't
pub chunks_parted : (k : List ℕ) (chunks : List Bucket) → AscendByKey (all_rows chunks) → AllByRecursion (λ (c : Bucket). 1 ≤ length c.rows) chunks
    → IsPartitionedBy (λ (c : Bucket). begin_by k c.rows) chunks
chunks_parted k [] a some i j d le within begins = absurd (omega arith)
chunks_parted k (c ∷ chunks) a some zero zero d le within begins = begins
chunks_parted k (c ∷ chunks) a some zero (suc j) d le within begins = first c.rows a some.0
  where
    at_most : (r : Row) → key_cmp k r.key ≡ Greater → is_le (key_cmp r.key k) ≡ true
    at_most r greater = ap is_le (turned k r.key Greater greater)

    first : (rows : List Row) → AscendByKey (rows ++ all_rows chunks) → 1 ≤ length rows → begin_by k rows ≡ true
    first [] ascend none = absurd (omega arith)
    first (r ∷ rows) ascend one =
        at_most r (less_first r.key k chunks j d (all-rest (λ (y : Row). key_cmp r.key y.key ≡ Less) rows (all_rows chunks) ascend.0)
        (omega arith) begins)
chunks_parted k (c ∷ chunks) a some (suc i) zero d le within begins = absurd (omega arith)
chunks_parted k (c ∷ chunks) a some (suc i) (suc j) d le within begins =
    chunks_parted k chunks (ascend_back c.rows (all_rows chunks) a) some.1 i j d (omega arith) (omega arith) begins

-- the chunk before the point where chunks stop to begin by a key
pub parted_before : (k : List ℕ) (chunks : List Bucket) (p : ℕ) → AscendByKey (all_rows chunks) → p ≤ length chunks
    → IsPartitionPoint (λ (c : Bucket). begin_by k c.rows ≡ true) (λ (c : Bucket). begin_by k c.rows ≡ false) chunks p
    → AllByRecursion (λ (y : Row). key_cmp k y.key ≡ Greater) (all_rows (take (p - 1) chunks))
parted_before k chunks zero a bound point = tt
parted_before k [] (suc n) a bound point = absurd (omega arith)
parted_before k (c ∷ chunks) (suc n) a bound point =
    let last : suc n - 1 ≡ n = omega arith in
    rw last (before_less k (c ∷ chunks) n c a (omega arith) (point.0 n c (omega arith) (omega arith)))

pub parted_after : (k : List ℕ) (chunks : List Bucket) (p : ℕ) → AscendByKey (all_rows chunks)
    → AllByRecursion (λ (c : Bucket). 1 ≤ length c.rows) chunks
    → IsPartitionPoint (λ (c : Bucket). begin_by k c.rows ≡ true) (λ (c : Bucket). begin_by k c.rows ≡ false) chunks p
    → AllByRecursion (λ (y : Row). key_cmp k y.key ≡ Less) (all_rows (drop (p - 1 + 1) chunks))
parted_after k chunks p a some point = after_greater k chunks (p - 1 + 1) a some (λ i d from within. point.1 i d (omega arith) within)

-- ---- a place among the rows of a chunk, and among all

offer_front : (k : List ℕ) (v : Version) (front rows : List Row) → AllByRecursion (λ (y : Row). key_cmp k y.key ≡ Greater) front
    → with_offer k v (front ++ rows) ≡ front ++ with_offer k v rows
offer_front k v [] rows all = refl
offer_front k v (r ∷ front) rows all = rw all.0 (ap (λ rest. r ∷ rest) (offer_front k v front rows all.1))

in_front : (k : List ℕ) (front rows : List Row) → AllByRecursion (λ (y : Row). key_cmp k y.key ≡ Greater) front
    → versions_in k (front ++ rows) ≡ versions_in k rows
in_front k [] rows all = refl
in_front k (r ∷ front) rows all = rw all.0 (in_front k front rows all.1)

offer_back : (k : List ℕ) (v : Version) (rows back : List Row) → AllByRecursion (λ (y : Row). key_cmp k y.key ≡ Less) back
    → with_offer k v (rows ++ back) ≡ with_offer k v rows ++ back
offer_back k v [] back all = offer_first k v back all
offer_back k v (r ∷ rows) back all =
    elim (key_cmp k r.key) as
    (λ o. place_by o (record { key = k; versions = offered v [] } ∷ r ∷ (rows ++ back))
    (record { key = r.key; versions = offered v r.versions } ∷ (rows ++ back)) (r ∷ with_offer k v (rows ++ back))
    ≡ place_by o (record { key = k; versions = offered v [] } ∷ r ∷ rows) (record { key = r.key; versions = offered v r.versions } ∷ rows)
    (r ∷ with_offer k v rows) ++ back) [
      | Less ↦ refl
      | Equal ↦ refl
      | Greater ↦ ap (λ rest. r ∷ rest) (offer_back k v rows back all)
    ]

in_back : (k : List ℕ) (rows back : List Row) → AllByRecursion (λ (y : Row). key_cmp k y.key ≡ Less) back
    → versions_in k (rows ++ back) ≡ versions_in k rows
in_back k [] back all = in_first k back all
in_back k (r ∷ rows) back all =
    elim (key_cmp k r.key) as
    (λ o. place_by o [] r.versions (versions_in k (rows ++ back)) ≡ place_by o [] r.versions (versions_in k rows))
    [ Less ↦ refl | Equal ↦ refl | Greater ↦ in_back k rows back all ]

versions_among : (k : List ℕ) (front rows back : List Row) → AllByRecursion (λ (y : Row). key_cmp k y.key ≡ Greater) front
    → AllByRecursion (λ (y : Row). key_cmp k y.key ≡ Less) back → versions_in k (front ++ rows ++ back) ≡ versions_in k rows
versions_among k front rows back less greater = in_back k (front ++ rows) back greater ∙ in_front k front rows less

offers_among : (k : List ℕ) (v : Version) (front rows back : List Row) → AllByRecursion (λ (y : Row). key_cmp k y.key ≡ Greater) front
    → AllByRecursion (λ (y : Row). key_cmp k y.key ≡ Less) back → with_offer k v (front ++ rows ++ back) ≡ front ++ with_offer k v rows ++ back
offers_among k v front rows back less greater = offer_back k v (front ++ rows) back greater
    ∙ ap (λ (rs : List Row). rs ++ back) (offer_front k v front rows less)

-- a row among the middle ones
row_among : (front rows back : List Row) (i n : ℕ) (d : Row) → n ≡ length front → i < length rows
    → get_or (front ++ rows ++ back) (n + i) d ≡ get_or rows i d
row_among front rows back i n d is within =
    get_or_append_left (front ++ rows) back d (n + i) (omega (arith, is, within, length-append front rows))
    ∙ ap (λ (m : ℕ). get_or (front ++ rows) (m + i) d) is ∙ get_or-append-add front rows i d

-- the row of the key
at_among : (k : List ℕ) (front rows back : List Row) (i n : ℕ) → AllByRecursion (λ (y : Row). key_cmp k y.key ≡ Greater) front
    → AllByRecursion (λ (y : Row). key_cmp k y.key ≡ Less) back → n ≡ length front → IsAt k rows i → IsAt k (front ++ rows ++ back) (n + i)
at_among k front rows back i n less greater is at = record {
  within = omega (arith, is, at.within, length-append front rows, length-append (front ++ rows) back);
  key = λ d. ap (λ (r : Row). r.key) (row_among front rows back i n d is at.within) ∙ at.key d;
  offers = λ v d.
      let read = row_among front rows back i n d is at.within in
      let new : Row = record { key = (get_or rows i d).key; versions = offered v (get_or rows i d).versions } in
      let back_off : n + i - n ≡ i = omega arith in
      offers_among k v front rows back less greater
      ∙ ap (λ (rs : List Row). front ++ rs ++ back) (at.offers v d)
      ∙ sym (set-append_left (front ++ rows) back (n + i) new (omega (arith, is, at.within, length-append front rows))
      ∙ ap (λ (rs : List Row). rs ++ back) (set-append_right front rows n (n + i) new (sym is) (omega arith)
      ∙ ap (λ (m : ℕ). front ++ set rows m new) back_off))
      ∙ ap (λ (r : Row). set (front ++ rows ++ back) (n + i) (record { key = r.key; versions = offered v r.versions })) (sym read);
  holds = λ d.
      versions_among k front rows back less greater ∙ at.holds d
      ∙ ap (λ (r : Row). r.versions) (sym (row_among front rows back i n d is at.within));
}

-- the place for one
between_among : (k : List ℕ) (front rows back : List Row) (i n : ℕ) → AllByRecursion (λ (y : Row). key_cmp k y.key ≡ Greater) front
    → AllByRecursion (λ (y : Row). key_cmp k y.key ≡ Less) back → n ≡ length front → IsBetween k rows i → IsBetween k (front ++ rows ++ back) (n + i)
between_among k front rows back i n less greater is between = record {
  within = omega (arith, is, between.within, length-append front rows, length-append (front ++ rows) back);
  offers = λ v.
      let new : Row = record { key = k; versions = offered v [] } in
      let back_off : n + i - n ≡ i = omega arith in
      offers_among k v front rows back less greater
      ∙ ap (λ (rs : List Row). front ++ rs ++ back) (between.offers v)
      ∙ sym (insert-append_left (front ++ rows) back (n + i) new (omega (arith, is, between.within, length-append front rows))
      ∙ ap (λ (rs : List Row). rs ++ back) (insert-append_right front rows n (n + i) new (sym is) (omega arith)
      ∙ ap (λ (m : ℕ). front ++ insert rows m new) back_off));
  holds = versions_among k front rows back less greater ∙ between.holds;
}

-- ---- what the chunk of a key has for it is what all rows have

pub chunk_ascends : (chunks : List Bucket) (i : ℕ) → i < length chunks → AscendByKey (all_rows chunks) → AscendByKey (chunk_rows chunks i)
chunk_ascends chunks i h a =
    ascend_middle (all_rows (take i chunks)) (chunk_rows chunks i) (all_rows (drop (i + 1) chunks)) (subst AscendByKey (three_parts chunks i h) a)

pub record IsChunkOf (k : List ℕ) (chunks : List Bucket) (i : ℕ) : Type 0 where
  pub within : i < length chunks
  pub before : AllByRecursion (λ (y : Row). key_cmp k y.key ≡ Greater) (all_rows (take i chunks))
  pub after : AllByRecursion (λ (y : Row). key_cmp k y.key ≡ Less) (all_rows (drop (i + 1) chunks))

at_there : (k : List ℕ) (chunks : List Bucket) (i at : ℕ) → IsChunkOf k chunks i → IsAt k (chunk_rows chunks i) at
    → IsAt k (all_rows chunks) (place_in chunks (record { chunk = i; at = at }))
at_there k chunks i at h place =
    let front = all_rows (take i chunks) in
    subst (λ (rows : List Row). IsAt k rows (length front + at)) (sym (three_parts chunks i h.within))
    (at_among k front (chunk_rows chunks i) (all_rows (drop (i + 1) chunks)) at (length front) h.before h.after refl place)

between_there : (k : List ℕ) (chunks : List Bucket) (i at : ℕ) → IsChunkOf k chunks i → IsBetween k (chunk_rows chunks i) at
    → IsBetween k (all_rows chunks) (place_in chunks (record { chunk = i; at = at }))
between_there k chunks i at h place =
    let front = all_rows (take i chunks) in
    subst (λ (rows : List Row). IsBetween k rows (length front + at)) (sym (three_parts chunks i h.within))
    (between_among k front (chunk_rows chunks i) (all_rows (drop (i + 1) chunks)) at (length front) h.before h.after refl place)

-- the spot that a chunk has for a key
pub row_spot : (k : List ℕ) (chunks : List Bucket) (i at : ℕ) → IsChunkOf k chunks i → IsAt k (chunk_rows chunks i) at
    → IsSpot k chunks (Ok (record { chunk = i; at = at }))
row_spot k chunks i at h place = (record { chunk = h.within; within = place.within }, at_there k chunks i at h place)

pub gap_spot : (k : List ℕ) (chunks : List Bucket) (i at : ℕ) → IsChunkOf k chunks i → IsBetween k (chunk_rows chunks i) at
    → IsSpot k chunks (Err (record { chunk = i; at = at }))
gap_spot k chunks i at h place = (λ some. record { chunk = h.within; within = place.within }, between_there k chunks i at h place)

pub no_chunk_spot : (k : List ℕ) (chunks : List Bucket) → length chunks ≡ 0 → IsSpot k chunks (Err (record { chunk = 0; at = 0 }))
no_chunk_spot k [] none = (λ some. absurd (omega (arith, some)), record { within = omega arith; offers = λ v. refl; holds = refl })
no_chunk_spot k (c ∷ chunks) none = absurd (omega (arith, none))

-- ---- what is at the spot of a key

row_at_spot : (chunks : List Bucket) (s : Spot) (d : Row) → IsRowSpot chunks s
    → get_or (all_rows chunks) (place_in chunks s) d ≡ get_or (chunk_rows chunks s.chunk) s.at d
row_at_spot chunks s d spot =
    let front = all_rows (take s.chunk chunks) in
    ap (λ (rs : List Row). get_or rs (place_in chunks s) d) (three_parts chunks s.chunk spot.chunk)
    ∙ row_among front (chunk_rows chunks s.chunk) (all_rows (drop (s.chunk + 1) chunks)) s.at (length front) d refl spot.within

-- the row read at the spot of a key is one of all rows
spot_is : (chunks : List Bucket) (s : Spot) (c : Bucket) (r : Row) → IsRowSpot chunks s → c ≡ get_or chunks s.chunk c → r ≡ get_or c.rows s.at r
    → r ≡ get_or (all_rows chunks) (place_in chunks s) r
spot_is chunks s c r spot is row = row ∙ ap (λ (rs : List Row). get_or rs s.at r) (rows_read chunks s.chunk c spot.chunk is)
    ∙ sym (row_at_spot chunks s r spot)

-- the spot of a key is within its chunk
pub spot_within : (k : List ℕ) (chunks : List Bucket) (s : Spot) (c : Bucket) → IsSpot k chunks (Ok s) → c ≡ get_or chunks s.chunk c
    → s.at < length c.rows
spot_within k chunks s c at is = subst (λ (rs : List Row). s.at < length rs) (sym (rows_read chunks s.chunk c at.0.chunk is)) at.0.within

-- the row there has the versions of the key
pub spot_versions : (k : List ℕ) (chunks : List Bucket) (s : Spot) (c : Bucket) (r : Row) → IsSpot k chunks (Ok s) → c ≡ get_or chunks s.chunk c
    → r ≡ get_or c.rows s.at r → r.versions ≡ versions_in k (all_rows chunks)
spot_versions k chunks s c r at is row = ap (λ (x : Row). x.versions) (spot_is chunks s c r at.0 is row) ∙ sym (at.1.holds r)

-- the rows of the chunk from the spot on are a run
pub spot_run : (k : List ℕ) (chunks : List Bucket) (s : Spot) (c : Bucket) → IsSpot k chunks (Ok s) → c ≡ get_or chunks s.chunk c
    → IsRun (all_rows chunks) k (drop s.at c.rows)
spot_run k chunks s c at is =
    let within = spot_within k chunks s c at is in
    let r : Row = get_or c.rows s.at (record { key = k; versions = [] }) in
    let front = all_rows (take s.chunk chunks) in
    let back = all_rows (drop (s.chunk + 1) chunks) in
    record {
      front = front ++ take s.at c.rows;
      first = r;
      more = drop (s.at + 1) c.rows;
      back = back;
      rows_are =
          three_parts chunks s.chunk at.0.chunk
          ∙ ap (λ (rs : List Row). front ++ rs ++ back) (sym (rows_read chunks s.chunk c at.0.chunk is) ∙ sym (take-append-drop s.at c.rows))
          ∙ ap (λ (rs : List Row). rs ++ back) (sym (append_assoc front (take s.at c.rows) (drop s.at c.rows)));
      run_is = drop_more c.rows s.at (record { key = k; versions = [] }) within;
      key =
          ap (λ (rs : List Row). (get_or rs s.at (record { key = k; versions = [] })).key) (rows_read chunks s.chunk c at.0.chunk is)
          ∙ ap (λ (x : Row). x.key) (sym (row_at_spot chunks s (record { key = k; versions = [] }) at.0))
          ∙ at.1.key (record { key = k; versions = [] });
    }

-- a key with a gap has no row
pub gap_no_row : (format : Format) (k : List ℕ) (chunks : List Bucket) (s : Spot) → IsBucket (record { format = format; rows = all_rows chunks })
    → IsSpot k chunks (Err s) → FindsRun (all_rows chunks) k None
gap_no_row format k chunks s b at = no_row k (all_rows chunks) b.ascending (some_each format (all_rows chunks) b.each) at.1.holds

-- ---- an offer to the row of a key is one to its place

pub at_offers : (k : List ℕ) (v : Version) (rows : List Row) (i : ℕ) → IsAt k rows i → offered_at rows i v ≡ with_offer k v rows
at_offers k v rows i at =
    let d : Row = record { key = []; versions = [] } in
    offered_at-set rows i v d at.within ∙ sym (at.offers v d)

pub at_holds : (k : List ℕ) (rows : List Row) (i : ℕ) → IsAt k rows i → row_versions rows i ≡ versions_in k rows
at_holds k rows i at =
    let d : Row = record { key = []; versions = [] } in
    versions_at-get rows i d at.within ∙ sym (at.holds d)
