-- The rows of chunks one after another, and what is left of them where one chunk changes or is split.
use Rattle.std.proofs.Common.{◌≡◌, ℕ, zero, suc, ◌+◌, ◌-◌, ◌<◌, ◌≤◌, ◌^◌, None, Result, Ok, Err, OnOk, OnErr, List, [], ◌∷◌, ◌++◌, length, get_or}
use Rattle.std.proofs.Common.{set, take, drop, refl, sym, ap, subst, ◌∙◌, append_assoc, arith}
use Rattle.std.specs.List.{AllByRecursion, insert, flat_map}
use Rattle.std.proofs.lemmas.List.{length-append, append-nil, take-append-drop, length-set, length-take-le, length-drop}
use Rattle.std.proofs.lemmas.List.Concat.{flat_map-append}
use Rattle.std.proofs.lemmas.List.Edits.{insert-append_left, length-insert}
use Rattle.vclock.specs.declared.format.Format.{Format}
use Rattle.version_set.specs.Kind.{value_fault}
use Rattle.version_set.specs.declared.version.Version.{Version}
use Rattle.row_bytes.specs.declared.row.Row.{Row}
use Rattle.row_bytes.specs.Rows.{row_text}
use Rattle.hash_tree.specs.Leaves.{Bucket}
use Rattle.hash_tree.specs.Chunks.{all_rows, chunk_rows, chunk_text, IsChunk, AreChunks, place_in, IsGapSpot, IsSplit, row_versions, offered_at}
use Rattle.hash_tree.specs.declared.chunks.Spot.{Spot}
use Rattle.hash_tree.specs.Texts.{leaf_byte, leaf_text}
use Rattle.hash_tree.proofs.KeyLaws.{all_get}
use Rattle.hash_tree.proofs.ChunkLaws.{all-set, all-insert}

-- ---- texts and lengths

-- the texts of the chunks are those of all rows
pub texts_of : (format : Format) (chunks : List Bucket) → AllByRecursion (IsChunk format) chunks
    → flat_map chunk_text chunks ≡ flat_map (row_text format) (all_rows chunks)
texts_of format [] all = refl
texts_of format (c ∷ chunks) all =
    ap (λ (f : Format). flat_map (row_text f) c.rows ++ flat_map chunk_text chunks) all.0.same
    ∙ ap (λ (rest : List ℕ). flat_map (row_text format) c.rows ++ rest) (texts_of format chunks all.1)
    ∙ sym (flat_map-append (row_text format) c.rows (all_rows chunks))

-- so the texts of a leaf's rows are those of its chunks
pub rows_of_chunks : (b : Bucket) (format : Format) (chunks : List Bucket) → record { format = format; rows = all_rows chunks } ≡ b
    → AreChunks format chunks → flat_map chunk_text chunks ≡ flat_map (row_text b.format) b.rows
rows_of_chunks b format chunks same are = texts_of format chunks are.each ∙ ap (λ (x : Bucket). flat_map (row_text x.format) x.rows) same

-- and its text is a byte and these
pub text_of_chunks : (b : Bucket) (format : Format) (chunks : List Bucket) → record { format = format; rows = all_rows chunks } ≡ b
    → AreChunks format chunks → leaf_byte format ∷ flat_map chunk_text chunks ≡ leaf_text b.format b.rows
unfolding leaf_text
text_of_chunks b format chunks same are =
    ap (λ (rest : List ℕ). leaf_byte format ∷ rest) (texts_of format chunks are.each)
    ∙ ap (λ (x : Bucket). leaf_byte x.format ∷ flat_map (row_text x.format) x.rows) same

-- which is never empty
pub some_text : (b : Bucket) → 1 ≤ length (leaf_text b.format b.rows)
unfolding leaf_text
some_text b = omega arith

-- the rows before a chunk, its own, and those after it
pub three_parts : (chunks : List Bucket) (i : ℕ) → i < length chunks
    → all_rows chunks ≡ all_rows (take i chunks) ++ chunk_rows chunks i ++ all_rows (drop (i + 1) chunks)
three_parts [] i h = absurd (omega arith)
three_parts (c ∷ chunks) zero h = refl
three_parts (c ∷ chunks) (suc i) h =
    let next : suc i + 1 ≡ suc (i + 1) = omega arith in
    rw next (
    ap (λ (rest : List Row). c.rows ++ rest) (three_parts chunks i (omega arith))
    ∙ sym (append_assoc c.rows (all_rows (take i chunks) ++ chunk_rows chunks i) (all_rows (drop (i + 1) chunks)))
    ∙ ap (λ (front : List Row). front ++ all_rows (drop (i + 1) chunks)) (sym (append_assoc c.rows (all_rows (take i chunks)) (chunk_rows chunks i)))
    )

-- what a read of a chunk gives
pub rows_read : (chunks : List Bucket) (i : ℕ) (c : Bucket) → i < length chunks → c ≡ get_or chunks i c → c.rows ≡ chunk_rows chunks i
rows_read chunks i c h is = ap (λ (x : Bucket). x.rows) is ∙ rows_at chunks i c h
  where
    rows_at : (cs : List Bucket) (n : ℕ) (d : Bucket) → n < length cs → (get_or cs n d).rows ≡ chunk_rows cs n
    rows_at [] n d l = absurd (omega arith)
    rows_at (x ∷ cs) zero d l = refl
    rows_at (x ∷ cs) (suc n) d l = rows_at cs n d (omega arith)

-- the rows before the next chunk
pub rows_more : (chunks : List Bucket) (i : ℕ) → i < length chunks → all_rows (take (i + 1) chunks) ≡ all_rows (take i chunks) ++ chunk_rows chunks i
rows_more [] i h = absurd (omega arith)
rows_more (c ∷ chunks) zero h = append-nil c.rows
rows_more (c ∷ chunks) (suc i) h =
    let next : suc i + 1 ≡ suc (i + 1) = omega arith in
    rw next (
    ap (λ (rest : List Row). c.rows ++ rest) (rows_more chunks i (omega arith))
    ∙ sym (append_assoc c.rows (all_rows (take i chunks)) (chunk_rows chunks i))
    )

-- ---- an offer to a row, and a row that is put among others, where rows stand before and behind

length-offered_at : (rows : List Row) (i : ℕ) (v : Version) → length (offered_at rows i v) ≡ length rows
length-offered_at [] i v = refl
length-offered_at (r ∷ rows) zero v = refl
length-offered_at (r ∷ rows) (suc i) v = ap suc (length-offered_at rows i v)

offered_at-before : (rows back : List Row) (i : ℕ) (v : Version) → i < length rows → offered_at (rows ++ back) i v ≡ offered_at rows i v ++ back
offered_at-before [] back i v h = absurd (omega arith)
offered_at-before (r ∷ rows) back zero v h = refl
offered_at-before (r ∷ rows) back (suc i) v h = ap (λ rest. r ∷ rest) (offered_at-before rows back i v (omega arith))

offered_at-behind : (front rows : List Row) (i n : ℕ) (v : Version) → length front + i ≡ n
    → offered_at (front ++ rows) n v ≡ front ++ offered_at rows i v
offered_at-behind [] rows i n v e = ap (λ (m : ℕ). offered_at rows m v) (let same : n ≡ i = omega (arith, e) in same)
offered_at-behind (r ∷ front) rows i zero v e = absurd (omega (arith, e))
offered_at-behind (r ∷ front) rows i (suc n) v e = ap (λ rest. r ∷ rest) (offered_at-behind front rows i n v (omega (arith, e)))

versions_at-before : (rows back : List Row) (i : ℕ) → i < length rows → row_versions (rows ++ back) i ≡ row_versions rows i
versions_at-before [] back i h = absurd (omega arith)
versions_at-before (r ∷ rows) back zero h = refl
versions_at-before (r ∷ rows) back (suc i) h = versions_at-before rows back i (omega arith)

versions_at-behind : (front rows : List Row) (i n : ℕ) → length front + i ≡ n → row_versions (front ++ rows) n ≡ row_versions rows i
versions_at-behind [] rows i n e = ap (row_versions rows) (let same : n ≡ i = omega (arith, e) in same)
versions_at-behind (r ∷ front) rows i zero e = absurd (omega (arith, e))
versions_at-behind (r ∷ front) rows i (suc n) e = versions_at-behind front rows i n (omega (arith, e))

insert-behind : {X : Type 0} (front rows : List X) (i n : ℕ) (y : X) → length front + i ≡ n → insert (front ++ rows) n y ≡ front ++ insert rows i y
insert-behind [] rows i n y e = ap (λ (m : ℕ). insert rows m y) (let same : n ≡ i = omega (arith, e) in same)
insert-behind (x ∷ front) rows i zero y e = absurd (omega (arith, e))
insert-behind (x ∷ front) rows i (suc n) y e = ap (λ rest. x ∷ rest) (insert-behind front rows i n y (omega (arith, e)))

-- ---- what holds of the chunk that a read gives

pub chunk_is : (format : Format) (chunks : List Bucket) (i : ℕ) (c : Bucket) → AllByRecursion (IsChunk format) chunks → i < length chunks
    → c ≡ get_or chunks i c → IsChunk format c
chunk_is format chunks i c all h is = subst (IsChunk format) (sym is) (all_get (IsChunk format) chunks i c all h)

-- a value that the format admits is one for each chunk
pub values_fit : (format : Format) (chunks : List Bucket) (v : Version) → AllByRecursion (IsChunk format) chunks
    → value_fault format v.kind v.value ≡ None → AllByRecursion (λ (c : Bucket). value_fault c.format v.kind v.value ≡ None) chunks
values_fit format [] v all h = tt
values_fit format (c ∷ chunks) v all h =
    (subst (λ (f : Format). value_fault f v.kind v.value ≡ None) (sym all.0.same) h, values_fit format chunks v all.1 h)

-- where a chunk is split before a gap, the gap is in the second part
pub gap-behind : (chunks parts : List Bucket) (s : Spot) (cut : ℕ) → IsGapSpot chunks s → IsSplit chunks s.chunk cut parts
    → length (chunk_rows chunks s.chunk) ≡ 15 → cut < s.at → IsGapSpot parts (record { chunk = s.chunk + 1; at = s.at - cut })
gap-behind chunks parts s cut gap split full behind = record {
  chunk = omega (arith, split.more, gap.chunk);
  within = omega (arith, split.back, gap.within, full, behind);
}

-- its place is the same
pub place-behind : (chunks parts : List Bucket) (s : Spot) (cut : ℕ) → IsSplit chunks s.chunk cut parts → cut < s.at
    → place_in parts (record { chunk = s.chunk + 1; at = s.at - cut }) ≡ place_in chunks s
place-behind chunks parts s cut split behind =
    omega (
      arith,
      ap (λ (rows : List Row). length rows) split.first,
      length-append (all_rows (take s.chunk chunks)) (chunk_rows parts s.chunk),
      split.front,
      behind,
    )

-- ---- what holds where a call answers, and where it fails

pub on_ok_map : {A B : Type 0} {P Q : Type 0} (r : Result A B) → (P → Q) → OnOk r P → OnOk r Q
on_ok_map (Ok x) f h = f h
on_ok_map (Err e) f h = tt

pub on_err_map : {A B : Type 0} {P Q : Type 0} (r : Result A B) → (P → Q) → OnErr r P → OnErr r Q
on_err_map (Ok x) f h = tt
on_err_map (Err e) f h = f h

-- ---- one chunk changes

-- a version is offered to a row of a chunk
pub offered-in_chunk : (chunks : List Bucket) (i at place : ℕ) (v : Version) (c : Bucket) → i < length chunks → at < length (chunk_rows chunks i)
    → length (all_rows (take i chunks)) + at ≡ place → c.rows ≡ offered_at (chunk_rows chunks i) at v
    → all_rows (set chunks i c) ≡ offered_at (all_rows chunks) place v
offered-in_chunk [] i at place v c h within before now = absurd (omega arith)
offered-in_chunk (x ∷ chunks) zero at place v c h within before now =
    let same : at ≡ place = omega (arith, before) in
    ap (λ (rows : List Row). rows ++ all_rows chunks) now ∙ sym (offered_at-before x.rows (all_rows chunks) at v within)
    ∙ ap (λ (m : ℕ). offered_at (x.rows ++ all_rows chunks) m v) same
offered-in_chunk (x ∷ chunks) (suc i) at place v c h within before now =
    let first = all_rows (take i chunks) in
    let rest : length first + at ≡ place - length x.rows = omega (arith, before, length-append x.rows first) in
    let whole : length x.rows + (place - length x.rows) ≡ place = omega (arith, before, length-append x.rows first) in
    ap (λ (rows : List Row). x.rows ++ rows) (offered-in_chunk chunks i at (place - length x.rows) v c (omega arith) within rest now)
    ∙ sym (offered_at-behind x.rows (all_rows chunks) (place - length x.rows) place v whole)

pub versions-in_chunk : (chunks : List Bucket) (i at place : ℕ) → i < length chunks → at < length (chunk_rows chunks i)
    → length (all_rows (take i chunks)) + at ≡ place → row_versions (chunk_rows chunks i) at ≡ row_versions (all_rows chunks) place
versions-in_chunk [] i at place h within before = absurd (omega arith)
versions-in_chunk (x ∷ chunks) zero at place h within before =
    let same : at ≡ place = omega (arith, before) in
    sym (versions_at-before x.rows (all_rows chunks) at within) ∙ ap (row_versions (x.rows ++ all_rows chunks)) same
versions-in_chunk (x ∷ chunks) (suc i) at place h within before =
    let first = all_rows (take i chunks) in
    let rest : length first + at ≡ place - length x.rows = omega (arith, before, length-append x.rows first) in
    let whole : length x.rows + (place - length x.rows) ≡ place = omega (arith, before, length-append x.rows first) in
    versions-in_chunk chunks i at (place - length x.rows) (omega arith) within rest
    ∙ sym (versions_at-behind x.rows (all_rows chunks) (place - length x.rows) place whole)

-- a row is put into a chunk
pub inserted-in_chunk : (chunks : List Bucket) (i at place : ℕ) (r : Row) (c : Bucket) → i < length chunks → at ≤ length (chunk_rows chunks i)
    → length (all_rows (take i chunks)) + at ≡ place → c.rows ≡ insert (chunk_rows chunks i) at r
    → all_rows (set chunks i c) ≡ insert (all_rows chunks) place r
inserted-in_chunk [] i at place r c h within before now = absurd (omega arith)
inserted-in_chunk (x ∷ chunks) zero at place r c h within before now =
    let same : at ≡ place = omega (arith, before) in
    ap (λ (rows : List Row). rows ++ all_rows chunks) now ∙ sym (insert-append_left x.rows (all_rows chunks) at r within)
    ∙ ap (λ (m : ℕ). insert (x.rows ++ all_rows chunks) m r) same
inserted-in_chunk (x ∷ chunks) (suc i) at place r c h within before now =
    let first = all_rows (take i chunks) in
    let rest : length first + at ≡ place - length x.rows = omega (arith, before, length-append x.rows first) in
    let whole : length x.rows + (place - length x.rows) ≡ place = omega (arith, before, length-append x.rows first) in
    ap (λ (rows : List Row). x.rows ++ rows) (inserted-in_chunk chunks i at (place - length x.rows) r c (omega arith) within rest now)
    ∙ sym (insert-behind x.rows (all_rows chunks) (place - length x.rows) place r whole)

-- the chunks are still those of a leaf
pub chunks-offered : (format : Format) (chunks : List Bucket) (i at : ℕ) (v : Version) (c old : Bucket) → i < length chunks
    → old ≡ get_or chunks i old → c ≡ record { format = old.format; rows = offered_at old.rows at v } → AreChunks format chunks
    → AreChunks format (set chunks i c)
chunks-offered format chunks i at v c old h is now are =
    let was : IsChunk format old = subst (IsChunk format) (sym is) (all_get (IsChunk format) chunks i old are.each h) in
    let long = ap (λ (x : Bucket). length x.rows) now ∙ length-offered_at old.rows at v in
    record {
      each = all-set (IsChunk format) chunks i c
          (record { same = ap (λ (x : Bucket). x.format) now ∙ was.same; some = omega (arith, long, was.some); few = omega (arith, long, was.few) })
          are.each;
      few = omega (arith, length-set chunks i c, are.few);
    }

pub chunks-inserted : (format : Format) (chunks : List Bucket) (i at : ℕ) (r : Row) (c old : Bucket) → i < length chunks → old ≡ get_or chunks i old
    → c ≡ record { format = old.format; rows = insert old.rows at r } → at ≤ length old.rows → length old.rows < 15
    → AreChunks format chunks → AreChunks format (set chunks i c)
chunks-inserted format chunks i at r c old h is now within room are =
    let was : IsChunk format old = subst (IsChunk format) (sym is) (all_get (IsChunk format) chunks i old are.each h) in
    let long = ap (λ (x : Bucket). length x.rows) now ∙ length-insert old.rows at r within in
    record {
      each = all-set (IsChunk format) chunks i c
          (record { same = ap (λ (x : Bucket). x.format) now ∙ was.same; some = omega (arith, long); few = omega (arith, long, room) }) are.each;
      few = omega (arith, length-set chunks i c, are.few);
    }

-- ---- a chunk is split

split_rows : (chunks : List Bucket) (i : ℕ) (a b : Bucket) → i < length chunks → a.rows ++ b.rows ≡ chunk_rows chunks i
    → all_rows (insert (set chunks i a) (i + 1) b) ≡ all_rows chunks
split_rows [] i a b h same = absurd (omega arith)
split_rows (c ∷ chunks) zero a b h same = sym (append_assoc a.rows b.rows (all_rows chunks)) ∙ ap (λ (rows : List Row). rows ++ all_rows chunks) same
split_rows (c ∷ chunks) (suc i) a b h same =
    let next : suc i + 1 ≡ suc (i + 1) = omega arith in
    rw next (ap (λ (rest : List Row). c.rows ++ rest) (split_rows chunks i a b (omega arith) same))

split_before : (chunks : List Bucket) (i : ℕ) (a b : Bucket) → i < length chunks → take i (insert (set chunks i a) (i + 1) b) ≡ take i chunks
split_before [] i a b h = absurd (omega arith)
split_before (c ∷ chunks) zero a b h = refl
split_before (c ∷ chunks) (suc i) a b h =
    let next : suc i + 1 ≡ suc (i + 1) = omega arith in
    rw next (ap (λ rest. c ∷ rest) (split_before chunks i a b (omega arith)))

split_front : (chunks : List Bucket) (i : ℕ) (a b : Bucket) → i < length chunks → chunk_rows (insert (set chunks i a) (i + 1) b) i ≡ a.rows
split_front [] i a b h = absurd (omega arith)
split_front (c ∷ chunks) zero a b h = refl
split_front (c ∷ chunks) (suc i) a b h =
    let next : suc i + 1 ≡ suc (i + 1) = omega arith in
    rw next (split_front chunks i a b (omega arith))

split_back : (chunks : List Bucket) (i : ℕ) (a b : Bucket) → i < length chunks → chunk_rows (insert (set chunks i a) (i + 1) b) (i + 1) ≡ b.rows
split_back [] i a b h = absurd (omega arith)
split_back (c ∷ chunks) zero a b h = refl
split_back (c ∷ chunks) (suc i) a b h =
    let next : suc i + 1 ≡ suc (i + 1) = omega arith in
    rw next (split_back chunks i a b (omega arith))

-- a full chunk that was cut into its front and its back
pub record IsCut (chunks : List Bucket) (i cut : ℕ) (old a b : Bucket) : Type 0 where
  pub within : i < length chunks
  pub room : length chunks < 2 ^ 56
  pub some : 1 ≤ cut
  pub less : cut < 15
  pub is : old ≡ get_or chunks i old
  pub full : length old.rows ≡ 15
  pub front : a ≡ record { format = old.format; rows = take cut old.rows }
  pub back : b ≡ record { format = old.format; rows = drop cut old.rows }

-- the parts of a chunk that was cut stand in its place
pub is_split : (chunks : List Bucket) (i cut : ℕ) (old a b : Bucket) → IsCut chunks i cut old a b
    → IsSplit chunks i cut (insert (set chunks i a) (i + 1) b)
is_split chunks i cut old a b halves =
    let h = halves.within in
    let less = halves.less in
    let full = halves.full in
    let front = halves.front in
    let back = halves.back in
    let parts = insert (set chunks i a) (i + 1) b in
    let is_a = ap (λ (x : Bucket). x.rows) front in
    let is_b = ap (λ (x : Bucket). x.rows) back in
    let whole : a.rows ++ b.rows ≡ old.rows = ap (λ (rows : List Row). rows ++ b.rows) is_a ∙ ap (λ (rows : List Row). take cut old.rows ++ rows) is_b
    ∙ take-append-drop cut old.rows in
    let long_a : length a.rows ≡ cut = ap (λ (rows : List Row). length rows) is_a ∙ length-take-le cut old.rows (omega (arith, full, less)) in
    let long_b : length b.rows + cut ≡ 15 = omega (arith, ap (λ (rows : List Row). length rows) is_b, length-drop cut old.rows, full, less) in
    let many : length parts ≡ length chunks + 1 = omega
    (arith, length-insert (set chunks i a) (i + 1) b (omega (arith, h, length-set chunks i a)), length-set chunks i a) in
    let at = split_front chunks i a b h in
    record {
      rows = split_rows chunks i a b h (whole ∙ rows_read chunks i old h halves.is);
      more = many;
      before = split_before chunks i a b h;
      front = ap (λ (rows : List Row). length rows) at ∙ long_a;
      first = rows_more parts i (omega (arith, many, h)) ∙ ap (λ (cs : List Bucket). all_rows cs ++ chunk_rows parts i) (split_before chunks i a b h);
      back = omega (arith, ap (λ (rows : List Row). length rows) (split_back chunks i a b h), long_b);
      each = λ format are.
          let was : IsChunk format old = subst (IsChunk format) (sym halves.is) (all_get (IsChunk format) chunks i old are.each h) in
          record {
            each = all-insert (IsChunk format) (set chunks i a) (i + 1) b
                (record { same = ap (λ (x : Bucket). x.format) back ∙ was.same; some = omega (arith, long_b, less); few = omega (arith, long_b) })
                (all-set (IsChunk format) chunks i a
                (record {
                  same = ap (λ (x : Bucket). x.format) front ∙ was.same;
                  some = omega (arith, long_a, halves.some);
                  few = omega (arith, long_a, less);
                }) are.each);
            few = omega (arith, many, halves.room);
          };
    }
