-- Reading one item after another, as a loop does.
use Rattle.std.proofs.Common.{◌≡◌, ℕ, suc, ◌-◌, ◌+◌, ◌≤◌, ◌<◌, List, [], ◌∷◌, ◌++◌, length, true, false, Result, Ok, Err, refl, sym, ◌∙◌, arith}
use Rattle.row_bytes.specs.declared.fault.ReadError.{ReadError}
use Rattle.row_bytes.specs.declared.fault.ReadError.TheVariants as errors
use Rattle.version_set.specs.declared.version.Version.{Version}
use Rattle.vclock.specs.declared.format.Format.{Format}
use Rattle.version_set.specs.Version.{version_text}
use Rattle.row_bytes.specs.Reading.{Fails, pair_at, pairs_at, version_at, may_follow, versions_at}

-- one more pair was read
pub pairs_go_on : (count i above : ℕ) (before : List (ℕ × ℕ)) (bytes : List ℕ) (pair : ℕ × ℕ) (after : List ℕ)
    (total : Result (List (ℕ × ℕ) × List ℕ) ℕ) → i < count → pair_at above bytes ≡ Ok (pair, after)
    → pairs_at (count - i) above before bytes ≡ total → pairs_at (count - (i + 1)) pair.0 (before ++ pair ∷ []) after ≡ total
unfolding pairs_at
pairs_go_on count i above before bytes pair after total lt h so_far =
    let k : count - i ≡ suc (count - (i + 1)) = omega arith in
    let one : pairs_at (count - i) above before bytes ≡ pairs_at (count - (i + 1)) pair.0 (before ++ pair ∷ []) after = rw (k, h) refl in
    sym one ∙ so_far

-- a pair could not be read
pub pairs_end : (e : ReadError) (count i above : ℕ) (before : List (ℕ × ℕ)) (bytes : List ℕ) (total : Result (List (ℕ × ℕ) × List ℕ) ℕ) → i < count
    → Fails ⊥ e (pair_at above bytes)
    → pairs_at (count - i) above before bytes ≡ total → Fails (Unit {0}) e total
unfolding pairs_at
pairs_end errors.Memory count i above before bytes total lt h so_far = absurd h
pairs_end (errors.Left left) count i above before bytes total lt h so_far =
    let k : count - i ≡ suc (count - (i + 1)) = omega arith in
    let one : pairs_at (count - i) above before bytes ≡ Err left = rw (k, h) refl in
    sym so_far ∙ one

-- all pairs were read
pub pairs_done : (count i above : ℕ) (before : List (ℕ × ℕ)) (bytes : List ℕ) (total : Result (List (ℕ × ℕ) × List ℕ) ℕ) → count ≤ i
    → pairs_at (count - i) above before bytes ≡ total → total ≡ Ok (before, bytes)
unfolding pairs_at
pairs_done count i above before bytes total le so_far =
    let k : count - i ≡ 0 = omega arith in
    let one : pairs_at (count - i) above before bytes ≡ Ok (before, bytes) = rw k refl in
    sym so_far ∙ one

-- ---- versions

-- one more version was read, which may follow
pub versions_go_on : (format : Format) (count i : ℕ) (last : List ℕ) (before : List Version) (bytes : List ℕ) (v : Version) (after text : List ℕ)
    (total : Result (List Version × List ℕ) ℕ) → i < count → version_at format bytes ≡ Ok (v, after) → text ≡ version_text format v
    → may_follow format last before v ≡ true
    → versions_at format (count - i) last before bytes ≡ total → versions_at format (count - (i + 1)) text (before ++ v ∷ []) after ≡ total
unfolding versions_at
versions_go_on format count i last before bytes v after text total lt h t f so_far =
    let k : count - i ≡ suc (count - (i + 1)) = omega arith in
    let one : versions_at format (count - i) last before bytes ≡ versions_at format (count - (i + 1)) (version_text format v)
    (before ++ v ∷ []) after = rw (k, h, f) refl in
    rw t (sym one ∙ so_far)

-- a version could not be read
pub versions_end : (e : ReadError) (format : Format) (count i : ℕ) (last : List ℕ) (before : List Version) (bytes : List ℕ)
    (total : Result (List Version × List ℕ) ℕ) → i < count → Fails (Unit {0}) e (version_at format bytes)
    → versions_at format (count - i) last before bytes ≡ total → Fails (Unit {0}) e total
unfolding versions_at
versions_end errors.Memory format count i last before bytes total lt h so_far = tt
versions_end (errors.Left left) format count i last before bytes total lt h so_far =
    let k : count - i ≡ suc (count - (i + 1)) = omega arith in
    let one : versions_at format (count - i) last before bytes ≡ Err left = rw (k, h) refl in
    sym so_far ∙ one

-- a version was read that may not follow
pub versions_refused : (format : Format) (count i : ℕ) (last : List ℕ) (before : List Version) (bytes : List ℕ) (v : Version) (after : List ℕ)
    (total : Result (List Version × List ℕ) ℕ) → i < count → version_at format bytes ≡ Ok (v, after) → may_follow format last before v ≡ false
    → versions_at format (count - i) last before bytes ≡ total → total ≡ Err (length bytes)
unfolding versions_at
versions_refused format count i last before bytes v after total lt h f so_far =
    let k : count - i ≡ suc (count - (i + 1)) = omega arith in
    let one : versions_at format (count - i) last before bytes ≡ Err (length bytes) = rw (k, h, f) refl in
    sym so_far ∙ one

-- all versions were read
pub versions_done : (format : Format) (count i : ℕ) (last : List ℕ) (before : List Version) (bytes : List ℕ)
    (total : Result (List Version × List ℕ) ℕ) → count ≤ i → versions_at format (count - i) last before bytes ≡ total → total ≡ Ok (before, bytes)
unfolding versions_at
versions_done format count i last before bytes total le so_far =
    let k : count - i ≡ 0 = omega arith in
    let one : versions_at format (count - i) last before bytes ≡ Ok (before, bytes) = rw k refl in
    sym so_far ∙ one
