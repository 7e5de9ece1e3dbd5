-- How long texts are, and how long what was written so far is.
use Rattle.std.proofs.Common.{◌≡◌, ℕ, ◌+◌, ◌*◌, ◌<◌, ◌≤◌, List, [], ◌∷◌, ◌++◌, length, take, get_or, Result, Ok, Err, OnErr, refl, ap, arith}
use Rattle.std.specs.List.{flat_map}
use Rattle.std.proofs.lemmas.List.{length-append}
use Rattle.std.proofs.lemmas.List.Folds.{length-flat_map-take}
use Rattle.std.specs.Int.{w16, to_be_bytes}
use Rattle.version_set.specs.Version.{pair_text, version_text}
use Rattle.vclock.specs.declared.format.Format.{Format}
use Rattle.vclock.specs.declared.format.Format.TheVariants.{One, Two}
use Rattle.version_set.specs.declared.version.Version.{Version}
use Rattle.row_bytes.specs.declared.row.Row.{Row}
use Rattle.row_bytes.specs.Rows.{row_text}

-- each pair has ten bytes
pub pairs_len : (ps : List (ℕ × ℕ)) → length (flat_map pair_text ps) ≡ 10 * length ps
pairs_len [] = refl
pairs_len (p ∷ ps) = omega (arith, length-append (pair_text p) (flat_map pair_text ps), pairs_len ps)

pub ruleset text_lengths = (length-append, pairs_len)

-- what a call that failed lacked
pub on_err : {A B : Type 0} {P : Type 0} (r : Result A B) → P → OnErr r P
on_err (Ok x) h = tt
on_err (Err e) h = h

-- where there is no room for one more text, there is none for all
pub lacks_room : {X : Type 0} (f : X → List ℕ) (xs : List X) (i : ℕ) (d : X) (front out : List ℕ) (before now : ℕ) → i < length xs
    → out ≡ front ++ flat_map f (take i xs) → before ≤ now → now < length out + length (f (get_or xs i d))
    → before < length front + length (flat_map f xs)
lacks_room f xs i d front out before now h so_far grows full =
    omega (arith, ap length so_far, length-append front (flat_map f (take i xs)), length-flat_map-take f xs i d h)

-- a row's text has four bytes besides those of its key and of its versions' texts
pub row_text_len : (format : Format) (r : Row) → length (row_text format r) ≡ 4 + length r.key + length (flat_map (version_text format) r.versions)
unfolding row_text
row_text_len format r =
    let n = to_be_bytes w16 (length r.key) in
    let k = to_be_bytes w16 (length r.versions) in
    let vs = flat_map (version_text format) r.versions in
    omega (arith, length-append n r.key, length-append (n ++ r.key) k, length-append (n ++ r.key ++ k) vs)

-- ---- there are no more versions than bytes

some_text : (format : Format) (v : Version) → 1 ≤ length (version_text format v)
some_text One v = omega arith
some_text Two v = omega arith

versions_short : (format : Format) (vs : List Version) → length vs ≤ length (flat_map (version_text format) vs)
versions_short format [] = omega arith
versions_short format (v ∷ vs) =
    omega (arith, versions_short format vs, some_text format v, length-append (version_text format v) (flat_map (version_text format) vs))

pub row_short : (format : Format) (r : Row) → length r.versions ≤ length (row_text format r)
row_short format r = omega (arith, versions_short format r.versions, row_text_len format r)
