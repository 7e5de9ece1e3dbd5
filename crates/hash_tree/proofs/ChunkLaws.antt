-- A chunk's rows and the length of their texts: what holds where a row is put among them or changed, or the rows are parted.
use Rattle.std.proofs.Common.{◌≡◌, ℕ, zero, suc, ◌+◌, ◌-◌, ◌<◌, ◌≤◌, None, List, [], ◌∷◌, ◌++◌, length, get_or, set, take, drop, refl, sym, ap}
use Rattle.std.proofs.Common.{subst, ◌∙◌, arith}
use Rattle.std.specs.List.{AllByRecursion, insert, flat_map}
use Rattle.std.proofs.lemmas.List.{length-append}
use Rattle.vclock.specs.declared.format.Format.{Format}
use Rattle.version_set.specs.Kind.{value_fault}
use Rattle.version_set.specs.declared.version.Version.{Version}
use Rattle.version_set.specs.Version.{offered, version_text}
use Rattle.row_bytes.specs.declared.row.Row.{Row}
use Rattle.row_bytes.specs.Rows.{row_text, FitsText}
use Rattle.hash_tree.specs.Leaves.{Bucket}
use Rattle.hash_tree.specs.Chunks.{first_key, row_versions, offered_at}
use Rattle.hash_tree.proofs.KeyLaws.{all_get}
use Rattle.hash_tree.proofs.RowLengthLaws.{fits-offered, row-grows}

-- ---- what holds of all

pub all-set : {X : Type 0} (P : X → Type 0) (xs : List X) (i : ℕ) (y : X) → P y → AllByRecursion P xs → AllByRecursion P (set xs i y)
all-set P [] i y h all = tt
all-set P (x ∷ xs) zero y h all = (h, all.1)
all-set P (x ∷ xs) (suc i) y h all = (all.0, all-set P xs i y h all.1)

pub all-insert : {X : Type 0} (P : X → Type 0) (xs : List X) (i : ℕ) (y : X) → P y → AllByRecursion P xs → AllByRecursion P (insert xs i y)
all-insert P xs zero y h all = (h, all)
all-insert P [] (suc i) y h all = (h, tt)
all-insert P (x ∷ xs) (suc i) y h all = (all.0, all-insert P xs i y h all.1)

pub all-take : {X : Type 0} (P : X → Type 0) (xs : List X) (i : ℕ) → AllByRecursion P xs → AllByRecursion P (take i xs)
all-take P xs zero all = tt
all-take P [] (suc i) all = tt
all-take P (x ∷ xs) (suc i) all = (all.0, all-take P xs i all.1)

pub all-drop : {X : Type 0} (P : X → Type 0) (xs : List X) (i : ℕ) → AllByRecursion P xs → AllByRecursion P (drop i xs)
all-drop P xs zero all = all
all-drop P [] (suc i) all = tt
all-drop P (x ∷ xs) (suc i) all = all-drop P xs i all.1

pub all-run : {X : Type 0} (P : X → Type 0) (front run back : List X) → AllByRecursion P (front ++ run ++ back) → AllByRecursion P run
all-run P [] [] back all = tt
all-run P [] (x ∷ run) back all = (all.0, all-run P [] run back all.1)
all-run P (x ∷ front) run back all = all-run P front run back all.1

-- ---- an offer to the row at a place

pub versions_at-get : (rows : List Row) (i : ℕ) (d : Row) → i < length rows → row_versions rows i ≡ (get_or rows i d).versions
versions_at-get [] i d h = absurd (omega arith)
versions_at-get (r ∷ rows) zero d h = refl
versions_at-get (r ∷ rows) (suc i) d h = versions_at-get rows i d (omega arith)

pub offered_at-set : (rows : List Row) (i : ℕ) (v : Version) (d : Row) → i < length rows
    → offered_at rows i v ≡ set rows i (record { key = (get_or rows i d).key; versions = offered v (get_or rows i d).versions })
offered_at-set [] i v d h = absurd (omega arith)
offered_at-set (r ∷ rows) zero v d h = refl
offered_at-set (r ∷ rows) (suc i) v d h = ap (λ rest. r ∷ rest) (offered_at-set rows i v d (omega arith))

-- ---- the length of texts

-- with an item among the others
pub len-insert : {X : Type 0} (f : X → List ℕ) (xs : List X) (i : ℕ) (y : X)
    → length (flat_map f (insert xs i y)) ≡ length (flat_map f xs) + length (f y)
len-insert f xs zero y = omega (arith, length-append (f y) (flat_map f xs))
len-insert f [] (suc i) y = omega (arith, length-append (f y) [])
len-insert f (x ∷ xs) (suc i) y =
    omega (arith, length-append (f x) (flat_map f (insert xs i y)), length-append (f x) (flat_map f xs), len-insert f xs i y)

-- with an item in place of another
pub len-set : {X : Type 0} (f : X → List ℕ) (xs : List X) (i : ℕ) (x y : X) → i < length xs → x ≡ get_or xs i x
    → length (flat_map f (set xs i y)) + length (f x) ≡ length (flat_map f xs) + length (f y)
len-set f [] i x y h is = absurd (omega (arith, h))
len-set f (z ∷ xs) zero x y h is = omega (arith, length-append (f y) (flat_map f xs), length-append (f z) (flat_map f xs), ap (λ u. length (f u)) is)
len-set f (z ∷ xs) (suc i) x y h is =
    omega (arith, length-append (f z) (flat_map f (set xs i y)), length-append (f z) (flat_map f xs), len-set f xs i x y (omega (arith, h)) is)

-- ---- what is kept of a chunk's rows besides them

abbrev pub Keeps : Format → List Row → ℕ → Type 0
Keeps format rows len = AllByRecursion (FitsText format) rows × (len ≡ length (flat_map (row_text format) rows))

-- ---- the key of the first row

-- the rows before a place
pub first-take : (rows : List Row) (i : ℕ) → 1 ≤ i → first_key (take i rows) ≡ first_key rows
first-take rows zero h = absurd (omega (arith, h))
first-take [] (suc i) h = refl
first-take (x ∷ rows) (suc i) h = refl

-- ---- what is known of a chunk's value is known of its fields

pub fits-inside : (b : Bucket) (format : Format) (rows : List Row) (r : Row) → record { format = format; rows = rows } ≡ b → FitsText b.format r
    → FitsText format r
fits-inside b format rows r same h = subst (λ (x : Bucket). FitsText x.format r) (sym same) h

pub within-inside : (b : Bucket) (format : Format) (rows : List Row) (i : ℕ) → record { format = format; rows = rows } ≡ b → i < length b.rows
    → i < length rows
within-inside b format rows i same h = subst (λ (x : Bucket). i < length x.rows) (sym same) h

pub value-inside : (b : Bucket) (format : Format) (rows : List Row) (v : Version) → record { format = format; rows = rows } ≡ b
    → value_fault b.format v.kind v.value ≡ None → value_fault format v.kind v.value ≡ None
value-inside b format rows v same h = subst (λ (x : Bucket). value_fault x.format v.kind v.value ≡ None) (sym same) h

-- the versions of the row at a place
pub versions-inside : (b : Bucket) (format : Format) (rows : List Row) (i : ℕ) (r : Row) → record { format = format; rows = rows } ≡ b
    → i < length b.rows → r ≡ get_or rows i r → r.versions ≡ row_versions b.rows i
versions-inside b format rows i r same h is =
    ap (λ (x : Row). x.versions) is ∙ sym (versions_at-get rows i r (within-inside b format rows i same h))
    ∙ ap (λ (x : Bucket). row_versions x.rows i) same

-- ---- the row at a place after an offer to it

pub record IsOffered (format : Format) (rows : List Row) (len i : ℕ) (r new : Row) (v : Version) : Type 0 where
  pub old_fits : FitsText format r
  pub fits : FitsText format new
  pub within : length (row_text format r) ≤ len
  pub grows : length (row_text format new) ≤ length (row_text format r) + length (version_text format v)
  pub keeps : Keeps format (set rows i new) (len - length (row_text format r) + length (row_text format new))

pub is_offered : (format : Format) (rows : List Row) (len i : ℕ) (r : Row) (v : Version) → Keeps format rows len → i < length rows
    → r ≡ get_or rows i r → value_fault format v.kind v.value ≡ None
    → IsOffered format rows len i r (record { key = r.key; versions = offered v r.versions }) v
is_offered format rows len i r v h within is value =
    let old : FitsText format r = subst (FitsText format) (sym is) (all_get (FitsText format) rows i r h.0 within) in
    let new : Row = record { key = r.key; versions = offered v r.versions } in
    let fits : FitsText format new = fits-offered format r.key v r.versions old.key value old.each in
    let lens = len-set (row_text format) rows i r new within is in
    let part : length (row_text format r) ≤ len = omega (arith, h.1, part_of_all (row_text format) rows i r within is) in
    record {
      old_fits = old;
      fits = fits;
      within = part;
      grows = row-grows format r.key v r.versions;
      keeps = (all-set (FitsText format) rows i new fits h.0, omega (arith, lens, h.1, part));
    }
  where
    part_of_all : {X : Type 0} (f : X → List ℕ) (xs : List X) (i : ℕ) (x : X) → i < length xs → x ≡ get_or xs i x
        → length (f x) ≤ length (flat_map f xs)
    part_of_all f [] i x h is = absurd (omega (arith, h))
    part_of_all f (z ∷ xs) zero x h is = omega (arith, length-append (f z) (flat_map f xs), ap (λ u. length (f u)) is)
    part_of_all f (z ∷ xs) (suc i) x h is = omega (arith, length-append (f z) (flat_map f xs), part_of_all f xs i x (omega (arith, h)) is)
