-- What was read of a row once memory is needed: its key, and the number of its versions.
use Rattle.std.proofs.Common.{◌≡◌, ◌⊎◌, inl, inr, ℕ, List, [], Ok, refl, subst}
use Rattle.std.specs.Int.{w16}
use Rattle.vclock.specs.declared.format.Format.{Format}
use Rattle.row_bytes.specs.declared.fault.ReadError.{ReadError}
use Rattle.row_bytes.specs.declared.fault.ReadError.TheVariants as errors
use Rattle.row_bytes.specs.declared.row.Row.{Row}
use Rattle.row_bytes.specs.Reading.{Fails, HasHead, field_at, bytes_at, versions_at, row_at}
use Rattle.row_bytes.proofs.FieldLaws.{bind_ok}
use Rattle.row_bytes.proofs.RowLaws.{few}

-- a key and a number of versions that were read are a row's head
pub head_is : (bytes : List ℕ) (len : ℕ × List ℕ) (key : List ℕ × List ℕ) (count : ℕ × List ℕ) → field_at w16 (few 255) bytes ≡ Ok len
    → bytes_at len.0 len.1 ≡ Ok key → field_at w16 (few 64) key.1 ≡ Ok count → HasHead bytes
head_is bytes len key count l k n = record { head = ((key.0, count.0), count.1); read = rw (l, k, n) refl }

-- the versions of a row could not be read
pub row_ends : (e : ReadError) (format : Format) (bytes : List ℕ) (len : ℕ × List ℕ) (key : List ℕ × List ℕ) (count : ℕ × List ℕ)
    → field_at w16 (few 255) bytes ≡ Ok len → bytes_at len.0 len.1 ≡ Ok key → field_at w16 (few 64) key.1 ≡ Ok count
    → Fails (Unit {0}) e (versions_at format count.0 [] [] count.1) → Fails (HasHead bytes) e (row_at format bytes)
unfolding row_at
row_ends errors.Memory format bytes len key count l k n h = head_is bytes len key count l k n
row_ends (errors.Left left) format bytes len key count l k n h = rw (l, k, n, h) refl

-- a row that was read begins with its head
pub head_of_row : (format : Format) (bytes : List ℕ) (x : Row × List ℕ) → row_at format bytes ≡ Ok x → HasHead bytes
unfolding row_at
head_of_row format bytes x e =
    let l = bind_ok (field_at w16 (few 255) bytes) _ x e in
    let k = bind_ok (bytes_at l.0.0 l.0.1) _ x l.2 in
    let n = bind_ok (field_at w16 (few 64) k.0.1) _ x k.2 in
    head_is bytes l.0 k.0 n.0 l.1 k.1 n.1

-- all of the text is left, or it begins with a row's head
abbrev pub HasBegun : List ℕ → List ℕ → Type 0
HasBegun text rest = (rest ≡ text) ⊎ HasHead text

-- the text begins with a row's head once a row was read
pub begun_more : (format : Format) (text rest : List ℕ) (x : Row × List ℕ) → HasBegun text rest → row_at format rest ≡ Ok x → HasHead text
begun_more format text rest x begun e = elim begun [ inl same ↦ subst HasHead same (head_of_row format rest x e) | inr head ↦ head ]
