-- Passes, the records of callers, and the book that counts their receipts.
use Rattle.std.specs.Prelude.{◌≡◌, ℕ, zero, suc, ◌+◌, ◌<◌, ◌≤◌, nat_eq, List, [], ◌∷◌, ◌++◌, length, max, if◌then◌else◌}
use Rattle.std.specs.List.{sum_by, AllByRecursion}
use Rattle.range_journal.specs.declared.journal.Entry.{Entry}
use Rattle.caller_pass.specs.declared.reading.Reading.{Reading}

-- the seat of the caller, the number of entries of the journal that it has seen, its share of the book's count, the
-- entries that it made, and its readings
pub record PassView : Type 0 where
  pub seat : ℕ
  pub seen : ℕ
  pub share : ℕ
  pub receipts : List Entry
  pub readings : List Reading

-- no reading saw a shorter journal than an earlier one
abbrev pub AreInOrder : List Reading → Type 0
AreInOrder [] = Unit {0}
AreInOrder (r ∷ rs) = AllByRecursion (λ (s : Reading). r.front ≤ s.front) rs × AreInOrder rs

-- The facts of each pass of a number of seats: it has one of them; its share is the number of its receipts; and its
-- readings are in order, each of a journal at most as long as the part that it has seen.
pub record IsPass (seats : ℕ) (p : PassView) : Type 0 where
  pub seated : p.seat < seats
  pub counted : p.share ≡ length p.receipts
  pub in_order : AreInOrder p.readings
  pub seen : AllByRecursion (λ (r : Reading). r.front ≤ p.seen) p.readings

-- the number of entries that the book has counted, the number of seats, and the returned passes
pub record BookView : Type 0 where
  pub number : ℕ
  pub seats : ℕ
  pub passes : List PassView

-- the pass of a caller that made and read nothing
abbrev pub new_pass : ℕ → PassView
new_pass seat = record { seat = seat; seen = 0; share = 0; receipts = []; readings = [] }

-- the passes of the seats 0 to n - 1, in order
abbrev pub new_passes : ℕ → List PassView
new_passes zero = []
new_passes (suc n) = new_passes n ++ new_pass n ∷ []

-- the book of these seats that has counted nothing
abbrev pub new_book : ℕ → BookView
new_book seats = record { number = 0; seats = seats; passes = [] }

-- the book with n more entries in its count
abbrev pub counted : BookView → ℕ → BookView
counted b n = record b { number = b.number + n }

-- the book with one more returned pass
abbrev pub absorbed : BookView → PassView → BookView
absorbed b p = record b { passes = b.passes ++ p ∷ [] }

-- the number of entries seen by a caller who had seen `seen`, and got n receipts from a journal of that length
abbrev pub seen_after : ℕ → ℕ → ℕ → ℕ
seen_after seen journal n = if nat_eq n 0 then seen else max seen journal

-- the pass with more receipts, of entries with which the journal has that length
abbrev pub with_receipts : PassView → ℕ → List Entry → PassView
with_receipts p journal es = record p { seen = seen_after p.seen journal (length es); share = p.share + length es; receipts = p.receipts ++ es }

-- the pass with one more reading
abbrev pub with_reading : PassView → Reading → PassView
with_reading p r = record p { seen = r.front; readings = p.readings ++ r ∷ [] }

-- the number of receipts of the passes
abbrev pub receipts_of : List PassView → ℕ
receipts_of ps = sum_by (λ p. length p.receipts) ps
