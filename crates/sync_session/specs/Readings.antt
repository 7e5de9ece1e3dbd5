-- The rows of a text, read without taking it.
use Rattle.std.specs.Prelude.{◌≡◌, ◌≢◌, ◌⊎◌, ◌<◌, ◌^◌, ℕ, ◌+◌, ◌++◌, Option, Some, None, Result, Ok, Err, List, [], ◌∷◌, length}
use Rattle.std.specs.List.{AllByRecursion, Contains, flat_map, sum_by}
use Rattle.vclock.specs.declared.refusal.Refusal.{Refusal}
use Rattle.vclock.specs.declared.refusal.Refusal.TheVariants as refusals
use Rattle.key_ring.specs.Places.{range_at}
use Rattle.row_bytes.specs.declared.row.Row.{Row}
use Rattle.row_bytes.specs.Reading.{last_key}
use Rattle.row_bytes.specs.Rows.{row_text, IsRow, AreRows}
use Rattle.hash_tree.specs.Leaves.{Bucket, IsRun}
use Rattle.hash_tree.specs.Texts.{leaf_byte}
use Rattle.tree_nodes.specs.Nodes.{Node, tree_depth}
use Rattle.snapshot.specs.RowMaps.{RowMap, leaf_in}
use Rattle.sync_session.specs.declared.news.News.{News}
use Rattle.sync_session.specs.Walks.{TakenText, Walk, AreSpelled, IsInnerText}
use Rattle.sync_session.specs.Steps.{IsDue, IsTakeFault}

-- a text's fault other than NoMemory
abbrev pub IsBeginFault : Walk → TakenText → Refusal → Type 0
IsBeginFault w t e = IsTakeFault w t e × (e ≢ refusals.NoMemory)

-- a text is awaited, or has a fault
abbrev pub Awaits : Walk → TakenText → Result (Unit {0}) Refusal → Type 0
Awaits w t (Ok ok) = IsDue w t
Awaits w t (Err e) = IsBeginFault w t e

-- the rows of a leaf's text
abbrev pub ReadsLeaf : RowMap → Node → List ℕ → Result (List Row) Refusal → Type 0
ReadsLeaf m n text (Ok rows) = AreSpelled m n text rows
ReadsLeaf m n text (Err refusals.NotCanonical) = (rows : List Row) → AreSpelled m n text rows → ⊥
ReadsLeaf m n text (Err e) = e ≡ refusals.NoMemory

-- the rows in a text that is due, [] for an inner one; or the fault of the text
abbrev pub Shows : Walk → TakenText → Result (List Row) Refusal → Type 0
Shows w t (Ok rows) = IsDue w t × (((t.node.depth < tree_depth w.own.format) × IsInnerText w.own.format t.text × (rows ≡ [])) ⊎ ((t.node.depth ≡ tree_depth w.own.format) × AreSpelled w.own t.node t.text rows))
Shows w t (Err e) = IsTakeFault w t e

-- ---- the rows of a leaf's text that are missing from the local rows

-- The rows of a text, compared with own rows: others are the rows that own doesn't contain, in order, and known is the
-- number of versions of the other ones.
abbrev pub AreOthers : List Row → List Row → List Row → ℕ → Type 0
AreOthers own [] others known = (others ≡ []) × (known ≡ 0)
AreOthers own (r ∷ rows) others known =
    ((Contains own r → ⊥) × ((more : List Row) × (others ≡ r ∷ more) × AreOthers own rows more known))
    ⊎ (Contains own r × ((n : ℕ) × (known ≡ length r.versions + n) × AreOthers own rows others n))

-- the news in a leaf's text
abbrev pub ReadsNews : RowMap → Node → List ℕ → Result News Refusal → Type 0
ReadsNews m n text (Ok news) = (rows : List Row) × AreSpelled m n text rows × AreOthers m.rows rows news.rows.items news.known
ReadsNews m n text (Err refusals.NotCanonical) = (rows : List Row) → AreSpelled m n text rows → ⊥
ReadsNews m n text (Err e) = e ≡ refusals.NoMemory

-- the news in a text that is due, no rows for an inner one; or the fault of the text
abbrev pub Tells : Walk → TakenText → Result News Refusal → Type 0
Tells w t (Ok news) =
    IsDue w t
    × (((t.node.depth < tree_depth w.own.format) × IsInnerText w.own.format t.text × (news.rows.items ≡ []) × (news.known ≡ 0))
    ⊎ ((t.node.depth ≡ tree_depth w.own.format) × ((rows : List Row) × AreSpelled w.own t.node t.text rows × AreOthers w.own.rows rows news.rows.items news.known)))
Tells w t (Err e) = IsTakeFault w t e

-- a key is in the range, and in this leaf
pub record LiesIn (m : RowMap) (leaf : ℕ) (key : List ℕ) : Type 0 where
  pub range : range_at m.bits key ≡ m.range
  pub leaf_is : leaf_in m key ≡ leaf

-- the row at the front of a text and the rest after it; None if the text doesn't begin with a row of this leaf
abbrev pub FrontRow : RowMap → ℕ → List ℕ → Option (Row × List ℕ) → Type 0
FrontRow m leaf text (Some x) = IsRow m.format x.0 × LiesIn m leaf x.0.key × (text ≡ row_text m.format x.0 ++ x.1)
FrontRow m leaf text None = (r : Row) (rest : List ℕ) → IsRow m.format r → LiesIn m leaf r.key → text ≡ row_text m.format r ++ rest → ⊥

-- the local rows at the front of a text, from the row of a key on: the number of their versions, the last key, and the
-- rest
pub record FrontRun (b : Bucket) (key text : List ℕ) (versions : ℕ) (last after : List ℕ) : Type 0 where
  pub run : List Row
  pub is : IsRun b.rows key run
  pub versions_is : versions ≡ sum_by (λ (r : Row). length r.versions) run
  pub last_is : last ≡ last_key run
  pub text_is : text ≡ flat_map (row_text b.format) run ++ after

-- the local rows at the front of a text, if it begins with the row of a key
abbrev pub FrontOwn : Bucket → List ℕ → List ℕ → Option (ℕ × List ℕ × List ℕ) → Type 0
FrontOwn b key text (Some x) = FrontRun b key text x.0 x.1 x.2
FrontOwn b key text None = (r : Row) (rest : List ℕ) → Contains b.rows r → r.key ≡ key → text ≡ row_text b.format r ++ rest → ⊥

-- ---- reading a leaf's text row by row

-- the key of the last row, or the key before the rows if they are empty
abbrev pub end_key : List ℕ → List Row → List ℕ
end_key last [] = last
end_key last (r ∷ rows) = end_key r.key rows

-- The rows that were read from a body up to here, compared with the local ones; any rows that spell all of the text
-- begin with them.
pub record OnTheWay (m : RowMap) (n : Node) (text body last rest : List ℕ) (others : List Row) (known : ℕ) : Type 0 where
  pub rows : List Row
  pub are : AreRows m.format rows
  pub here : AllByRecursion (λ (r : Row). LiesIn m n.index r.key) rows
  pub body_is : body ≡ flat_map (row_text m.format) rows ++ rest
  pub last_is : last ≡ end_key [] rows
  pub news : AreOthers m.rows rows others known
  pub only : (all : List Row) → AreSpelled m n text all → (more : List Row) × (all ≡ rows ++ more) × (rest ≡ flat_map (row_text m.format) more)

-- A leaf's text was read up to here: its body is fewer than 2^64 bytes after its first byte, and others are the rows so
-- far that aren't local.
pub record IsReadTo (m : RowMap) (n : Node) (text last rest : List ℕ) (others : List Row) (known : ℕ) : Type 0 where
  pub body : List ℕ
  pub short : length body < 2 ^ 64
  pub text_is : text ≡ leaf_byte m.format ∷ body
  pub way : OnTheWay m n text body last rest others known

-- the text was read up to one more row that isn't local; or to its end, without such a row
abbrev pub StepsTo : RowMap → Node → List ℕ → ℕ → List Row → Option Row → List ℕ → List ℕ → ℕ → Type 0
StepsTo m n text left others (Some r) last rest known = IsReadTo m n text last rest (others ++ r ∷ []) known × (length rest < left)
StepsTo m n text left others None last rest known = IsReadTo m n text last rest others known × (rest ≡ [])

-- no rows spell the text, or memory ran out
abbrev pub IsReadFault : RowMap → Node → List ℕ → Refusal → Type 0
IsReadFault m n text refusals.NotCanonical = (rows : List Row) → AreSpelled m n text rows → ⊥
IsReadFault m n text e = e ≡ refusals.NoMemory

-- a text that is due: an inner node's, or a leaf's that is read up to its first row
abbrev pub BeginsAtOnce : Walk → TakenText → Option (List ℕ × List ℕ × ℕ) → Type 0
BeginsAtOnce w t None = IsDue w t × (t.node.depth < tree_depth w.own.format) × IsInnerText w.own.format t.text
BeginsAtOnce w t (Some p) = IsDue w t × (t.node.depth ≡ tree_depth w.own.format) × IsReadTo w.own t.node t.text p.0 p.1 [] p.2
