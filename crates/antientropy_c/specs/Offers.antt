-- Publications: snapshots in handles of C.
use Rattle.std.specs.Prelude.{◌≡◌, ℕ, Bool, Option}
use Rattle.vclock.specs.declared.refusal.Refusal.{Refusal}
use Rattle.snapshot.specs.RowMaps.{RowMap}
use Rattle.antientropy_c.specs.Calls.{ReadsOn}
use Rattle.antientropy_c.specs.Makes.{MakesIn}
use Rattle.c_calls.specs.Published.{Shown}
use Rattle.antientropy_c.specs.declared.publication.Publication.{Publication}
use Rattle.antientropy_c.specs.declared.publication_share.PublicationShare.{PublicationShare}

abbrev pub shown_in : Publication → Bool × Shown
shown_in h = (h.held, h.shown)

-- a call that reads a publication
abbrev pub Shows : ℕ → PublicationShare → PublicationShare → Type 0 → (Shown → Type 0) → Type 0
Shows code old new Same Right = ReadsOn code old new old.held old.shown Same Right

-- a call that reads the rows of a publication
abbrev pub ShowsRows : ℕ → PublicationShare → PublicationShare → Type 0 → (RowMap → Type 0) → Type 0
ShowsRows code old new Same Right = Shows code old new Same (λ m. Right m.rows)

-- a full publication is unchanged, and HELD is returned; otherwise the rows are published
abbrev pub Publishes : ℕ → Publication → Publication → Option Refusal → Shown → Type 0
Publishes code old new cause m = MakesIn code (shown_in old) (shown_in new) cause (λ x. x ≡ m)
