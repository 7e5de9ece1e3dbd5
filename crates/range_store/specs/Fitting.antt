-- Versions that a range accepts unless its journal is full.
use Rattle.std.specs.Prelude.{◌≡◌, ℕ, false, List, Option, None}
use Rattle.vclock.specs.Answer.{first_fault}
use Rattle.vclock.specs.Clock.{Pairs}
use Rattle.vclock.specs.declared.refusal.Refusal.{Refusal}
use Rattle.vclock.specs.declared.format.Format.TheVariants.{Two}
use Rattle.version_set.specs.Version.{offer_fault}
use Rattle.version_set.specs.declared.kind.Kind.{Kind}
use Rattle.version_set.specs.declared.version.Version.{Version}
use Rattle.key_ring.specs.Places.{leaf_at}
use Rattle.range_journal.specs.Journal.{held}
use Rattle.range_store.specs.ContextTests.{context_fault}
use Rattle.range_store.specs.Store.{Store, place_fault, ask_fault, put_version, knows}
use Rattle.range_store.specs.declared.context_test.ContextTest.{ContextTest}

-- a version whose key has that leaf in format 2 and has its place in the range, is not known, and is not refused as
-- Crowded
pub record IsFitting (s : Store) (leaf : ℕ) (key : List ℕ) (v : Version) : Type 0 where
  pub leaf_is : leaf ≡ leaf_at Two s.config.bits key
  pub here : place_fault s.config key v.kind v.value ≡ None
  pub news : knows s key v ≡ false
  pub fits : offer_fault v (held s.entries key) ≡ None

-- the fault of a put by a test of its context, apart from a full journal
abbrev pub made_fault : ContextTest → Store → ℕ → List ℕ → Pairs → Kind → List ℕ → Option Refusal
made_fault test s at key context kind value = first_fault (ask_fault s.config at key context kind value) (first_fault (context_fault test (held s.entries key) at context) (offer_fault (put_version at context kind value) (held s.entries key)))

-- the fault of a version that another node sent, if it is not known, apart from a full journal
abbrev pub sent_fault : Store → List ℕ → Version → Option Refusal
sent_fault s key v = first_fault (place_fault s.config key v.kind v.value) (offer_fault v (held s.entries key))
