-- The tests of a put's context, and the put that checks what its client has read. The context has the clocks that the
-- client has read (section 4.4 of the Dynamo paper).
use Rattle.std.specs.Prelude.{ℕ, Bool, nat_lt, List, map, Option, Some, None, if◌then◌else◌}
use Rattle.std.specs.List.{list_any}
use Rattle.vclock.specs.Clock.{at_most, counter, raised, Pairs}
use Rattle.vclock.specs.Outcome.{Outcome, ◌>>◌}
use Rattle.vclock.specs.declared.refusal.Refusal.{Refusal}
use Rattle.vclock.specs.declared.refusal.Refusal.TheVariants.{StaleContext}
use Rattle.version_set.specs.declared.kind.Kind.{Kind}
use Rattle.version_set.specs.declared.version.Version.{Version}
use Rattle.range_journal.specs.declared.journal.Entry.{Entry}
use Rattle.range_journal.specs.Journal.{held}
use Rattle.range_store.specs.declared.context_test.ContextTest.{ContextTest}
use Rattle.range_store.specs.declared.context_test.ContextTest.TheVariants.{Fresh, Read}
use Rattle.range_store.specs.Store.{Store, ask_fault, put}

-- the fault of a context whose client has not read all that the node put: some held version has a greater counter of
-- the node
abbrev pub unread_fault : List Version → ℕ → Pairs → Option Refusal
unread_fault versions at context = if list_any (λ v. nat_lt (counter context at) (counter v.clock at)) versions then Some (StaleContext (map (λ v. v.clock) versions)) else None

-- a put that is refused, too, if its client has not read all that the node put
abbrev pub put_read : Store → ℕ → ℕ → List ℕ → Pairs → Kind → List ℕ → Outcome Entry Store
put_read s seat at key context kind value = do
  ask_fault s.config at key context kind value
  unread_fault (held s.entries key) at context
  put s seat at key context kind value

-- a context fails a test: some held version has seen all of the raised clock, or has a greater counter of the node
abbrev pub fails : ContextTest → List Version → ℕ → Pairs → Bool
fails Fresh versions at context = list_any (λ v. at_most (raised context at) v.clock) versions
fails Read versions at context = list_any (λ v. nat_lt (counter context at) (counter v.clock at)) versions

-- the fault of a context by a test
abbrev pub context_fault : ContextTest → List Version → ℕ → Pairs → Option Refusal
context_fault test versions at context = if fails test versions at context then Some (StaleContext (map (λ v. v.clock) versions)) else None

-- the put whose context is tested this way
abbrev pub put_by : ContextTest → Store → ℕ → ℕ → List ℕ → Pairs → Kind → List ℕ → Outcome Entry Store
put_by Fresh s seat at key context kind value = put s seat at key context kind value
put_by Read s seat at key context kind value = put_read s seat at key context kind value
