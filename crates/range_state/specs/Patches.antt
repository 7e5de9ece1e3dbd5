-- Outlines and patches of a session: the outline of an outstanding node, and the text that a patch makes.
use Rattle.std.specs.Prelude.{◌≡◌, ℕ, List, Option, Some, None, Result, Err, MatchOption, if◌then◌else◌}
use Rattle.vclock.specs.Answer.{first_fault}
use Rattle.vclock.specs.declared.refusal.Refusal.{Refusal}
use Rattle.vclock.specs.declared.refusal.Refusal.TheVariants.{UnknownSession, NotAsked}
use Rattle.tree_nodes.specs.Nodes.{Node, contains_node}
use Rattle.snapshot.specs.RowMaps.{RowMap}
use Rattle.walk_messages.specs.declared.message.Ask.{Ask}
use Rattle.sync_session.specs.Walks.{Walk, expected}
use Rattle.text_patch.specs.Marks.{width_fault, marks_of}
use Rattle.text_patch.specs.Messages.{outline_text}
use Rattle.text_patch.specs.Parts.{parts_at}
use Rattle.text_patch.specs.Patches.{Rebuilds}
use Rattle.range_state.specs.declared.«record».Record.{Record}
use Rattle.range_state.specs.Records.{record_of}
use Rattle.range_state.specs.State.{State}

-- the fault of a node that isn't outstanding in a session
abbrev pub asked_in : Walk → Node → Option Refusal
asked_in w n = if contains_node n w.outstanding then None else Some NotAsked

-- the same for the session of a record, if any
abbrev pub asked_for : Option Record → Node → Option Refusal
asked_for None n = Some UnknownSession
asked_for (Some r) n = asked_in r.session n

-- the same for the session with a number
abbrev pub asked_fault : State → ℕ → Node → Option Refusal
asked_fault s id n = asked_for (record_of id s.records) n

-- the fault of an outline: its width is tested first
abbrev pub outline_fault : State → ℕ → Node → ℕ → Option Refusal
outline_fault s id n width = first_fault (width_fault width) (asked_fault s id n)

-- bytes are an outline of a node: it asks for the node, and has marks of the node's parts in the local snapshot, salted
-- with the digest that the session expects there
pub record IsOutline (w : Walk) (ask : Ask) (width : ℕ) (bytes : List ℕ) : Type 0 where
  pub salt : List ℕ
  pub expects : expected w.root w.taken ask.node ≡ Some salt
  pub bytes_are : bytes ≡ outline_text ask (marks_of salt width (parts_at w.own ask.node))

-- the same for the session with a number
abbrev pub IsOutlineFor : State → ℕ → Ask → ℕ → List ℕ → Type 0
IsOutlineFor s id ask width bytes = MatchOption (record_of id s.records) ⊥ (λ r. IsOutline r.session ask width bytes)

-- the result of a patch's steps for a node: a cause that is tested before, or the text that they make from the node's
-- parts
abbrev pub RebuildsUnless : Option Refusal → RowMap → Node → List ℕ → Result (List ℕ) Refusal → Type 0
RebuildsUnless (Some e) own n steps result = result ≡ Err e
RebuildsUnless None own n steps result = Rebuilds own n steps result

-- the same for a record, if any
abbrev pub PatchesFor : Option Record → Node → List ℕ → Result (List ℕ) Refusal → Type 0
PatchesFor None n steps result = result ≡ Err UnknownSession
PatchesFor (Some r) n steps result = RebuildsUnless (asked_in r.session n) r.session.own n steps result

-- the same for the session with a number
abbrev pub Patches : State → ℕ → Node → List ℕ → Result (List ℕ) Refusal → Type 0
Patches s id n steps result = PatchesFor (record_of id s.records) n steps result
