-- The commands of lines.
use Rattle.std.specs.Prelude.{ℕ, ◌^◌, nat_lt, List, [], ◌∷◌, codes, if◌then◌else◌, Option, Some, None, option_map, option_and_then}
use Rattle.std.specs.Str.{bytes_eq}
use Rattle.serde_json.specs.Data.{Data}
use Rattle.serde_json.specs.Find.{as_str}
use Rattle.outage_commands.specs.declared.command.Command.{Command}
use Rattle.outage_commands.specs.declared.command.Command.TheVariants as Commands
use Rattle.outage_commands.specs.declared.command.Get.{Get}
use Rattle.outage_commands.specs.declared.command.NewRing.{NewRing}
use Rattle.outage_commands.specs.declared.command.NewSample.{NewSample}
use Rattle.outage_commands.specs.declared.command.Put.{Put}
use Rattle.outage_commands.specs.declared.command.Rehash.{Rehash}
use Rattle.outage_commands.specs.declared.command.ShowNode.{ShowNode}
use Rattle.outage_commands.specs.declared.command.SlotCommand.{SlotCommand}
use Rattle.outage_commands.specs.declared.command.SlotCommand.TheVariants.{Lend, Back, Target, Adjust}
use Rattle.outage_commands.specs.declared.command.SyncFrom.{SyncFrom}
use Rattle.outage_commands.specs.Reading.{◌>>=◌, ◌>>◌, has_only, number_of, bytes_of, numbers_of, pairs_of, payload_of, member_of, default_of, maybe_of, sole_member}

-- the ring of these members, if no other is present
unfoldable pub ring_of : Data → Option NewRing
ring_of d = do
  has_only (codes "bits" ∷ codes "copies" ∷ codes "nodes" ∷ codes "limit" ∷ codes "format" ∷ []) d
  bits ← member_of number_of (codes "bits") d
  copies ← member_of number_of (codes "copies") d
  nodes ← member_of numbers_of (codes "nodes") d
  limit ← default_of 1000000 number_of (codes "limit") d
  format ← default_of 1 number_of (codes "format") d
  Some (record { bits = bits; copies = copies; nodes = nodes; limit = limit; format = format })

-- the put of these members, if no other is present
unfoldable pub put_of : Data → Option Put
put_of d = do
  has_only (codes "node" ∷ codes "key" ∷ codes "context" ∷ codes "value" ∷ codes "lose" ∷ []) d
  node ← member_of number_of (codes "node") d
  key ← member_of bytes_of (codes "key") d
  context ← member_of pairs_of (codes "context") d
  payload ← member_of payload_of (codes "value") d
  lose ← default_of [] numbers_of (codes "lose") d
  Some (record { node = node; key = key; context = context; kind = payload.0; value = payload.1; lose = lose })

-- the get or row of these members, if no other is present
unfoldable pub get_of : Data → Option Get
get_of d = do
  has_only (codes "node" ∷ codes "key" ∷ []) d
  node ← member_of number_of (codes "node") d
  key ← member_of bytes_of (codes "key") d
  Some (record { node = node; key = key })

-- the rehash of these members, if no other is present
unfoldable pub rehash_of : Data → Option Rehash
rehash_of d = do
  has_only (codes "node" ∷ codes "range" ∷ []) d
  node ← member_of number_of (codes "node") d
  range ← member_of number_of (codes "range") d
  Some (record { node = node; range = range })

-- the sync of these members, if no other is present
unfoldable pub sync_of : Data → Option SyncFrom
sync_of d = do
  has_only (codes "from" ∷ codes "node" ∷ codes "range" ∷ []) d
  from ← member_of number_of (codes "from") d
  node ← member_of number_of (codes "node") d
  range ← member_of number_of (codes "range") d
  Some (record { from = from; node = node; range = range })

-- the node of a tree of these members, if no other is present
unfoldable pub node_of : Data → Option ShowNode
node_of d = do
  has_only (codes "node" ∷ codes "range" ∷ codes "depth" ∷ codes "index" ∷ []) d
  node ← member_of number_of (codes "node") d
  range ← member_of number_of (codes "range") d
  depth ← member_of number_of (codes "depth") d
  index ← member_of number_of (codes "index") d
  Some (record { node = node; range = range; depth = depth; index = index })

-- the node of a command that has no other member
unfoldable pub sole_node_of : Data → Option ℕ
sole_node_of d = has_only (codes "node" ∷ []) d >> member_of number_of (codes "node") d

-- the command for the slots of a word without a number
abbrev pub plain_slot : List ℕ → Option SlotCommand
plain_slot word = if bytes_eq word (codes "lend") then Some Lend else if bytes_eq word (codes "back") then Some Back else None

-- the command for the slots of a word with a number
abbrev pub numbered_slot : ℕ → List ℕ → Option SlotCommand
numbered_slot n word = if bytes_eq word (codes "target") then Some (Target n) else if bytes_eq word (codes "adjust") then Some (Adjust n) else None

-- the command for the slots of a word, with the number or without
abbrev pub slot_named : List ℕ → Option ℕ → Option SlotCommand
slot_named word None = plain_slot word
slot_named word (Some n) = numbered_slot n word

-- the command for the slots of these members, if no other is present
unfoldable pub slot_of : Data → Option SlotCommand
slot_of d = do
  has_only (codes "do" ∷ codes "n" ∷ []) d
  word ← member_of as_str (codes "do") d
  n ← maybe_of number_of (codes "n") d
  slot_named word n

-- a number below 2^32
abbrev pub short_number_of : Data → Option ℕ
short_number_of d = option_and_then (λ n. if nat_lt n (2 ^ 32) then Some n else None) (number_of d)

-- the sample of these members, if no other is present
unfoldable pub sample_of : Data → Option NewSample
sample_of d = do
  has_only (codes "at" ∷ codes "micros" ∷ []) d
  moment ← member_of number_of (codes "at") d
  micros ← member_of short_number_of (codes "micros") d
  Some (record { moment = moment; micros = micros })

-- a command's name, and the reading of its members
abbrev pub Form : Type 0
Form = List ℕ × (Data → Option Command)

-- the commands that touch no key
abbrev pub other_forms : List Form
other_forms =
    (codes "down", λ d. option_map Commands.Down (sole_node_of d))
    ∷ (codes "up", λ d. option_map Commands.Up (sole_node_of d))
    ∷ (codes "deliver", λ d. option_map Commands.Deliver (sole_node_of d))
    ∷ (codes "rehash", λ d. option_map Commands.Rehash (rehash_of d))
    ∷ (codes "sync", λ d. option_map Commands.Sync (sync_of d))
    ∷ (codes "node", λ d. option_map Commands.Node (node_of d))
    ∷ (codes "slot", λ d. option_map Commands.Slot (slot_of d))
    ∷ (codes "sample", λ d. option_map Commands.Sample (sample_of d))
    ∷ []

-- all commands
abbrev pub forms : List Form
forms =
    (codes "ring", λ d. option_map Commands.Ring (ring_of d))
    ∷ (codes "put", λ d. option_map Commands.Put (put_of d))
    ∷ (codes "get", λ d. option_map Commands.Get (get_of d))
    ∷ (codes "row", λ d. option_map Commands.Row (get_of d))
    ∷ other_forms

-- the command of a name, of these, with its members
abbrev pub named : List Form → List ℕ × Data → Option Command
named [] m = None
named (form ∷ more) m = if bytes_eq m.0 form.0 then form.1 m.1 else named more m

-- an object of one member, which is named as a command
unfoldable pub command_of : Data → Option Command
command_of d = option_and_then (named forms) (sole_member d)
