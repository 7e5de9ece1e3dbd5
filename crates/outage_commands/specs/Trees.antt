-- The value of a line's tree, which is the one that serde_json reads: an object has each name once, in order, and keeps
-- the last value of a name that is there twice.
use Rattle.std.specs.Prelude.{ℕ, negsuc, List, Bool, true, ◌&&◌, Option, is_some, unwrap_or, option_and_then}
use Rattle.json.specs.Json as json
use Rattle.json.specs.Value.{value_view}
use Rattle.json.specs.declared.value.Value.{Value}
use Rattle.serde_json.specs.Data.{Num, negative, Data, null, boolean, number, string, array, object, Items, no_items, item, Members, no_members, put}
use Rattle.serde_json.specs.Find.{as_u64}
use Rattle.serde_json.specs.Read as serde

-- the number of a text; one that is out of range for serde_json is -1, which no command has
abbrev pub num_of : List ℕ → Num
num_of text = unwrap_or (serde.number_of text) (negative (negsuc 0))

abbrev mutual
  pub data_of : json.Json → Data
  data_of json.null = null
  data_of (json.boolean b) = boolean b
  data_of (json.number text) = number (num_of text)
  data_of (json.string text) = string text
  data_of (json.array js) = array (items_data js)
  data_of (json.object ms) = object (members_data ms no_members)

  pub items_data : json.Items → Items
  items_data json.no_items = no_items
  items_data (json.item j js) = item (data_of j) (items_data js)

  -- the members are put in order
  pub members_data : json.Members → Members → Members
  members_data json.no_members found = found
  members_data (json.member name j ms) found = members_data ms (put name (data_of j) found)

-- a whole number, without sign, point or exponent, below 2^64
abbrev pub whole_of : List ℕ → Option ℕ
whole_of text = option_and_then as_u64 (serde.number_of text)

-- each number is whole and below 2^64
abbrev mutual
  pub is_whole : json.Json → Bool
  is_whole json.null = true
  is_whole (json.boolean b) = true
  is_whole (json.number text) = is_some (whole_of text)
  is_whole (json.string text) = true
  is_whole (json.array js) = items_are_whole js
  is_whole (json.object ms) = members_are_whole ms

  pub items_are_whole : json.Items → Bool
  items_are_whole json.no_items = true
  items_are_whole (json.item j js) = is_whole j && items_are_whole js

  pub members_are_whole : json.Members → Bool
  members_are_whole json.no_members = true
  members_are_whole (json.member name j ms) = is_whole j && members_are_whole ms

-- the value of a tree
abbrev pub seen : {A : Type 0} → Value A → Data
seen v = data_of (value_view v)
