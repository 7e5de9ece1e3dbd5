-- The members of answers in the code, and the tokens of their text. (No clause of a public call uses these.)
use Rattle.std.specs.Prelude.{List}
use Rattle.json.specs.Token.{Token}
use Rattle.json.specs.Tree.{json_tokens}
use Rattle.serde_json.specs.Data.{Data, null, boolean, string}
use Rattle.serde_json.specs.Written.{outline}
use Rattle.outage_script.specs.Answers.{number_data, clock_data, bytes_data, list_data, version_data}
use Rattle.outage_script.specs.declared.part.Part.{Part}
use Rattle.outage_script.specs.declared.part.Part.TheVariants.{Null, Flag, Number, Text, Bytes, Clock, Clocks, Versions}

-- the value of an answer's member
abbrev pub part_data : Part → Data
part_data Null = null
part_data (Flag b) = boolean b
part_data (Number n) = number_data n
part_data (Text text) = string text.now
part_data (Bytes bytes) = bytes_data bytes.now
part_data (Clock clock) = clock_data clock.now
part_data (Clocks clocks) = list_data clock_data clocks.now
part_data (Versions versions) = list_data version_data versions.now

-- the tokens of a value's text
abbrev pub tokens_of : Data → List Token
tokens_of d = json_tokens (outline d)
