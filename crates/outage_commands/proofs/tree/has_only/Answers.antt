use Rattle.std.proofs.Common.{Some, ap, ◌∙◌, map}
use Rattle.json.specs.Value.{members_view}
use Rattle.serde_json.specs.Data.{no_members}
use Rattle.outage_commands.specs.Reading.{only_named}
use Rattle.outage_commands.specs.Trees.{members_data}
use Rattle.outage_commands.proofs.TreeLemmas.{only_among}
use Rattle.outage_commands.proofs.tree.has_only.Goals as goal

pub returns-in-Some : goal.returns-in-Some
returns-in-Some c =
    c.are_among.ensures ∙ only_among c.args.names.now c.deref.result.now
    ∙ ap (λ ms. only_named (map (λ n. n.now) c.args.names.now) (Some (members_data (members_view ms) no_members))) c.deref.ensures.value
    ∙ ap (only_named (map (λ n. n.now) c.args.names.now)) c.in-Some.ensures
