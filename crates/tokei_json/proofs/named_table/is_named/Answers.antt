-- Of a table, in which no text names two languages, a language that has the name is the first that has it.
use Rattle.std.proofs.Common.{◌≡◌, ◌<◌, length, rules, true, sym, ◌∙◌}
use Rattle.tokei_table.specs.Lookups.{has_name, row_at}
use Rattle.tokei_json.proofs.Names.{named}
use Rattle.tokei_json.proofs.named_table.is_named.Goals as goal

pub returns : goal.returns
returns c =
    let rows = c.args.table.now in
    let within : c.args.language < length rows = search rules in
    record {
      named = λ t.
          let has : has_name c.args.name.now (row_at rows c.args.language) ≡ true = sym c.has_name.ensures ∙ t in
          named rows c.args.language c.args.name.now within c.len.ensures.well_formed.named_once has;
      of_table = λ t. within;
    }
