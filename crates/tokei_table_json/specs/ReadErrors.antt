-- What a text that can't be read says of a table.
use Rattle.tokei_json_tree.specs.declared.reading.ReadError.{ReadError}
use Rattle.tokei_json_tree.specs.declared.reading.ReadError.TheVariants as refused
use Rattle.tokei_table_json.specs.declared.error.TableError.{TableError}
use Rattle.tokei_table_json.specs.declared.error.TableError.TheVariants as cause

-- The cause for which the table is refused.
abbrev pub table_error : ReadError → TableError
table_error refused.NotJson = cause.NotJson
table_error refused.Memory = cause.Memory
