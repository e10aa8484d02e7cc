-- The data of bytes.
use Rattle.std.specs.Prelude.{ℕ, List, Option, None, if◌then◌else◌}
use Rattle.std.specs.Str.{is_utf8}
use Rattle.serde_json.specs.Data.{Data}
use Rattle.serde_json.specs.Read.{read}

-- The JSON value of the bytes, which are UTF-8.
unfoldable pub data_of_bytes : List ℕ → Option Data
data_of_bytes bytes = if is_utf8 bytes then read bytes else None
