-- Which bytes has the text of a name?
use Rattle.std.specs.Prelude.{ℕ, List}
use Rattle.std.specs.String.{string_bytes}
use Rattle.request_lang.specs.declared.request.NameText.{NameText}
use Rattle.request_lang.specs.declared.request.NameText.TheVariants.{Short, Long}

-- the bytes stored in place, or those of a string
abbrev pub bytes_of : NameText → List ℕ
bytes_of (Short bytes) = bytes
bytes_of (Long text) = string_bytes text
