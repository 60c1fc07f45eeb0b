-- Which exit status does each ending have?
use Rattle.std.specs.Prelude.{ℕ}
use Rattle.tex_make.specs.declared.ending.MakeError.{MakeError}
use Rattle.tex_make.specs.declared.ending.MakeError.TheVariants.{Failed, NoMemory, NoSuchFile}
use Rattle.tex_make.specs.declared.ending.MakeError.TheVariants.{BadFile, TooLarge, Gone, TooMany}
use Rattle.tex_make.specs.Status as status

abbrev pub status_of : MakeError → ℕ
status_of Failed = status.folder_fault
status_of NoMemory = status.no_memory
status_of NoSuchFile = status.no_such_file
status_of BadFile = status.bad_file
status_of TooLarge = status.too_large
status_of Gone = status.gone
status_of TooMany = status.too_many
