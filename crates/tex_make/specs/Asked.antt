-- How do contracts see what is asked for?
use Rattle.tex_make.specs.declared.asked.Asked.{Asked}
use Rattle.tex_make.specs.Words.{Wanted}

-- the fields as plain data
abbrev pub shown_asked : Asked → Wanted
shown_asked asked = record { path = asked.path.now; name = asked.name.now; side = asked.side }
