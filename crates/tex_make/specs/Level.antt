-- How do contracts see a level?
use Rattle.tex_make.specs.declared.level.Level.{Level}
use Rattle.tex_make.specs.PlainLevel.{PlainLevel, plain_level}

-- the fields as plain data
abbrev pub shown : Level → PlainLevel
shown level =
    plain_level level.width level.height level.channels level.depth level.samples.items
