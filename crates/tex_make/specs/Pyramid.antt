-- How do contracts see an image in memory?
use Rattle.std.specs.Prelude.{map}
use Rattle.tex_make.specs.declared.picture.Pyramid.{Pyramid}
use Rattle.tex_make.specs.Picture.{Picture}
use Rattle.tex_make.specs.PlainLevel.{picture_in}
use Rattle.tex_make.specs.Level.{shown}

-- the image made of its levels
abbrev pub seen : Pyramid → Picture
seen pyramid = picture_in (map shown pyramid.levels.items) pyramid.rgb
