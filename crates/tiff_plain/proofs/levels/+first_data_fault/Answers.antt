-- The first level's fault, or else that of the others.
use Rattle.std.proofs.Common.{ℕ, ◌-◌, Option, refl, arith}
use Rattle.tiff_format.specs.declared.fault.TiffFault.{TiffFault}
use Rattle.tiff_format.specs.DirectoryFault.{data_fault}
use Rattle.tiff_format.specs.Form.{form_of}
use Rattle.tiff_format.specs.Level.{directory_level}
use Rattle.tiff_plain.proofs.FindLemmas.{first_of_more}
use Rattle.tiff_plain.proofs.LevelLemmas.{stored_has_shape}
use Rattle.tiff_plain.proofs.levels.+first_data_fault.Goals as goal

pub returns-else-n-eq0 : goal.returns-else-n-eq0
unfolding directory_level
returns-else-n-eq0 t c =
    let fault : ℕ → Option TiffFault =
    λ k. data_fault (form_of c.args.bytes.now) c.args.bytes.now k (directory_level c.args.bytes.now k) in
    rw (
      first_of_more fault c.args.k c.args.n (c.args.n - 1) (omega arith),
      c.or.ensures,
      c.data_fault-fault.ensures.value,
      c.first_data_fault.ensures,
      c.form_of.ensures.value,
      c.level_place.ensures.value,
    ) refl

pub data_fault-fault-requires : goal.data_fault-fault-requires
data_fault-fault-requires t c =
    rw (c.form_of.ensures.value, c.level_place.ensures.value)
    (stored_has_shape c.args.bytes.now c.args.k c.requires.good
    (omega (arith, c.requires.stored, c.if-n-eq0.false)))
