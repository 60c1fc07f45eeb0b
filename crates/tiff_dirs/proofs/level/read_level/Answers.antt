use Rattle.tiff_dirs.specs.Shape.{seen_shape}
use Rattle.tiff_dirs.proofs.Blocks.{level_is}
use Rattle.tiff_dirs.proofs.level.read_level.Goals as goal

pub returns-clause-told : goal.returns-clause-told
returns-clause-told g c = λ bytes is form at directory shape.
    let offsets = c.in_ok-offsets.ensures.told bytes is form at directory.entries shape in (
      offsets.0,
      record {
        link = directory.link;
        level = level_is form bytes at (seen_shape c.args.shape) c.in_ok-offsets.offsets.items
            shape offsets.1;
      },
    )
