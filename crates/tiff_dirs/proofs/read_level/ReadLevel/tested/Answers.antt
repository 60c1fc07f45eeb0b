use Rattle.tiff_dirs.specs.ReadLevel.{seen_level}
use Rattle.tiff_dirs.proofs.Ends.{has_offsets}
use Rattle.tiff_dirs.proofs.read_level.ReadLevel.tested.Goals as goal

pub dir-requires : goal.dir-requires
dir-requires c =
    let none = rw c.deref.ensures.value at c.in_default.ensures in
    has_offsets c.args.self.next.form c.args.file (seen_level c.args.self) c.ranges.file.fits
    c.args.self.count_in none
