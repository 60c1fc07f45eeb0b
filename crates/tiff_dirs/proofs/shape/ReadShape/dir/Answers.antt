use Rattle.tiff_dirs.proofs.shape.ReadShape.dir.Goals as goal

pub invariant_of-result : goal.invariant_of-result
invariant_of-result c =
    record { shape_in = c.args.self.now.shape_in; offsets_in = c.requires }
