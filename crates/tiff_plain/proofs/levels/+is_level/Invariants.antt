use Rattle.tiff_plain.proofs.levels.+is_level.Given as goal

abbrev pub decreases-is_level : goal.decreases-is_level
decreases-is_level l = l.k
