use Rattle.tiff_plain.proofs.directories.+directory_place.Given as goal

abbrev pub decreases-directory_place : goal.decreases-directory_place
decreases-directory_place l = l.k
