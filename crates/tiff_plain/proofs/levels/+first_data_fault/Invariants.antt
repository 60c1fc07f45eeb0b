use Rattle.tiff_plain.proofs.levels.+first_data_fault.Given as goal

abbrev pub decreases-first_data_fault : goal.decreases-first_data_fault
decreases-first_data_fault l = l.n
