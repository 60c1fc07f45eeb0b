use Rattle.render_run.specs.RunError.{ending_text}
use Rattle.render_run.proofs.top.put_ending.Goals as goal

pub returns-in-BadWords : goal.returns-in-BadWords
unfolding ending_text
returns-in-BadWords g c = rw c.in-BadWords.is c.put_status.ensures

pub returns-in-FolderFault : goal.returns-in-FolderFault
unfolding ending_text
returns-in-FolderFault g c = rw c.in-FolderFault.is c.put_status-in-FolderFault.ensures

pub returns-in-TooManyFiles : goal.returns-in-TooManyFiles
unfolding ending_text
returns-in-TooManyFiles g c = rw c.in-TooManyFiles.is c.put_status-in-TooManyFiles.ensures

pub returns-in-ListFault : goal.returns-in-ListFault
unfolding ending_text
returns-in-ListFault g c = rw c.in-ListFault.is c.put_status-in-ListFault.ensures
