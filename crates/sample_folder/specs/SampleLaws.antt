-- Why does the folder of the sample files have exactly these once it is entered?
use Rattle.std.proofs.Common.{arith, lit≤}
use Rattle.tex_world.specs.Folder.{IsFolder}
use Rattle.tex_world.specs.FolderLaws.{few_files, numbered, unnumbered, unnamed}
use Rattle.tex_world.specs.Names.{name_at}
use Rattle.sample_folder.specs.Sample.{sample_count, sample_names, sample_len_of, sample_byte}
use Rattle.sample_folder.specs.SampleFolder.{sample_folder}
use Rattle.tex_world.specs.Table.{table_files}
use Rattle.sample_folder.specs.declared.sample_folder.SampleFolder.{SampleFolder}

-- it obeys the laws of a folder
pub sample_is_lawful : (folder : SampleFolder) → IsFolder
    (table_files sample_count (name_at sample_names) sample_len_of (λ n g at. sample_byte n at))
    (sample_folder folder)
sample_is_lawful folder = record {
  few = few_files sample_count (name_at sample_names) (lit≤ tt) folder.entered;
  before = grind arith;
  told = grind arith;
  numbered = λ wanted n found.
      (numbered sample_count (name_at sample_names) folder.entered wanted n found).0;
  unnumbered = λ before.
      unnumbered sample_count (name_at sample_names) folder.entered (grind arith);
  named = λ _ wanted n found.
      (numbered sample_count (name_at sample_names) folder.entered wanted n found).1;
  unnamed = λ entered _.
      unnamed sample_count (name_at sample_names) folder.entered (grind arith);
}
