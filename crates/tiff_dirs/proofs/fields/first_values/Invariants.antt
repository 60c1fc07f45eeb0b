use Rattle.std.proofs.Common.{◌≡◌, ℕ, ◌<◌, get_or, length}
use Rattle.std.specs.Option.{ForSome}
use Rattle.tiff_format.specs.declared.form.Form.{Form}
use Rattle.tiff_entries.specs.declared.tag.TheConstants.{NUMBER_COUNT, NUMBERS}
use Rattle.tiff_format.specs.Field.{field_value}
use Rattle.tiff_entries.specs.Entries.{HasEntries}
use Rattle.tiff_dirs.proofs.fields.first_values.Given as goal

abbrev pub invariant-loop-i : goal.invariant-loop-i
invariant-loop-i g l = record {
  long : length l.values ≡ NUMBER_COUNT;
  keeps : g.B.ByteReader.keeps l.fn.b l.b;
  told : ForSome (g.B.ByteReader.bytes l.fn.b)
      (λ bytes. (form : Form) (at : ℕ) → HasEntries form bytes at l.found.entries → (i : ℕ)
      → i < l.i → get_or l.values i 0 ≡ field_value form bytes at (get_or NUMBERS i 0));
}
