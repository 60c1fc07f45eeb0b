-- How large the parts of a file can be.
use Rattle.std.proofs.Common.{◌≡◌, ◌+◌, ◌≤◌, Bool, true, false, cond, refl, lit≤}
use Rattle.tiff_format.specs.declared.form.Form.{Form}
use Rattle.tiff_format.specs.Form.{header_bytes, count_bytes, entry_bytes, offset_bytes}
use Rattle.tiff_format.specs.Form.{value_field_at}

-- offsets are wide or not
record AreSizesBy (wide : Bool) : Type 0 where
  low_header : 8 ≤ cond wide 16 8
  header : cond wide 16 8 ≤ 16
  low_count : 2 ≤ cond wide 8 2
  count : cond wide 8 2 ≤ 8
  low_entry : 12 ≤ cond wide 20 12
  entry : cond wide 20 12 ≤ 20
  low_offset : 4 ≤ cond wide 8 4
  offset : cond wide 8 4 ≤ 8
  value : 4 + cond wide 8 4 + cond wide 8 4 ≡ cond wide 20 12

sizes_by : (wide : Bool) → AreSizesBy wide
sizes_by true = record {
  low_header = lit≤ tt;
  header = lit≤ tt;
  low_count = lit≤ tt;
  count = lit≤ tt;
  low_entry = lit≤ tt;
  entry = lit≤ tt;
  low_offset = lit≤ tt;
  offset = lit≤ tt;
  value = refl;
}
sizes_by false = record {
  low_header = lit≤ tt;
  header = lit≤ tt;
  low_count = lit≤ tt;
  count = lit≤ tt;
  low_entry = lit≤ tt;
  entry = lit≤ tt;
  low_offset = lit≤ tt;
  offset = lit≤ tt;
  value = refl;
}

pub record AreSizes (form : Form) : Type 0 where
  pub low_header : 8 ≤ header_bytes form
  pub header : header_bytes form ≤ 16
  pub low_count : 2 ≤ count_bytes form
  pub count : count_bytes form ≤ 8
  pub low_entry : 12 ≤ entry_bytes form
  pub entry : entry_bytes form ≤ 20
  pub low_offset : 4 ≤ offset_bytes form
  pub offset : offset_bytes form ≤ 8
  -- the values come after their number, at the end of the entry
  pub value : value_field_at form + offset_bytes form ≡ entry_bytes form

pub sizes : (form : Form) → AreSizes form
sizes form =
    let s = sizes_by form.wide in
    record {
      low_header = s.low_header;
      header = s.header;
      low_count = s.low_count;
      count = s.count;
      low_entry = s.low_entry;
      entry = s.entry;
      low_offset = s.low_offset;
      offset = s.offset;
      value = s.value;
    }
