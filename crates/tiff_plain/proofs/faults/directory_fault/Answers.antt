use Rattle.std.proofs.Common.{◌≡◌, None, Some, refl, sym, ◌∙◌}
use Rattle.tiff_format.specs.DirectoryFault.{outside_fault}
use Rattle.tiff_plain.specs.Fault.{fields_fault}
use Rattle.tiff_plain.proofs.ShapeLemmas.{directory_is, good_shape}
use Rattle.tiff_plain.proofs.faults.directory_fault.Goals as goal

pub returns-in-Some : goal.returns-in-Some
returns-in-Some c =
    let form = c.args.form in
    let bytes = c.args.bytes.now in
    let at = c.args.at in
    let outside : outside_fault form bytes at ≡ Some c.in-Some.fault =
    sym c.outside_fault.ensures ∙ c.in-Some.is in
    record { value = rw (directory_is form bytes at, outside) refl }

pub returns-in-Some-fields_fault : goal.returns-in-Some-fields_fault
returns-in-Some-fields_fault c =
    let form = c.args.form in
    let bytes = c.args.bytes.now in
    let at = c.args.at in
    let outside : outside_fault form bytes at ≡ None =
    sym c.outside_fault.ensures ∙ c.in_default.is in
    let fields : fields_fault form bytes at ≡ Some c.in-Some-fields_fault.fault =
    sym c.fields_fault.ensures ∙ c.in-Some-fields_fault.is in
    record { value = rw (directory_is form bytes at, outside, fields) refl }

pub count_fault-requires : goal.count_fault-requires
count_fault-requires c = good_shape c.args.form c.args.bytes.now c.args.at
    (sym c.fields_fault.ensures ∙ c.in_default-fields_fault.is)

pub returns : goal.returns
returns c =
    let form = c.args.form in
    let bytes = c.args.bytes.now in
    let at = c.args.at in
    let outside : outside_fault form bytes at ≡ None =
    sym c.outside_fault.ensures ∙ c.in_default.is in
    let fields : fields_fault form bytes at ≡ None =
    sym c.fields_fault.ensures ∙ c.in_default-fields_fault.is in
    record { value = rw (directory_is form bytes at, outside, fields) c.count_fault.ensures }
