use Rattle.std.proofs.Common.{◌≡◌, true, false, ◌∙◌, sym, arith, refl}
use Rattle.tiff_format.specs.Bytes.{version, has_wide_offsets, tiff_version, wide_version}
use Rattle.tiff_entries.proofs.Shown.{mark_is, narrow_is_good, version_is, wide_is_short, unsaid_is}
use Rattle.tiff_entries.proofs.Shown.{wide_is_good, version_of_part, form_is}
use Rattle.tiff_entries.proofs.header.form_of_head.Goals as goal

pub returns-in_default-clause-told : goal.returns-in_default-clause-told
returns-in_default-clause-told c = λ bytes part long.
    mark_is bytes (omega (arith, long, c.requires.file)) (c.in_default.ensures bytes part)

pub returns-then-version-eq-TIFF_VERSION-clause-told
    : goal.returns-then-version-eq-TIFF_VERSION-clause-told
returns-then-version-eq-TIFF_VERSION-clause-told c = λ bytes part long.
    let mark = c.in-Some.ensures bytes part in
    let same : version bytes ≡ tiff_version =
    sym (version_of_part c.in-Some.big bytes c.args.head.now part c.requires.head mark.1)
    ∙ sym c.short_at-version.ensures.value ∙ c.if-version-eq-TIFF_VERSION.true in
    let narrow : has_wide_offsets bytes ≡ false = rw same refl in (
      narrow_is_good bytes (omega (arith, long, c.requires.file)) mark.0 same,
      form_is bytes c.in-Some.big false mark.1 narrow,
    )

pub returns-then-version-ne-WIDE_VERSION-clause-told
    : goal.returns-then-version-ne-WIDE_VERSION-clause-told
returns-then-version-ne-WIDE_VERSION-clause-told c = λ bytes part long.
    let mark = c.in-Some.ensures bytes part in
    let is : c.short_at-version.result ≡ version bytes = c.short_at-version.ensures.value
    ∙ version_of_part c.in-Some.big bytes c.args.head.now part c.requires.head mark.1 in
    version_is bytes (omega (arith, long, c.requires.file)) mark.0
    (λ same. c.if-version-eq-TIFF_VERSION.false (is ∙ same))
    (λ same. c.if-version-ne-WIDE_VERSION.true (is ∙ same))

pub returns-then-file-header_bytes-clause-told : goal.returns-then-file-header_bytes-clause-told
returns-then-file-header_bytes-clause-told c = λ bytes part long.
    let mark = c.in-Some.ensures bytes part in
    let same : version bytes ≡ wide_version =
    sym (version_of_part c.in-Some.big bytes c.args.head.now part c.requires.head mark.1)
    ∙ sym c.short_at-version.ensures.value ∙ c.if-version-ne-WIDE_VERSION.false in
    wide_is_short bytes (omega (arith, long, c.requires.file)) mark.0 same
    (omega (arith, long, c.if-file-header_bytes.true, c.header_bytes.ensures.value))

pub returns-then-not-says_wide-clause-told : goal.returns-then-not-says_wide-clause-told
returns-then-not-says_wide-clause-told c = λ bytes part long.
    let mark = c.in-Some.ensures bytes part in
    let same : version bytes ≡ wide_version =
    sym (version_of_part c.in-Some.big bytes c.args.head.now part c.requires.head mark.1)
    ∙ sym c.short_at-version.ensures.value ∙ c.if-version-ne-WIDE_VERSION.false in
    unsaid_is bytes (omega (arith, long, c.requires.file)) mark.0 same
    (omega (arith, long, c.if-file-header_bytes.false, c.header_bytes.ensures.value))
    (sym (c.says_wide.ensures bytes part mark.1) ∙ c.if-not-says_wide.true)

pub returns-clause-told : goal.returns-clause-told
returns-clause-told c = λ bytes part long.
    let mark = c.in-Some.ensures bytes part in
    let same : version bytes ≡ wide_version =
    sym (version_of_part c.in-Some.big bytes c.args.head.now part c.requires.head mark.1)
    ∙ sym c.short_at-version.ensures.value ∙ c.if-version-ne-WIDE_VERSION.false in
    let wide : has_wide_offsets bytes ≡ true = rw same refl in (
      wide_is_good bytes (omega (arith, long, c.requires.file)) mark.0 same
          (omega (arith, long, c.if-file-header_bytes.false, c.header_bytes.ensures.value))
          (sym (c.says_wide.ensures bytes part mark.1) ∙ c.if-not-says_wide.false),
      form_is bytes c.in-Some.big true mark.1 wide,
    )
