use Rattle.std.proofs.Common.{ℕ, ◌≤◌, ◌++◌, List, ap, sym, ◌∙◌}
use Rattle.std.proofs.lemmas.List.Elements.{All-append}
use Rattle.tiff_format.specs.Texel.{greatest_sample}
use Rattle.rect_read.specs.RectSamples.{are_wide, samples_of, AreBytes}
use Rattle.rect_read.proofs.ByteSamples.{bytes_are, fit_bytes, ok_behind}
use Rattle.rect_read.proofs.WholeRows.{on_ok}
use Rattle.rect_read.proofs.texels.RectSamples.push.Goals as goal

pub returns-in-Bytes-clause-values : goal.returns-in-Bytes-clause-values
returns-in-Bytes-clause-values c =
    let bytes = c.args.bytes.now in
    let format = c.args.format.now in
    let are : AreBytes format = c.requires.fits (ap are_wide c.in-Bytes.is) in
    on_ok c.extend_from_slice.result
    (λ is. is ∙ ap (λ (l : List ℕ). l ++ bytes) (sym (ap samples_of c.in-Bytes.is))
    ∙ ap (λ (l : List ℕ). samples_of c.args.self.now ++ l)
    (bytes_are format bytes c.args.count are c.requires.size))
    (ok_behind c.extend_from_slice.result c.in-Bytes.values.items bytes
    c.extend_from_slice.new.self.items c.extend_from_slice.ensures.items)

pub returns-in-Bytes-clause-low : goal.returns-in-Bytes-clause-low
returns-in-Bytes-clause-low c =
    let bytes = c.args.bytes.now in
    let format = c.args.format.now in
    let old = c.in-Bytes.values.items in
    let are : AreBytes format = c.requires.fits (ap are_wide c.in-Bytes.is) in
    on_ok c.extend_from_slice.result
    (λ is fit. rw is (All-append (λ sample. sample ≤ greatest_sample format.depth) old bytes
    (rw (ap samples_of c.in-Bytes.is) at fit)
    (fit_bytes format.depth bytes are.depth (λ k lt. (c.type_inv.bytes k).fits))))
    (ok_behind c.extend_from_slice.result old bytes c.extend_from_slice.new.self.items
    c.extend_from_slice.ensures.items)

pub returns-in-Shorts-clause-low : goal.returns-in-Shorts-clause-low
returns-in-Shorts-clause-low c =
    let format = c.args.format.now in
    on_ok c.push_samples.result (λ low fit. low (rw (ap samples_of c.in-Shorts.is) at fit))
    c.push_samples.ensures.low
