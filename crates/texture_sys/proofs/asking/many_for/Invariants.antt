use Rattle.std.proofs.Common.{◌≡◌, ℕ, ◌*◌, ◌≤◌, length, slice_index}
use Rattle.std.specs.Option.{ForSome}
use Rattle.texel_filter.specs.Image.{image_of}
use Rattle.texel_filter.specs.Calls.{EachAnswered}
use Rattle.texture_sys.specs.Batch.{AreAnswered, batch_channels, batch_visits_upto}
use Rattle.texture_sys.proofs.asking.many_for.Given as goal

abbrev pub invariant-loop-i : goal.invariant-loop-i
invariant-loop-i g l = record {
  told : ForSome (g.F.Fetch.values l.initial.f) (λ v.
      AreAnswered (image_of (g.F.Fetch.sizes l.initial.f) v) l.batch l.i l.out);
  left : EachAnswered g.F.Fetch.leaves l.initial.f
      (batch_visits_upto (g.F.Fetch.sizes l.initial.f) l.batch l.i) l.f;
  long : length l.out ≡ length l.initial.out;
  rest : (k : ℕ) → l.i * batch_channels l.batch.options ≤ k
      → slice_index l.out k ≡ slice_index l.initial.out k;
}
