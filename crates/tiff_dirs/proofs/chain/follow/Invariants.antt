use Rattle.std.proofs.Common.{◌≡◌, ◌+◌, [], ◌∷◌, length, map, None}
use Rattle.std.specs.Option.{ForSome}
use Rattle.tiff_format.specs.Form.{form_of}
use Rattle.tiff_format.specs.DirectoryFault.{data_fault}
use Rattle.tiff_format.specs.Facts.{IsChain}
use Rattle.tiff_format.specs.Level.{directory_level}
use Rattle.tiff_dirs.specs.Chain.{AreLevels, IsEnd}
use Rattle.tiff_format.specs.Shown.{shown}
use Rattle.tiff_dirs.proofs.chain.follow.Given as goal

abbrev pub invariant-loop-last : goal.invariant-loop-last
invariant-loop-last g l = record {
  long : length l.levels.items ≡ l.last + 1;
  chain : IsChain (map shown l.levels.items);
  keeps : g.B.ByteReader.keeps l.fn.b l.b;
  told : ForSome (g.B.ByteReader.bytes l.fn.b)
      (λ bytes. map shown l.fn.levels.items ≡ directory_level bytes 0 ∷ []
      → data_fault (form_of bytes) bytes 0 (directory_level bytes 0) ≡ None
      → IsEnd bytes 0 l.fn.first_next
      → AreLevels bytes (l.last + 1) (map shown l.levels.items) × IsEnd bytes l.last l.next);
}
