-- Which bytes does a window on a file hold?
use Rattle.std.specs.Prelude.{ℕ, ◌+◌, ◌≤◌, List, [], ◌∷◌, length, ⊤}
use Rattle.tiff_format.specs.Bytes.{IsPartAt}
use Rattle.piece_samples.specs.declared.span.Span.{Span}
use Rattle.rect_read.specs.declared.window.Window.{Window}

-- its bytes are those of the file from its place on
abbrev pub IsWindow : List ℕ → Window → Type 0
IsWindow bytes window = IsPartAt bytes window.at window.bytes.items

-- each window has bytes of the file from its place on
abbrev pub AreWindows : List ℕ → List Window → Type 0
AreWindows bytes [] = ⊤
AreWindows bytes (window ∷ windows) = IsWindow bytes window × AreWindows bytes windows

-- the window has the bytes of a span
pub record HoldsSpan (window : Window) (span : Span) : Type 0 where
  pub from : window.at ≤ span.at
  pub to : span.at + span.size ≤ window.at + length window.bytes.items
