-- The windows of a row.
use Rattle.std.proofs.Common.{◌≡◌, ℕ, zero, suc, ◌<◌, List, [], ◌∷◌, ◌++◌, length, get_or, arith}
use Rattle.std.proofs.Math.ListN.{set}
use Rattle.rect_read.specs.declared.window.Window.{Window}
use Rattle.rect_read.specs.Window.{IsWindow, AreWindows}

module _ (bytes : List ℕ) where
  -- one more window
  pub window_more : (windows : List Window) (window : Window) → AreWindows bytes windows
      → IsWindow bytes window → AreWindows bytes (windows ++ window ∷ [])
  window_more [] window are is = (is, tt)
  window_more (first ∷ windows) window are is =
      (are.0, window_more windows window are.1 is)

  -- another in the place of one
  pub window_set : (windows : List Window) (k : ℕ) (window : Window) → AreWindows bytes windows
      → IsWindow bytes window → AreWindows bytes (set windows k window)
  window_set [] k window are is = are
  window_set (first ∷ windows) zero window are is = (is, are.1)
  window_set (first ∷ windows) (suc k) window are is =
      (are.0, window_set windows k window are.1 is)

  -- one of them
  pub window_at : (windows : List Window) (k : ℕ) (window other : Window)
      → AreWindows bytes windows → k < length windows → window ≡ get_or windows k other
      → IsWindow bytes window
  window_at [] k window other are lt is = absurd (omega arith)
  window_at (first ∷ windows) zero window other are lt is = rw is are.0
  window_at (first ∷ windows) (suc k) window other are lt is =
      window_at windows k window other are.1 (omega arith) is
