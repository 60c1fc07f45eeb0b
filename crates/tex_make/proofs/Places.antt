-- Where are the rows of a level among its samples?
use Rattle.std.proofs.Common.{◌≡◌, ℕ, ◌+◌, ◌-◌, ◌*◌, ◌<◌, ◌≤◌, List, slice_index}
use Rattle.std.proofs.Common.{take, drop, ap, ◌∙◌, arith}
use Rattle.std.proofs.Math.Nat.{mul-le-mul_right}
use Rattle.std.proofs.lemmas.List.{get_or-take, get_or-drop}
use Rattle.std.proofs.lemmas.Nat.{mul-add-lt}

-- k texels of row y from column x on lie within the h rows
pub row_inside : (x y k w h n : ℕ) → y < h → x + k ≤ w → (y * w + x) * n + k * n ≤ w * h * n
row_inside x y k w h n row fits =
    let rows : (y + 1) * w ≤ h * w = mul-le-mul_right w (omega arith) in
    let texels : y * w + x + k ≤ h * w = omega (arith, rows) in
    let samples : (y * w + x + k) * n ≤ (h * w) * n = mul-le-mul_right n texels in
    omega (arith, samples)

-- a sample of a whole row
pub row_sample_is : (samples : List ℕ) (x y w n c : ℕ) → x < w → c < n
    → slice_index (take (y * (w * n) + w * n - y * (w * n)) (drop (y * (w * n)) samples)) (x * n + c)
    ≡ slice_index samples ((y * w + x) * n + c)
row_sample_is samples x y w n c across channel =
    let low : x * n + c < w * n = omega (arith, mul-add-lt x n c w across channel) in
    let at : y * (w * n) + (x * n + c) ≡ (y * w + x) * n + c = omega arith in
    get_or-take _ (drop (y * (w * n)) samples) (x * n + c) 0 (omega arith)
    ∙ get_or-drop (y * (w * n)) samples (x * n + c) 0
    ∙ ap (slice_index samples) at
