-- A file of a board has a word, and the table knows it.
use Rattle.std.proofs.Common.{◌≡◌, ℕ, ◌<◌, subst, sym, arith}
use Rattle.atomic_table.specs.Seated.{TableId}
use Rattle.gen_board.specs.View.{BoardId}
use Rattle.gen_board.specs.Rule.{word_count}
use Rattle.gen_board.specs.Seated.{IsLaid}

pub has_a_word : (files told laid file : ℕ) (table : TableId) (board : BoardId)
    → IsLaid files told laid → record { files = files; table = table } ≡ board
    → file < board.files → (file < laid) × (file < word_count told)
has_a_word files told laid file table board lies is low =
    let inside : file < files = subst (λ (b : BoardId). file < b.files) (sym is) low in
    (omega (arith, inside, lies.words), omega (arith, inside, lies.key))
