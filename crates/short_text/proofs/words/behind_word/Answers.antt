use Rattle.std.proofs.Common.{◌≡◌, length, take, true, arith}
use Rattle.std.specs.Str.{bytes_eq}
use Rattle.short_text.proofs.WordLemmas.{none_behind_word}
use Rattle.short_text.proofs.words.behind_word.Goals as goal

pub returns-then-end-bytes-clause-back : goal.returns-then-end-bytes-clause-back
returns-then-end-bytes-clause-back c =
    let text = c.args.text.now in
    let word = c.args.word.now in
    let begins : bytes_eq word (take (length word) text) ≡ true = cc in
    none_behind_word text word c.requires (omega arith) begins
