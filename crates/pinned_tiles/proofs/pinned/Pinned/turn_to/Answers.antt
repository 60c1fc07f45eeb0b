-- The steps of the call, one after another.
use Rattle.std.proofs.Common.{◌≡◌, true, sym, subst, rules}
use Rattle.micro.specs.Items.{AreItems}
use Rattle.micro.specs.Runs.{IsAsked}
use Rattle.pinned_tiles.specs.Pinned.{key_in}
use Rattle.pinned_tiles.specs.Cell.{has_cell}
use Rattle.pinned_tiles.proofs.TurnLemmas.{Turned, turned, stands_has, stands_stays}
use Rattle.pinned_tiles.proofs.pinned.Pinned.turn_to.Goals as goal

pub returns-clause-first : goal.returns-clause-first
returns-clause-first g c = λ is.
    let cell = c.args.cell.now in
    let old = c.args.self.now.recent in
    let has : true ≡ has_cell cell old = search rules in
    let asked : IsAsked key_in old cell.key true c.find.new.self.recent = search rules in
    let are : AreItems key_in old = search rules in
    (subst (Turned cell) (sym asked.1) (turned cell old are (sym has))).first

pub returns-clause-again : goal.returns-clause-again
returns-clause-again g c = λ is.
    let cell = c.args.cell.now in
    let old = c.args.self.now.recent in
    let has : true ≡ has_cell cell old = search rules in
    let asked : IsAsked key_in old cell.key true c.find.new.self.recent = search rules in
    let are : AreItems key_in old = search rules in
    (subst (Turned cell) (sym asked.1) (turned cell old are (sym has))).again

pub returns-then-is_latest-clause-has : goal.returns-then-is_latest-clause-has
returns-then-is_latest-clause-has g c =
    sym (stands_has c.args.cell.now c.args.self.now.recent
    (c.is_latest.ensures.0 c.if-is_latest.true))

pub returns-then-is_latest-clause-again : goal.returns-then-is_latest-clause-again
returns-then-is_latest-clause-again g c = λ _.
    let are : AreItems key_in c.args.self.now.recent = search rules in
    stands_stays c.args.cell.now c.args.self.now.recent are
    (c.is_latest.ensures.0 c.if-is_latest.true)

pub returns-then-is_latest-clause-asked : goal.returns-then-is_latest-clause-asked
returns-then-is_latest-clause-asked g c = λ _.
    let are : AreItems key_in c.args.self.now.recent = search rules in
    let stays = stands_stays c.args.cell.now c.args.self.now.recent are
    (c.is_latest.ensures.0 c.if-is_latest.true) in
    (stays.there, stays.moved)

pub returns-then-is_latest-clause-latest : goal.returns-then-is_latest-clause-latest
returns-then-is_latest-clause-latest g c = λ _.
    let are : AreItems key_in c.args.self.now.recent = search rules in
    (stands_stays c.args.cell.now c.args.self.now.recent are
    (c.is_latest.ensures.0 c.if-is_latest.true)).again
