-- A start below n is a state's number. Assumes nothing.
use Rattle.std.proofs.Common.{get_or, ltb, eqb, sym, ◌∙◌, arith}
use borrow.Author.Tests.{lt-ltb}
use Rattle.lists.proofs.Bools.{or_left}
use Rattle.graph_rules.specs.Layout.{no_state}
use Rattle.legal.proofs.conditions.Counted.start_fits.Goals as goal

pub returns-then-s-states : goal.returns-then-s-states
returns-then-s-states c =
    let w = c.args.self.words.now in
    lt-ltb c.start-s.result c.states.result (omega arith)
    ∙ sym (or_left (ltb (get_or w 1 0) (get_or w 0 0)) (eqb (get_or w 1 0) no_state) (lt-ltb (get_or w 1 0) (get_or w 0 0) (omega arith)))
