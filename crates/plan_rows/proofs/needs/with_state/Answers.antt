use Rattle.std.proofs.Common.{sym, ap, ◌∙◌, rules, Ok}
use Rattle.graph_rules.specs.Graph.{graph_from}
use Rattle.graph_rules.proofs.Flat.{from-length}
use Rattle.plan_rows.specs.Needs.{stored, after}
use Rattle.plan_rows.proofs.Forks.{low_below, high-below}
use Rattle.plan_rows.proofs.Growing.{passed-on, by_number, by-refusal}
use Rattle.plan_rows.proofs.StateNeeds.{own-added, own-absent, own-stops, own-done, low-stops, high-done}
use Rattle.plan_rows.proofs.needs.with_state.Goals as goal
use Rattle.plan_rows.proofs.needs.with_state.Goals.{then-fork+in_ok-add, else-fork}

pub returns-in_err-add : goal.returns-in_err-add
returns-in_err-add c =
    ap stored (passed-on c.from_residual.result c.from_residual.ensures.1)
    ∙ own-stops c.args.graph.words.now c.args.graph.fits c.args.store.store (search rules) c.requires.s_bound c.fork_at-fork.ensures
    (sym (own-added c.args.graph.words.now c.args.graph.fits c.args.store.store (search rules) c.requires.s_bound c.fork_at-fork.ensures c.if-fork.true c.class_to.ensures (sym (by-refusal c.args.store.store c.class_to.result (sym c.add.ensures.answer ∙ c.in_err-add.was)))))

pub returns-then-by_table : goal.returns-then-by_table
returns-then-by_table c =
    own-done c.args.graph.words.now c.args.graph.fits c.args.store.store (search rules) c.requires.s_bound c.fork_at-fork.ensures
    (elim c.if-fork.branch [
      | then-fork+in_ok-add w ↦ rw w.held-is (sym (own-added c.args.graph.words.now c.args.graph.fits c.args.store.store (search rules) c.requires.s_bound c.fork_at-fork.ensures w.if-fork.true w.class_to.ensures (ap Ok w.add.ensures.after ∙ sym (by_number c.args.store.store w.class_to.result (sym w.add.ensures.answer ∙ w.in_ok-add.was)))))
      | else-fork w ↦ rw w.held-is (own-absent c.args.graph.words.now c.args.graph.fits c.args.store.store (search rules) c.requires.s_bound c.fork_at-fork.ensures w.if-fork.false c.args.store.allowed)
    ])
    (sym c.if-by_table.ensures)

pub add_edge-requires-clause-target_bound : goal.add_edge-requires-clause-target_bound
add_edge-requires-clause-target_bound c = low_below (graph_from c.args.graph.words.now) c.args.s c.fork_at-fork.ensures (from-length c.args.graph.words.now)

pub returns-in_err-add_edge : goal.returns-in_err-add_edge
returns-in_err-add_edge c =
    ap stored (passed-on c.from_residual-in_err-add_edge.result c.from_residual-in_err-add_edge.ensures.1)
    ∙ low-stops c.args.graph.words.now c.args.graph.fits c.args.store.store (search rules) c.requires.s_bound c.fork_at-fork.ensures
    (elim c.if-fork.branch [
      | then-fork+in_ok-add w ↦ rw w.held-is (sym (own-added c.args.graph.words.now c.args.graph.fits c.args.store.store (search rules) c.requires.s_bound c.fork_at-fork.ensures w.if-fork.true w.class_to.ensures (ap Ok w.add.ensures.after ∙ sym (by_number c.args.store.store w.class_to.result (sym w.add.ensures.answer ∙ w.in_ok-add.was)))))
      | else-fork w ↦ rw w.held-is (own-absent c.args.graph.words.now c.args.graph.fits c.args.store.store (search rules) c.requires.s_bound c.fork_at-fork.ensures w.if-fork.false c.args.store.allowed)
    ])
    (sym c.if-by_table.ensures) (sym c.add_edge.ensures ∙ ap (λ r. after r c.add_edge.new.store) c.in_err-add_edge.was)

pub add_edge-requires-2-clause-target_bound : goal.add_edge-requires-2-clause-target_bound
add_edge-requires-2-clause-target_bound c = high-below (graph_from c.args.graph.words.now) c.args.s c.fork_at-fork.ensures (from-length c.args.graph.words.now)

pub returns-in_err-add_edge-2 : goal.returns-in_err-add_edge-2
returns-in_err-add_edge-2 c =
    ap stored (passed-on c.from_residual-in_err-add_edge-2.result c.from_residual-in_err-add_edge-2.ensures.1)
    ∙ sym (ap (λ r. after r c.add_edge-2.new.store) c.in_err-add_edge-2.was)
    ∙ c.add_edge-2.ensures ∙ high-done c.args.graph.words.now c.args.graph.fits c.args.store.store (search rules) c.requires.s_bound c.fork_at-fork.ensures
    (elim c.if-fork.branch [
      | then-fork+in_ok-add w ↦ rw w.held-is (sym (own-added c.args.graph.words.now c.args.graph.fits c.args.store.store (search rules) c.requires.s_bound c.fork_at-fork.ensures w.if-fork.true w.class_to.ensures (ap Ok w.add.ensures.after ∙ sym (by_number c.args.store.store w.class_to.result (sym w.add.ensures.answer ∙ w.in_ok-add.was)))))
      | else-fork w ↦ rw w.held-is (own-absent c.args.graph.words.now c.args.graph.fits c.args.store.store (search rules) c.requires.s_bound c.fork_at-fork.ensures w.if-fork.false c.args.store.allowed)
    ])
    (sym c.if-by_table.ensures) (sym c.add_edge.ensures ∙ ap (λ r. after r c.add_edge.new.store) c.in_ok-add_edge.was)

pub returns : goal.returns
returns c =
    sym (ap (λ r. after r c.add_edge-2.new.store) c.in_ok-add_edge-2.was)
    ∙ c.add_edge-2.ensures ∙ high-done c.args.graph.words.now c.args.graph.fits c.args.store.store (search rules) c.requires.s_bound c.fork_at-fork.ensures
    (elim c.if-fork.branch [
      | then-fork+in_ok-add w ↦ rw w.held-is (sym (own-added c.args.graph.words.now c.args.graph.fits c.args.store.store (search rules) c.requires.s_bound c.fork_at-fork.ensures w.if-fork.true w.class_to.ensures (ap Ok w.add.ensures.after ∙ sym (by_number c.args.store.store w.class_to.result (sym w.add.ensures.answer ∙ w.in_ok-add.was)))))
      | else-fork w ↦ rw w.held-is (own-absent c.args.graph.words.now c.args.graph.fits c.args.store.store (search rules) c.requires.s_bound c.fork_at-fork.ensures w.if-fork.false c.args.store.allowed)
    ])
    (sym c.if-by_table.ensures) (sym c.add_edge.ensures ∙ ap (λ r. after r c.add_edge.new.store) c.in_ok-add_edge.was)
