use Rattle.std.proofs.Common.{sym, ap, ◌∙◌, arith, Some, ℕ}
use Rattle.graph_rules.specs.Graph.{graph_from}
use Rattle.graph_rules.proofs.Flat.{from-length}
use Rattle.mask_store.specs.Masks.{held, number_of}
use Rattle.plan_rows.proofs.Forks.{low_below, high-below}
use Rattle.plan_rows.proofs.PlanRows.{row-table, row-each}
use Rattle.plan_rows.proofs.rows.row_at.Goals as goal
use Rattle.plan_rows.proofs.rows.row_at.Goals.{then-fork, else-fork}

pub own_code-own-requires : goal.own_code-own-requires
own_code-own-requires c =
    elim c.if-fork.branch [
      | then-fork w ↦ rw w.mask-is (omega (arith, w.number_of.ensures.few))
      | else-fork w ↦ rw w.mask-is (omega arith)
    ]

pub edge_word-low-requires-clause-target_bound : goal.edge_word-low-requires-clause-target_bound
edge_word-low-requires-clause-target_bound c = low_below (graph_from c.args.graph.words.now) c.args.s c.fork_at-fork.ensures (from-length c.args.graph.words.now)

pub edge_word-high-requires-clause-target_bound : goal.edge_word-high-requires-clause-target_bound
edge_word-high-requires-clause-target_bound c = high-below (graph_from c.args.graph.words.now) c.args.s c.fork_at-fork.ensures (from-length c.args.graph.words.now)

pub returns-then-by_table : goal.returns-then-by_table
returns-then-by_table c =
    let all = held c.args.masks.store.now in
    row-table all (graph_from c.args.graph.words.now) c.args.s c.fork_at-fork.ensures
    (elim c.if-fork.branch [
      | then-fork w ↦ rw (w.if-fork.true, w.mask-is) (ap (λ (x : ℕ). Some x) (w.number_of.ensures.value ∙ ap (number_of all) w.class_to.ensures))
      | else-fork w ↦ rw (w.if-fork.false, w.mask-is)
    ])
    c.own_code-own.ensures (sym c.if-by_table.ensures)

pub returns : goal.returns
returns c =
    let all = held c.args.masks.store.now in
    row-each all (graph_from c.args.graph.words.now) c.args.s c.fork_at-fork.ensures
    (elim c.if-fork.branch [
      | then-fork w ↦ rw (w.if-fork.true, w.mask-is) (ap (λ (x : ℕ). Some x) (w.number_of.ensures.value ∙ ap (number_of all) w.class_to.ensures))
      | else-fork w ↦ rw (w.if-fork.false, w.mask-is)
    ])
    c.own_code-own.ensures (sym c.if-by_table.ensures)
    (c.edge_code.ensures ∙ c.edge_word-low.ensures.word) (c.edge_code-2.ensures ∙ c.edge_word-high.ensures.word)
