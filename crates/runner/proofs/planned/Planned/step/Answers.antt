use Rattle.std.proofs.Common.{sym, ◌∙◌, arith}
use Rattle.plan_rows.proofs.Words.{said-table}
use Rattle.runner.proofs.Leading.{edge-there, by-table, led-below, by-first, by-second}
use Rattle.runner.proofs.planned.Planned.step.Goals as goal

pub edge-requires : goal.edge-requires
edge-requires c = edge-there c.args.self.now c.args.s c.requires 0 (omega arith)

pub along-requires : goal.along-requires
along-requires c = record { s_bound = c.requires; j_lt_edges = omega arith; plain = λ e. c.in_default.not-Table (c.edge.ensures ∙ sym (said-table e)) }

pub along-requires-in-None : goal.along-requires-in-None
along-requires-in-None c = record { s_bound = c.requires; j_lt_edges = omega arith; plain = λ e. c.in_default.not-Table (c.edge.ensures ∙ sym (said-table e)) }

pub returns-in-Table-clause-led : goal.returns-in-Table-clause-led
returns-in-Table-clause-led c = c.target.ensures.value ∙ sym (by-table c.args.self.now c.args.s c.requires c.args.byte c.in-Table.ensures)

pub returns-in-Some : goal.returns-in-Some
returns-in-Some c =
    record {
      led = by-first c.args.self.now c.args.s c.requires (λ e. c.in_default.not-Table (c.edge.ensures ∙ sym (said-table e))) c.args.byte c.along.ensures c.in-Some.is;
      state = rw c.in-Some.is at (led-below c.args.self.now c.args.s c.requires (λ e. c.in_default.not-Table (c.edge.ensures ∙ sym (said-table e))) 0 (omega arith) c.args.byte c.along.ensures);
    }

pub returns-in-None : goal.returns-in-None
returns-in-None c =
    record {
      led = by-second c.args.self.now c.args.s c.requires (λ e. c.in_default.not-Table (c.edge.ensures ∙ sym (said-table e))) c.args.byte c.along.ensures c.in-None.is c.along-in-None.ensures;
      state = led-below c.args.self.now c.args.s c.requires (λ e. c.in_default.not-Table (c.edge.ensures ∙ sym (said-table e))) 1 (omega arith) c.args.byte c.along-in-None.ensures;
    }
