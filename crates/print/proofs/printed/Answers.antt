-- A build that was not refused leaves a graph and its conflicts, and none of it is long. Assumes nothing.
use Rattle.std.proofs.Common.{arith}
use Rattle.print.proofs.Answers.{words_size, refusal-size}
use Rattle.print.proofs.printed.Goals as goal

pub returns-in-Ok-clause-room : goal.returns-in-Ok-clause-room
returns-in-Ok-clause-room c =
    words_size c.args.graph.now c.args.errors.now (λ i. omega (arith, c.type_inv.graph i)) (λ i. omega (arith, c.type_inv.errors i))
    c.requires.graph_len_bound c.requires.errors_len_bound c.in-Ok.counts.errors (rw c.in-Ok.is at c.requires.holds)

pub returns-in-Err-clause-room : goal.returns-in-Err-clause-room
returns-in-Err-clause-room c = refusal-size c.in-Err.refusal
