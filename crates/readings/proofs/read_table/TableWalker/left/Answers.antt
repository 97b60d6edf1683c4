use Rattle.std.proofs.Common.{sym, arith}
use Rattle.std.proofs.lemmas.Option.{IfSome_then}
use Rattle.graph_rules.specs.Read.{table_walker}
use Rattle.graph_rules.proofs.Shape.{few-leaves}
use Rattle.readings.proofs.read_table.TableWalker.left.Goals as goal

pub at_end-requires : goal.at_end-requires
at_end-requires c =
    let few = few-leaves c.args.self.now.words.now c.args.self.now.legal in
    IfSome_then c.leaf_of.result c.leaf_of.ensures.leaf (λ l h. omega arith)

pub returns-clause-value : goal.returns-clause-value
unfolding table_walker
returns-clause-value c = λ r. rw (sym c.leaf_of.ensures.value) (c.at_end.ensures.value r)
