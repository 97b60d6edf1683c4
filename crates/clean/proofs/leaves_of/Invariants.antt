-- Every state before s has its leaf. Assumes nothing.
use Rattle.std.proofs.Common.{◌≡◌, ℕ, ◌<◌, get_or, None, length}
use Rattle.graph_rules.specs.Table.{table_of}
use Rattle.graph_rules.specs.Build.{leaf_of}
use Rattle.graph_rules.specs.Layout.{most_states}
use Rattle.clean.proofs.leaves_of.Given as goal

abbrev pub invariant-loop-s : goal.invariant-loop-s
invariant-loop-s l =
    record {
      long : length l.out ≡ most_states;
      held : (k : ℕ) → k < l.s → get_or l.out k None ≡ leaf_of (table_of l.table.words.now) k;
    }
