-- Those of the leaves that can be empty are counted. Assumes nothing.
use borrow.Author.Tests.{tests}
use mathlib.Core.Path.{refl, sym, ap, ◌∙◌}
use Prim.Native.Nat.{ℕ}
use native.Mathlib.Omega.{arith}
use lib.Dec.{eqb}
use lib.ListN.{length, get_or}
use Rattle.std.proofs.Common.{rules}
use Rattle.std.proofs.lemmas.Iterator.{YieldsList-from_range}
use Rattle.std.proofs.lemmas.Iterator.Consumers.{YieldsList-at, YieldsList-from_filter, count_from_yields_List}
use Rattle.lists.specs.Lists.{below, those}
use Rattle.lists.proofs.Ranges.{range-tab, filter-those}
use Rattle.graph_rules.specs.Table.{table_of, leaf_at}
use Rattle.graph_rules.specs.Build.{empty_leaves}
use Rattle.graph_rules.proofs.Counts.{leaves-length}
use Rattle.conflicts.proofs.count_empty.Goals as goal

pub returns : goal.returns
unfolding empty_leaves
returns c =
    let w = c.args.table.words.now in
    let n = get_or w 2 0 in
    let empty = λ (l : ℕ). eqb (leaf_at (table_of w) l).empty 1 in
    count_from_yields_List c.filter.result c.count.result c.count.ensures.ran
    (YieldsList-from_filter _ empty (YieldsList-at c.filter.ensures.source (YieldsList-from_range 0 c.leaves.result n refl (omega arith))) c.filter.ensures.closure
    (λ x b q k. search (rules, tests)))
    ∙ ap length (filter-those empty _ ∙ ap (those empty) (range-tab 0 n ∙ ap (λ (m : ℕ). below m) (sym (leaves-length w))))
