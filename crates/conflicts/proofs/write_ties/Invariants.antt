-- The conflicts of the ties from here on are still to be written. Assumes nothing.
use Rattle.std.proofs.Common.{◌≤◌, length, drop}
use Rattle.lists.proofs.Runs.{Underway}
use Rattle.graph_rules.specs.Table.{table_of}
use Rattle.conflicts.proofs.Listing.{tie_words}
use Rattle.conflicts.proofs.write_ties.Given as goal

abbrev pub invariant-loop-i : goal.invariant-loop-i
invariant-loop-i l =
    let all = l.i-items in
    let t = table_of l.table.words.now in
    record {
      room : length (tie_words t all) ≤ length l.initial.errors;
      run : Underway l.initial.errors 0 (tie_words t all) l.errors l.at (tie_words t (drop l.i-index all));
    }
