-- The conflicts of the leaves from l on are still to be written. Assumes nothing.
use Rattle.std.proofs.Common.{◌≤◌, length, get_or}
use Rattle.lists.proofs.Runs.{Underway}
use Rattle.graph_rules.specs.Table.{table_of}
use Rattle.conflicts.proofs.Listing.{empties_on, empty_words}
use Rattle.conflicts.proofs.write_empty.Given as goal

abbrev pub invariant-loop-l : goal.invariant-loop-l
invariant-loop-l l =
    let t = table_of l.table.words.now in
    let m = get_or l.table.words.now 2 0 in
    record {
      room : length (empty_words (empties_on t m 0)) ≤ length l.initial.errors;
      run : Underway l.initial.errors 0 (empty_words (empties_on t m 0)) l.errors l.at (empty_words (empties_on t m l.l));
    }
