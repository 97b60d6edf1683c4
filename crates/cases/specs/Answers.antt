-- What the definitions answer, as lists of numbers, so that every case is one kind of equation. Each name unfolds all that it computes with.
use mathlib.Core.List.{List, [], ◌∷◌, ◌++◌, flat_map}
use Rattle.std.specs.Prelude.{ℕ, zero, suc, ◌/◌, ◌%◌}
use Rattle.lists.specs.Sets.{closure, round, rounds}
use Rattle.lists.specs.Report.{Report}
use Rattle.texts.specs.Text.{decimal}
use Rattle.classes.specs.Classes.{Class, ranges, comparisons, cost}
use Rattle.utf8.specs.Utf8.{lines, divided, code_points}
use Rattle.trees.specs.Tree.{record_of, tree_of, chain_from, chain_at, tree_at, root, rules, rule_of, fields_fit, record_fits, named, tree_fits}
use Rattle.pattern.specs.Priority.{priority, value_at, too_high, priority_of, priority_report}
use Rattle.graph_rules.specs.Table.{table_of, refusal, conditions, match_fits, size, row_of, step, leaf_at, match_of, counts_fit, empties_fit, targets_fit, heads_fit, records_fit}
use Rattle.graph_rules.specs.Graph.{state_of, to, accept_of, early_of, leads, same, state_words, graph_words, state_from, graph_from, graph_fits}
use Rattle.graph_rules.specs.Build.{error_words, build, empty_leaves, unpruned, merged, merges_none, merge_round, pruned, kept, with_cleared, cleared, covered, with_early, children, whole_graph, first_state, ties, leaf_of, contenders, chain, restrict, relabel, renamed, reached}
use Rattle.graph_rules.specs.Read.{read_table, read_graph, table_walker, graph_walker}
use Rattle.readings.specs.Answers.{read_report, table_read, graph_read}
use Rattle.graph.specs.New.{conflicts, wrote, wrote_or_9, written_or, new_of, image_of}
use Rattle.scans.specs.declared.scan.Scan.{Scan}
use Rattle.scans.specs.Scan.{fresh, gap_length, next, scan_report}
use Rattle.edges.specs.Edges.{class_to, leads_to, targets}
use Rattle.display.specs.Display.{letter_of, escaped, range_text, class_text, first_line, edge_line, state_text, displayed, line_of, conflict_line}
use Rattle.print.specs.Print.{space, printed_build, refused_line, printed}

abbrev pub numbers : Report → List ℕ
numbers t = t.refusal ∷ t.values

-- ---- classes

unfoldable pub cost_of : Class → List ℕ
unfolding cost comparisons ranges
cost_of c = cost c ∷ []

-- ---- patterns

unfoldable pub priority_numbers : List ℕ → List ℕ → List ℕ
unfolding lines divided code_points record_of tree_of chain_from chain_at tree_at root rules rule_of fields_fit record_fits named tree_fits priority value_at too_high priority_of
priority_numbers tree bytes = numbers (priority_report (priority_of tree bytes))

-- ---- a table's build

unfoldable pub refusal_of : List ℕ → List ℕ
unfolding refusal conditions table_of match_fits match_of counts_fit empties_fit targets_fit heads_fit records_fit
refusal_of w = refusal w ∷ []

unfoldable pub graph_of : List ℕ → List ℕ
unfolding table_of size row_of step leaf_at match_of state_of to accept_of early_of leads same state_words graph_words flat_map build empty_leaves unpruned merged merges_none merge_round pruned kept with_cleared cleared covered with_early children whole_graph first_state ties leaf_of contenders chain restrict relabel renamed reached closure round rounds
graph_of w = graph_words (build (table_of w)).graph

unfoldable pub errors_of : List ℕ → List ℕ
unfolding graph_of
errors_of w = flat_map error_words (build (table_of w)).errors

-- the rounds of its merge, the last one, that merges nothing, included
unfoldable pub rounds_of : List ℕ → List ℕ
unfolding graph_of
rounds_of w = (build (table_of w)).rounds ∷ []

-- what the graph printer prints for the words' image, low byte first
abbrev pub image_bytes : List ℕ → List ℕ
image_bytes w = flat_map (λ x. x % 256 ∷ x / 256 ∷ []) w

unfoldable pub printed_of : List ℕ → List ℕ
unfolding refusal_of graph_of cost_of decimal letter_of escaped range_text class_text class_to leads_to targets first_line edge_line state_text displayed line_of conflict_line conflicts wrote wrote_or_9 written_or new_of image_of space printed_build refused_line printed
printed_of w = printed (image_bytes w)

-- ---- readings and scans: by the table's words, and by the words of its graph

unfoldable pub read_both : List ℕ → List ℕ → List ℕ
unfolding refusal_of graph_of state_from graph_from graph_fits read_table read_graph table_walker graph_walker table_read graph_read
read_both w text = numbers (read_report (table_read w text)) ++ numbers (read_report (graph_read (graph_of w) text))

-- the answers of k calls of the scan
unfoldable pub calls : ℕ → List ℕ → List ℕ → Scan → List ℕ
unfolding read_both gap_length next
calls zero graph text scan = []
calls (suc k) graph text scan = let a = next graph text scan in numbers (scan_report a.answer) ++ calls k graph text a.scan

unfoldable pub scanned : ℕ → List ℕ → List ℕ → List ℕ
unfolding calls
scanned k w text = calls k (graph_of w) text fresh
