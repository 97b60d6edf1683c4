-- K1 to K12, in one computed table, with its number of rows, so that none is left out; and the rounds of merges. Assumes nothing.
use mathlib.Core.Path.{◌≡◌, refl}
use mathlib.Core.List.{map}
use lib.ListN.{length}
use Rattle.cases.specs.Answers.{cost_of, priority_numbers, refusal_of, graph_of, errors_of, rounds_of, printed_of, read_both, calls, scanned}
use Rattle.cases.specs.Table.{table, merge_table, k1, k4, twice}

pub all-cases : (map (λ c. c.got) table ≡ map (λ c. c.wanted) table) × (length table ≡ 19)
unfolding table k1 k4 cost_of priority_numbers refusal_of graph_of errors_of printed_of read_both calls scanned
all-cases = (refl, refl)

pub all-merges : (map (λ c. c.got) merge_table ≡ map (λ c. c.wanted) merge_table) × (length merge_table ≡ 3)
unfolding merge_table k1 twice graph_of rounds_of
all-merges = (refl, refl)
