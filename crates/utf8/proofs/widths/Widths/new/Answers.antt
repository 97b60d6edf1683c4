-- `utf8::widths::Widths::new`: each entry of the table is the width of its line. Assumes nothing.
use Rattle.utf8.proofs.LeadBytes.{table, table-right}
use Rattle.utf8.proofs.widths.Widths.new.Goals as goal

pub invariant_of-result : goal.invariant_of-result
unfolding table
invariant_of-result c = record { right = table-right }
