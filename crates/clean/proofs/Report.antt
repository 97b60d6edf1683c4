-- What `clean` tells in numbers: 1 to 7, with zeros; or the first rule that the table breaks, 0 for none, and the state where. Assumes nothing.
use Rattle.std.specs.Prelude.{Option, Some, None}
use mathlib.Core.Path.{◌≡◌, refl, ap, ◌∙◌}
use mathlib.Core.List.{List}
use Prim.Native.Nat.{ℕ}
use native.Mathlib.Omega.{arith}
use lib.ListN.{length}
use Rattle.lists.specs.Report.{answering}
use Rattle.refusals.specs.Refusals.{answered, report}
use Rattle.refusals.proofs.Numbers.{answered-told}
use Rattle.graph_rules.specs.Table.{table_of, refusal}
use Rattle.graph_rules.specs.Clean.{breach}
use Rattle.graph_rules.specs.declared.Breach.{Breach}
use Rattle.graph_rules.proofs.Shape.{refusal-small}
use Rattle.clean.specs.Answers.{clean_of, clean_report, breach_values}

two-values : (b : Option Breach) → 2 ≡ length (breach_values b)
two-values None = refl
two-values (Some b) = refl

pub clean-report : (table : List ℕ) → clean_report (clean_of table) ≡ answering (refusal table) (breach_values (breach (table_of table)))
unfolding clean_of
clean-report table =
    let b = breach (table_of table) in
    let h = refusal-small table in
    ap (λ (k : ℕ). report breach_values k (answered (refusal table) b)) (two-values b)
    ∙ answered-told breach_values (refusal table) b (omega arith)
