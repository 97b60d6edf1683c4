-- What the call `clean` answers, by the definitions of `graph_rules`. Definitions only.
use Rattle.std.specs.Prelude.{List, [], ◌∷◌, ℕ, Option, Some, None, Result}
use Rattle.lists.specs.Report.{Report}
use Rattle.refusals.specs.Refusals.{answered, report}
use Rattle.refusals.specs.declared.Refusal.{Refusal}
use Rattle.graph_rules.specs.Table.{table_of, refusal}
use Rattle.graph_rules.specs.Clean.{breach}
use Rattle.graph_rules.specs.declared.Breach.{Breach}

-- 1 to 7; or the first rule that the table breaks, and the state where; none: it is clean
unfoldable pub clean_of : List ℕ → Result (Option Breach) Refusal
clean_of table = answered (refusal table) (breach (table_of table))

-- in numbers: the rule that is broken, 0 if none is, and the state where, 65,535 if it belongs to none
abbrev pub breach_values : Option Breach → List ℕ
breach_values None = 0 ∷ 0 ∷ []
breach_values (Some b) = b.rule ∷ b.state ∷ []

abbrev pub clean_report : Result (Option Breach) Refusal → Report
clean_report = report breach_values 2
