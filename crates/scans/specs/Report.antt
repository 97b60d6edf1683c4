-- Which refusal the scan's calls tell, and the values that they tell otherwise, in numbers. Definitions only.
use Rattle.std.specs.Prelude.{cond, not, List, [], ◌∷◌, ℕ, eqb, length, drop}
use Rattle.lists.specs.Report.{on, lowest}
use Rattle.graph_rules.specs.Graph.{Graph, graph_fits}
use Rattle.graph_rules.specs.Read.{read_graph}
use Rattle.scans.specs.declared.scan.Place.{Place}
use Rattle.scans.specs.declared.scan.Place.TheVariants.{Reading as ReadingAt, Ended as HasEnded}
use Rattle.scans.specs.declared.scan.Scan.{Scan}
use Rattle.scans.specs.declared.scan.Piece.{Piece}
use Rattle.scans.specs.declared.scan.Piece.TheVariants.{Token, Gap}
use Rattle.scans.specs.Scan.{entry_of, past, over}

-- graph words, text, scan: 12; 14, "scan offset past the text"; 16, "the scan has already answered ended"
unfoldable pub scan_refusal : List ℕ → List ℕ → Scan → ℕ
scan_refusal graph text scan = lowest (on (not (graph_fits graph)) 12 ∷ on (past text scan.place) 14 ∷ on (over scan.place) 16 ∷ [])

-- 1 and its leaf for a token, 2 and 0 for a gap; start, end
abbrev pub entry_values : Piece → List ℕ
entry_values (Token leaf start end) = 1 ∷ leaf ∷ start ∷ end ∷ []
entry_values (Gap start end) = 2 ∷ 0 ∷ start ∷ end ∷ []

-- four zeros for ended
unfoldable pub scan_values : Graph → List ℕ → Place → List ℕ
scan_values g text (ReadingAt offset) =
    cond (eqb offset (length text)) (0 ∷ 0 ∷ 0 ∷ 0 ∷ []) (entry_values (entry_of text offset (read_graph g (drop offset text))))
scan_values g text HasEnded = 0 ∷ 0 ∷ 0 ∷ 0 ∷ []
