-- A fresh scan of a text of length n has answered ended by call n + 1, and its tokens and gaps run end to end from 0 to n. Assumes nothing.
use mathlib.Core.Path.{◌≡◌, refl, sym, ap, subst, ◌∙◌}
use mathlib.Core.Bool.{true}
use mathlib.Core.List.{List, []}
use mathlib.Core.Logic.{⊎_elim}
use Prim.Native.Nat.{ℕ, zero, suc, ◌+◌, ◌≤◌, ◌<◌}
use native.Mathlib.Nat.{eq-or-lt_of_le}
use native.Mathlib.Omega.{arith}
use lib.ListN.{length, drop}
use Rattle.graph_rules.specs.Graph.{Graph, graph_from, graph_fits}
use Rattle.graph_rules.specs.Read.{read_graph}
use Rattle.scans.specs.declared.scan.Piece.{Piece}
use Rattle.scans.specs.declared.scan.Scan.{Scan}
use Rattle.scans.specs.declared.scan.Scanned.{Scanned}
use Rattle.scans.specs.Scan.{reading_at, has_ended, fresh, end_of, entry_of, scan_of, next}
use Rattle.scans.specs.List.{Listing, go_on, one_more, list_for, calls_for, EndToEnd, no_more, token-first, gap-first}
use Rattle.scans.proofs.Scans.{Moves, moves-token, moves-gap, moves-after, moves-within, entry-moves}
use Rattle.scans.proofs.Filling.{list-ends, list-goes}

pub record Ends (a b : ℕ) (l : Listing) : Type 0 where
  pub over : l.scan ≡ has_ended
  pub run : EndToEnd a b l.entries

first : (text : List ℕ) (a b : ℕ) (p : Piece) (l : Listing) → Moves text a p → Ends (end_of p) b l → Ends a b (one_more p l)
first text a b p l (moves-token h k) r = record { over = r.over; run = token-first h r.run }
first text a b p l (moves-gap h k) r = record { over = r.over; run = gap-first h r.run }

-- from an offset on, with as many calls as bytes are left, and one more
from-offset : (g : Graph) (text : List ℕ) (k o : ℕ) → o ≤ length text → length text < k + o → Ends o (length text) (list_for g text k (reading_at o))
from-offset g text zero o h few = absurd (omega arith)
from-offset g text (suc k) o h few = ⊎_elim at-end (inside (λ e a b. from-offset g text k e a b)) (eq-or-lt_of_le h)
  where
    at-end : o ≡ length text → Ends o (length text) (list_for g text (suc k) (reading_at o))
    at-end q =
        subst (λ (l : Listing). Ends o (length text) l) (sym (list-ends g text k o q))
        (record { over = refl; run = subst (λ (b : ℕ). EndToEnd o b []) q no_more })

    inside : ((e : ℕ) → e ≤ length text → length text < k + e → Ends e (length text) (list_for g text k (reading_at e))) → o < length text
        → Ends o (length text) (list_for g text (suc k) (reading_at o))
    inside more l =
        let p = entry_of text o (read_graph g (drop o text)) in
        let m : Moves text o p = entry-moves g text o l in
        let after : o < end_of p = moves-after m in
        let within : end_of p ≤ length text = moves-within m in
        subst (λ (x : Listing). Ends o (length text) x) (sym (list-goes g text k o l))
        (first text o (length text) p _ m (more (end_of p) within (omega arith)))

pub scan-ends-by : (g : Graph) (text : List ℕ) → Ends 0 (length text) (list_for g text (length text + 1) fresh)
scan-ends-by g text = from-offset g text (length text + 1) 0 (omega arith) (omega arith)

-- ---- the same of the calls on well-formed graph words (refusal 12)

module _ (graph : List ℕ) (taken : graph_fits graph ≡ true) (text : List ℕ) where
  next-scans : (scan : Scan) → next graph text scan ≡ scan_of (graph_from graph) text scan
  unfolding next
  next-scans scan = rw (taken, next)

  calls-list : (k : ℕ) (scan : Scan) → calls_for graph text k scan ≡ list_for (graph_from graph) text k scan
  calls-list zero scan = refl
  calls-list (suc k) scan =
      ap (λ (a : Scanned). go_on (λ s. calls_for graph text k s) a.answer a.scan) (next-scans scan)
      ∙ (λ i. go_on (λ s. calls-list k s i) (scan_of (graph_from graph) text scan).answer (scan_of (graph_from graph) text scan).scan)

  pub calls-end-by : Ends 0 (length text) (calls_for graph text (length text + 1) fresh)
  calls-end-by = subst (λ (l : Listing). Ends 0 (length text) l) (sym (calls-list (length text + 1) fresh)) (scan-ends-by (graph_from graph) text)
