-- A scan moves on: every token and every gap ends after it starts, and not past the text. Assumes nothing.
use Rattle.std.specs.Prelude.{Option, Some, None, Ok}
use mathlib.Core.Path.{◌≡◌, sym, subst}
use mathlib.Core.Bool.{true}
use mathlib.Core.List.{List, [], ◌∷◌}
use Prim.Native.Nat.{ℕ, zero, suc, ◌+◌, ◌-◌, ◌≤◌, ◌<◌}
use native.Mathlib.Omega.{arith}
use borrow.Author.Tests.{eqb-true, eqb-false, ltb-true}
use lib.Dec.{eqb, ltb}
use lib.ListN.{length, drop, length-drop}
use Rattle.lists.proofs.Bools.{Is, yes-is, no-is, is}
use Rattle.graph_rules.specs.Graph.{Graph, to, accept_of, early_of, graph_from, graph_fits}
use Rattle.graph_rules.specs.declared.Found.{Found}
use Rattle.graph_rules.specs.Read.{Reading, mark, late, onward, walk, graph_walker, read_graph}
use Rattle.scans.specs.declared.scan.Piece.{Piece}
use Rattle.scans.specs.declared.scan.Piece.TheVariants.{Token, Gap}
use Rattle.scans.specs.declared.scan.Scanned.{Scanned}
use Rattle.scans.specs.Scan.{reading_at, has_ended, end_of, gap_length, gap_at, entry_of, scanned_by, scan_from, scan_at, scan_of, next}

-- ---- a reading ends in the text

-- a reading that is there ends at m or before
pub data Upto (m : ℕ) : Reading → Type 0 where
  nothing : Upto m None
  found : {f : Found} → f.end ≤ m → Upto m (Some f)

later : {m n : ℕ} {r : Reading} → m ≤ n → Upto m r → Upto n r
later h nothing = nothing
later {n = n} h (found {f = f} k) = let l : f.end ≤ n = omega arith in found l

late-upto : (o : Option ℕ) (k m : ℕ) {r : Reading} → k ≤ suc m → Upto m r → Upto m (late o k r)
late-upto None k m h u = u
late-upto (Some l) zero m h u = u
late-upto (Some l) (suc k) m h u = let q : k ≤ m = omega arith in found q

mark-upto : (e a : Option ℕ) (k m : ℕ) {r : Reading} → k ≤ m → Upto m r → Upto m (mark e a k r)
mark-upto (Some l) a k m h u = found h
mark-upto None a k m h u = late-upto a k m (omega arith) u

walk-upto : (g : Graph) (text : List ℕ) (s k : ℕ) {r : Reading} → Upto (k + length text) r → Upto (k + length text) (walk (graph_walker g) s k r text)
unfolding graph_walker
walk-upto g [] s k {r} u = go (to g s 256)
  where
    q : Reading
    q = mark (early_of g s) (accept_of g s) k r

    uq : Upto (k + 0) q
    uq = mark-upto (early_of g s) (accept_of g s) k (k + 0) (omega arith) u

    go : (o : Option ℕ) → Upto (k + 0) (onward q (λ u. late (accept_of g u) (suc k) q) o)
    go None = uq
    go (Some v) = late-upto (accept_of g v) (suc k) (k + 0) (omega arith) uq
walk-upto g (b ∷ text) s k {r} u = go (to g s b) (λ v w. walk-upto g text v (suc k) w)
  where
    e : suc k + length text ≡ k + suc (length text)
    e = omega arith

    q : Reading
    q = mark (early_of g s) (accept_of g s) k r

    uq : Upto (k + suc (length text)) q
    uq = mark-upto (early_of g s) (accept_of g s) k (k + suc (length text)) (omega arith) u

    go : (o : Option ℕ) → ((v : ℕ) → Upto (suc k + length text) q → Upto (suc k + length text) (walk (graph_walker g) v (suc k) q text))
        → Upto (k + suc (length text)) (onward q (λ u. walk (graph_walker g) u (suc k) q text) o)
    go None f = uq
    go (Some v) f =
        subst (λ (m : ℕ). Upto m (walk (graph_walker g) v (suc k) q text)) e (f v (subst (λ (m : ℕ). Upto m q) (sym e) uq))

pub reads-upto : (g : Graph) (text : List ℕ) → Upto (length text) (read_graph g text)
unfolding read_graph
reads-upto g text =
    let e : 0 + length text ≡ length text = omega arith in
    subst (λ (m : ℕ). Upto m (walk (graph_walker g) g.root 0 None text)) e (walk-upto g text g.root 0 nothing)

-- ---- what an answer that is not refused says of the scan

pub data Step (text : List ℕ) (o : ℕ) : Scanned → Type 0 where
  a-token : {l e : ℕ} → o < e → e ≤ length text → Step text o (record { answer = Ok (Some (Token l o e)); scan = reading_at e })
  a-gap : {e : ℕ} → o < e → e ≤ length text → Step text o (record { answer = Ok (Some (Gap o e)); scan = reading_at e })
  the_end : o ≡ length text → Step text o (record { answer = Ok None; scan = has_ended })

-- a piece starts at an offset, ends after it, and not past the text
pub data Moves (text : List ℕ) (o : ℕ) : Piece → Type 0 where
  moves-token : {l e : ℕ} → o < e → e ≤ length text → Moves text o (Token l o e)
  moves-gap : {e : ℕ} → o < e → e ≤ length text → Moves text o (Gap o e)

pub moves-after : {text : List ℕ} {o : ℕ} {p : Piece} → Moves text o p → o < end_of p
moves-after (moves-token h k) = h
moves-after (moves-gap h k) = h

pub moves-within : {text : List ℕ} {o : ℕ} {p : Piece} → Moves text o p → end_of p ≤ length text
moves-within (moves-token h k) = k
moves-within (moves-gap h k) = k

gap-moves : (text : List ℕ) (o : ℕ) → o < length text → Moves text o (gap_at text o)
unfolding gap_length
gap-moves text o h = let a : o < o + 1 = omega arith in let b : o + 1 ≤ length text = omega arith in moves-gap a b

reading-moves : (text : List ℕ) (o : ℕ) (r : Reading) → o < length text → Upto (length text - o) r → Moves text o (entry_of text o r)
reading-moves text o None h u = gap-moves text o h
reading-moves text o (Some f) h (found k) = go (is (eqb f.end 0))
  where
    go : Is (eqb f.end 0) → Moves text o (entry_of text o (Some f))
    go (yes-is q) = rw q (gap-moves text o h)
    go (no-is q) =
        let n : f.end ≡ 0 → ⊥ = eqb-false _ _ q in
        let a : o < o + f.end = omega (arith, n) in
        let b : o + f.end ≤ length text = omega arith in
        rw q (moves-token a b)

pub entry-moves : (g : Graph) (text : List ℕ) (o : ℕ) → o < length text → Moves text o (entry_of text o (read_graph g (drop o text)))
entry-moves g text o h =
    reading-moves text o (read_graph g (drop o text)) h (subst (λ (m : ℕ). Upto m (read_graph g (drop o text))) (length-drop o text) (reads-upto g (drop o text)))

entry-step : (text : List ℕ) (o : ℕ) (p : Piece) → Moves text o p → Step text o (scanned_by p)
entry-step text o p (moves-token h k) = a-token h k
entry-step text o p (moves-gap h k) = a-gap h k

pub scan_step : (g : Graph) (text : List ℕ) (o : ℕ) → o ≤ length text → Step text o (scan_of g text (reading_at o))
scan_step g text o h = go (is (ltb (length text) o)) (is (eqb o (length text)))
  where
    go : Is (ltb (length text) o) → Is (eqb o (length text)) → Step text o (scan_of g text (reading_at o))
    go (yes-is p) q = let l : length text < o = ltb-true _ _ p in absurd (omega arith)
    go (no-is p) (yes-is q) = rw (p, scan_at) (rw (q, scan_from) (the_end (eqb-true _ _ q)))
    go (no-is p) (no-is q) =
        let n : o ≡ length text → ⊥ = eqb-false _ _ q in
        let l : o < length text = omega (arith, n) in
        rw (p, scan_at) (rw (q, scan_from) (entry-step text o _ (entry-moves g text o l)))

-- a scan that reads at an offset in the text, of a legal graph, is never refused, and moves on until it ends
pub next-step : (graph text : List ℕ) (o : ℕ) → graph_fits graph ≡ true → o ≤ length text → Step text o (next graph text (reading_at o))
unfolding next
next-step graph text o legal h = rw (legal, next) (scan_step (graph_from graph) text o h)
