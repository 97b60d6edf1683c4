-- A text's entries written into a buffer, one after another: what is written, and what repeated calls would still give, are together the whole list.
-- Assumes nothing.
use Rattle.std.specs.Prelude.{Ok}
use mathlib.Core.Path.{◌≡◌, refl, sym, ap, subst, ◌∙◌}
use mathlib.Core.List.{List, [], ◌++◌, flat_map, append_assoc, append-nil}
use Prim.Native.Nat.{ℕ, suc, ◌+◌, ◌-◌, ◌*◌, ◌≤◌, ◌<◌}
use native.Mathlib.Omega.{arith}
use lib.ListN.{length, drop, length-append}
use lib.Seq.{sets}
use Rattle.lists.proofs.Buffers.{Filled, filled-run}
use Rattle.graph_rules.specs.Graph.{Graph}
use Rattle.graph_rules.specs.Read.{read_graph}
use Rattle.scans.specs.declared.scan.Piece.{Piece}
use Rattle.scans.specs.declared.scan.Piece.TheVariants.{Token, Gap}
use Rattle.scans.specs.declared.scan.Scanned.{Scanned}
use Rattle.scans.specs.declared.scan.Scan.{Scan}
use Rattle.scans.specs.declared.scan.Place.TheVariants.{Reading as ReadingAt}
use Rattle.scans.specs.Scan.{reading_at, has_ended, end_of, entry_of}
use Rattle.scans.specs.List.{entry_size, entry_words, Listing, one_more, go_on, list_for, list_words, listed_by}
use Rattle.scans.proofs.Entries.{scan-ends, scan-goes}
use Rattle.scans.proofs.Scans.{Moves, moves-within, entry-moves}

-- ---- one call more

abbrev entry_at : Graph → List ℕ → ℕ → Piece
entry_at g text at = entry_of text at (read_graph g (drop at text))

pub entry-size : (p : Piece) → length (entry_words p) ≡ entry_size
entry-size (Token leaf start end) = refl
entry-size (Gap start end) = refl

module _ (g : Graph) (text : List ℕ) (k at : ℕ) where
  pub list-ends : at ≡ length text → list_for g text (suc k) (reading_at at) ≡ record { entries = []; scan = has_ended }
  list-ends q = ap (λ (a : Scanned). go_on (λ s. list_for g text k s) a.answer a.scan) (scan-ends g text (ReadingAt at) at refl q)

  pub list-goes : at < length text
      → list_for g text (suc k) (reading_at at) ≡ one_more (entry_at g text at) (list_for g text k (reading_at (end_of (entry_at g text at))))
  list-goes h = ap (λ (a : Scanned). go_on (λ s. list_for g text k s) a.answer a.scan) (scan-goes g text (ReadingAt at) at refl (omega arith) (λ q. omega arith))

-- ---- the buffer

pub record Filling (g : Graph) (text : List ℕ) (from room : ℕ) (found out : List ℕ) (n at : ℕ) : Type 0 where
  pub wrote : List ℕ
  pub filled : Filled found wrote out
  pub size : length wrote ≡ entry_size * n
  pub few : n ≤ room
  pub within : at ≤ length text
  pub words : wrote ++ list_words (list_for g text (room - n) (reading_at at)) ≡ list_words (list_for g text room (reading_at from))
  pub count : n + length (list_for g text (room - n) (reading_at at)).entries ≡ length (list_for g text room (reading_at from)).entries
  pub scan : (list_for g text (room - n) (reading_at at)).scan ≡ (list_for g text room (reading_at from)).scan

module _ (g : Graph) (text : List ℕ) (from room : ℕ) (found out : List ℕ) (n at : ℕ) (f : Filling g text from room found out n at) where
  abbrev whole : Listing
  whole = list_for g text room (reading_at from)

  -- the list that is left, where it is known
  known : (l : Listing) → list_for g text (room - n) (reading_at at) ≡ l
      → (f.wrote ++ list_words l ≡ list_words whole) × (n + length l.entries ≡ length whole.entries) × (l.scan ≡ whole.scan)
  known l e = (
    ap (λ (x : Listing). f.wrote ++ list_words x) (sym e) ∙ f.words,
    ap (λ (x : Listing). n + length x.entries) (sym e) ∙ f.count,
    ap (λ (x : Listing). x.scan) (sym e) ∙ f.scan,
  )

  -- nothing is left but the scan
  module _ (s : Scan) (e : list_for g text (room - n) (reading_at at) ≡ record { entries = []; scan = s }) where
    pub done-listed : record { answer = Ok n; scan = s } ≡ listed_by whole
    done-listed =
        let (w, c, q) = known (record { entries = []; scan = s }) e in
        let c' : n ≡ length whole.entries = omega arith in
        (λ i. record { answer = Ok (c' i); scan = q i })

    pub done-buffer : out ≡ list_words whole ++ drop (length (list_words whole)) found
    unfolding list_words flat_map
    done-buffer =
        let (w, c, q) = known (record { entries = []; scan = s }) e in
        let w' : f.wrote ≡ list_words whole = sym (append-nil f.wrote) ∙ w in
        f.filled.holds ∙ ap (λ (l : List ℕ). l ++ drop (length l) found) w'

  pub left-full : room ≤ n → list_for g text (room - n) (reading_at at) ≡ record { entries = []; scan = reading_at at }
  left-full h = let z : room - n ≡ 0 = omega arith in ap (λ (k : ℕ). list_for g text k (reading_at at)) z

  module _ (more : n < room) where
    one_less : room - n ≡ suc (room - (n + 1))
    one_less = omega arith

    pub left-ends : at ≡ length text → list_for g text (room - n) (reading_at at) ≡ record { entries = []; scan = has_ended }
    left-ends q = ap (λ (k : ℕ). list_for g text k (reading_at at)) one_less ∙ list-ends g text (room - (n + 1)) at q

    module _ (inside : at < length text) (fits : entry_size * room ≤ length found) (e : Piece) (is-entry : e ≡ entry_at g text at) where
      rest : list_for g text (room - n) (reading_at at) ≡ one_more e (list_for g text (room - (n + 1)) (reading_at (end_of e)))
      rest =
          ap (λ (k : ℕ). list_for g text k (reading_at at)) one_less
          ∙ list-goes g text (room - (n + 1)) at inside
          ∙ ap (λ (x : Piece). one_more x (list_for g text (room - (n + 1)) (reading_at (end_of x)))) (sym is-entry)

      abbrev after : Listing
      after = list_for g text (room - (n + 1)) (reading_at (end_of e))

      pub filling-more : Filling g text from room found (sets out (entry_size * n) (entry_words e)) (n + 1) (end_of e)
      unfolding list_words flat_map
      filling-more =
          let (w, c, q) = known (one_more e after) rest in
          let moves : Moves text at e = subst (λ (x : Piece). Moves text at x) (sym is-entry) (entry-moves g text at inside) in
          let size = entry-size e in
          record {
            wrote = f.wrote ++ entry_words e;
            filled = filled-run (entry_size * n) (entry_words e) f.filled f.size (omega arith);
            size = length-append f.wrote (entry_words e) ∙ (let s = f.size in omega arith);
            few = omega arith;
            within = moves-within moves;
            words = append_assoc f.wrote (entry_words e) (list_words after) ∙ w;
            count = omega arith;
            scan = q;
          }
