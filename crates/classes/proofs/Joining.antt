-- The ranges of a class joined into comparisons, from the left. After i ranges the comparisons made are stored; the latest of them may still
-- be lengthened. Assumes nothing.
use mathlib.Core.Path.{◌≡◌, refl, sym, ap, ◌∙◌}
use mathlib.Core.List.{List, [], ◌∷◌, ◌++◌, map, map-append, append_assoc, append-nil}
use Prim.Native.Nat.{ℕ, suc, ◌+◌, ◌-◌, ◌≤◌, ◌<◌}
use native.Mathlib.Numerals.{add-one}
use native.Mathlib.Omega.{arith}
use lib.ListN.{length, get_or, drop, set, replicate, length-append, length-map, drop_of_length-le}
use lib.Seq.{append_snoc}
use Rattle.classes.specs.Classes.{Range, Comparison, join, joined}
use Rattle.classes.specs.ClassAnswers.{row, exceptions, entry_of, no_entry, as_comparisons}
use Rattle.classes.specs.declared.byte_class.Comparison.{Comparison as Entry}
use Rattle.classes.specs.declared.byte_class.Comparisons.{Comparisons}
use Rattle.classes.proofs.Ranges.{attach, join-attach, attach-joins, attach-done}
use Rattle.classes.proofs.Rows.{row-none, row-push, row_last, row-latest}

-- ---- comparisons in the order in which they are made, the latest first

abbrev ascending : List Comparison → List Comparison
ascending [] = []
ascending (m ∷ ms) = ascending ms ++ m ∷ []

ascending-length : (ms : List Comparison) → length (ascending ms) ≡ length ms
ascending-length [] = refl
ascending-length (m ∷ ms) = length-append (ascending ms) (m ∷ []) ∙ rw (ascending-length ms) (omega arith)

exceptions-snoc : (ms : List Comparison) (m : Comparison) → exceptions (ms ++ m ∷ []) ≡ exceptions ms ++ m.except
exceptions-snoc [] m = append-nil m.except
exceptions-snoc (n ∷ ms) m = rw (exceptions-snoc ms m) (sym (append_assoc n.except (exceptions ms) m.except))

-- as they are stored
abbrev entries : List Comparison → List Entry
entries ms = map entry_of (ascending ms)

entries-length : (ms : List Comparison) → length (entries ms) ≡ length ms
entries-length ms = length-map (ascending ms) entry_of ∙ ascending-length ms

entries-snoc : (m : Comparison) (ms : List Comparison) → entries (m ∷ ms) ≡ entries ms ++ entry_of m ∷ []
entries-snoc m ms = map-append entry_of (ascending ms) (m ∷ [])

-- ---- comparisons stored in two arrays

pub record Laid (ms : List Comparison) (list : List Entry) (except : List ℕ) (count gaps : ℕ) : Type 0 where
  pub counted : count ≡ length ms
  pub gapped : gaps ≡ length (exceptions (ascending ms))
  pub at_list : list ≡ row no_entry (entries ms)
  pub at-except : except ≡ row 0 (exceptions (ascending ms))

laid_none : Laid [] (replicate 128 no_entry) (replicate 128 0) 0 0
laid_none =
    record {
      counted = refl;
      gapped = refl;
      at_list = sym (row-none no_entry);
      at-except = sym (row-none 0);
    }

-- a range by itself
abbrev alone : Range → Comparison
alone r = record { range = r; except = [] }

laid-alone : {ms : List Comparison} {list : List Entry} {except : List ℕ} {count gaps : ℕ} (r : Range) → count < 128
    → Laid ms list except count gaps → Laid (alone r ∷ ms) (set list count (entry_of (alone r))) except (count + 1) gaps
laid-alone {ms} {list} {except} {count} {gaps} r h l =
    let all = ascending ms in
    let e : count ≡ length (entries ms) = l.counted ∙ sym (entries-length ms) in
    let x : exceptions (all ++ alone r ∷ []) ≡ exceptions all = exceptions-snoc all (alone r) ∙ append-nil (exceptions all) in
    record {
      counted = omega (arith, l.counted);
      gapped = rw x l.gapped;
      at_list = rw (entries-snoc (alone r) ms, l.at_list, e) (row-push no_entry (entries ms) (entry_of (alone r)) (omega arith));
      at-except = rw x l.at-except;
    }

-- the latest, lengthened over the byte after it up to the end of the next range
abbrev longer : Comparison → ℕ → Comparison
longer m last = record { range = record { first = m.range.first; last = last }; except = m.except ++ suc m.range.last ∷ [] }

module _ {m : Comparison} {ms : List Comparison} {list : List Entry} {except : List ℕ} {count gaps : ℕ} (h : count ≤ 128)
    (l : Laid (m ∷ ms) list except count gaps) where
  place : count - 1 ≡ length (entries ms)
  place = omega (arith, l.counted, entries-length ms)

  room_lem : length (entries ms) < 128
  room_lem = omega (arith, l.counted, entries-length ms)

  -- the latest read
  laid-latest : (d : Entry) → get_or list (count - 1) d ≡ entry_of m
  laid-latest d = rw (place, l.at_list, entries-snoc m ms) (row-latest no_entry (entries ms) (entry_of m) d room_lem)

  laid-longer : (upto : ℕ) → gaps < 128 → Laid (longer m upto ∷ ms) (set list (count - 1) (entry_of (longer m upto))) (set except gaps (suc m.range.last)) count (gaps + 1)
  laid-longer upto g =
      let all = ascending ms in
      let n = longer m upto in
      let x : exceptions (all ++ n ∷ []) ≡ exceptions (all ++ m ∷ []) ++ suc m.range.last ∷ []
      = exceptions-snoc all n ∙ rw (exceptions-snoc all m) (sym (append_assoc (exceptions all) m.except (suc m.range.last ∷ []))) in
      record {
        counted = l.counted;
        gapped = rw (x, length-append (exceptions (all ++ m ∷ [])) (suc m.range.last ∷ [])) (omega (arith, l.gapped));
        at_list = rw (entries-snoc n ms, place, l.at_list, entries-snoc m ms) (row_last no_entry (entries ms) (entry_of m) (entry_of n) room_lem);
        at-except = rw (x, l.at-except, l.gapped) (row-push 0 (exceptions (all ++ m ∷ [])) (suc m.range.last) (omega (arith, l.gapped)));
      }

-- ---- the ranges, one after another

-- the comparisons made, in front of those of the ranges to come
abbrev onto : List Comparison → List Comparison → List Comparison
onto [] ns = ns
onto (m ∷ ms) ns = ascending ms ++ attach m ns

pub record Joining (rs : List Range) (list : List Entry) (except : List ℕ) (count gaps i : ℕ) : Type 0 where
  pub made : List Comparison
  pub laid : Laid made list except count gaps
  pub whole : onto made (joined (drop i rs)) ≡ joined rs
  pub parted : count + gaps ≡ i

pub joining-none : (rs : List Range) → Joining rs (replicate 128 no_entry) (replicate 128 0) 0 0 0
joining-none rs = record { made = []; laid = laid_none; whole = refl; parted = refl }

onto-longer : (m : Comparison) (ms : List Comparison) (r : Range) (rs : List Range) → r.first ≡ m.range.last + 2
    → onto (m ∷ ms) (joined (r ∷ rs)) ≡ onto (longer m r.last ∷ ms) (joined rs)
onto-longer m ms r rs near = ap (λ (l : List Comparison). ascending ms ++ l) (attach-joins m r rs (omega arith))

onto-alone : (m : Comparison) (ms : List Comparison) (r : Range) (rs : List Range) → (r.first ≡ m.range.last + 2 → ⊥)
    → onto (m ∷ ms) (joined (r ∷ rs)) ≡ onto (alone r ∷ (m ∷ ms)) (joined rs)
onto-alone m ms r rs far =
    ap (λ (l : List Comparison). ascending ms ++ l) (attach-done m r rs (λ q. far (omega arith)) ∙ ap (λ (l : List Comparison). m ∷ l) (join-attach r (joined rs)))
    ∙ sym (append_snoc (ascending ms) m (attach (alone r) (joined rs)))

onto-none : (ms : List Comparison) → onto ms [] ≡ ascending ms
onto-none [] = refl
onto-none (m ∷ ms) = refl

-- the next range is r, and e the latest entry, where there is one
module _ {rs : List Range} {list : List Entry} {except : List ℕ} {count gaps i : ℕ} (r : Range) (d : Entry) (next : drop i rs ≡ r ∷ drop (suc i) rs)
    (p : Joining rs list except count gaps i) (room : i < 128) where
  abbrev latest : Entry
  latest = get_or list (count - 1) d

  ahead : joined (drop i rs) ≡ join r (joined (drop (i + 1) rs))
  ahead = rw (next, add-one i)

  -- it stands by itself
  pub joining-alone : (0 < count → r.first ≡ latest.last + 2 → ⊥)
      → Joining rs (set list count (record { first = r.first; last = r.last; holes = 0 })) except (count + 1) gaps (i + 1)
  joining-alone far = go p.made p.laid p.whole
    where
      go : (made : List Comparison) → Laid made list except count gaps → onto made (joined (drop i rs)) ≡ joined rs
          → Joining rs (set list count (record { first = r.first; last = r.last; holes = 0 })) except (count + 1) gaps (i + 1)
      go [] l w =
          record {
            made = alone r ∷ [];
            laid = laid-alone r (omega (arith, p.parted)) l;
            whole = sym (join-attach r (joined (drop (i + 1) rs))) ∙ rw (← ahead) w;
            parted = omega (arith, p.parted);
          }
      go (m ∷ ms) l w =
          let e : latest ≡ entry_of m = laid-latest (omega (arith, p.parted)) l d in
          record {
            made = alone r ∷ (m ∷ ms);
            laid = laid-alone r (omega (arith, p.parted)) l;
            whole = sym (onto-alone m ms r (drop (i + 1) rs) (λ q. far (omega (arith, l.counted)) (rw e q))) ∙ rw (← ahead) w;
            parted = omega (arith, p.parted);
          }

  -- one byte parts it from the latest comparison
  module _ (some : 0 < count) (near : r.first ≡ latest.last + 2) where
    pub latest-holes : latest.holes ≤ gaps
    latest-holes = go p.made p.laid
      where
        go : (made : List Comparison) → Laid made list except count gaps → latest.holes ≤ gaps
        go [] l = absurd (omega (arith, l.counted))
        go (m ∷ ms) l =
            let all = ascending ms in
            let x : length (exceptions (all ++ m ∷ [])) ≡ length (exceptions all) + length m.except = ap length (exceptions-snoc all m) ∙ length-append (exceptions all) m.except in
            rw (laid-latest (omega (arith, p.parted)) l d) (omega (arith, l.gapped))

    abbrev lengthened : Entry
    lengthened = record { first = latest.first; last = r.last; holes = latest.holes + 1 }

    pub joining-longer : Joining rs (set list (count - 1) lengthened) (set except gaps (r.first - 1)) count (gaps + 1) (i + 1)
    joining-longer = go p.made p.laid p.whole
      where
        go : (made : List Comparison) → Laid made list except count gaps → onto made (joined (drop i rs)) ≡ joined rs
            → Joining rs (set list (count - 1) lengthened) (set except gaps (r.first - 1)) count (gaps + 1) (i + 1)
        go [] l w = absurd (omega (arith, l.counted))
        go (m ∷ ms) l w =
            let e : latest ≡ entry_of m = laid-latest (omega (arith, p.parted)) l d in
            let f : latest.last ≡ m.range.last = ap (λ (t : Entry). t.last) e in
            let x : r.first - 1 ≡ suc m.range.last = omega arith in
            let k : length (m.except ++ suc m.range.last ∷ []) ≡ length m.except + 1 = length-append m.except (suc m.range.last ∷ []) in
            record {
              made = longer m r.last ∷ ms;
              laid = rw (x, e, ← k) (laid-longer (omega (arith, p.parted)) l r.last (omega (arith, p.parted)));
              whole = sym (onto-longer m ms r (drop (i + 1) rs) (omega arith)) ∙ rw (← ahead) w;
              parted = omega (arith, p.parted);
            }

-- after the last range
pub joining-end : {rs : List Range} {list : List Entry} {except : List ℕ} {count gaps i : ℕ} → length rs ≤ i → Joining rs list except count gaps i
    → ◌≡◌ {A = Comparisons} (record { list = list; except = except; count = count }) (as_comparisons (joined rs))
unfolding as_comparisons
joining-end {rs} {count = count} {i = i} h p =
    let l = p.laid in
    let e : ascending p.made ≡ joined rs = sym (onto-none p.made) ∙ rw (drop_of_length-le rs h) at p.whole in
    let n : count ≡ length (joined rs) = l.counted ∙ sym (ascending-length p.made) ∙ ap length e in
    rw (l.at_list, l.at-except, n, e)
