-- How long the text of a state is at most. The lines of all its edges together have at most 25 bytes for each byte that leads somewhere: seven
-- in its class, and 18 for the line, which has one byte at least. Assumes nothing.
use Rattle.std.specs.Prelude.{Option, Some, None}
use mathlib.Core.Path.{◌≡◌, refl, ap, ◌∙◌}
use mathlib.Core.Bool.{true}
use mathlib.Core.List.{List, [], ◌++◌, map}
use Prim.Native.Nat.{ℕ, zero, suc, ◌+◌, ◌*◌, ◌≤◌, ◌<◌}
use native.Mathlib.Omega.{arith}
use lib.ListN.{length, get_or, length-append, length-take}
use Rattle.lists.specs.Lists.{tab, below, those}
use Rattle.lists.proofs.Bools.{Is, is, yes-is, no-is}
use Rattle.lists.proofs.Elements.{length-tab, get_or-tab0}
use Rattle.texts.specs.Text.{bytes, decimal, after}
use Rattle.texts.proofs.Decimals.{decimal-size}
use Rattle.texts.proofs.Joins.{joined-after, after-size}
use Rattle.classes.specs.Classes.{Class}
use Rattle.graph_rules.specs.Graph.{State, state_of, to, graph_from, graph_fits}
use Rattle.graph_rules.proofs.Taken.{taken-few}
use Rattle.graph_rules.proofs.Flat.{from-length}
use Rattle.words.proofs.GraphWords.{from-edge, taken-fits}
use Rattle.display.specs.Display.{class_text, mark_text, first_line, edge_line, edge_lines, end_lines, state_text, displayed}
use Rattle.edges.specs.Edges.{bytes_of, class_to, leads_to, targets}
use Rattle.display.proofs.ClassSize.{class-size}
use Rattle.display.proofs.Parts.{text-parts}
use Rattle.display.proofs.States.{text_of, display-all}
use Rattle.display.proofs.Members.{total, members, all-members, some-member}
use Rattle.graph_rules.specs.Layout.{end_step}

-- ---- the edges

line-size : (c : Class) (u : ℕ) → length (edge_line c u) ≡ 13 + (length (class_text c) + length (decimal u))
unfolding edge_line
line-size c u =
    let e = length-append (class_text c) (bytes " => state" ++ decimal u) in
    omega arith

module _ (st : State) where
  edge-size : (u : ℕ) → u < 10000 → leads_to st u ≡ true → suc (length (edge_line (class_to st u) u)) ≤ 25 * members (bytes_of st) u
  unfolding class_to leads_to
  edge-size u h e =
      let n = line-size (class_to st u) u in
      let c = class-size (class_to st u) in
      let d = decimal-size 4 u (omega arith) h in
      let m = some-member (bytes_of st) u e in
      omega arith

  abbrev line_to : ℕ → List ℕ
  line_to u = edge_line (class_to st u) u

  lines-size : (i k : ℕ) → i + k ≤ 10000 → length (after (bytes "\n") (map line_to (those (leads_to st) (tab i k (λ u. u))))) ≤ 25 * total (members (bytes_of st)) i k
  lines-size i zero h = omega arith
  lines-size i (suc k) h = go (is (leads_to st i)) (lines-size (suc i) k (omega arith))
    where
      rest : List ℕ
      rest = after (bytes "\n") (map line_to (those (leads_to st) (tab (suc i) k (λ u. u))))

      go : Is (leads_to st i) → length rest ≤ 25 * total (members (bytes_of st)) (suc i) k
          → length (after (bytes "\n") (map line_to (those (leads_to st) (tab i (suc k) (λ u. u))))) ≤ 25 * total (members (bytes_of st)) i (suc k)
      go (yes-is q) r =
          let e = edge-size i (omega arith) q in
          let n = length-append (line_to i) rest in
          rw (q, those) (omega arith)
      go (no-is q) r = rw (q, those) (omega arith)

  pub edges-size : (n : ℕ) → n ≤ 10000 → length (after (bytes "\n") (edge_lines n st)) ≤ 6400
  unfolding targets
  edges-size n h =
      let l = lines-size 0 n (omega arith) in
      let m = all-members (bytes_of st) 0 n in
      let t = length-take end_step st.steps in
      omega arith

-- ---- the other lines

mark-size : (name : List ℕ) (o : Option ℕ) → ((x : ℕ) → o ≡ Some x → x < 1000) → length (mark_text name o) ≤ length name + 5
mark-size name None h = omega arith
mark-size name (Some x) h =
    let d = decimal-size 3 x (omega arith) (h x refl) in
    let m = length-append (decimal x) (bytes ") ") in
    let n = length-append name (decimal x ++ bytes ") ") in
    omega arith

first-size : (s : ℕ) → s < 10000 → (a e : Option ℕ) → ((x : ℕ) → a ≡ Some x → x < 1000) → ((x : ℕ) → e ≡ Some x → x < 1000) → length (first_line s a e) ≤ 51
unfolding first_line
first-size s h a e k l =
    let accept = mark_text (bytes "accept(") a in
    let early = mark_text (bytes "early(") e in
    let i = decimal-size 4 s (omega arith) h in
    let j = mark-size (bytes "accept(") a k in
    let m = mark-size (bytes "early(") e l in
    let p = length-append (decimal s) (bytes " => StateData(" ++ (accept ++ (early ++ bytes ") {"))) in
    let q = length-append accept (early ++ bytes ") {") in
    let r = length-append early (bytes ") {") in
    omega arith

end-size : (o : Option ℕ) → ((x : ℕ) → o ≡ Some x → x < 10000) → length (after (bytes "\n") (end_lines o)) ≤ 21
end-size None h = omega arith
end-size (Some x) h = let d = decimal-size 4 x (omega arith) (h x refl) in let n = length-append (decimal x) [] in omega arith

-- ---- a state, of well-formed graph words (refusal 12)

module _ (w : List ℕ) (fits : graph_fits w ≡ true) (small : (i : ℕ) → get_or w i 0 < 65536) where
  state-size : (s : ℕ) → s < get_or w 0 0 → length (state_text (get_or w 0 0) s (state_of (graph_from w) s)) ≤ 6476
  unfolding to
  state-size s h =
      let st = state_of (graph_from w) s in
      let few = taken-few w fits in
      let f = (taken-fits w fits small).states s (rw (from-length w) h) in
      let sum : length (state_text (get_or w 0 0) s st)
      ≡ length (first_line s st.accept st.early) + (length (after (bytes "\n") (edge_lines (get_or w 0 0) st)) + (length (after (bytes "\n") (end_lines (get_or st.steps end_step None))) + 4)) =
      ap length (text-parts (get_or w 0 0) s st) ∙ simp length-append in
      let i = first-size s (omega arith) st.accept st.early (λ x e. omega (arith, f.accept-below x e)) (λ x e. omega (arith, f.early-below x e)) in
      let j = edges-size st (get_or w 0 0) (omega arith) in
      let k = end-size (get_or st.steps end_step None) (λ x e. omega (arith, (from-edge w fits s end_step x e).3)) in
      omega arith

  -- ---- the graph: a line end for each state but the first

  text-size : (i : ℕ) → i < length (below (get_or w 0 0)) → length (text_of w (get_or (below (get_or w 0 0)) i 0)) ≤ 6476
  text-size i h =
      let n = length-tab 0 (get_or w 0 0) (λ s. s) in
      rw (get_or-tab0 (get_or w 0 0) (λ s. s) i 0 (omega arith)) (state-size i (omega arith))

  pub graph-size : length (displayed (graph_from w)) ≤ 6477 * get_or w 0 0
  graph-size =
      let e = ap length (display-all w) in
      let j = joined-after (bytes "\n") (map (text_of w) (below (get_or w 0 0))) in
      let r = after-size (bytes "\n") (text_of w) 6476 0 (below (get_or w 0 0)) text-size in
      let n = length-tab 0 (get_or w 0 0) (λ s. s) in
      omega arith
