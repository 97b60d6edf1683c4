-- The rows of the reached states, one after another (`Written`): what the loop that writes them keeps, and that with the words in front and zeros after
-- them they are the words of the first graph (`written_all_lem`). Assumes nothing.
use Rattle.std.specs.Prelude.{Option, Some, None, unwrap_or}
use mathlib.Core.Path.{◌≡◌, refl, sym, ap, ◌∙◌}
use mathlib.Core.Bool.{Bool, false}
use mathlib.Core.List.{List, [], ◌∷◌, ◌++◌, append_assoc, map, flat_map}
use Prim.Native.Nat.{ℕ, ◌+◌, ◌*◌, ◌-◌, ◌≤◌, ◌<◌}
use native.Mathlib.Omega.{arith}
use lib.ListN.{length, get_or, take, drop, replicate, length-append, length-replicate, length-map}
use lib.Seq.{sets, sets-eq, length-sets, length-take-le, drop_at}
use Rattle.lists.specs.Lists.{below, select, number_from}
use Rattle.lists.specs.Sets.{In, count}
use Rattle.lists.proofs.Buffers.{sets-append, sets-front}
use Rattle.lists.proofs.Elements.{length-tab}
use Rattle.lists.proofs.Members.{members, members-in, members-out, select-count, select-map, flat_map-one, flat_map-map}
use Rattle.lists.proofs.Numbers.{number-padded}
use Rattle.lists.proofs.Padding.{padding-at}
use Rattle.lists.proofs.Worklist.{count-take-in, count-take-out}
use Rattle.graph_rules.specs.Table.{table_of, size, refusal}
use Rattle.graph_rules.specs.Graph.{State, Graph, state_words, graph_words, graph_buffer, written_on}
use Rattle.graph_rules.specs.Build.{reached, renamed, relabel, restrict, first_state, whole_graph}
use Rattle.graph_rules.proofs.Counts.{size_is, reached-size, reached-front}
use Rattle.graph_rules.specs.Layout.{most_states, row_words, graph_place, graph_size}
use Rattle.legal.specs.Conditions.{states}
use Rattle.rows.specs.Renumbering.{first_graph, new_row}
use Rattle.legal.proofs.Legal.{legal-sized}
use Rattle.rows.proofs.NewRows.{row_is, row-length}

-- two words in front, after the others
front-late : (buffer body : List ℕ) (a b : ℕ) → 2 + length body ≤ length buffer
    → sets (sets buffer 2 body) 0 (a ∷ (b ∷ [])) ≡ (a ∷ (b ∷ body)) ++ drop (2 + length body) buffer
front-late buffer body a b room =
    sets-front (sets buffer 2 body) (a ∷ (b ∷ [])) (let e = length-sets buffer 2 body in omega arith)
    ∙ ap (λ (l : List ℕ). a ∷ (b ∷ drop 2 l)) (sets-eq body buffer 2 room ∙ append_assoc (take 2 buffer) body (drop (2 + length body) buffer))
    ∙ ap (λ (l : List ℕ). a ∷ (b ∷ l)) (drop_at (take 2 buffer) (body ++ drop (2 + length body) buffer) 2 (length-take-le 2 buffer (omega arith)))

-- the words of state s under its new name
abbrev pub renamed_row : List ℕ → ℕ → ℕ → List ℕ
renamed_row w start s = state_words (renamed (number_from 0 (reached (table_of w) start)) (first_state (table_of w) s))

-- those of the members before s
unfoldable pub rows_before : List ℕ → ℕ → List Bool → ℕ → List ℕ
rows_before w start set s = flat_map (renamed_row w start) (members set s)

-- k rows are written from word 2 on, those of the members before s; the others are unchanged
pub record Written (w : List ℕ) (start : ℕ) (set : List Bool) (found out : List ℕ) (k s : ℕ) : Type 0 where
  pub small : k ≤ s
  pub number : k ≡ count (take s set)
  pub size : length (rows_before w start set s) ≡ row_words * k
  pub holds : out ≡ sets found 2 (rows_before w start set s)

-- the same of what equals
pub written_same : {w : List ℕ} {start : ℕ} {set : List Bool} {found out : List ℕ} {k s : ℕ} (found' out' : List ℕ) (k' s' : ℕ)
    → found' ≡ found → out' ≡ out → k' ≡ k → s' ≡ s → Written w start set found out k s → Written w start set found' out' k' s'
written_same {w} {start} {set} found' out' k' s' a b c d r =
    let z = r.small in
    record {
      small = omega arith;
      number = c ∙ r.number ∙ ap (λ (x : ℕ). count (take x set)) (sym d);
      size = ap (λ (x : ℕ). length (rows_before w start set x)) d ∙ r.size ∙ ap (λ (x : ℕ). row_words * x) (sym c);
      holds = b ∙ r.holds ∙ (λ i. sets (sym a i) 2 (rows_before w start set (sym d i)));
    }

pub written_none : (w : List ℕ) (start : ℕ) (set : List Bool) (found : List ℕ) → Written w start set found found 0 0
unfolding rows_before flat_map
written_none w start set found = record { small = omega arith; number = refl; size = refl; holds = refl }

module _ (w : List ℕ) (legal : refusal w ≡ 0) (start : ℕ) (low : start < states w) (set : List Bool)
    (is : set ≡ reached (table_of w) start ++ replicate (most_states - states w) false) where
  abbrev keep : List Bool
  keep = reached (table_of w) start

  set-length : length set ≡ most_states
  set-length =
      let l = reached-size w start in
      let n = (legal-sized w legal).few-states in
      ap length is ∙ length-append keep (replicate (most_states - states w) false) ∙ (let r = length-replicate {A = Bool} (most_states - states w) false in omega arith)

  -- the first n flags of the set are the reached states
  set-whole : take (states w) set ≡ keep
  set-whole = ap (take (states w)) is ∙ reached-front w start (replicate (most_states - states w) false)

  module _ (names : List (Option ℕ)) (named : names ≡ number_from 0 set) where
    -- the set's names are those of the reached states
    alike : (u : ℕ) → get_or names u None ≡ get_or (number_from 0 keep) u None
    alike u =
        ap (λ (l : List (Option ℕ)). get_or l u None) (named ∙ ap (number_from 0) is ∙ number-padded 0 keep (most_states - states w))
        ∙ padding-at None (number_from 0 keep) (most_states - states w) u

    row-named : (s : ℕ) → new_row (table_of w) names s ≡ renamed_row w start s
    unfolding renamed
    row-named s =
        row_is (table_of w) names s
        ∙ (λ i. state_words (record {
          steps = map (λ o. elim o [ None ↦ None | Some u ↦ alike u i ]) (first_state (table_of w) s).steps;
          accept = (first_state (table_of w) s).accept;
          early = (first_state (table_of w) s).early;
        }))

    module _ (found out : List ℕ) (k s : ℕ) (h : s < states w) (r : Written w start set found out k s) where
      inside : s < length set
      inside = let l = set-length in let n = (legal-sized w legal).few-states in omega arith

      -- a state that is not reached is passed
      pub written_out : get_or set s false ≡ false → Written w start set found out k (s + 1)
      unfolding rows_before
      written_out e =
          let same : rows_before w start set (s + 1) ≡ rows_before w start set s = ap (flat_map (renamed_row w start)) (members-out set s inside e) in
          let c = count-take-out set s e in
          let z = r.small in
          record {
            small = omega arith;
            number = r.number ∙ sym c;
            size = ap length same ∙ r.size;
            holds = r.holds ∙ ap (sets found 2) (sym same);
          }

      -- a reached state's row is written as row k
      pub written_in : In set s → Written w start set found (sets out (graph_place k 0) (new_row (table_of w) names s)) (k + 1) (s + 1)
      unfolding rows_before
      written_in e =
          let rows = rows_before w start set s in
          let row = row-named s in
          let more : rows_before w start set (s + 1) ≡ rows ++ renamed_row w start s =
          ap (flat_map (renamed_row w start)) (members-in set s inside e) ∙ flat_map-one (renamed_row w start) (members set s) s in
          let z = r.size in
          let b = r.small in
          let c = count-take-in set s e in
          let n = r.number in
          let wide : length (renamed_row w start s) ≡ row_words = ap length (sym row) ∙ row-length w (legal-sized w legal) names s h in
          record {
            small = omega arith;
            number = omega arith;
            size = ap length more ∙ length-append rows (renamed_row w start s) ∙ omega arith;
            holds =
                ap (λ (x : List ℕ). sets x (graph_place k 0) (new_row (table_of w) names s)) r.holds
                ∙ ap (sets (sets found 2 rows) (graph_place k 0)) row
                ∙ ap (λ (p : ℕ). sets (sets found 2 rows) p (renamed_row w start s)) (omega arith)
                ∙ sym (sets-append found 2 rows (renamed_row w start s))
                ∙ ap (sets found 2) (sym more);
          }

  -- ---- all of them

  abbrev graph : Graph
  graph = first_graph (table_of w) start

  chosen : select keep (map (first_state (table_of w)) (below (size (table_of w)))) ≡ map (first_state (table_of w)) (members set (states w))
  chosen =
      select-map (first_state (table_of w)) keep (below (size (table_of w)))
      ∙ ap (λ (n : ℕ). map (first_state (table_of w)) (select keep (below n))) (size_is w)
      ∙ ap (λ (s : List Bool). map (first_state (table_of w)) (select s (below (states w)))) (sym set-whole)

  rows_are : rows_before w start set (states w) ≡ flat_map state_words graph.states
  unfolding rows_before restrict relabel whole_graph
  rows_are =
      let names = number_from 0 keep in
      sym (flat_map-map (λ (x : State). state_words (renamed names x)) (first_state (table_of w)) (members set (states w)))
      ∙ ap (flat_map (λ (x : State). state_words (renamed names x))) (sym chosen)
      ∙ sym (flat_map-map state_words (renamed names) (select keep (map (first_state (table_of w)) (below (size (table_of w))))))

  states-are : length graph.states ≡ count (take (states w) set)
  unfolding restrict relabel whole_graph
  states-are =
      let whole = map (first_state (table_of w)) (below (size (table_of w))) in
      length-map (select keep whole) (renamed (number_from 0 keep))
      ∙ select-count keep whole
      (reached-size w start ∙ sym (size_is w) ∙ sym (length-map (below (size (table_of w))) (first_state (table_of w)) ∙ length-tab 0 (size (table_of w)) (λ x. x)))
      ∙ ap count (sym set-whole)

  root_is : (names : List (Option ℕ)) → names ≡ number_from 0 set → unwrap_or (get_or names start None) 0 ≡ graph.root
  unfolding restrict relabel whole_graph
  root_is names named = ap (λ (o : Option ℕ). unwrap_or o 0) (alike names named start)

  -- with the zeros after them and the words in front
  pub written_all_lem : (buffer out : List ℕ) (k root : ℕ) (names : List (Option ℕ)) → names ≡ number_from 0 set → root ≡ unwrap_or (get_or names start None) 0
      → graph_size (states w) ≤ length buffer → Written w start set buffer out k (states w)
      → sets (sets out (graph_place k 0) (replicate (graph_place (states w) 0 - graph_place k 0) 0)) 0 (k ∷ (root ∷ [])) ≡ written_on (states w) graph buffer
  unfolding graph_buffer graph_words
  written_all_lem buffer out k root names named b room r =
      let rows = rows_before w start set (states w) in
      let zeros : List ℕ = replicate (graph_place (states w) 0 - graph_place k 0) 0 in
      let n = r.number in
      let s = r.small in
      let z = r.size in
      let l = states-are in
      let head : k ≡ length graph.states = omega arith in
      let t : 2 + length (rows ++ zeros) ≡ graph_size (states w) =
      (let a = length-append rows zeros in let e = length-replicate {A = ℕ} (graph_place (states w) 0 - graph_place k 0) 0 in omega arith) in
      ap (λ (x : List ℕ). sets (sets x (graph_place k 0) zeros) 0 (k ∷ (root ∷ []))) r.holds
      ∙ ap (λ (p : ℕ). sets (sets (sets buffer 2 rows) p zeros) 0 (k ∷ (root ∷ []))) (omega arith)
      ∙ ap (λ (x : List ℕ). sets x 0 (k ∷ (root ∷ []))) (sym (sets-append buffer 2 rows zeros))
      ∙ front-late buffer (rows ++ zeros) k root (omega arith)
      ∙ ap (λ (p : ℕ). (k ∷ (root ∷ (rows ++ zeros))) ++ drop p buffer) t
      ∙ ap (λ (x : List ℕ). x ++ drop (graph_size (states w)) buffer)
      (λ i. (head i ∷ ((b ∙ root_is names named) i ∷ rows_are i)) ++ replicate (zero-count i) 0)
    where
      zero-count : graph_place (states w) 0 - graph_place k 0 ≡ row_words * (states w - length graph.states)
      zero-count = let n = r.number in let l = states-are in omega arith
