-- A graph that fits is read back from its words, whatever follows them. Assumes nothing.
use Rattle.std.specs.Prelude.{Option, Some, None, unwrap_or}
use mathlib.Core.Path.{◌≡◌, refl, ap, ◌∙◌}
use mathlib.Core.Bool.{true, ◌||◌}
use mathlib.Core.List.{List, [], ◌∷◌, ◌++◌, map, flat_map, append_assoc}
use mathlib.Core.Logic.{⊎_elim}
use Prim.Native.Nat.{ℕ, suc, ◌+◌, ◌*◌, ◌-◌, ◌≤◌, ◌<◌, zero-le, suc-le-suc}
use native.Mathlib.Omega.{arith}
use borrow.Author.Tests.{ne_eqb, eq-eqb, lt-ltb, le-leb}
use lib.Dec.{eqb, ltb}
use lib.ListN.{length, get_or, take, replicate, length-map, length-append, length-replicate}
use lib.Seq.{take_at, drop_at, get_or_at}
use Rattle.lists.specs.Lists.{all_l, pieces}
use Rattle.lists.proofs.Bools.{and_intro, or_left, or_right}
use Rattle.graph_rules.specs.Graph.{State, Graph, blank, state_of, to, state_words, graph_words, graph_buffer, or_none, state_from, graph_from, graph_fits}
use Rattle.graph_rules.proofs.Merge.{rest}
use Rattle.graph_rules.proofs.Fits.{Fits}
use Rattle.graph_rules.specs.Layout.{step_count, no_state, most_states, row_words, marks_place, graph_size, no_leaf, marks_word, accept_in, early_in}

-- ---- a word, and none

pub back_none : (word : ℕ) (o : Option ℕ) → ((x : ℕ) → o ≡ Some x → x < word) → or_none word (unwrap_or o word) ≡ o
back_none word None f = rw (eq-eqb word word refl)
back_none word (Some x) f = rw (ne_eqb x word (λ e. let h : x < word = f x refl in omega arith))

pub get_d_le : (word : ℕ) (o : Option ℕ) → ((x : ℕ) → o ≡ Some x → x < word) → unwrap_or o word ≤ word
get_d_le word None f = omega arith
get_d_le word (Some x) f = let h : x < word = f x refl in omega arith

back-steps : (word : ℕ) (l : List (Option ℕ)) → ((c x : ℕ) → get_or l c None ≡ Some x → x < word) → map (or_none word) (map (λ o. unwrap_or o word) l) ≡ l
back-steps word [] f = refl
back-steps word (o ∷ l) f =
    let a : or_none word (unwrap_or o word) ≡ o = back_none word o (f 0) in
    let b : map (or_none word) (map (λ o. unwrap_or o word) l) ≡ l = back-steps word l (λ c. f (suc c)) in
    cc

-- ---- a state

module _ (s : State) (width : length s.steps ≡ step_count) where
  abbrev front : List ℕ
  front = map (λ o. unwrap_or o no_state) s.steps

  abbrev marks : ℕ
  marks = marks_word (unwrap_or s.accept no_leaf) (unwrap_or s.early no_leaf)

  front_length : length front ≡ step_count
  front_length = length-map s.steps _ ∙ width

  pub state-length : length (state_words s) ≡ row_words
  unfolding state_words
  state-length = length-append front (marks ∷ []) ∙ (let e = front_length in omega arith)

  pub back-state : ((c x : ℕ) → get_or s.steps c None ≡ Some x → x < no_state) → ((l : ℕ) → s.accept ≡ Some l → l < no_leaf)
      → ((l : ℕ) → s.early ≡ Some l → l < no_leaf) → state_from (state_words s) ≡ s
  unfolding state_from state_words
  back-state f a e =
      let word : get_or (state_words s) marks_place 0 ≡ marks = get_or_at front marks [] 0 marks_place front_length in
      let low : accept_in marks ≡ unwrap_or s.accept no_leaf = let h = get_d_le no_leaf s.accept a in omega arith in
      let high : early_in marks ≡ unwrap_or s.early no_leaf = let h = get_d_le no_leaf s.accept a in omega arith in
      let p = ap (map (or_none no_state)) (take_at front (marks ∷ []) marks_place front_length) ∙ back-steps no_state s.steps f in
      let q = ap (λ (x : ℕ). or_none no_leaf (accept_in x)) word ∙ ap (or_none no_leaf) low ∙ back_none no_leaf s.accept a in
      let r = ap (λ (x : ℕ). or_none no_leaf (early_in x)) word ∙ ap (or_none no_leaf) high ∙ back_none no_leaf s.early e in
      λ i. record { steps = p i; accept = q i; early = r i }

-- ---- the states, one after another

back-pieces : (l : List State) (rest : List ℕ) → ((i : ℕ) → i < length l → length (state_words (get_or l i blank)) ≡ row_words)
    → pieces row_words (length l) (flat_map state_words l ++ rest) ≡ map state_words l
unfolding flat_map
back-pieces [] rest f = refl
back-pieces (s ∷ l) rest f =
    let h : length (state_words s) ≡ row_words = f 0 (suc-le-suc zero-le) in
    let tail = flat_map state_words l ++ rest in
    let split : (state_words s ++ flat_map state_words l) ++ rest ≡ state_words s ++ tail = append_assoc (state_words s) (flat_map state_words l) rest in
    rw (split, take_at (state_words s) tail row_words h, drop_at (state_words s) tail row_words h)
    (ap (◌∷◌ (state_words s)) (back-pieces l rest (λ i b. f (suc i) (suc-le-suc b))))

back-all : (l : List State) → ((i : ℕ) → i < length l → state_from (state_words (get_or l i blank)) ≡ get_or l i blank) → map state_from (map state_words l) ≡ l
back-all [] f = refl
back-all (s ∷ l) f =
    let a : state_from (state_words s) ≡ s = f 0 (suc-le-suc zero-le) in
    let b : map state_from (map state_words l) ≡ l = back-all l (λ i h. f (suc i) (suc-le-suc h)) in
    cc

module _ (m n : ℕ) (leaves : m ≤ no_leaf) (states : n ≤ most_states) (g : Graph) (f : Fits m n g) where
  target_small : (i c u : ℕ) → to g i c ≡ Some u → u < no_state
  target_small i c u e = let a = f.closed i c u e in let b = f.few in omega arith

  pub state-back : (i : ℕ) → i < length g.states → state_from (state_words (state_of g i)) ≡ state_of g i
  unfolding to
  state-back i h =
      back-state (state_of g i) (f.states i h).width (target_small i)
      (λ l e. let b = (f.states i h).accept-below l e in omega arith)
      (λ l e. let b = (f.states i h).early-below l e in omega arith)

  pub graph-back : (rest : List ℕ) → graph_from (graph_words g ++ rest) ≡ g
  unfolding graph_from graph_words state_of
  graph-back rest =
      let a : map state_from (pieces row_words (length g.states) (flat_map state_words g.states ++ rest)) ≡ g.states =
      ap (map state_from) (back-pieces g.states rest (λ i h. state-length (state_of g i) (f.states i h).width)) ∙ back-all g.states state-back in
      λ i. record { states = a i; root = g.root }

  -- ---- how long the words are

  states-length : (l : List State) → ((i : ℕ) → i < length l → length (state_words (get_or l i blank)) ≡ row_words) → length (flat_map state_words l) ≡ row_words * length l
  unfolding flat_map
  states-length [] h = refl
  states-length (s ∷ l) h =
      let a : length (state_words s) ≡ row_words = h 0 (suc-le-suc zero-le) in
      let b = states-length l (λ i k. h (suc i) (suc-le-suc k)) in
      let d : length (state_words s ++ flat_map state_words l) ≡ length (state_words s) + length (flat_map state_words l) = length-append (state_words s) (flat_map state_words l) in
      omega arith

  pub words-length : length (graph_words g) ≡ graph_size (length g.states)
  unfolding graph_words state_of
  words-length = let a = states-length g.states (λ i h. state-length (state_of g i) (f.states i h).width) in omega arith

  pub buffer-length : length (graph_buffer n g) ≡ graph_size n
  unfolding graph_buffer
  buffer-length =
      let a = length-append (graph_words g) (replicate (row_words * (n - length g.states)) 0) in
      let b = length-replicate {A = ℕ} (row_words * (n - length g.states)) 0 in
      let d = words-length in
      let e = f.few in
      omega arith

  -- ---- they are well-formed (refusal 12)

  abbrev count : ℕ
  count = length g.states

  target_fits_lem : (l : List (Option ℕ)) → ((c u : ℕ) → get_or l c None ≡ Some u → u < count)
      → all_l (λ u. ltb u count || eqb u no_state) (map (λ o. unwrap_or o no_state) l) ≡ true
  target_fits_lem [] h = refl
  target_fits_lem (None ∷ l) h = and_intro _ _ (or_right (ltb no_state count) _ refl) (target_fits_lem l (λ c. h (suc c)))
  target_fits_lem (Some u ∷ l) h = and_intro _ _ (or_left _ _ (lt-ltb u count (h 0 u refl))) (target_fits_lem l (λ c. h (suc c)))

  row_fits_lem : (l : List State) → ((i : ℕ) → i < length l → (length (get_or l i blank).steps ≡ step_count) × ((c u : ℕ) → get_or (get_or l i blank).steps c None ≡ Some u → u < count))
      → all_l (λ p. all_l (λ u. ltb u count || eqb u no_state) (take step_count p)) (map state_words l) ≡ true
  unfolding state_words
  row_fits_lem [] h = refl
  row_fits_lem (s ∷ l) h =
      let (w, t) = h 0 (suc-le-suc zero-le) in
      and_intro _ _
      (ap (all_l (λ u. ltb u count || eqb u no_state)) (take_at (front s w) (marks s w ∷ []) marks_place (front_length s w)) ∙ target_fits_lem s.steps t)
      (row_fits_lem l (λ i k. h (suc i) (suc-le-suc k)))

  pub words-taken : (rest : List ℕ) → graph_fits (graph_words g ++ rest) ≡ true
  unfolding graph_fits graph_words to state_of
  words-taken rest =
      let long : length (graph_words g ++ rest) ≡ length (graph_words g) + length rest = length-append (graph_words g) rest in
      let size = words-length in
      let few = f.few in
      and_intro _ _ (le-leb 2 (length (graph_words g ++ rest)) (omega arith)) (and_intro _ _ (le-leb (graph_size count) (length (graph_words g ++ rest)) (omega arith)) (and_intro _ _ (le-leb count most_states (omega arith))
      (and_intro _ _
      (ap (all_l (λ p. all_l (λ u. ltb u count || eqb u no_state) (take step_count p))) (back-pieces g.states rest (λ i h. state-length (state_of g i) (f.states i h).width))
      ∙ row_fits_lem g.states (λ i h. ((f.states i h).width, λ c u e. f.closed i c u e)))
      (⊎_elim
      (λ h. or_left _ _ (lt-ltb g.root count h))
      (λ h. or_right (ltb g.root count) _ (and_intro _ _ (eq-eqb count 0 h.0) (eq-eqb g.root 0 h.1)))
      f.root))))
