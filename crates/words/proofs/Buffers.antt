-- Words that are a graph's buffer: from what each word is (`written`), read back (`taken-words`), written over (`written_over`). Assumes nothing.
use Rattle.std.specs.Prelude.{unwrap_or}
use mathlib.Core.Path.{◌≡◌, refl, sym, ap, ◌∙◌}
use mathlib.Core.Bool.{true}
use mathlib.Core.List.{List, ◌++◌, append_assoc}
use mathlib.Core.Logic.{⊎_elim}
use Prim.Native.Nat.{ℕ, zero, suc, ◌+◌, ◌*◌, ◌-◌, ◌/◌, ◌%◌, ◌≤◌, ◌<◌}
use native.Mathlib.Omega.{arith}
use lib.ListN.{length, get_or, take, drop, replicate, take-append-drop, get_or-replicate, replicate-append-replicate, get_or-append}
use lib.Seq.{ext_get_or, length-take-le, get_or-take, get_or-append-add, drop_at}
use Rattle.lists.proofs.Bools.{lt-or-le}
use Rattle.graph_rules.specs.Graph.{Graph, to, accept_of, early_of, graph_from, graph_fits, graph_words, graph_buffer}
use Rattle.graph_rules.proofs.Fits.{Fits}
use Rattle.graph_rules.proofs.Flat.{target-word, marks-word, from-length}
use Rattle.graph_rules.proofs.Taken.{taken-long, taken-few}
use Rattle.graph_rules.proofs.Words.{words-length, buffer-length, words-taken, graph-back}
use Rattle.words.proofs.GraphWords.{target_is, accept-is, early-is, taken-fits}
use Rattle.graph_rules.specs.Layout.{step_count, no_state, most_states, row_words, marks_place, graph_place, graph_size, no_leaf, marks_word}

-- ---- words that are a graph's buffer

module _ (m n : ℕ) (leaves : m ≤ no_leaf) (states : n ≤ most_states) (g : Graph) (f : Fits m n g) where
  abbrev count : ℕ
  count = length g.states

  front : (i : ℕ) → i < graph_size count → get_or (graph_buffer n g) i 0 ≡ get_or (graph_words g) i 0
  unfolding graph_buffer
  front i h = get_or-append (graph_words g) (replicate (row_words * (n - count)) 0) 0 i (let e = words-length m n leaves states g f in omega arith)

  back : (i : ℕ) → graph_size count ≤ i → i < graph_size n → get_or (graph_buffer n g) i 0 ≡ 0
  unfolding graph_buffer
  back i h k =
      let e = words-length m n leaves states g f in
      let few = f.few in
      let j = i - (graph_size count) in
      let at : i ≡ length (graph_words g) + j = omega arith in
      ap (λ (x : ℕ). get_or (graph_words g ++ replicate (row_words * (n - count)) 0) x 0) at
      ∙ get_or-append-add (graph_words g) (replicate (row_words * (n - count)) 0) j 0
      ∙ get_or-replicate (row_words * (n - count)) j 0 0 (omega arith)

  module _ (w : List ℕ) (long : graph_size n ≤ length w)
      (states-are : get_or w 0 0 ≡ length g.states) (root_is : get_or w 1 0 ≡ g.root)
      (targets-are : (s c : ℕ) → s < length g.states → c < step_count → get_or w (graph_place s c) 0 ≡ unwrap_or (to g s c) no_state)
      (marks-are : (s : ℕ) → s < length g.states → get_or w (graph_place s marks_place) 0 ≡ marks_word (unwrap_or (accept_of g s) no_leaf) (unwrap_or (early_of g s) no_leaf))
      (zeros-are : (i : ℕ) → graph_size (length g.states) ≤ i → i < graph_size n → get_or w i 0 ≡ 0) where
    row : (s c : ℕ) → s < count → c < row_words → get_or w (graph_place s c) 0 ≡ get_or (graph_words g) (graph_place s c) 0
    row s c h b =
        ⊎_elim
        (λ l. targets-are s c h l ∙ sym (target-word m n g f s h c l))
        (λ l. let e : c ≡ step_count = omega arith in
        ap (λ (x : ℕ). get_or w (graph_place s x) 0) e ∙ marks-are s h ∙ sym (marks-word m n g f s h)
        ∙ ap (λ (x : ℕ). get_or (graph_words g) (graph_place s x) 0) (sym e))
        (lt-or-le c step_count)

    word : (i : ℕ) → i < graph_size count → get_or w i 0 ≡ get_or (graph_words g) i 0
    unfolding graph_words
    word zero h = states-are
    word (suc zero) h = root_is
    word (suc (suc i)) h =
        let e : suc (suc i) ≡ graph_place (i / row_words) (i % row_words) = omega arith in
        ap (λ (x : ℕ). get_or w x 0) e ∙ row (i / row_words) (i % row_words) (omega arith) (omega arith) ∙ ap (λ (x : ℕ). get_or (graph_words g) x 0) (sym e)

    pub written : w ≡ graph_buffer n g ++ drop (graph_size n) w
    written =
        let size : length (take (graph_size n) w) ≡ graph_size n = length-take-le (graph_size n) w long in
        let same : take (graph_size n) w ≡ graph_buffer n g =
        ext_get_or 0 (take (graph_size n) w) (graph_buffer n g) (size ∙ sym (buffer-length m n leaves states g f))
        (λ i h. let h' : i < graph_size n = omega arith in
        get_or-take (graph_size n) w i 0 h'
        ∙ ⊎_elim (λ l. word i l ∙ sym (front i l)) (λ l. zeros-are i l h' ∙ sym (back i l h')) (lt-or-le i (graph_size count))) in
        sym (take-append-drop (graph_size n) w) ∙ ap (λ (x : List ℕ). x ++ drop (graph_size n) w) same

-- a buffer is well-formed
pub buffer-taken : (m n : ℕ) → m ≤ no_leaf → n ≤ most_states → (g : Graph) → Fits m n g → (rest : List ℕ) → graph_fits (graph_buffer n g ++ rest) ≡ true
unfolding graph_buffer
buffer-taken m n leaves states g f rest =
    rw (append_assoc (graph_words g) (replicate (row_words * (n - length g.states)) 0) rest) (words-taken m n leaves states g f (replicate (row_words * (n - length g.states)) 0 ++ rest))

-- and it is read back
pub buffer-back : (m n : ℕ) → m ≤ no_leaf → n ≤ most_states → (g : Graph) → Fits m n g → (rest : List ℕ) → graph_from (graph_buffer n g ++ rest) ≡ g
unfolding graph_buffer
buffer-back m n leaves states g f rest =
    rw (append_assoc (graph_words g) (replicate (row_words * (n - length g.states)) 0) rest) (graph-back m n leaves states g f (replicate (row_words * (n - length g.states)) 0 ++ rest))

-- the words that are taken are those of the graph that they hold
pub taken-words : (w : List ℕ) → graph_fits w ≡ true → ((i : ℕ) → get_or w i 0 < 65536)
    → w ≡ graph_buffer (get_or w 0 0) (graph_from w) ++ drop (graph_size (get_or w 0 0)) w
unfolding graph_from
taken-words w taken small =
    let long = taken-long w taken in
    let e : length (graph_from w).states ≡ get_or w 0 0 = from-length w in
    written no_leaf (get_or w 0 0) (omega arith) (taken-few w taken) (graph_from w) (taken-fits w taken small) w long (sym e) refl
    (λ s c h b. sym (target_is w taken s c (omega arith) b))
    (λ s h.
    let h' : s < get_or w 0 0 = omega arith in
    let a = accept-is w taken s h' in
    let b = early-is w taken s h' in
    omega arith)
    (λ i h k. absurd (omega arith))

-- a graph of no more states, written over one: zeros follow it as far as before
module _ (m n : ℕ) (leaves : m ≤ no_leaf) (states : n ≤ most_states) (g : Graph) (f : Fits m n g) (h : Graph) (less : length h.states ≤ length g.states)
    (rest : List ℕ) where
  abbrev old : ℕ
  old = length g.states

  abbrev new : ℕ
  new = length h.states

  abbrev zeros : ℕ → List ℕ
  zeros k = replicate (row_words * k) 0

  after : drop (graph_size old) ((graph_words g ++ zeros (n - old)) ++ rest) ≡ zeros (n - old) ++ rest
  after =
      ap (drop (graph_size old)) (append_assoc (graph_words g) (zeros (n - old)) rest)
      ∙ drop_at (graph_words g) (zeros (n - old) ++ rest) (graph_size old) (words-length m n leaves states g f)

  gap : zeros (old - new) ++ zeros (n - old) ≡ zeros (n - new)
  gap =
      let few = f.few in
      let sum : row_words * (old - new) + row_words * (n - old) ≡ row_words * (n - new) = omega arith in
      rw (replicate-append-replicate, sum)

  pub written_over : graph_buffer (length g.states) h ++ drop (graph_size (length g.states)) (graph_buffer n g ++ rest) ≡ graph_buffer n h ++ rest
  unfolding graph_buffer
  written_over =
      rw (
        after,
        append_assoc (graph_words h) (zeros (old - new)) (zeros (n - old) ++ rest),
        ← append_assoc (zeros (old - new)) (zeros (n - old)) rest,
        gap,
        append_assoc (graph_words h) (zeros (n - new)) rest,
      )
