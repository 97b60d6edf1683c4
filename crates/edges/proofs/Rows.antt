-- A state's byte edges, read target by target: the class of an edge, and the states that edges lead to. Assumes nothing.
use Rattle.std.specs.Prelude.{Option, Some, None}
use mathlib.Core.Path.{◌≡◌, sym, ap, ◌∙◌}
use mathlib.Core.Bool.{Bool, true, false, ◌||◌}
use mathlib.Core.List.{List}
use Prim.Native.Nat.{ℕ, ◌+◌, ◌≤◌, ◌<◌}
use native.Mathlib.Numerals.{add-one}
use native.Mathlib.Omega.{arith}
use borrow.Author.Count.{below_more}
use borrow.Author.Tests.{eqb-true, eqb-false}
use lib.Dec.{eqb}
use lib.ListN.{length, get_or, set, take, replicate, length-set, length-take, length-replicate, get_or-replicate}
use lib.Seq.{length-take-le, get_or-take, get_or-set_same, get_or-set_other, take-suc, take_all, ext_get_or}
use Rattle.lists.specs.Lists.{tab, any_l, eq_option}
use Rattle.lists.proofs.Bools.{Is, is, yes-is, no-is, or_right, or-false}
use Rattle.lists.proofs.Any.{any_found, any_snoc}
use Rattle.lists.proofs.Elements.{length-tab, get_or-tab0, option-sound}
use Rattle.graph_rules.specs.Graph.{State, state_of, to, graph_from, graph_fits}
use Rattle.words.proofs.GraphWords.{from-edge}
use Rattle.edges.specs.Edges.{bytes_of, class_to, leads_to}
use Rattle.edges.proofs.ByTarget.{class-flag, class-whole}
use Rattle.graph_rules.specs.Layout.{end_step, most_states}

-- ---- what the loops keep

-- the flags below b are those of the class
pub record Filling (class flags : List Bool) (b : ℕ) : Type 0 where
  pub within : b ≤ 256
  pub room : length flags ≡ 256
  pub front : (k : ℕ) → k < b → get_or flags k false ≡ get_or class k false

-- those numbers are marked that a byte below b leads to
pub record Marking (row : List (Option ℕ)) (found : List Bool) (b : ℕ) : Type 0 where
  pub within : b ≤ 256
  pub room : length found ≡ most_states
  pub marked : (u : ℕ) → u < most_states → get_or found u false ≡ any_l (eq_option (Some u)) (take b row)

module _ (st : State) (wide : end_step ≤ length st.steps) where
  row-length : length (bytes_of st) ≡ 256
  row-length = length-take-le end_step st.steps wide

  row-met : (u b : ℕ) → b < 256 → eq_option (Some u) (get_or (bytes_of st) b None) ≡ eq_option (Some u) (get_or st.steps b None)
  row-met u b l = ap (eq_option (Some u)) (get_or-take end_step st.steps b None l)

  -- ---- the flags of a class, filled from the front

  module _ (u : ℕ) where
    pub fill_more : {flags : List Bool} {b : ℕ} → b < 256 → (r : Bool) → r ≡ eq_option (Some u) (get_or st.steps b None) → Filling (class_to st u) flags b
        → Filling (class_to st u) (set flags b r) (b + 1)
    fill_more {flags} {b} l r e f =
        record {
          within = omega arith;
          room = length-set flags b r ∙ f.room;
          front =
              below_more (λ (j : ℕ). get_or (set flags b r) j false ≡ get_or (class_to st u) j false) b
              (λ j i. get_or-set_other flags b j r false (λ z. omega arith) ∙ f.front j i)
              (get_or-set_same flags b r false (let z = f.room in omega arith) ∙ e ∙ sym (class-flag st u b ∙ row-met u b l));
        }

    pub filled : {flags : List Bool} {b : ℕ} → 256 ≤ b → Filling (class_to st u) flags b → flags ≡ class_to st u
    filled {flags} {b} l f =
        let r = f.room in
        ext_get_or false flags (class_to st u) (r ∙ sym (class-whole st wide u)) (λ j i. f.front j (omega arith))

  -- ---- the targets, marked byte by byte

  pub mark_start : Marking (bytes_of st) (replicate most_states false) 0
  mark_start =
      record {
        within = omega arith;
        room = length-replicate {A = Bool} most_states false;
        marked = λ u k. get_or-replicate most_states u false false k;
      }

  module _ {found : List Bool} {b : ℕ} (l : b < 256) (m : Marking (bytes_of st) found b) where
    leads-more : (u : ℕ) → any_l (eq_option (Some u)) (take (b + 1) (bytes_of st)) ≡ (any_l (eq_option (Some u)) (take b (bytes_of st)) || eq_option (Some u) (get_or st.steps b None))
    leads-more u =
        rw (add-one b, take-suc (bytes_of st) b None (let e = row-length in omega arith), any_snoc (eq_option (Some u)) (take b (bytes_of st)) (get_or (bytes_of st) b None), row-met u b l)

    -- a state that the byte does not lead to stays as it was
    stays : (u : ℕ) → u < most_states → eq_option (Some u) (get_or st.steps b None) ≡ false → get_or found u false ≡ any_l (eq_option (Some u)) (take (b + 1) (bytes_of st))
    stays u k q = m.marked u k ∙ sym (leads-more u ∙ rw q (or-false (any_l (eq_option (Some u)) (take b (bytes_of st)))))

    pub mark-more : (x : ℕ) → get_or st.steps b None ≡ Some x → x < most_states → Marking (bytes_of st) (set found x true) (b + 1)
    mark-more x e i =
        record {
          within = omega arith;
          room = length-set found x true ∙ m.room;
          marked = λ u k. go u k (is (eqb u x));
        }
      where
        go : (u : ℕ) → u < most_states → Is (eqb u x) → get_or (set found x true) u false ≡ any_l (eq_option (Some u)) (take (b + 1) (bytes_of st))
        go u k (yes-is q) =
            let r = m.room in
            ap (λ (y : ℕ). get_or (set found x true) y false) (eqb-true u x q)
            ∙ get_or-set_same found x true false (omega arith)
            ∙ sym (leads-more u ∙ or_right (any_l (eq_option (Some u)) (take b (bytes_of st))) (eq_option (Some u) (get_or st.steps b None)) (ap (eq_option (Some u)) e ∙ q))
        go u k (no-is q) = get_or-set_other found x u true false (eqb-false u x q) ∙ stays u k (ap (eq_option (Some u)) e ∙ q)

    pub mark-none : get_or st.steps b None ≡ None → Marking (bytes_of st) found (b + 1)
    mark-none e = record { within = omega arith; room = m.room; marked = λ u k. stays u k (ap (eq_option (Some u)) e) }

  pub marked_all : {found : List Bool} {b : ℕ} → 256 ≤ b → Marking (bytes_of st) found b → found ≡ tab 0 most_states (leads_to st)
  unfolding leads_to
  marked_all {found} {b} l m =
      let r = m.room in
      let i = m.within in
      let e : take b (bytes_of st) ≡ bytes_of st = take_all b (bytes_of st) (let e = row-length in omega arith) in
      ext_get_or false found (tab 0 most_states (leads_to st)) (r ∙ sym (length-tab 0 most_states (leads_to st)))
      (λ u i. let k : u < most_states = omega arith in m.marked u k ∙ ap (any_l (eq_option (Some u))) e ∙ sym (get_or-tab0 most_states (leads_to st) u false k))

-- ---- an edge of well-formed graph words leads to a state

pub led-below : (w : List ℕ) → graph_fits w ≡ true → (s u : ℕ) → leads_to (state_of (graph_from w) s) u ≡ true → u < get_or w 0 0
unfolding leads_to to
led-below w fits s u e =
    let st = state_of (graph_from w) s in
    let (b, l, q) = any_found (eq_option (Some u)) None (bytes_of st) e in
    let b' : b < end_step = (let t = length-take end_step st.steps in omega arith) in
    (from-edge w fits s b u (sym (option-sound.eq (Some u) (get_or (bytes_of st) b None) q ∙ get_or-take end_step st.steps b None b'))).3
