-- The front of an array as a stack: its last element, and one element more. Assumes nothing.
use Rattle.std.proofs.Common.{◌≡◌, ℕ, suc, ◌+◌, ◌-◌, ◌<◌, ◌≤◌, List, [], ◌∷◌, ◌++◌, length, get_or, set, take, false, true, Bool, sym, ap, subst, ◌∙◌, arith, add-one, length-set}
use mathlib.Core.Logic.{⊎_elim}
use native.Mathlib.Nat.{eq-or-lt_of_le}
use lib.Seq.{take-suc, take-suc-set, get_or-set_same, get_or-set_other}
use Rattle.lists.specs.Sets.{In, count}
use Rattle.lists.proofs.Counting.{count-length}
use Rattle.lists.proofs.Worklist.{in-keeps, count-more, count_room}
use Rattle.worklist.specs.Work.{Work, pushed}

pub take-last : (stack : List ℕ) (top : ℕ) → 0 < top → top ≤ length stack → take top stack ≡ take (top - 1) stack ++ (get_or stack (top - 1) 0 ∷ [])
take-last stack top h l =
    let e : top ≡ suc (top - 1) = omega arith in
    ap (λ (k : ℕ). take k stack) e ∙ take-suc stack (top - 1) 0 (omega arith)

-- what holds of the fields
abbrev pub Held : ℕ → List Bool → List ℕ → ℕ → Type 0
Held n seen stack top =
    (length seen ≡ n) × (length stack ≡ n) × (top ≤ count seen) × ((i : ℕ) → i < top → In seen (get_or stack i 0)) × (n ≤ 65536)

module _ (n : ℕ) (seen : List Bool) (stack : List ℕ) (top : ℕ) (h : Held n seen stack top) where
  pub low : top ≤ n
  low = let c = count-length seen in let f = h.2 in let l = h.0 in omega arith

  module _ (k : ℕ) (inside : k < n) (free : get_or seen k false ≡ false) where
    pub room : top < n
    room = let c = count_room seen k (let l = h.0 in omega arith) free in let f = h.2 in let l = h.0 in omega arith

    pub held-more : Held n (set seen k true) (set stack top k) (top + 1)
    held-more = (
      length-set seen k true ∙ h.0,
      length-set stack top k ∙ h.1,
      (let m = count-more seen k (let l = h.0 in omega arith) free in let f = h.2 in omega arith),
      (λ i b. each i b),
      h.4,
    )
      where
        each : (i : ℕ) → i < top + 1 → In (set seen k true) (get_or (set stack top k) i 0)
        each i b =
            ⊎_elim
            (λ q. subst (λ (x : ℕ). In (set seen k true) (get_or (set stack top k) x 0)) (sym q)
            (subst (λ (x : ℕ). In (set seen k true) x) (sym (get_or-set_same stack top k 0 (let r = room in let l = h.1 in omega arith)))
            (get_or-set_same seen k true false (let l = h.0 in omega arith))))
            (λ lt. subst (λ (x : ℕ). In (set seen k true) x) (sym (get_or-set_other stack top i k 0 (λ q. let z : i ≡ top = q in omega arith)))
            (in-keeps seen k (get_or stack i 0) (h.3 i lt)))
            (let g : i ≤ top = omega arith in eq-or-lt_of_le g)

    pub pushed-is : (w : Work) → record { seen = seen; waiting = take top stack } ≡ w
        → record { seen = set seen k true; waiting = take (top + 1) (set stack top k) } ≡ pushed w k
    pushed-is w e =
        let t : take (top + 1) (set stack top k) ≡ take top stack ++ (k ∷ []) =
        ap (λ (x : ℕ). take x (set stack top k)) (add-one top) ∙ take-suc-set stack top k (let r = room in let l = h.1 in omega arith)
        in
        subst (λ (v : Work). record { seen = set seen k true; waiting = take (top + 1) (set stack top k) } ≡ pushed v k) e
        (rw (t, free))
