-- A search by a worklist: from each number that has been met its targets are met too, once it has been looked at. Assumes nothing.
use Rattle.std.proofs.Common.{◌≡◌, ℕ, ◌+◌, ◌<◌, ◌≤◌, ◌⊎◌, List, [], ◌∷◌, ◌++◌, length, get_or, set, false, true, Bool, sym, ap, subst, ◌∙◌, inl, inr, arith, length-append, length-set}
use mathlib.Core.Bool.{false≢true}
use mathlib.Core.Logic.{⊎_elim}
use native.Mathlib.Nat.{eq-or-lt_of_le}
use lib.ListN.{get_or-append}
use lib.Seq.{get_or-set_same, get_or-append-add}
use Rattle.lists.specs.Sets.{In, count}
use Rattle.lists.proofs.Bools.{Is, is, yes-is, no-is}
use Rattle.lists.proofs.Worklist.{AllIn, none_in, in-keeps, in-cases, count-more}
use Rattle.worklist.specs.Work.{Work, begun, pushed}

abbrev pub Waits : List ℕ → ℕ → Type 0
Waits waiting k = (i : ℕ) × (i < length waiting) × (get_or waiting i 0 ≡ k)

-- what is met is Good; and it waits, or its first `width` targets are met, or P: it is what is being looked at now
pub record Looking (target : ℕ → ℕ → ℕ) (width : ℕ) (Good P : ℕ → Type 0) (w : Work) : Type 0 where
  pub good : (k : ℕ) → In w.seen k → Good k
  pub done : (k : ℕ) → In w.seen k → Waits w.waiting k ⊎ (AllIn (target k) w.seen width ⊎ P k)

-- ---- one number more

pub waits-front : (l m : List ℕ) (k : ℕ) → Waits l k → Waits (l ++ m) k
waits-front l m k (i, h, e) = (i, omega (arith, length-append l m), get_or-append l m 0 i h ∙ e)

pub waits-last : (l : List ℕ) (k : ℕ) → Waits (l ++ (k ∷ [])) k
waits-last l k = (length l, omega (arith, length-append l (k ∷ [])), ap (λ (i : ℕ). get_or (l ++ (k ∷ [])) i 0) (omega arith) ∙ get_or-append-add l (k ∷ []) 0 0)

pub waits-cases : (l : List ℕ) (s k : ℕ) → Waits (l ++ (s ∷ [])) k → Waits l k ⊎ (k ≡ s)
waits-cases l s k (i, h, e) =
    ⊎_elim
    (λ q. inr (sym e ∙ (ap (λ (x : ℕ). get_or (l ++ (s ∷ [])) x 0) (q ∙ omega arith) ∙ get_or-append-add l (s ∷ []) 0 0)))
    (λ lt. inl (i, lt, sym (get_or-append l (s ∷ []) 0 i lt) ∙ e))
    (let n = length-append l (s ∷ []) in let g : i ≤ length l = omega arith in eq-or-lt_of_le g)

module _ (w : Work) (t : ℕ) where
  pub pushed-keeps : (k : ℕ) → In w.seen k → In (pushed w t).seen k
  pushed-keeps k h = go (is (get_or w.seen t false))
    where
      go : Is (get_or w.seen t false) → In (pushed w t).seen k
      go (yes-is e) = rw e h
      go (no-is e) = rw e (in-keeps w.seen t k h)

  pub pushed-length : length (pushed w t).seen ≡ length w.seen
  pushed-length = go (is (get_or w.seen t false))
    where
      go : Is (get_or w.seen t false) → length (pushed w t).seen ≡ length w.seen
      go (yes-is e) = rw e
      go (no-is e) = rw e (length-set w.seen t true)

  module _ (inside : t < length w.seen) where
    pub pushed-in : In (pushed w t).seen t
    pushed-in = go (is (get_or w.seen t false))
      where
        go : Is (get_or w.seen t false) → In (pushed w t).seen t
        go (yes-is e) = rw (e, e)
        go (no-is e) = rw e (get_or-set_same w.seen t true false inside)

    -- each number that is met waits once
    pub pushed-balance : count (pushed w t).seen + length w.waiting ≡ count w.seen + length (pushed w t).waiting
    pushed-balance = go (is (get_or w.seen t false))
      where
        go : Is (get_or w.seen t false) → count (pushed w t).seen + length w.waiting ≡ count w.seen + length (pushed w t).waiting
        go (yes-is e) = rw e
        go (no-is e) = rw e (let m = count-more w.seen t inside e in let l = length-append w.waiting (t ∷ []) in omega arith)

pub taken-fewer : (w v : Work) (s : ℕ) → w.waiting ≡ v.waiting ++ (s ∷ []) → length w.waiting ≡ length v.waiting + 1
taken-fewer w v s e = ap length e ∙ length-append v.waiting (s ∷ [])

module _ (target : ℕ → ℕ → ℕ) (width : ℕ) (Good : ℕ → Type 0) where
  pub none-met : (n : ℕ) → Looking target width Good (λ _. ⊥) (begun n)
  none-met n =
      record {
        good = λ k i. absurd (false≢true (sym (none_in n k) ∙ i));
        done = λ k i. absurd (false≢true (sym (none_in n k) ∙ i));
      }

  pub met : {P : ℕ → Type 0} (w : Work) (t : ℕ) → Good t → Looking target width Good P w → Looking target width Good P (pushed w t)
  met {P} w t g l = go (is (get_or w.seen t false))
    where
      go : Is (get_or w.seen t false) → Looking target width Good P (pushed w t)
      go (yes-is e) = rw e l
      go (no-is e) =
          rw e (record {
            good = λ k i. ⊎_elim (λ q. subst Good (sym q) g) (λ r. l.good k r) (in-cases w.seen t k i);
            done = λ k i. ⊎_elim (λ q. inl (subst (Waits (w.waiting ++ (t ∷ []))) (sym q) (waits-last w.waiting t))) (λ r. kept k r) (in-cases w.seen t k i);
          })
        where
          kept : (k : ℕ) → In w.seen k → Waits (w.waiting ++ (t ∷ [])) k ⊎ (AllIn (target k) (set w.seen t true) width ⊎ P k)
          kept k i =
              ⊎_elim
              (λ o. inl (waits-front w.waiting (t ∷ []) k o))
              (λ r. inr (⊎_elim (λ a. inl (λ j h. in-keeps w.seen t (target k j) (a j h))) (λ p. inr p) r))
              (l.done k i)

  -- a number is taken, to be looked at
  pub taken : (w v : Work) (s : ℕ) → v.seen ≡ w.seen → w.waiting ≡ v.waiting ++ (s ∷ []) → Looking target width Good (λ _. ⊥) w
      → Looking target width Good (λ k. k ≡ s) v
  taken w v s same waits l =
      record {
        good = λ k i. l.good k (subst (λ (x : List Bool). In x k) same i);
        done = λ k i.
            ⊎_elim
            (λ o. ⊎_elim (λ a. inl a) (λ q. inr (inr q)) (waits-cases v.waiting s k (subst (λ (x : List ℕ). Waits x k) waits o)))
            (λ r. inr (⊎_elim (λ a. inl (subst (λ (x : List Bool). AllIn (target k) x width) (sym same) a)) (λ b. absurd b) r))
            (l.done k (subst (λ (x : List Bool). In x k) same i));
      }

  -- it has been looked at
  pub looked-at : (w : Work) (s : ℕ) → AllIn (target s) w.seen width → Looking target width Good (λ k. k ≡ s) w
      → Looking target width Good (λ _. ⊥) w
  looked-at w s all l =
      record {
        good = l.good;
        done = λ k i.
            ⊎_elim (λ o. inl o)
            (λ r. inr (⊎_elim (λ a. inl a) (λ q. inl (subst (λ (x : ℕ). AllIn (target x) w.seen width) (sym q) all)) r))
            (l.done k i);
      }

  -- none waits: the set is closed
  pub closed : (w : Work) → w.waiting ≡ [] → Looking target width Good (λ _. ⊥) w → (k : ℕ) → In w.seen k → AllIn (target k) w.seen width
  closed w none l k i =
      ⊎_elim
      (λ o. let (j, h, e) = o in let z : length w.waiting ≡ 0 = ap length none in absurd (omega arith))
      (λ r. ⊎_elim (λ a. a) (λ b. absurd b) r)
      (l.done k i)
