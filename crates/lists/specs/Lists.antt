-- Operations on lists that the definitions use and that belong to no rule. Each computes. Definitions only; their laws are in proofs/.
use Rattle.std.specs.Prelude.{Bool, true, false, not, ◌&&◌, ◌||◌, List, [], ◌∷◌, ℕ, zero, suc, eqb, ltb, take, drop, Option, Some, None}

module _ {A : Type 0} where
  -- the n values of f from i on: f i, f (i + 1), ..
  abbrev pub tab : ℕ → ℕ → (ℕ → A) → List A
  tab i zero f = []
  tab i (suc n) f = f i ∷ tab (suc i) n f

-- the numbers below n, ascending
abbrev pub below : ℕ → List ℕ
below n = tab 0 n (λ i. i)

module _ {A : Type 0} where
  -- every element passes the test
  abbrev pub all_l : (A → Bool) → List A → Bool
  all_l p [] = true
  all_l p (x ∷ l) = p x && all_l p l

  -- some element passes the test
  abbrev pub any_l : (A → Bool) → List A → Bool
  any_l p [] = false
  any_l p (x ∷ l) = p x || any_l p l

  -- the elements that pass the test, in order
  abbrev pub those : (A → Bool) → List A → List A
  those p [] = []
  those p (x ∷ l) = elim (p x) [ true ↦ x ∷ those p l | false ↦ those p l ]

  -- the elements at the members of a set, in order
  abbrev pub select : List Bool → List A → List A
  select [] l = []
  select (b ∷ s) [] = []
  select (true ∷ s) (x ∷ l) = x ∷ select s l
  select (false ∷ s) (x ∷ l) = select s l

  -- n pieces of k elements each
  abbrev pub pieces : ℕ → ℕ → List A → List (List A)
  pieces k zero l = []
  pieces k (suc n) l = take k l ∷ pieces k n (drop k l)

  -- each element but those that equal an earlier one, in order
  abbrev pub distinct : (A → A → Bool) → List A → List A
  distinct same [] = []
  distinct same (x ∷ l) = x ∷ those (λ y. not (same x y)) (distinct same l)

  -- the index of the first element that equals x
  abbrev pub place : (A → A → Bool) → A → List A → Option ℕ
  place same x [] = None
  place same x (y ∷ l) = elim (same x y) [ true ↦ Some 0 | false ↦ elim (place same x l) [ None ↦ None | Some i ↦ Some (suc i) ] ]

  -- equality of lists, up to the first difference
  abbrev pub eq_list : (A → A → Bool) → List A → List A → Bool
  eq_list same [] [] = true
  eq_list same [] (y ∷ b) = false
  eq_list same (x ∷ a) [] = false
  eq_list same (x ∷ a) (y ∷ b) = elim (same x y) [ true ↦ eq_list same a b | false ↦ false ]

abbrev pub eq_option : Option ℕ → Option ℕ → Bool
eq_option None None = true
eq_option None (Some b) = false
eq_option (Some a) None = false
eq_option (Some a) (Some b) = eqb a b

-- the members of a set, numbered from k in ascending order: `Some` number at each member, `None` elsewhere
abbrev pub number_from : ℕ → List Bool → List (Option ℕ)
number_from k [] = []
number_from k (true ∷ s) = Some k ∷ number_from (suc k) s
number_from k (false ∷ s) = None ∷ number_from k s

-- lists ordered by their first difference, a shorter prefix first
abbrev pub before : List ℕ → List ℕ → Bool
before [] b = true
before (x ∷ a) [] = false
before (x ∷ a) (y ∷ b) = ltb x y || (eqb x y && before a b)

abbrev pub insert : List ℕ → List (List ℕ) → List (List ℕ)
insert a [] = a ∷ []
insert a (b ∷ l) = elim (before a b) [ true ↦ a ∷ (b ∷ l) | false ↦ b ∷ insert a l ]

-- sorted in that order; equal ones are kept
abbrev pub sorted : List (List ℕ) → List (List ℕ)
sorted [] = []
sorted (a ∷ l) = insert a (sorted l)
