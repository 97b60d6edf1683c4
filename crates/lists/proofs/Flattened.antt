-- Tests of every element of a list that is made piece by piece, and its pieces read back. Assumes nothing.
use Rattle.std.specs.Prelude.{Option, Some, None}
use mathlib.Core.Path.{◌≡◌, refl, sym, ap, ◌∙◌}
use mathlib.Core.Bool.{Bool, true, false, false≢true}
use mathlib.Core.List.{List, [], ◌∷◌, ◌++◌, map, flat_map, append_assoc}
use mathlib.Core.Logic.{◌⊎◌, inl, inr}
use Prim.Native.Nat.{ℕ, zero, suc, ◌+◌, ◌*◌, ◌<◌}
use native.Mathlib.Nat.{suc-mul}
use native.Mathlib.Omega.{arith}
use borrow.Author.Tests.{eqb-true, ne_eqb}
use lib.Dec.{eqb}
use lib.ListN.{length, replicate, length-append}
use lib.Seq.{take_at, drop_at}
use Rattle.lists.specs.Lists.{tab, all_l, any_l, eq_option, pieces}
use Rattle.lists.proofs.Bools.{or_cases, and_both, and_intro}

pub option-ne : (u : ℕ) (o : Option ℕ) → (o ≡ Some u → ⊥) → eq_option (Some u) o ≡ false
option-ne u None n = refl
option-ne u (Some v) n = ne_eqb u v (λ e. n (ap {B = Option ℕ} Some (sym e)))

abbrev pub is_member : ℕ → List ℕ → Bool
is_member u l = any_l (eqb u) l

-- what all of a mapped list pass, each member's image passes
pub all-mapped : (p : ℕ → Bool) (f : ℕ → ℕ) (l rest : List ℕ) (u : ℕ) → all_l p (map f l ++ rest) ≡ true → is_member u l ≡ true → p (f u) ≡ true
all-mapped p f [] rest u a h = absurd (false≢true h)
all-mapped p f (x ∷ l) rest u a h = go (or_cases (eqb u x) _ h) (and_both (p (f x)) _ a) (all-mapped p f l rest u)
  where
    go : ((eqb u x ≡ true) ⊎ (is_member u l ≡ true)) → (p (f x) ≡ true) × (all_l p (map f l ++ rest) ≡ true)
        → (all_l p (map f l ++ rest) ≡ true → is_member u l ≡ true → p (f u) ≡ true) → p (f u) ≡ true
    go (inl e) b g = ap (λ (y : ℕ). p (f y)) (eqb-true u x e) ∙ b.0
    go (inr m) b g = g b.1 m

-- ---- pieces

-- lists of one length, one after another, are read back as pieces
pub pieces-flat : {A : Type 0} (k : ℕ) (f : ℕ → List A) (l : List ℕ) (rest : List A) → ((u : ℕ) → length (f u) ≡ k) → pieces k (length l) (flat_map f l ++ rest) ≡ map f l
unfolding flat_map
pieces-flat k f [] rest w = refl
pieces-flat k f (x ∷ l) rest w =
    let split : (f x ++ flat_map f l) ++ rest ≡ f x ++ (flat_map f l ++ rest) = append_assoc (f x) (flat_map f l) rest in
    rw (split, take_at (f x) (flat_map f l ++ rest) k (w x), drop_at (f x) (flat_map f l ++ rest) k (w x)) (ap (◌∷◌ (f x)) (pieces-flat k f l rest w))

pub length-flat : {A : Type 0} (k : ℕ) (f : ℕ → List A) (l : List ℕ) → ((u : ℕ) → length (f u) ≡ k) → length (flat_map f l) ≡ length l * k
unfolding flat_map
length-flat k f [] w = omega arith
length-flat k f (x ∷ l) w = length-append (f x) (flat_map f l) ∙ rw (w x, length-flat k f l w, suc-mul (length l) k) (omega arith)

-- ---- tests of all elements

pub all_append : {A : Type 0} (p : A → Bool) (a b : List A) → all_l p (a ++ b) ≡ true → (all_l p a ≡ true) × (all_l p b ≡ true)
all_append p [] b h = (refl, h)
all_append p (x ∷ a) b h =
    let q = and_both (p x) _ h in
    let r = all_append p a b q.1 in
    (and_intro (p x) _ q.0 r.0, r.1)

pub append-all : {A : Type 0} (p : A → Bool) (a b : List A) → all_l p a ≡ true → all_l p b ≡ true → all_l p (a ++ b) ≡ true
append-all p [] b h k = k
append-all p (x ∷ a) b h k = let q = and_both (p x) _ h in and_intro (p x) _ q.0 (append-all p a b q.1 k)

pub all_replicate : {A : Type 0} (p : A → Bool) (n : ℕ) (x : A) → p x ≡ true → all_l p (replicate n x) ≡ true
all_replicate p zero x h = refl
all_replicate p (suc n) x h = and_intro (p x) _ h (all_replicate p n x h)

-- where all pass a test, and passing it is having a property
pub all_weaker : {A : Type 0} (p q : A → Bool) → ((x : A) → p x ≡ true → q x ≡ true) → (l : List A) → all_l p l ≡ true → all_l q l ≡ true
all_weaker p q f [] h = refl
all_weaker p q f (x ∷ l) h = let r = and_both (p x) _ h in and_intro (q x) _ (f x r.0) (all_weaker p q f l r.1)

-- lists made piece by piece of numbers: what all pass holds of each piece
pub flat-same : {A B : Type 0} (p : A → Bool) (f : ℕ → List A) (a b : ℕ → List B) → ((u : ℕ) → all_l p (f u) ≡ true → a u ≡ b u) → (l : List ℕ)
    → all_l p (flat_map f l) ≡ true → flat_map a l ≡ flat_map b l
unfolding flat_map
flat-same p f a b g [] h = refl
flat-same p f a b g (x ∷ l) h =
    let q = all_append p (f x) (flat_map f l) h in
    let e : a x ≡ b x = g x q.0 in
    let e' : flat_map a l ≡ flat_map b l = flat-same p f a b g l q.1 in
    rw (e, e')

pub flat-all : {A B : Type 0} (p : A → Bool) (f : ℕ → List A) (r : B → Bool) (m : ℕ → B) → ((u : ℕ) → all_l p (f u) ≡ true → r (m u) ≡ true) → (l : List ℕ)
    → all_l p (flat_map f l) ≡ true → all_l r (map m l) ≡ true
unfolding flat_map
flat-all p f r m g [] h = refl
flat-all p f r m g (x ∷ l) h =
    let q = all_append p (f x) (flat_map f l) h in
    and_intro (r (m x)) _ (g x q.0) (flat-all p f r m g l q.1)

pub flat-map : {A : Type 0} {B : Type 0} (p : A → Bool) (f : ℕ → List A) (a b : ℕ → B) → ((u : ℕ) → all_l p (f u) ≡ true → a u ≡ b u) → (l : List ℕ)
    → all_l p (flat_map f l) ≡ true → map a l ≡ map b l
unfolding flat_map
flat-map p f a b g [] h = refl
flat-map p f a b g (x ∷ l) h =
    let q = all_append p (f x) (flat_map f l) h in
    let e : a x ≡ b x = g x q.0 in
    let e' : map a l ≡ map b l = flat-map p f a b g l q.1 in
    cc

pub all-flat : {A : Type 0} (p : A → Bool) (f : ℕ → List A) → ((u : ℕ) → all_l p (f u) ≡ true) → (l : List ℕ) → all_l p (flat_map f l) ≡ true
unfolding flat_map
all-flat p f g [] = refl
all-flat p f g (x ∷ l) = append-all p (f x) (flat_map f l) (g x) (all-flat p f g l)

pub all-flat-tab : {A : Type 0} (p : A → Bool) (f : ℕ → List A) (i n : ℕ) → ((u : ℕ) → u < i + n → all_l p (f u) ≡ true) → all_l p (flat_map f (tab i n (λ i. i))) ≡ true
unfolding flat_map
all-flat-tab p f i zero g = refl
all-flat-tab p f i (suc n) g = append-all p (f i) (flat_map f (tab (suc i) n (λ i. i))) (g i (omega arith)) (all-flat-tab p f (suc i) n (λ u h. g u (omega arith)))

-- what all images pass, and passing it is a test of all of a piece: all pieces pass
pub mapped-flat : {A : Type 0} (p : A → Bool) (f : ℕ → List A) (q : ℕ → Bool) (m : ℕ → ℕ) → ((u : ℕ) → q (m u) ≡ true → all_l p (f u) ≡ true) → (l rest : List ℕ)
    → all_l q (map m l ++ rest) ≡ true → all_l p (flat_map f l) ≡ true
unfolding flat_map
mapped-flat p f q m g [] rest h = refl
mapped-flat p f q m g (x ∷ l) rest h =
    let b = and_both (q (m x)) _ h in
    append-all p (f x) (flat_map f l) (g x b.0) (mapped-flat p f q m g l rest b.1)
