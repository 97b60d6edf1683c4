-- The first refusal of all that has a number is the one that has it. Assumes nothing.
use Rattle.std.proofs.Common.{◌≡◌, Bool, true, false, refl, subst, List, [], ◌∷◌, ℕ}
use mathlib.Core.Bool.{false≢true}
use lib.Dec.{eqb}
use borrow.Author.Tests.{eqb-true}
use Rattle.std.specs.List.{find, list_any}
use Rattle.refusals.specs.Refusals.{number}
use Rattle.refusals.specs.declared.Refusal.{Refusal}
use Rattle.refusals.specs.declared.Refusal.TheVariants.{TableHeader, TableCounts, TableLength, TableStart, TableEmptyFlag, TableTarget, TableMatches, GraphRoom, ErrorRoom, TreeForm, PriorityLimit, GraphForm, ImageLength, PlanOrOffset, Store, ScanEnded, NoRoom}
use Rattle.vectors.specs.Answers.{Named}

first : (n : ℕ) (all : List Refusal) → ((r : Refusal) → number r ≡ n → list_any (λ s. eqb (number s) n) all ≡ true)
    → Named n (find (λ s. eqb (number s) n) all)
first n [] within = λ r e. false≢true (within r e)
first n (s ∷ all) within = by (eqb (number s) n) refl (first n all)
  where
    by : (b : Bool) → eqb (number s) n ≡ b
        → (((r : Refusal) → number r ≡ n → list_any (λ r. eqb (number r) n) all ≡ true) → Named n (find (λ r. eqb (number r) n) all))
        → Named n (find (λ r. eqb (number r) n) (s ∷ all))
    by true e later = rw e (eqb-true (number s) n e)
    by false e later = rw e (later (λ r q. rw e at within r q))

abbrev pub every : List Refusal
every =
    TableHeader ∷ TableCounts ∷ TableLength ∷ TableStart ∷ TableEmptyFlag ∷ TableTarget ∷ TableMatches ∷ GraphRoom ∷ ErrorRoom ∷ TreeForm ∷ PriorityLimit
    ∷ GraphForm ∷ ImageLength ∷ PlanOrOffset ∷ Store ∷ ScanEnded ∷ NoRoom ∷ []

is-there : (r : Refusal) → list_any (λ s. eqb (number s) (number r)) every ≡ true
is-there TableHeader = refl
is-there TableCounts = refl
is-there TableLength = refl
is-there TableStart = refl
is-there TableEmptyFlag = refl
is-there TableTarget = refl
is-there TableMatches = refl
is-there GraphRoom = refl
is-there ErrorRoom = refl
is-there TreeForm = refl
is-there PriorityLimit = refl
is-there GraphForm = refl
is-there ImageLength = refl
is-there PlanOrOffset = refl
is-there Store = refl
is-there ScanEnded = refl
is-there NoRoom = refl

pub first-named : (n : ℕ) → Named n (find (λ s. eqb (number s) n) every)
first-named n = first n every (λ r e. subst (λ m. list_any (λ s. eqb (number s) m) every ≡ true) e (is-there r))
