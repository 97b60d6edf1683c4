-- Each refusal is the one that has its number, so no two have the same. Assumes nothing.
use Rattle.std.specs.Prelude.{◌≡◌, true, eqb, ℕ, zero, suc, List, length, ◌<◌}
use mathlib.Core.Path.{refl, sym, ap, subst, ◌∙◌}
use Rattle.lists.specs.Report.{answering, refusing}
use native.Mathlib.Nat.{le_of_suc-le-suc}
use borrow.Author.Tests.{eqb-true}
use Rattle.lists.specs.Lists.{all_l, below}
use Rattle.lists.proofs.Elements.{all-at, get_or-tab0}
use Rattle.refusals.specs.declared.Refusal.{Refusal}
use Rattle.refusals.specs.declared.Refusal.TheVariants.{TableHeader, TableCounts, TableLength, TableStart, TableEmptyFlag, TableTarget, TableMatches, GraphRoom, ErrorRoom, TreeForm, PriorityLimit, GraphForm, ImageLength, PlanOrOffset, Store, ScanEnded, NoRoom}
use Rattle.refusals.specs.Refusals.{number, numbered, answered, report}

pub numbered-number : (r : Refusal) → numbered (number r) ≡ r
numbered-number TableHeader = refl
numbered-number TableCounts = refl
numbered-number TableLength = refl
numbered-number TableStart = refl
numbered-number TableEmptyFlag = refl
numbered-number TableTarget = refl
numbered-number TableMatches = refl
numbered-number GraphRoom = refl
numbered-number ErrorRoom = refl
numbered-number TreeForm = refl
numbered-number PriorityLimit = refl
numbered-number GraphForm = refl
numbered-number ImageLength = refl
numbered-number PlanOrOffset = refl
numbered-number Store = refl
numbered-number ScanEnded = refl
numbered-number NoRoom = refl

pub number-apart : (r s : Refusal) → number r ≡ number s → r ≡ s
number-apart r s e = sym (numbered-number r) ∙ (ap numbered e ∙ numbered-number s)

-- and each number up to 16 is a refusal's
pub number-numbered : (n : ℕ) → n < 16 → number (numbered (suc n)) ≡ suc n
number-numbered n p =
    let even : all_l (λ i. eqb (number (numbered (suc i))) (suc i)) (below 16) ≡ true = refl in
    let e = all-at (λ i. eqb (number (numbered (suc i))) (suc i)) (below 16) n 0 even p in
    eqb-true (number (numbered (suc n))) (suc n) (subst (λ i. eqb (number (numbered (suc i))) (suc i) ≡ true) (get_or-tab0 16 (λ i. i) n 0 p) e)

-- what a call tells that is refused by such a number, or answers where the number is 0
pub answered-told : {A : Type 0} (values : A → List ℕ) (n : ℕ) (a : A) → n < 17
    → report values (length (values a)) (answered n a) ≡ answering n (values a)
answered-told values zero a h = refl
answered-told values (suc n) a h = ap (λ m. refusing m (length (values a))) (number-numbered n (le_of_suc-le-suc h))
