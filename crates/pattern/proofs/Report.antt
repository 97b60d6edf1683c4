-- What `priority` and `check_for_greedy_all` tell in numbers: 10, then 11, and 0; or the root's value, or 1 for yes and 0 for no. Assumes nothing.
use mathlib.Core.Path.{◌≡◌, refl}
use mathlib.Core.Bool.{Bool, true, false, cond, not}
use mathlib.Core.List.{List, [], ◌∷◌}
use Prim.Native.Nat.{ℕ}
use Rattle.std.specs.Prelude.{Ok, Err}
use Rattle.refusals.specs.declared.Refusal.TheVariants.{TreeForm, PriorityLimit}
use Rattle.lists.specs.Report.{on, lowest, answering}
use Rattle.trees.specs.Tree.{root, tree_fits}
use Rattle.pattern.specs.Priority.{priority, greedy_all, too_high, priority_of, greedy_of, priority_report, greedy_report}

module _ (w bytes : List ℕ) where
  pub priority-report : priority_report (priority_of w bytes) ≡ answering (lowest (on (not (tree_fits w bytes)) 10 ∷ on (too_high w bytes) 11 ∷ [])) (priority (root w bytes) ∷ [])
  unfolding priority_of
  priority-report = go (tree_fits w bytes) (too_high w bytes)
    where
      v : ℕ
      v = priority (root w bytes)

      go : (fits high : Bool)
          → priority_report (elim fits [
            | false ↦ Err TreeForm
            | true ↦ elim high [ true ↦ Err PriorityLimit | false ↦ Ok v ]
          ])
          ≡ answering (lowest (on (not fits) 10 ∷ on high 11 ∷ [])) (v ∷ [])
      go false high = refl
      go true true = refl
      go true false = refl

  pub greedy-report : greedy_report (greedy_of w bytes) ≡ answering (on (not (tree_fits w bytes)) 10) (cond (greedy_all (root w bytes)) 1 0 ∷ [])
  unfolding greedy_of
  greedy-report = go (tree_fits w bytes) (greedy_all (root w bytes))
    where
      go : (fits found : Bool) → greedy_report (elim fits [ false ↦ Err TreeForm | true ↦ Ok found ]) ≡ answering (on (not fits) 10) (cond found 1 0 ∷ [])
      go false found = refl
      go true found = refl
