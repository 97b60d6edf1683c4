-- Clean tables (docs/RULES.md, "Clean"), by a test that computes: the first of the three rules that a table breaks, and the state where. That it
-- tells what `Clean` says, both ways, is in proofs/Cleanness. Definitions only.
use Rattle.std.specs.Prelude.{Bool, true, false, cond, ◌&&◌, List, [], ◌∷◌, map, ℕ, suc, eqb, leb, length, get_or, take, Option, Some, None}
use Rattle.lists.specs.Lists.{all_l, below, those, select}
use Rattle.graph_rules.specs.Table.{Table, size, row_of, step}
use Rattle.graph_rules.specs.Build.{Error, no_universal_start, empty_match, disambiguation, build, reached, chain, contenders, leaf_of, present, agreed}
use Rattle.graph_rules.specs.Layout.{end_step, no_state}
pub use Rattle.graph_rules.specs.declared.Breach.{Breach}

-- the first of a list
abbrev pub first : List ℕ → Option ℕ
first [] = None
first (s ∷ l) = Some s

-- the states that are reached from a start, if there is one, and pass a test, ascending
abbrev pub reached_from : Table → Option ℕ → (ℕ → Bool) → List ℕ
reached_from t None p = []
reached_from t (Some s) p = those p (select (reached t s) (below (size t)))

-- ---- rule 1: "no error in the build"

-- several leaves share the highest priority in the state's chain
unfoldable pub tied : Table → ℕ → Bool
tied t s = leb 2 (length (contenders t s))

-- where an error is: a tie at the lowest reached state that has one; 65,535 for the others, which belong to no state
abbrev pub error_state : Table → Error → ℕ
error_state t no_universal_start = no_state
error_state t (empty_match l) = no_state
error_state t (disambiguation ls) = get_or (reached_from t t.start (tied t)) 0 no_state

abbrev pub first_error : Table → List Error → Option ℕ
first_error t [] = None
first_error t (e ∷ errors) = Some (error_state t e)

unfoldable pub error_at : Table → Option ℕ
error_at t = first_error t (build t).errors

-- ---- rule 2: "state 0 has an empty chain and all its steps lead to 0"

unfoldable pub zero_dead : Table → Bool
zero_dead t = eqb (length (chain t 0)) 0 && all_l (eqb 0) (row_of t 0).steps

unfoldable pub zero_at : Table → Option ℕ
zero_at t = cond (zero_dead t) None (Some 0)

-- ---- rule 3: "a reached state whose 256 byte steps all lead to states of one same leaf has an end step to a state other than 0"

-- the bytes' leaf, if they all lead to states of one
unfoldable pub bytes_leaf : Table → ℕ → Option ℕ
bytes_leaf t s = agreed (map (leaf_of t) (take end_step (row_of t s).steps))

-- such a leaf is there, and no end step to a state other than 0
unfoldable pub endless : Table → ℕ → Bool
endless t s = present (bytes_leaf t s) && eqb (step t s end_step) 0

unfoldable pub end_at : Table → Option ℕ
end_at t = first (reached_from t t.start (endless t))

-- ---- the first rule that is broken

-- from rule k on, told where each is broken
abbrev pub first_breach : ℕ → List (Option ℕ) → Option Breach
first_breach k [] = None
first_breach k (None ∷ l) = first_breach (suc k) l
first_breach k (Some s ∷ l) = Some (record { rule = k; state = s })

unfoldable pub breach : Table → Option Breach
breach t = first_breach 1 (error_at t ∷ zero_at t ∷ end_at t ∷ [])

abbrev pub unbroken : Option Breach → Bool
unbroken None = true
unbroken (Some b) = false

unfoldable pub is_clean : Table → Bool
is_clean t = unbroken (breach t)
