-- The match records of a legal table: their numbers fall and their leaves rise along a chain. From `Legal`, at the records as rule 3 reads them.
-- Assumes nothing.
use mathlib.Core.Path.{◌≡◌, ap, ◌∙◌}
use mathlib.Core.List.{List}
use mathlib.Core.Logic.{⊎_elim}
use Prim.Native.Nat.{ℕ, ◌≤◌, ◌<◌}
use native.Mathlib.Omega.{arith}
use lib.ListN.{get_or}
use Rattle.graph_rules.specs.Table.{table_of, match_of, refusal}
use Rattle.legal.specs.Conditions.{leaf_word}
use Rattle.legal.proofs.Judging.{match-leaf, match-next}
use Rattle.legal.proofs.Legal.{legal-means}

module _ (w : List ℕ) (legal : refusal w ≡ 0) where
  module _ (i : ℕ) (some : 0 < i) (held : i ≤ get_or w 3 0) where
    pub leaf-below : (match_of (table_of w) i).leaf < get_or w 2 0
    leaf-below =
        let e = match-leaf w i some held in
        let f = ((legal-means w legal).matches i some held).leaf-below in
        omega arith

    pub next-below : (match_of (table_of w) i).next < i
    next-below =
        let e = match-next w i some held in
        let f = ((legal-means w legal).matches i some held).next-below in
        omega arith

    pub leaf-rises : 0 < (match_of (table_of w) i).next → (match_of (table_of w) i).leaf < (match_of (table_of w) (match_of (table_of w) i).next).leaf
    leaf-rises z =
        let e = match-leaf w i some held in
        let n = match-next w i some held in
        let b = next-below in
        let f = match-leaf w (match_of (table_of w) i).next z (omega arith) ∙ ap (leaf_word w) n in
        ⊎_elim (λ q. absurd (omega arith)) (λ q. omega arith) ((legal-means w legal).matches i some held).ascending
