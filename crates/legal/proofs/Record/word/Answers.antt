-- A record's words stand in the table. Assumes nothing.
use mathlib.Core.Path.{ap₂, ◌∙◌}
use Prim.Native.Nat.{ℕ}
use native.Mathlib.Omega.{arith}
use lib.ListN.{get_or}
use Rattle.graph_rules.specs.Layout.{match_place}
use Rattle.legal.proofs.Views.{few-records, in-match}
use Rattle.legal.proofs.Record.word.Goals as goal

pub match_word-requires-clause-i_bound : goal.match_word-requires-clause-i_bound
match_word-requires-clause-i_bound c = let h = c.args.self.there in omega (arith, few-records _ c.args.self.table.legal)

pub match_word-requires-clause-c_in_bounds : goal.match_word-requires-clause-c_in_bounds
match_word-requires-clause-c_in_bounds c =
    in-match _ c.args.self.table.legal _ _ _ _ c.leaves.ensures.0 c.states.ensures.0 c.args.self.some c.args.self.there c.requires

pub returns : goal.returns
returns c =
    c.match_word.ensures.0 ∙ ap₂ (λ (m n : ℕ). get_or c.args.self.table.words.now (match_place m n c.args.self.number c.args.c) 0) c.leaves.ensures.0 c.states.ensures.0
