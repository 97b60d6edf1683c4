-- Every target of a state before s, and every target before c of state s, is below n. Assumes nothing.
use Rattle.std.proofs.Common.{ℕ, ◌<◌}
use Rattle.graph_rules.specs.Layout.{step_count}
use Rattle.legal.specs.Conditions.{states, target_word}
use Rattle.legal.proofs.conditions.Counted.targets_fit.Given as goal

abbrev pub invariant-loop-c : goal.invariant-loop-c
invariant-loop-c l = (k : ℕ) → k < l.c → target_word l.self.words.now l.s k < states l.self.words.now

abbrev pub invariant-loop-s : goal.invariant-loop-s
invariant-loop-s l = (k : ℕ) → k < l.s → (j : ℕ) → j < step_count → target_word l.self.words.now k j < states l.self.words.now
