-- A leaf or a next that is too high; the end of the chain; else the leaves of both. Assumes nothing.
use mathlib.Core.Path.{sym, ap, ap₂, ◌∙◌}
use mathlib.Core.Logic.{inl, ⊎_elim}
use native.Mathlib.Omega.{arith}
use borrow.Author.Tests.{eq-eqb}
use lib.Dec.{ltb}
use Rattle.legal.specs.Conditions.{leaf_word}
use Rattle.legal.proofs.Judging.{record-shown, record-false, record-next}
use Rattle.legal.proofs.conditions.Counted.record_fits.Goals as goal

pub returns-then-leaves-leaf : goal.returns-then-leaves-leaf
returns-then-leaves-leaf c =
    sym (record-false c.args.self.words.now c.args.i c.requires.i_nonzero c.requires.i_bound
    (λ f. let a = f.leaf-below in let b = f.next-below in ⊎_elim (λ l. omega arith) (λ l. omega arith) c.then-leaves-leaf.either))

pub returns-then-next-eq0 : goal.returns-then-next-eq0
returns-then-next-eq0 c =
    eq-eqb c.match_word-next.result 0 c.if-next-eq0.true
    ∙ sym (record-shown c.args.self.words.now c.args.i c.requires.i_nonzero c.requires.i_bound
    (record { leaf-below = omega arith; next-below = omega arith; ascending = inl (sym c.match_word-next.ensures ∙ c.if-next-eq0.true) }))

pub returns-else-next-eq0 : goal.returns-else-next-eq0
returns-else-next-eq0 c =
    let w = c.args.self.words.now in
    ap₂ ltb c.match_word-leaf.ensures (c.match_word.ensures ∙ ap (leaf_word w) c.match_word-next.ensures)
    ∙ record-next w c.args.i c.requires.i_nonzero c.requires.i_bound (omega arith) (omega arith) (λ z. c.if-next-eq0.false (c.match_word-next.ensures ∙ z))
