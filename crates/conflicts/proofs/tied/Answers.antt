-- A tie has a top record and a second one of its priority. Assumes nothing.
use Rattle.std.specs.Prelude.{Option}
use mathlib.Core.Path.{◌≡◌, sym, ap, ◌∙◌}
use Prim.Native.Nat.{ℕ}
use native.Mathlib.Omega.{arith}
use Rattle.graph_rules.specs.Table.{table_of}
use Rattle.legal.specs.declared.Table as legal
use Rattle.legal.specs.declared.Record.{Record}
use Rattle.legal.specs.Records.{number_of}
use Rattle.legal.proofs.Legal.{legal-sized}
use Rattle.leaves.specs.Chains.{next_tied}
use Rattle.conflicts.proofs.Conflicts.{tied_out, tied-none, tied-one, tied-two}
use Rattle.conflicts.proofs.tied.Goals as goal

-- the next one of a record of the table
next_of : (table : legal.Table) (i : Record) → i.table ≡ table → (o : Option ℕ) → o ≡ next_tied (table_of i.table.words.now) i.number
    → next_tied (table_of table.words.now) i.number ≡ o
next_of table i of o e = sym (e ∙ ap (λ (u : legal.Table). next_tied (table_of u.words.now) i.number) of)

pub bounds-set-s : goal.bounds-set-s
bounds-set-s c = let z = legal-sized c.args.table.words.now c.args.table.legal in omega arith

pub returns-then-not-set-s-clause-number : goal.returns-then-not-set-s-clause-number
returns-then-not-set-s-clause-number c = sym (tied_out c.args.table.words.now c.args.table.legal c.args.set.now c.args.s c.if-not-set-s.true)

pub returns-in_err-i-clause-number : goal.returns-in_err-i-clause-number
returns-in_err-i-clause-number c =
    ap number_of c.from_residual.ensures ∙ sym (tied-none c.args.table.words.now c.args.table.legal c.args.set.now c.args.s (sym c.in_err-i.ensures.number))

pub returns-in_err-next_tied-clause-number : goal.returns-in_err-next_tied-clause-number
returns-in_err-next_tied-clause-number c =
    let i = c.in_ok-i.i in
    ap number_of c.from_residual-in_err-next_tied.ensures
    ∙ sym (tied-one c.args.table.words.now c.args.table.legal c.args.set.now c.args.s i.number (sym c.in_ok-i.ensures.number)
    (next_of c.args.table i c.in_ok-i.ensures.table _ c.in_err-next_tied.ensures.number))

pub returns-clause-number : goal.returns-clause-number
returns-clause-number c =
    let i = c.in_ok-i.i in
    sym (tied-two c.args.table.words.now c.args.table.legal c.args.set.now c.args.s i.number (sym c.in_ok-i.ensures.number) c.if-not-set-s.false
    c.in_ok-next_tied.field-0.number (next_of c.args.table i c.in_ok-i.ensures.table _ c.in_ok-next_tied.ensures.number))
