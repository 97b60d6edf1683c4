-- The rules in their order: the first that is broken is told, at the lowest state that was found. Assumes nothing.
use Rattle.std.specs.Prelude.{Some, None}
use mathlib.Core.Path.{sym, ◌∙◌}
use native.Mathlib.Omega.{arith}
use Rattle.graph_rules.specs.Table.{table_of}
use Rattle.graph_rules.proofs.Counts.{size_is}
use Rattle.graph_rules.proofs.Shape.{legal-start}
use Rattle.clean.proofs.Breaches.{error-found, end-found, breaks-first, breaks-second, breaks-third, breaks-none}
use Rattle.clean.proofs.judged.Goals as goal

pub reached-set-requires : goal.reached-set-requires
reached-set-requires c =
    let w = c.args.table.words.now in
    let b = legal-start w c.args.table.legal c.args.start c.requires.start in
    let n = size_is w in
    omega arith

pub returns-in-Some : goal.returns-in-Some
returns-in-Some c =
    let w = c.args.table.words.now in
    sym (breaks-first (table_of w) _ (error-found w c.args.start c.requires.start c.reached-set.result c.reached-set.ensures c.requires.none_empty (Some c.in-Some.tie) c.in-Some.ensures))

pub returns-then-not-zero_dead : goal.returns-then-not-zero_dead
returns-then-not-zero_dead c =
    let w = c.args.table.words.now in
    let e = error-found w c.args.start c.requires.start c.reached-set.result c.reached-set.ensures c.requires.none_empty None c.in_default.ensures in
    sym (breaks-second (table_of w) e (sym c.zero_dead.ensures ∙ c.if-not-zero_dead.true))

pub returns-in_err-end : goal.returns-in_err-end
returns-in_err-end c =
    let w = c.args.table.words.now in
    let e = error-found w c.args.start c.requires.start c.reached-set.result c.reached-set.ensures c.requires.none_empty None c.in_default.ensures in
    let f = end-found w c.args.start c.requires.start c.reached-set.result c.reached-set.ensures None c.in_err-end.ensures in
    rw c.from_residual.ensures (sym (breaks-none (table_of w) e (sym c.zero_dead.ensures ∙ c.if-not-zero_dead.false) f))

pub returns : goal.returns
returns c =
    let w = c.args.table.words.now in
    let e = error-found w c.args.start c.requires.start c.reached-set.result c.reached-set.ensures c.requires.none_empty None c.in_default.ensures in
    let f = end-found w c.args.start c.requires.start c.reached-set.result c.reached-set.ensures (Some c.in_ok-end.end) c.in_ok-end.ensures in
    sym (breaks-third (table_of w) e (sym c.zero_dead.ensures ∙ c.if-not-zero_dead.false) _ f)
