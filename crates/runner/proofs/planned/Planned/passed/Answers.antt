use Rattle.std.proofs.Common.{arith}
use Rattle.runner.proofs.Leading.{own-there, mask-few}
use Rattle.runner.proofs.SelfRun.{own-mask}
use Rattle.runner.proofs.planned.Planned.passed.Goals as goal

pub own-requires : goal.own-requires
own-requires c = own-there c.args.self.now c.args.s c.requires.s_bound

pub self_run-requires : goal.self_run-requires
self_run-requires c =
    (let e = own-mask _ c.in-Some.ensures in let f = mask-few c.args.self.now c.args.s c.requires.s_bound in omega arith, c.requires.within)
