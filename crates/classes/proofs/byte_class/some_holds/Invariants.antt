-- One of all holds exactly if one from here on does, whose exceptions are left.
use Rattle.std.proofs.Common.{◌≡◌}
use lib.ListN.{drop}
use Rattle.classes.specs.Classes.{some_holds}
use Rattle.classes.specs.ClassAnswers.{listed}
use Rattle.classes.proofs.byte_class.some_holds.Given as goal

abbrev pub invariant-loop-comparison : goal.invariant-loop-comparison
invariant-loop-comparison l = some_holds (listed l.list l.except) l.byte ≡ some_holds (listed (drop l.comparison-index l.list) l.left) l.byte
