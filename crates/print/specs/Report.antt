-- What is printed, by the refusal that the build tells; which refusal the call tells. Definitions only.
use Rattle.std.specs.Prelude.{List, ℕ, zero, suc}
use Rattle.graph_rules.specs.Build.{Built}
use Rattle.display.specs.Report.{no_room}
use Rattle.print.specs.Print.{printed_build, refused_line, printed}

-- the text of a build that is not refused, or the line of its refusal's number
abbrev pub printed_for : ℕ → Built → List ℕ
printed_for zero b = printed_build b
printed_for (suc n) b = refused_line (suc n)

-- image, buffer: 29
abbrev pub print_refusal : List ℕ → List ℕ → ℕ
print_refusal image found = no_room (printed image) found
