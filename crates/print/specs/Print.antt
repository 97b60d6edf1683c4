-- What the graph printer prints for an image: all its bytes, for every image (docs/FORMATS.md, "Text of a graph"). Definitions only.
use mathlib.Core.List.{List, ◌++◌, flat_map}
use Rattle.std.specs.Prelude.{ℕ, replicate, Result, Ok, Err}
use Rattle.texts.specs.Text.{bytes, decimal}
use Rattle.graph_rules.specs.Table.{table_of}
use Rattle.graph_rules.specs.Build.{Built, build}
use Rattle.graph.specs.New.{words_of, image_of}
use Rattle.refusals.specs.Refusals.{number}
use Rattle.refusals.specs.declared.Refusal.{Refusal}
use Rattle.graph.specs.declared.new.Counts.{Counts}
use Rattle.display.specs.Display.{displayed, conflict_line}
use Rattle.display.specs.Answers.{Call, written}

-- "whose graph and error buffers hold 65,536 bytes each"
abbrev pub words_each : ℕ
words_each = 32768

unfoldable pub space : List ℕ
space = replicate words_each 0

abbrev pub line : List ℕ → List ℕ
line text = text ++ bytes "\n"

-- "Rust's Display text .. and a line end, an empty line if there are no states; then one line an error"
unfoldable pub printed_build : Built → List ℕ
printed_build b = line (displayed b.graph) ++ flat_map (λ e. line (conflict_line e)) b.errors

-- "or only a line as `refused 3`"
unfoldable pub refused_line : ℕ → List ℕ
refused_line n = line (bytes "refused " ++ decimal n)

-- by what a build answers
abbrev pub printed_by : Result Counts Refusal → Built → List ℕ
printed_by (Ok c) b = printed_build b
printed_by (Err r) b = refused_line (number r)

-- all that is printed for an image
unfoldable pub printed : List ℕ → List ℕ
printed image = printed_by (image_of image space space).answer (build (table_of (words_of image)))

-- it is never longer: 127 states of 6,477 bytes, six bytes a word of the other buffer, and a line end
abbrev pub most_printed : ℕ
most_printed = 1019188

-- `print`: all of it, from the front of the buffer; 29 if it does not fit
unfoldable pub print_call : List ℕ → List ℕ → Call
print_call image found = written (printed image) found
