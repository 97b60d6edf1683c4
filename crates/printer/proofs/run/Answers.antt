-- What was read is the image that the input is, so what is written is what is printed for it. Assumes nothing.
use Rattle.std.proofs.Common.{rules, ◌≡◌, length}
use Rattle.print.specs.Print.{printed}
use Rattle.printer.proofs.Streams.{image_read, read_written}
use Rattle.printer.proofs.run.Goals as goal

pub returns-in-Some : goal.returns-in-Some
returns-in-Some g c h =
    let room : length c.read_all.new.buf ≡ 65537 = search rules in
    read_written _ _ _ printed 65537 _ (image_read _ _ 65537 c.in-Some.n c.read_all.new.buf room (search rules) c.in-Some.ensures.bytes) (c.show.ensures h)
