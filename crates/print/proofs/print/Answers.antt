-- The build, then its text: measured, and written only if it fits. Assumes nothing.
use Rattle.std.proofs.Common.{arith, ap, subst, ◌∙◌, List, ℕ, length, ◌≤◌}
use Rattle.display.specs.Answers.{written}
use Rattle.print.specs.Print.{most_printed, space, print_call}
use Rattle.print.proofs.Answers.{image_holds, image-text}
use Rattle.print.proofs.print.Goals as goal

pub printed-requires-clause-holds : goal.printed-requires-clause-holds
unfolding space
printed-requires-clause-holds c =
    image_holds c.args.image.now c.from_image-answer.new.graph c.from_image-answer.new.errors c.from_image-answer.result c.from_image-answer.ensures

pub put-requires : goal.put-requires
put-requires c = omega (arith, c.printed.ensures.room)

pub returns-clause-answer : goal.returns-clause-answer
unfolding print_call space
returns-clause-answer c =
    let e = c.printed.ensures.text ∙ image-text c.args.image.now c.from_image-answer.new.graph c.from_image-answer.new.errors c.from_image-answer.result c.from_image-answer.ensures in
    c.put.ensures.answer ∙ ap (λ (t : List ℕ). (written t c.args.out.now).answer) e

pub returns-clause-buffer : goal.returns-clause-buffer
unfolding print_call space
returns-clause-buffer c =
    let e = c.printed.ensures.text ∙ image-text c.args.image.now c.from_image-answer.new.graph c.from_image-answer.new.errors c.from_image-answer.result c.from_image-answer.ensures in
    c.put.ensures.buffer ∙ ap (λ (t : List ℕ). (written t c.args.out.now).buffer) e

pub returns-clause-room : goal.returns-clause-room
unfolding space
returns-clause-room c =
    let e = c.printed.ensures.text ∙ image-text c.args.image.now c.from_image-answer.new.graph c.from_image-answer.new.errors c.from_image-answer.result c.from_image-answer.ensures in
    subst (λ (t : List ℕ). length t ≤ most_printed) e c.printed.ensures.room
