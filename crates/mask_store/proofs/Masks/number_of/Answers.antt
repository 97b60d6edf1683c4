-- The search of all masks. Assumes nothing.
use Rattle.std.proofs.Common.{◌∙◌, arith}
use Rattle.mask_store.specs.Masks.{held}
use Rattle.mask_store.proofs.MaskLaws.{length-held}
use Rattle.mask_store.proofs.Numbers.{number-most}
use Rattle.mask_store.proofs.Search.{search-all}
use Rattle.mask_store.proofs.Masks.number_of.Goals as goal

pub returns-clause-value : goal.returns-clause-value
returns-clause-value c = c.number_from.ensures ∙ search-all c.args.self.store.now c.args.class.now

pub returns-clause-few : goal.returns-clause-few
returns-clause-few c =
    let s = c.args.self.store.now in
    let few = c.args.self.few in
    let number = c.number_from.ensures ∙ search-all s c.args.class.now in
    omega (arith, number, number-most (held s) c.args.class.now, length-held s)
