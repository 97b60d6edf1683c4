-- The number tells which of the cases of `add` it is. Assumes nothing.
use Rattle.std.proofs.Common.{sym, ap, ◌∙◌, arith, List, ℕ, ◌+◌}
use Rattle.mask_store.specs.declared.Added.{Added}
use Rattle.mask_store.specs.Masks.{allowed, store_of}
use Rattle.mask_store.proofs.Adding.{is_held, is-new, add-held, add-new, add-full, add-allowed}
use Rattle.mask_store.proofs.Search.{allowed-count}
use Rattle.mask_store.proofs.Allowed.add.Goals as goal

pub invariant_of-number_of : goal.invariant_of-number_of
invariant_of-number_of c = record { few = allowed-count c.args.self.now.store c.args.self.now.allowed }

pub returns-then-number-count-clause-answer : goal.returns-then-number-count-clause-answer
returns-then-number-count-clause-answer c =
    let s = c.args.self.now.store in
    let number = c.number_of-number.ensures.value in
    let known = is_held s c.args.class (omega (arith, number)) in
    rw number (ap (λ (x : Added). x.answer) (sym (add-held s c.args.class c.args.self.now.allowed known)))

pub returns-then-number-count-clause-after : goal.returns-then-number-count-clause-after
returns-then-number-count-clause-after c =
    let s = c.args.self.now.store in
    let known = is_held s c.args.class (omega (arith, c.number_of-number.ensures.value)) in
    ap (λ (x : Added). x.store) (sym (add-held s c.args.class c.args.self.now.allowed known))

pub returns-then-count-lt-MASKS-clause-answer : goal.returns-then-count-lt-MASKS-clause-answer
returns-then-count-lt-MASKS-clause-answer c =
    let s = c.args.self.now.store in
    let new = is-new s c.args.class (omega (arith, c.number_of-number.ensures.value)) in
    ap (λ (x : Added). x.answer) (sym (add-new s c.args.class c.args.self.now.allowed new (omega arith)))

pub returns-then-count-lt-MASKS-clause-after : goal.returns-then-count-lt-MASKS-clause-after
returns-then-count-lt-MASKS-clause-after c =
    let s = c.args.self.now.store in
    let new = is-new s c.args.class (omega (arith, c.number_of-number.ensures.value)) in
    ap (λ (l : List ℕ). store_of l (s.count + 1)) c.write_mask.ensures ∙ ap (λ (x : Added). x.store) (sym (add-new s c.args.class c.args.self.now.allowed new (omega arith)))

pub invariant_of-self : goal.invariant_of-self
invariant_of-self c =
    let s = c.args.self.now.store in
    let a = c.args.self.now.allowed in
    let new = is-new s c.args.class (omega (arith, c.number_of-number.ensures.value)) in
    record {
      allowed =
          ap (λ (l : List ℕ). allowed (store_of l (s.count + 1))) c.write_mask.ensures
          ∙ ap (λ (x : Added). allowed x.store) (sym (add-new s c.args.class a new (omega arith)))
          ∙ add-allowed s c.args.class (omega arith) (omega arith) a;
    }

pub returns-else-count-lt-MASKS-clause-answer : goal.returns-else-count-lt-MASKS-clause-answer
returns-else-count-lt-MASKS-clause-answer c =
    let s = c.args.self.now.store in
    let new = is-new s c.args.class (omega (arith, c.number_of-number.ensures.value)) in
    ap (λ (x : Added). x.answer) (sym (add-full s c.args.class c.args.self.now.allowed new (omega arith)))

pub returns-else-count-lt-MASKS-clause-after : goal.returns-else-count-lt-MASKS-clause-after
returns-else-count-lt-MASKS-clause-after c =
    let s = c.args.self.now.store in
    let new = is-new s c.args.class (omega (arith, c.number_of-number.ensures.value)) in
    ap (λ (x : Added). x.store) (sym (add-full s c.args.class c.args.self.now.allowed new (omega arith)))
