-- No second outcome meets the contract of the pass.
use mathlib.Core.Path.{◌≡◌, sym, ◌∙◌}
use Rattle.cancel.specs.Cancelling.{Call, Outcome, Meets}

pub one-outcome : (c : Call) (a b : Outcome) → Meets c a → Meets c b → a ≡ b
one-outcome c a b p q =
    λ i. record {
      answer = (p.answer ∙ sym q.answer) i;
      out = (p.out ∙ sym q.out) i;
      work = (p.work ∙ sym q.work) i;
      journal = (p.journal ∙ sym q.journal) i;
    }
