use mathlib.Core.Path.{◌≡◌, refl, sym, ap, ◌∙◌}
use Prim.Native.Nat.{ℕ}
use native.Mathlib.Omega.{arith}
use Rattle.std.specs.Prelude.{Result, Ok, Err}
use Rattle.std.specs.Result.{result_unwrap_or}
use Rattle.gates.specs.declared.Gate.{Gate}
use Rattle.gates.specs.declared.Gate.TheVariants.{X}
use Rattle.gates.specs.declared.records.NoGate.{NoGate}
use Rattle.gates.specs.Gates.{wire}
use Rattle.gates.specs.Records.{gate_of}
use Rattle.slots.specs.Slots.{gate_in}
use Rattle.slots.proofs.StateLaws.{gate-is}
use Rattle.asking.proofs.gate_at.Goals as goal

-- The gate that the code takes, where there is none.
or-some : (r : Result Gate NoGate) (w : ℕ) → w ≡ 0 → result_unwrap_or r (X (wire w)) ≡ gate_in r
or-some (Ok g) w e = refl
or-some (Err why) w e = ap (λ (w : ℕ). X (wire w)) e

pub returns : goal.returns
returns c =
    c.unwrap_or.ensures ∙ or-some c.try_from.result _ (omega arith) ∙ ap gate_in (c.try_from.ensures ∙ ap gate_of c.record.ensures)
    ∙ sym (gate-is c.args.records.now c.args.slot.0)
