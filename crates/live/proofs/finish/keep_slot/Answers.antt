use mathlib.Core.Path.{refl, sym, ap, ◌∙◌}
use Prim.Native.Nat.{◌*◌}
use native.Mathlib.Omega.{arith}
use lib.Seq.{sets}
use Rattle.gates.specs.declared.records.Record.{Record}
use Rattle.gates.specs.Records.{record_bytes}
use Rattle.slots.proofs.StateLaws.{live-at}
use Rattle.live.proofs.FinishLaws.{padding-small}
use Rattle.live.proofs.finish.keep_slot.Goals as goal

pub put_record-requires : goal.put_record-requires
put_record-requires c = (
  omega arith,
  padding-small _ _ _ (λ i. omega (arith, c.slice_known-1.given i)) c.record-r.ensures,
)

pub returns-then-is_marked : goal.returns-then-is_marked
returns-then-is_marked c =
    let alive = sym (live-at _ _ _ _ c.ranks_at.ensures) ∙ sym c.is_marked.ensures ∙ c.if-is_marked.true in record {
      moved = rw alive (c.put_record.ensures
          ∙ ap (λ (r : Record). sets c.args.records.now (16 * c.args.kept) (record_bytes r)) c.record-r.ensures);
      counted = rw alive (refl);
    }

pub returns-else-is_marked : goal.returns-else-is_marked
returns-else-is_marked c =
    let dead = sym (live-at _ _ _ _ c.ranks_at.ensures) ∙ sym c.is_marked.ensures ∙ c.if-is_marked.false in record {
      moved = rw dead (refl);
      counted = rw dead (refl);
    }
