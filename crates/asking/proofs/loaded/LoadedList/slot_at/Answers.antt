use mathlib.Core.Path.{◌≡◌, sym, ap, subst, ◌∙◌}
use mathlib.Core.List.{List}
use Prim.Native.Nat.{ℕ, ◌<◌}
use native.Mathlib.Omega.{arith}
use Rattle.ranks.specs.Ranks.{Ranks, marks, below}
use Rattle.slots.specs.declared.Extent.{Extent}
use Rattle.slots.specs.Live.{ranks_at}
use Rattle.slots.proofs.StateLaws.{mark-live}
use Rattle.asking.proofs.AskLaws.{count-is, held-some, slot_is}
use Rattle.asking.proofs.loaded.LoadedList.slot_at.Goals as goal

-- The ranks, the marks before a slot and a slot's mark, however the place where they start was come by.
ranks-there : (work : List ℕ) (k : Extent) (at : ℕ) → Ranks work (ranks_at k) k.gates → at ≡ ranks_at k → Ranks work at k.gates
ranks-there work k at r e = subst (λ (at : ℕ). Ranks work at k.gates) (sym e) r

bound-there : (work : List ℕ) (k : Extent) (at p : ℕ) → p < below (marks work (ranks_at k) k.gates) k.gates → at ≡ ranks_at k →
    p < below (marks work at k.gates) k.gates
bound-there work k at p l e = subst (λ (at : ℕ). p < below (marks work at k.gates) k.gates) (sym e) l

mark-there : (work : List ℕ) (k : Extent) (at slot : ℕ) → marks work at k.gates slot ≡ 1 → at ≡ ranks_at k → marks work (ranks_at k) k.gates slot ≡ 1
mark-there work k at slot m e = subst (λ (at : ℕ). marks work at k.gates slot ≡ 1) e m

below-there : (work : List ℕ) (k : Extent) (at slot p : ℕ) → below (marks work at k.gates) slot ≡ p → at ≡ ranks_at k →
    below (marks work (ranks_at k) k.gates) slot ≡ p
below-there work k at slot p b e = subst (λ (at : ℕ). below (marks work at k.gates) slot ≡ p) e b

pub slot_at-requires : goal.slot_at-requires
slot_at-requires c =
    let list = c.args.self.now in
    let ranks = list.loaded.ranks (held-some _ _ _ _ c.requires) in
    record {
      ranks = ranks-there _ list.extent _ ranks (omega (arith, c.ranks_at.ensures));
      position_bound =
          bound-there _ list.extent _ _ (omega (arith, c.requires, count-is list.records.now _ _ ranks)) (omega (arith, c.ranks_at.ensures));
    }

pub returns : goal.returns
returns c =
    let list = c.args.self.now in
    let ranks = list.loaded.ranks (held-some _ _ _ _ c.requires) in
    let at = c.slot_at.ensures in
    record {
      at_position =
          slot_is _ _ _ ranks _ _ at.0 (mark-there _ list.extent _ _ at.1 (omega (arith, c.ranks_at.ensures)))
          (below-there _ list.extent _ _ _ at.2 (omega (arith, c.ranks_at.ensures)));
      there = (mark-live _ _ _ (mark-there _ list.extent _ _ at.1 (omega (arith, c.ranks_at.ensures))), at.0);
    }
