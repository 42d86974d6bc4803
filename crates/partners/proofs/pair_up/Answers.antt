use mathlib.Core.Path.{sym, ap, subst}
use Prim.Native.Nat.{ℕ}
use Rattle.order.specs.declared.Room.{Room}
use Rattle.slots.specs.declared.Extent.{Extent}
use Rattle.order.specs.Order.{Listing, PairedUp}
use native.Mathlib.Omega.{arith}
use Rattle.slots.proofs.StateLaws.{keeps-loaded}
use Rattle.partners.proofs.PartnerLaws.{pairs-ready, no-partners, partners-left}
use Rattle.partners.proofs.pair_up.Goals as goal

-- The room of the pairs, from a place on.
abbrev room_from : Extent → ℕ → Room
room_from k base = record { base = base; slots = k.gates; wires = k.wires }

pub returns-then-g-eq0 : goal.returns-then-g-eq0
returns-then-g-eq0 c =
    let whole = no-partners _ _ _ c.if-g-eq0.true in
    record { paired = whole.0; kept = whole.1 }

pub pair_up-requires : goal.pair_up-requires
pair_up-requires c =
    let k = c.args.k in
    let there = ap (room_from k) (sym c.pairs_at-base.ensures) in
    subst (λ (r : Room). Listing c.list_pairs-count.new.work r c.list_pairs-count.result) there
    (pairs-ready _ _ c.args.k _ (keeps-loaded _ _ _ _ c.list_pairs-count.ensures.kept c.requires) c.list_pairs-count.ensures.listed (omega (arith, c.if-g-eq0.false)))

pub returns : goal.returns
returns c =
    let whole = partners-left _ _ _ _ c.args.k _ (keeps-loaded _ _ _ _ c.list_pairs-count.ensures.kept c.requires) (omega (arith, c.if-g-eq0.false))
    c.list_pairs-count.ensures.kept c.list_pairs-count.ensures.listed
    (subst (λ (r : Room). PairedUp r c.list_pairs-count.result c.list_pairs-count.new.work c.pair_up.new.words) (ap (room_from c.args.k) c.pairs_at-base.ensures) c.pair_up.ensures) in
    record { paired = whole.0; kept = whole.1 }
