-- May-pass by records, for gates that share a wire with the pair.
use Rattle.std.specs.Prelude.{Bool, true, false, not, ◌&&◌, cond, ℕ, eqb, leb}
use Rattle.gates.specs.declared.records.Record.{Record}
use Rattle.leaves.specs.declared.pairs.CommutingPair.{CommutingPair}
use Rattle.passing.specs.declared.quick.Past.{Past}

-- The largest word is no wire: it stands for the target that a cz or ccz has not.
unfoldable pub past_of : CommutingPair → Past
past_of (CommutingPair.Cnot c t) = record { cnot = true; target = t.0; first = c.0; second = c.0; third = c.0 }
past_of (CommutingPair.Cz a b) = record { cnot = false; target = 4294967295; first = a.0; second = b.0; third = b.0 }
past_of (CommutingPair.Ccx a b t) = record { cnot = false; target = t.0; first = a.0; second = b.0; third = b.0 }
past_of (CommutingPair.Ccz a b c) = record { cnot = false; target = 4294967295; first = a.0; second = b.0; third = c.0 }

-- A wire that is none of those that the pair only reads.
abbrev pub off_by : Past → ℕ → Bool
off_by p w = not (eqb w p.first) && not (eqb w p.second) && not (eqb w p.third)

-- A word that is not the pair's target.
abbrev pub beside : Past → ℕ → Bool
beside p w = not (eqb w p.target)

-- By kind: s to tdg, cnot, cz, ccz, x, ccx; every other kind blocks.
unfoldable pub passes_by : Past → Record → Bool
passes_by p r =
    cond (leb 2 r.kind && leb r.kind 6) (beside p r.first)
    (cond (eqb r.kind 8) (beside p r.first && off_by p r.second)
    (cond (eqb r.kind 9) (beside p r.first && beside p r.second)
    (cond (eqb r.kind 11) (beside p r.first && beside p r.second && beside p r.third)
    (cond (eqb r.kind 0) (off_by p r.first)
    (cond (eqb r.kind 10) (not p.cnot && beside p r.first && beside p r.second && off_by p r.third) false)))))
