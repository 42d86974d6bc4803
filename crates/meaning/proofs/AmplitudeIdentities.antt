-- The table of words that do the same, at the amplitudes. In a file of its own, so that an edit of the table that makes it false is
-- refused in the table's file for the table alone.
use Rattle.gates.specs.Gates.{All}
use Rattle.meaning.proofs.Values.{Values, values-laws}
use Rattle.meaning.proofs.Placed.{HoldsOfAmplitudes, of-amplitudes}
use Rattle.meaning.proofs.Identities.{identities, identities-hold}

pub identities-of-amplitudes : All HoldsOfAmplitudes identities
identities-of-amplitudes = of-amplitudes identities (identities-hold Values values-laws)
