-- The matrices that OpenQASM 3 fixes: its built-in gates, its modifiers, and the gates of `stdgates.inc`. Quoted are the
-- sentences of the specification, "Built-in gates" and "Quantum gate modifiers", and the lines of `stdgates.inc`.
use Rattle.std.specs.Prelude.{Bool, true, false, not, cond, ◌&&◌, List, [], ◌∷◌, ℕ, ◌+◌, ◌*◌}

-- ------------------------------------------------------------ matrices

-- w to the `turns`, over √2 to the `roots`. An angle is a number of eighth turns, π is 4; e^(iθ) is w to the θ, i is w², -1 is
-- w⁴.
pub record Factor : Type 0 where
  pub turns : ℕ
  pub roots : ℕ

abbrev pub factor : ℕ → ℕ → Factor
factor k p = record { turns = k; roots = p }

-- The entry in the row of the bits after the gate and the column of the bits before it, as a sum of factors.
abbrev pub Matrix : Type 0
Matrix = List Bool → List Bool → List Factor

abbrev pub one : List Factor
one = factor 0 0 ∷ []

abbrev pub first_bit : List Bool → Bool
first_bit [] = false
first_bit (b ∷ bs) = b

abbrev pub second_bit : List Bool → Bool
second_bit [] = false
second_bit (b ∷ bs) = first_bit bs

abbrev pub same_bit : Bool → Bool → Bool
same_bit true b = b
same_bit false b = not b

unfoldable pub same_bits : List Bool → List Bool → Bool
same_bits [] [] = true
same_bits [] (b ∷ m) = false
same_bits (a ∷ l) [] = false
same_bits (a ∷ l) (b ∷ m) = same_bit a b && same_bits l m

-- ------------------------------------------------------------ built-in gates

-- "U(θ, φ, λ) := ½ [[1 + e^(iθ), -i e^(iλ) (1 - e^(iθ))], [i e^(iφ) (1 - e^(iθ)), e^(i(φ+λ)) (1 + e^(iθ))]]", λ as l
abbrev pub entry_u : ℕ → ℕ → ℕ → Bool → Bool → List Factor
entry_u θ φ l false false = factor 0 2 ∷ factor θ 2 ∷ []
entry_u θ φ l false true = factor (6 + l) 2 ∷ factor (6 + l + 4 + θ) 2 ∷ []
entry_u θ φ l true false = factor (2 + φ) 2 ∷ factor (2 + φ + 4 + θ) 2 ∷ []
entry_u θ φ l true true = factor (φ + l) 2 ∷ factor (φ + l + θ) 2 ∷ []

unfoldable pub U : ℕ → ℕ → ℕ → Matrix
U θ φ l after before = entry_u θ φ l (first_bit after) (first_bit before)

-- "gphase(γ); adds a global phase of e^(iγ) to the scope containing the instruction": alone, on no wire.
unfoldable pub gphase : ℕ → Matrix
gphase k after before = factor k 0 ∷ []

unfoldable pub turned_all : ℕ → List Factor → List Factor
turned_all k [] = []
turned_all k (e ∷ l) = factor (k + e.turns) e.roots ∷ turned_all k l

-- A gate, then `gphase` of k eighths.
unfoldable pub with_phase : ℕ → Matrix → Matrix
unfolding turned_all
with_phase k M after before = turned_all k (M after before)

-- ------------------------------------------------------------ modifiers

-- `ctrl @`: "If the control bit is 0, nothing happens to the target bit. If the control bit is 1, U acts on the target bit."
unfoldable pub ctrl : Matrix → Matrix
unfolding same_bits
ctrl M (false ∷ after) (false ∷ before) = cond (same_bits after before) one []
ctrl M (true ∷ after) (true ∷ before) = M after before
ctrl M (false ∷ after) (true ∷ before) = []
ctrl M (true ∷ after) (false ∷ before) = []
ctrl M (a ∷ after) [] = []
ctrl M [] before = []

unfoldable pub conjugated : List Factor → List Factor
conjugated [] = []
conjugated (e ∷ l) = factor (7 * e.turns) e.roots ∷ conjugated l

-- `inv @`: "replaces its gate argument U with its inverse U†", the entry across, with w⁷ for w.
unfoldable pub inv : Matrix → Matrix
unfolding conjugated
inv M after before = conjugated (M before after)

-- ------------------------------------------------------------ the gates of `stdgates.inc`

-- "gate p(λ) a { ctrl @ gphase(λ) a; }"
abbrev pub p : ℕ → Matrix
p k = ctrl (gphase k)

-- "gate x a { U(π, 0, π) a; gphase(-π/2); }"
abbrev pub x : Matrix
x = with_phase 6 (U 4 0 4)

-- "gate y a { U(π, π/2, π/2) a; gphase(-π/2); }"
abbrev pub y : Matrix
y = with_phase 6 (U 4 2 2)

-- "gate h a { U(π/2, 0, π) a; gphase(-π/4); }"
abbrev pub h : Matrix
h = with_phase 7 (U 2 0 4)

-- "gate z a { p(π) a; }"
abbrev pub z : Matrix
z = p 4

-- "gate s a { pow(1/2) @ z a; }": of the roots of z that which halves the angle π.
abbrev pub s : Matrix
s = p 2

-- "gate sdg a { inv @ pow(1/2) @ z a; }"
abbrev pub sdg : Matrix
sdg = inv s

-- "gate t a { pow(1/2) @ s a; }"
abbrev pub t : Matrix
t = p 1

-- "gate tdg a { inv @ pow(1/2) @ s a; }"
abbrev pub tdg : Matrix
tdg = inv t

-- "gate sx a { pow(1/2) @ x a; }". Document 01: "sx is half of 1 + w² on the diagonal and 1 - w² off it."
abbrev pub sx : Matrix
sx after before =
    cond (same_bit (first_bit after) (first_bit before)) (factor 0 2 ∷ factor 2 2 ∷ []) (factor 0 2 ∷ factor 6 2 ∷ [])

-- "gate swap a, b { cx a, b; cx b, a; cx a, b; }": each bit goes to the other's place.
unfoldable pub swap : Matrix
unfolding same_bits
swap after before = cond (same_bits (second_bit after ∷ first_bit after ∷ []) before) one []
