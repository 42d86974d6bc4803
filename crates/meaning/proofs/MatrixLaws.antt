-- A local operator does what a matrix does if a table of paths says so, which is computed.
use mathlib.Core.Path.{◌≡◌, refl, sym, ◌∙◌, ap, ap₂}
use mathlib.Core.Bool.{Bool, ◌&&◌}
use mathlib.Core.List.{List, [], ◌∷◌, ◌++◌}
use Prim.Native.Nat.{ℕ, ◌%◌}
use lib.Dec.{T}
use lib.ListN.{length}
use Rattle.gates.proofs.Joined.{and_both}
use Rattle.meaning.specs.Amplitudes.{Ops}
use Rattle.meaning.specs.Matrices.{Matrix, Factor, same_bits}
use Rattle.meaning.specs.States.{Setting, bits_at, put, all_bits, sum, scale, through}
use Rattle.meaning.proofs.SumLaws.{Laws, turns-mod}
use Rattle.meaning.proofs.Operators.{Operator}
use Rattle.meaning.proofs.Settle.{Term, term, same_sum, settle, put_in, opposite, raise, raise_all, opposed, weight, total, total-append, same_sum_lem}
use Rattle.meaning.proofs.Paths.{Distinct, put-bits, bits_fit, everywhere, everywhere-at, fitting, all_within, within, paths, gather, scaled, flip_all, flip, bits_of, word, paths-is}

-- ------------------------------------------------------------ the test

-- The row of a matrix as terms, and the test that an operator takes the same amplitudes with the same factors.
unfoldable pub entry_terms : List Bool → List Factor → List Term
entry_terms σ [] = []
entry_terms σ (e ∷ l) = term (e.turns % 8) e.roots σ ∷ entry_terms σ l

unfoldable pub row_terms : Matrix → List Bool → List (List Bool) → List Term
row_terms M out [] = []
row_terms M out (σ ∷ l) = entry_terms σ (M out σ) ++ row_terms M out l

unfoldable pub matches : List ℕ → ℕ → Operator → Matrix → Bool
unfolding fitting all_within within everywhere same_sum settle put_in opposite same_bits raise_all raise opposed
    paths gather scaled flip_all flip bits_of entry_terms row_terms all_bits
matches ws k q M =
    fitting (length ws) (q ∷ []) &&
    everywhere (length ws) (λ σ. same_sum k (paths (q ∷ []) σ) (row_terms M σ (all_bits (length ws))))

module _ {A : Type 0} (O : Ops A) (L : Laws O) (ws : List ℕ) (ψ : Setting → A) (u : Setting) where
  entry-is : (σ : List Bool) (l : List Factor) →
      sum O (λ e. scale O e (ψ (put ws σ u))) l ≡ total O L (λ τ. ψ (put ws τ u)) (entry_terms σ l)
  unfolding entry_terms total sum weight scale
  entry-is σ [] = refl
  entry-is σ (e ∷ l) = ap₂ O.add
      (sym (turns-mod O L e.turns _))
      (entry-is σ l)

  row_is : (M : Matrix) (out : List Bool) (l : List (List Bool)) →
      sum O (λ σ. sum O (λ e. scale O e (ψ (put ws σ u))) (M out σ)) l ≡ total O L (λ τ. ψ (put ws τ u)) (row_terms M out l)
  unfolding row_terms total sum
  row_is M out [] = refl
  row_is M out (σ ∷ l) =
      ap₂ O.add (entry-is σ (M out σ)) (row_is M out l)
      ∙ sym (total-append O L (λ τ. ψ (put ws τ u)) (entry_terms σ (M out σ)) (row_terms M out l))

  pub by-matrix : (d : Distinct ws) (k : ℕ) (q : Operator) (M : Matrix) → T (matches ws k q M) →
      word O ws (q ∷ []) ψ u ≡ through O M ws ψ u
  unfolding matches through
  by-matrix d k q M h = let a = and_both (fitting (length ws) (q ∷ [])) _ h in
      ap (word O ws (q ∷ []) ψ) (sym (put-bits ws u))
      ∙ paths-is O L ws d ψ u (q ∷ []) (bits_at u ws) (bits_fit ws u) a.0
      ∙ same_sum_lem O L (λ τ. ψ (put ws τ u)) k _ _ (everywhere-at ws _ a.1 (bits_at u ws) (bits_fit ws u))
      ∙ sym (row_is M (bits_at u ws) (all_bits (length ws)))
