-- A sweep's part in the journal: nothing, one more step, one part after another, and the whole.
use mathlib.Core.Path.{◌≡◌, refl, sym, ap, ◌∙◌}
use mathlib.Core.List.{List, [], ◌∷◌, ◌++◌, append_assoc, append-nil}
use Prim.Native.Nat.{ℕ, suc, ◌+◌, ◌*◌, ◌≤◌}
use native.Mathlib.Omega.{arith}
use lib.ListN.{length, length-append, set}
use lib.Seq.{sets, length-sets}
use Rattle.rules.specs.Steps.{Cell, Step}
use Rattle.rules.specs.Journal.{step_bytes, journal_bytes}
use Rattle.rules.specs.Sweeps.{Done, idle, and}
use Rattle.rules.proofs.JournalBytes.{journal-length}
use Rattle.journal.specs.Sweeping.{Did, Went}

-- ------------------------------------------------------------ bytes

sets-append : (a b l : List ℕ) (i j : ℕ) → j ≡ i + length a → sets (sets l i a) j b ≡ sets l i (a ++ b)
sets-append [] b l i j p = let q : j ≡ i = omega (arith, p) in ap (λ x. sets l x b) q
sets-append (x ∷ a) b l i j p = sets-append a b (set l i x) (suc i) j (omega (arith, p))

journal-append : (a b : List Step) → journal_bytes (a ++ b) ≡ journal_bytes a ++ journal_bytes b
unfolding journal_bytes
journal-append [] b = refl
journal-append (s ∷ a) b = ap (◌++◌ (step_bytes s)) (journal-append a b) ∙ sym (append_assoc (step_bytes s) (journal_bytes a) (journal_bytes b))

-- One part of a journal behind another.
pub both-written : (a b : List Step) (n m : ℕ) (was now then : List ℕ) → m ≡ n + length a →
    now ≡ sets was (16 * n) (journal_bytes a) → then ≡ sets now (16 * m) (journal_bytes b) →
    then ≡ sets was (16 * n) (journal_bytes (a ++ b))
both-written a b n m was now then p q r =
    r ∙ ap (λ l. sets l (16 * m) (journal_bytes b)) q
    ∙ sets-append (journal_bytes a) (journal_bytes b) was (16 * n) (16 * m) (omega (arith, p, journal-length a))
    ∙ ap (sets was (16 * n)) (sym (journal-append a b))

one_written : (s : Step) (was : List ℕ) (i : ℕ) → sets was i (step_bytes s) ≡ sets was i (journal_bytes (s ∷ []))
unfolding journal_bytes
one_written s was i = ap (sets was i) (sym (append-nil (step_bytes s)))

none_written : (was : List ℕ) (i : ℕ) → was ≡ sets was i (journal_bytes [])
unfolding journal_bytes
none_written was i = refl

-- ------------------------------------------------------------ a sweep goes on

-- Nothing is done, and what is to come is the same.
pub went-none : (from to : Done ℕ) (n : ℕ) (was : List ℕ) → from ≡ to → Went from to 0 n n was was
went-none from to n was p =
    record {
      steps = [];
      list = ap (λ d. d.list) p;
      all = ap (λ d. d.steps) p;
      looked = let q : from.looks ≡ to.looks = ap (λ d. d.looks) p in omega (arith, q);
      count = omega arith;
      journal = none_written was (16 * n);
    }

-- Only looks.
pub went-looking : (from to : Done ℕ) (looks n : ℕ) (was : List ℕ) → from.list ≡ to.list → from.steps ≡ to.steps →
    from.looks ≡ looks + to.looks → Went from to looks n n was was
went-looking from to looks n was p q r =
    record {
      steps = [];
      list = p;
      all = q;
      looked = r;
      count = omega arith;
      journal = none_written was (16 * n);
    }

-- One step.
pub went-step : (from to : Done ℕ) (s : Step) (looks n : ℕ) (was now : List ℕ) → from.list ≡ to.list → from.steps ≡ s ∷ to.steps →
    from.looks ≡ looks + to.looks → now ≡ sets was (16 * n) (step_bytes s) → Went from to looks n (suc n) was now
went-step from to s looks n was now p q r w =
    record {
      steps = s ∷ [];
      list = p;
      all = q;
      looked = r;
      count = omega arith;
      journal = w ∙ one_written s was (16 * n);
    }

-- One part after another.
pub went_on : (a b c : Done ℕ) (i j l m n : ℕ) (was now then : List ℕ) → Went a b i l m was now → Went b c j m n now then →
    Went a c (i + j) l n was then
went_on a b c i j l m n was now then p q =
    record {
      steps = p.steps ++ q.steps;
      list = p.list ∙ q.list;
      all = p.all ∙ ap (◌++◌ p.steps) q.all ∙ sym (append_assoc p.steps q.steps c.steps);
      looked = omega (arith, p.looked, q.looked);
      count = omega (arith, p.count, q.count, length-append p.steps q.steps);
      journal = both-written p.steps q.steps l m was now then p.count p.journal q.journal;
    }

-- As long as a step is to come, there is room for it where there is room for all.
pub went-room : (from to : Done ℕ) (looks n m : ℕ) (was now : List ℕ) (rest : List Step) (s : Step) → Went from to looks n m was now →
    to.steps ≡ s ∷ rest → 16 * (n + length from.steps) ≤ length was → 16 * m + 16 ≤ length now
went-room from to looks n m was now rest s p q r =
    omega (
      arith,
      p.count,
      ap length p.all,
      length-append p.steps to.steps,
      ap length q,
      ap length p.journal,
      length-sets was (16 * n) (journal_bytes p.steps),
      r,
    )

-- Nothing is to come: the sweep is done.
pub went-did : (d : Done ℕ) (held : List (Cell ℕ)) (looks n m : ℕ) (was now : List ℕ) → Went d (idle held) looks n m was now →
    Did d held n m was now
went-did d held looks n m was now p =
    let all : d.steps ≡ p.steps = p.all ∙ append-nil p.steps in
    record {
      list = sym p.list;
      count = p.count ∙ ap (λ s. n + length s) (sym all);
      journal = p.journal ∙ ap (λ s. sets was (16 * n) (journal_bytes s)) (sym all);
    }

pub went-looks : (d : Done ℕ) (held : List (Cell ℕ)) (looks n m : ℕ) (was now : List ℕ) → Went d (idle held) looks n m was now →
    d.looks ≡ looks
went-looks d held looks n m was now p = omega (arith, p.looked)

-- ------------------------------------------------------------ sweeps after one another

pub did_none : (held : List (Cell ℕ)) (n : ℕ) (was : List ℕ) → Did (idle held) held n n was was
did_none held n was = record { list = refl; count = omega arith; journal = none_written was (16 * n) }

pub did-both : (c d : Done ℕ) (first second : List (Cell ℕ)) (l m n : ℕ) (was now then : List ℕ) → Did c first l m was now →
    Did d second m n now then → Did (and c d) second l n was then
did-both c d first second l m n was now then p q =
    record {
      list = q.list;
      count = omega (arith, p.count, q.count, length-append c.steps d.steps);
      journal = both-written c.steps d.steps l m was now then p.count p.journal q.journal;
    }
