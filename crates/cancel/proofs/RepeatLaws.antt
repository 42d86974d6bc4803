-- A sweep again until nothing changes: one sweep, and then what is still to come.
use mathlib.Core.Path.{◌≡◌, refl, sym, ap, subst, ◌∙◌}
use mathlib.Core.List.{List, [], ◌∷◌, ◌++◌}
use Prim.Native.Nat.{ℕ, zero, suc, ◌+◌, ◌*◌, ◌≤◌, ◌<◌}
use native.Mathlib.Omega.{arith}
use lib.ListN.{length, length-append}
use lib.Seq.{sets}
use Rattle.rules.specs.Equal.{seven}
use Rattle.rules.specs.Steps.{Cell, Step}
use Rattle.rules.specs.Journal.{journal_bytes}
use Rattle.rules.specs.Sweeps.{Sweep, idle, and}
use Rattle.rules.specs.Loop.{again_if, repeat, repeated, size}
use Rattle.rules.proofs.Replays.{Replays}
use Rattle.rules.proofs.Falls.{steps-lower}
use Rattle.journal.specs.Sweeping.{Did, Went}

module _ (f : Sweep ℕ) (replays : Replays seven f) where
  -- Any fuel that is enough does the same.
  enough : (n m : ℕ) (l : List (Cell ℕ)) → size l < n → size l < m → repeat n f l ≡ repeat m f l
  unfolding repeat
  enough zero m l p q = absurd (omega (arith, p))
  enough (suc n) zero l p q = absurd (omega (arith, q))
  enough (suc n) (suc m) l p q = go (f l).steps refl (λ k. enough n m k)
    where
      go : (s : List Step) → (f l).steps ≡ s →
          ((k : List (Cell ℕ)) → size k < n → size k < m → repeat n f k ≡ repeat m f k) →
          again_if (repeat n f) (f l) s ≡ again_if (repeat m f) (f l) s
      go [] e ih = refl
      go (x ∷ s) e ih =
          let lower = steps-lower seven (f l).steps l (f l).list (replays l) in
          ap (and (f l)) (ih (f l).list (omega (arith, lower, ap length e, p)) (omega (arith, lower, ap length e, q)))

  once : (l : List (Cell ℕ)) → repeated f l ≡ again_if (repeat (size l) f) (f l) (f l).steps
  unfolding repeated repeat
  once l = refl

  whole : (l : List (Cell ℕ)) → repeat (suc (size l)) f l ≡ repeated f l
  unfolding repeated
  whole l = refl

  pub repeated-stops : (l : List (Cell ℕ)) → (f l).steps ≡ [] → repeated f l ≡ f l
  repeated-stops l e = once l ∙ ap (again_if (repeat (size l) f) (f l)) e

  -- A sweep that fires makes the list smaller.
  pub lower : (l : List (Cell ℕ)) (x : Step) (s : List Step) → (f l).steps ≡ x ∷ s → size (f l).list < size l
  lower l x s e = omega (arith, steps-lower seven (f l).steps l (f l).list (replays l), ap length e)

  pub repeated-goes : (l : List (Cell ℕ)) (x : Step) (s : List Step) → (f l).steps ≡ x ∷ s →
      repeated f l ≡ and (f l) (repeated f (f l).list)
  repeated-goes l x s e =
      once l ∙ ap (again_if (repeat (size l) f) (f l)) e
      ∙ ap (and (f l)) (enough (size l) (suc (size (f l).list)) (f l).list (lower l x s e) (omega arith) ∙ whole (f l).list)

  -- ------------------------------------------------------------ one sweep of many

  -- The first sweep's steps and looks are among those of all.
  pub record Among (l : List (Cell ℕ)) : Type 0 where
    pub steps : length (f l).steps ≤ length (repeated f l).steps
    pub looks : (f l).looks ≤ (repeated f l).looks

  pub among : (l : List (Cell ℕ)) → Among l
  among l = go (f l).steps refl
    where
      go : (s : List Step) → (f l).steps ≡ s → Among l
      go [] e =
          let p : repeated f l ≡ f l = repeated-stops l e in
          record {
            steps = let q : length (repeated f l).steps ≡ length (f l).steps = ap (λ d. length d.steps) p in omega (arith, q);
            looks = let q : (repeated f l).looks ≡ (f l).looks = ap (λ d. d.looks) p in omega (arith, q);
          }
      go (x ∷ s) e =
          let rest = repeated f (f l).list in
          let p : repeated f l ≡ and (f l) rest = repeated-goes l x s e in
          record {
            steps =
                let q : length (repeated f l).steps ≡ length ((f l).steps ++ rest.steps) = ap (λ d. length d.steps) p in
                omega (arith, q, length-append (f l).steps rest.steps);
            looks = let q : (repeated f l).looks ≡ (f l).looks + rest.looks = ap (λ d. d.looks) p in omega (arith, q);
          }

  module _ (l : List (Cell ℕ)) {held : List (Cell ℕ)} {before after : ℕ} {was now : List ℕ} (did : Did (f l) held before after was now) where
    -- It fired nothing: all is done.
    pub last-went : after ≡ before → Went (repeated f l) (idle held) (f l).looks before before was now
    last-went p = go (f l).steps refl
      where
        go : (s : List Step) → (f l).steps ≡ s → Went (repeated f l) (idle held) (f l).looks before before was now
        go (x ∷ s) e = absurd (omega (arith, p, did.count, ap length e))
        go [] e =
            let q : repeated f l ≡ f l = repeated-stops l e in
            record {
              steps = [];
              list = ap (λ d. d.list) q ∙ sym did.list;
              all = ap (λ d. d.steps) q ∙ e;
              looked = let r : (repeated f l).looks ≡ (f l).looks = ap (λ d. d.looks) q in omega (arith, r);
              count = omega arith;
              journal = did.journal ∙ ap (λ s. sets was (16 * before) (journal_bytes s)) e;
            }

    module _ (more : after ≡ before → ⊥) where
      fired : (P : Type 0) → ((x : Step) (s : List Step) → (f l).steps ≡ x ∷ s → P) → P
      fired P then = go (f l).steps refl
        where
          go : (s : List Step) → (f l).steps ≡ s → P
          go [] e = absurd (more (let c = did.count in omega (arith, c, ap length e)))
          go (x ∷ s) e = then x s e

      -- It fired: the rest is to come, on a smaller list.
      pub again-went : Went (repeated f l) (repeated f held) (f l).looks before after was now
      again-went = fired _ λ x s e.
          let q : repeated f l ≡ and (f l) (repeated f held) =
          repeated-goes l x s e ∙ ap (λ m. and (f l) (repeated f m)) (sym did.list) in
          record {
            steps = (f l).steps;
            list = ap (λ d. d.list) q;
            all = ap (λ d. d.steps) q;
            looked = ap (λ d. d.looks) q;
            count = did.count;
            journal = did.journal;
          }

      pub again-lower : size held < size l
      again-lower = fired _ λ x s e. subst (λ m. size m < size l) (sym did.list) (lower l x s e)
