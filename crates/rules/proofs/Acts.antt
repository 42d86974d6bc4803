-- What an allowed step found and left, and induction along a journal.
use mathlib.Core.Path.{◌≡◌, refl, sym, ◌∙◌, ap, subst}
use mathlib.Core.Bool.{Bool, true, false}
use mathlib.Core.List.{List, [], ◌∷◌, ◌++◌}
use mathlib.Core.Option.{Option, some, none}
use Prim.Native.Nat.{ℕ, suc, ◌+◌, ◌-◌, ◌<◌}
use native.Mathlib.Omega.{arith}
use lib.ListN.{length}
use lib.Dec.{eqb}
use borrow.Author.Tests.{ltb-true, eqb-true}
use Rattle.rules.specs.Steps.{Cell, Step, in_form, Cut, change, cut_at, act}
use Rattle.rules.specs.Journal.{replayed, replay_from}
use Rattle.rules.proofs.Names.{if, if-h, joined, to_last, to-first, then}
use Rattle.gates.proofs.Joined.{and_left, and_right}
use Rattle.rules.proofs.EqualLaws.{none-not-some}
use Rattle.rules.proofs.Cuts.{CutAt, AtParts, cut-at-parts}
use Rattle.rules.proofs.Replays.{Leads, leads, refused-not-replayed, replayed-same}

module _ {A : Type 0} where
  -- Two cells and those between, as they stand in a list.
  abbrev pub whole : Cell A → List (Cell A) → Cell A → List (Cell A)
  whole e m f = e ∷ (m ++ (f ∷ []))

  pub if-true : (b : Bool) (m n : List (Cell A)) → if b m ≡ some n → (b ≡ true) × (m ≡ n)
  if-true true m n h = (refl, cc)
  if-true false m n h = absurd (none-not-some n h)

  pub if-h-true : (b : Bool) (o : Option (List (Cell A))) (n : List (Cell A)) → if-h b o ≡ some n → (b ≡ true) × (o ≡ some n)
  if-h-true true o n h = (refl, h)
  if-h-true false o n h = absurd (none-not-some n h)

module _ {A : Type 0} (kinds : List ℕ) where
  -- The cells before, the two cells with those between, the cells after, and what stands in place of the middle.
  pub record Acted (s : Step) (l r : List (Cell A)) : Type 0 where
    pub a : List (Cell A)
    pub e : Cell A
    pub m : List (Cell A)
    pub f : Cell A
    pub b : List (Cell A)
    pub new : List (Cell A)
    pub found : l ≡ a ++ (e ∷ (m ++ (f ∷ b)))
    pub left : r ≡ a ++ (new ++ b)
    pub by : change kinds s.kind e m f ≡ some new
    pub at : length a ≡ s.first
    pub to : suc (length a) + length m ≡ s.last
    pub fourth : s.fourth ≡ 0

  module _ (s : Step) (l r : List (Cell A)) (z : s.fourth ≡ 0) (t : s.first < s.last) where
    acted-join : (c d : Cut A) → CutAt s.first l c → CutAt (s.last - suc s.first) c.after d → (o : Option (List (Cell A))) →
        change kinds s.kind c.here d.before d.here ≡ o → joined c.before d.after o ≡ some r → Acted s l r
    acted-join c d p q none u v = absurd (none-not-some r v)
    acted-join c d p q (some n) u v = record {
      a = c.before;
      e = c.here;
      m = d.before;
      f = d.here;
      b = d.after;
      new = n;
      found = p.parts ∙ ap (λ x. c.before ++ (c.here ∷ x)) q.parts;
      left = cc;
      by = u;
      at = p.place;
      to = omega (arith, p.place, q.place);
      fourth = z;
    }

    acted-last : (c : Cut A) → CutAt s.first l c → (o : Option (Cut A)) → AtParts (s.last - suc s.first) c.after o →
        to_last kinds s.kind c o ≡ some r → Acted s l r
    acted-last c p none u v = absurd (none-not-some r v)
    acted-last c p (some d) u v = acted-join c d p u (change kinds s.kind c.here d.before d.here) refl v

    acted-first : (o : Option (Cut A)) → AtParts s.first l o → to-first kinds s.kind (s.last - suc s.first) o ≡ some r →
        Acted s l r
    acted-first none u v = absurd (none-not-some r v)
    acted-first (some c) u v = acted-last c u (cut_at (s.last - suc s.first) c.after)
        (cut-at-parts (s.last - suc s.first) c.after) v

  pub act-parts : (s : Step) (l r : List (Cell A)) → act kinds s l ≡ some r → Acted s l r
  unfolding act
  act-parts s l r h = go (in_form s) refl h
    where
      go : (b : Bool) → in_form s ≡ b →
          if-h b (to-first kinds s.kind (s.last - suc s.first) (cut_at s.first l)) ≡ some r → Acted s l r
      go true t v =
          acted-first s l r (eqb-true s.fourth 0 (and_left _ _ t)) (ltb-true s.first s.last (and_right (eqb s.fourth 0) _ t))
          (cut_at s.first l) (cut-at-parts s.first l) v
      go false t v = absurd (none-not-some r v)

  -- What holds at the end of an accepted journal, and before each step if it holds after it, holds at the start.
  pub along : (m : List (Cell A)) (Q : List Step → List (Cell A) → Type 0) → Q [] m →
      ((s : Step) (ss : List Step) (l k : List (Cell A)) → act kinds s l ≡ some k → Leads kinds ss k m → Q ss k → Q (s ∷ ss) l) →
      (ss : List Step) (l : List (Cell A)) → Leads kinds ss l m → Q ss l
  unfolding replay_from
  along m Q end turn [] l h = subst (Q []) (sym (replayed-same l m (h 0))) end
  along m Q end turn (s ∷ ss) l h = go (act kinds s l) refl (h 0) λ k q. along m Q end turn ss k q
    where
      go : (o : Option (List (Cell A))) → act kinds s l ≡ o → then o 0 (replay_from kinds 1 ss) ≡ replayed m →
          ((k : List (Cell A)) → Leads kinds ss k m → Q ss k) → Q (s ∷ ss) l
      go none p q ih = absurd (refused-not-replayed 0 m q)
      go (some k) p q ih = let t = leads kinds 1 ss k m q in turn s ss l k p t (ih k t)
