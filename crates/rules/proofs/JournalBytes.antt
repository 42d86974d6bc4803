-- A journal's bytes give its steps back, and the pass's journal is accepted as bytes.
use mathlib.Core.Path.{◌≡◌, refl, sym, ◌∙◌, ap, ap₂}
use mathlib.Core.List.{List, [], ◌∷◌, ◌++◌, append_assoc}
use mathlib.Core.Bool.{Bool, true, false, cond}
use mathlib.Core.Option.{some, none}
use Prim.Native.Nat.{ℕ, suc, ◌+◌, ◌*◌, ◌/◌, ◌^◌, ◌≤◌, ◌<◌}
use native.Mathlib.Omega.{arith}
use lib.ListN.{length, length-append}
use lib.Dec.{eqb}
use borrow.Author.Tests.{eqb-true}
use Rattle.gates.specs.Words.{byte_at, word_at, bytes_of}
use Rattle.gates.proofs.WordLaws.{word-of-bytes}
use Rattle.rules.specs.Steps.{Cell, Step, change1, change2, change3, change, act}
use Rattle.rules.specs.Journal.{step_at, steps_from, steps_of, step_bytes, journal_bytes, replayed, replay, replay_bytes}
use Rattle.rules.specs.Loop.{pass}
use Rattle.rules.proofs.Replays.{Leads, pass-replays}
use Rattle.rules.proofs.EqualLaws.{none-not-some}
use Rattle.rules.proofs.Acts.{act-parts, along}
use Rattle.rules.proofs.Falls.{act-less}

-- ------------------------------------------------------------ words behind other bytes

byte-behind : (a b : List ℕ) (i j : ℕ) → j ≡ length a + i → byte_at (a ++ b) j ≡ byte_at b i
byte-behind [] b i j e = ap (byte_at b) (omega (arith, e))
byte-behind (x ∷ a) b i j e = let p : j ≡ suc (length a + i) = omega (arith, e) in ap (byte_at (x ∷ (a ++ b))) p
    ∙ byte-behind a b i (length a + i) refl

word-behind : (a b : List ℕ) (i j : ℕ) → j ≡ length a + i → word_at (a ++ b) j ≡ word_at b i
unfolding word_at
word-behind a b i j e =
    rw (
      byte-behind a b i j e,
      byte-behind a b (i + 1) (j + 1) (omega (arith, e)),
      byte-behind a b (i + 2) (j + 2) (omega (arith, e)),
      byte-behind a b (i + 3) (j + 3) (omega (arith, e)),
    )

-- ------------------------------------------------------------ steps

-- The words of a step fit.
pub record Fits (s : Step) : Type 0 where
  pub kind : s.kind < 2 ^ 32
  pub first : s.first < 2 ^ 32
  pub last : s.last < 2 ^ 32
  pub fourth : s.fourth < 2 ^ 32

step-length : (s : Step) → length (step_bytes s) ≡ 16
unfolding step_bytes bytes_of
step-length s = refl

pub journal-length : (ss : List Step) → length (journal_bytes ss) ≡ 16 * length ss
unfolding journal_bytes
journal-length [] = refl
journal-length (s ∷ ss) = omega (arith, length-append (step_bytes s) (journal_bytes ss), step-length s, journal-length ss)

step-there : (a : List ℕ) (s : Step) (r : List ℕ) → Fits s → step_at (a ++ (step_bytes s ++ r)) (length a) ≡ s
unfolding step_at step_bytes bytes_of word_at
step-there a s r f = λ i. record {
  kind = (word-behind a b 0 (length a) (omega arith) ∙ word-of-bytes s.kind f.kind) i;
  first = (word-behind a b 4 (length a + 4) refl ∙ word-of-bytes s.first f.first) i;
  last = (word-behind a b 8 (length a + 8) refl ∙ word-of-bytes s.last f.last) i;
  fourth = (word-behind a b 12 (length a + 12) refl ∙ word-of-bytes s.fourth f.fourth) i;
}
  where
    b : List ℕ
    b = step_bytes s ++ r

abbrev pub AllFit : List Step → Type 0
AllFit [] = Unit {0}
AllFit (s ∷ ss) = Fits s × AllFit ss

steps-there : (a : List ℕ) (at : ℕ) (ss : List Step) → at ≡ length a → AllFit ss →
    steps_from (a ++ journal_bytes ss) at (length ss) ≡ ss
unfolding steps_from journal_bytes
steps-there a at [] e f = refl
steps-there a at (s ∷ ss) e f = ap₂ ◌∷◌
    (ap (step_at (a ++ (step_bytes s ++ journal_bytes ss))) e ∙ step-there a s (journal_bytes ss) f.0)
    (ap (λ l. steps_from l (at + 16) (length ss)) (sym (append_assoc a (step_bytes s) (journal_bytes ss)))
    ∙ steps-there (a ++ step_bytes s) (at + 16) ss (omega (arith, e, length-append a (step_bytes s), step-length s)) f.1)

pub steps-of-bytes : (ss : List Step) → AllFit ss → steps_of (journal_bytes ss) ≡ ss
steps-of-bytes ss f =
    let n : length (journal_bytes ss) / 16 ≡ length ss = omega (arith, journal-length ss) in
    ap (steps_from (journal_bytes ss) 0) n ∙ steps-there [] 0 ss refl f

-- ------------------------------------------------------------ the pass's journal

module _ {A : Type 0} (kinds : List ℕ) where
  change-kind : (k : ℕ) (e : Cell A) (m : List (Cell A)) (f : Cell A) (n : List (Cell A)) → change kinds k e m f ≡ some n → k ≤ 3
  unfolding change
  change-kind k e m f n h = go (eqb k 1) refl (eqb k 2) refl (eqb k 3) refl h
    where
      go : (a : Bool) → eqb k 1 ≡ a → (b : Bool) → eqb k 2 ≡ b → (c : Bool) → eqb k 3 ≡ c →
          cond a (change1 kinds e m f) (cond b (change2 e m f) (cond c (change3 e m f) none)) ≡ some n → k ≤ 3
      go true p b q c r t = omega (arith, eqb-true k 1 p)
      go false p true q c r t = omega (arith, eqb-true k 2 q)
      go false p false q true r t = omega (arith, eqb-true k 3 r)
      go false p false q false r t = absurd (none-not-some n t)

  -- A step that is allowed has a kind from 1 to 3 and positions in the list.
  act-fits : (s : Step) (l r : List (Cell A)) → length l ≤ 1048576 → act kinds s l ≡ some r → Fits s
  act-fits s l r h t = let p = act-parts kinds s l r t in
      let n : length l ≡ length p.a + suc (length p.m + suc (length p.b)) =
      ap length p.found ∙ length-append p.a (p.e ∷ (p.m ++ (p.f ∷ p.b)))
      ∙ ap (λ x. length p.a + suc x) (length-append p.m (p.f ∷ p.b)) in
      record {
        kind = omega (arith, change-kind s.kind p.e p.m p.f p.new p.by);
        first = omega (arith, h, n, p.at);
        last = omega (arith, h, n, p.to);
        fourth = omega (arith, p.fourth);
      }

  leads-fit : (ss : List Step) (l m : List (Cell A)) → Leads kinds ss l m → length l ≤ 1048576 → AllFit ss
  leads-fit ss l m = along kinds m (λ ss l. length l ≤ 1048576 → AllFit ss) (λ h. tt)
      (λ s ss l k p t b h. (act-fits s l k h p, b (omega (arith, act-less kinds s l k p, h)))) ss l

  -- The pass's journal as bytes, replayed on its input, gives its list.
  pub replayed-bytes : (n : ℕ) (l : List (Cell A)) → length l ≤ 1048576 →
      replay_bytes kinds (journal_bytes (pass kinds n l).steps) l ≡ replayed (pass kinds n l).list
  replayed-bytes n l h =
      ap (λ ss. replay kinds ss l)
      (steps-of-bytes (pass kinds n l).steps (leads-fit (pass kinds n l).steps l (pass kinds n l).list (pass-replays kinds n l) h))
      ∙ pass-replays kinds n l 0
