-- The pairs of h that fire on a wire, in any list of cells, are those at which the Hadamard sweep makes a step.
use mathlib.Core.Path.{◌≡◌, refl, sym, ap, ap₂, ◌∙◌}
use mathlib.Core.Bool.{Bool, true, false, not, cond, ◌&&◌}
use mathlib.Core.List.{List, [], ◌∷◌, ◌++◌}
use mathlib.Core.Option.{Option, some, none}
use Prim.Native.Nat.{ℕ, zero, suc, ◌+◌, ◌≤◌, ◌<◌}
use native.Mathlib.Omega.{arith}
use lib.Dec.{leb}
use lib.ListN.{length, length-append}
use borrow.Author.Tests.{not-true, le-leb, lt-leb}
use Rattle.gates.specs.Gates.{wire, All}
use Rattle.gates.specs.Records.{is_h}
use Rattle.gates.proofs.Joined.{and_left, and_right}
use Rattle.rules.specs.Runs.{Rewrite, rewrite_of, is_h_on}
use Rattle.rules.specs.Steps.{Cell, Cut, and_then, try, when, all, track, put, put_first, change3}
use Rattle.rules.specs.Sweeps.{Done, idle, stay, fire, cut}
use Rattle.rules.proofs.Names.{kept, rewritten}
use Rattle.rules.proofs.Cuts.{Parts, cut-is}
use Rattle.rules.proofs.Between.{h-wire}
use Rattle.rules.proofs.NextH.{had-new, had-close, had_open, next_h_from}
use Rattle.rules.proofs.HadamardForm.{enough}
use Rattle.hadamards.specs.Firings.{Close, Firing, closing_of, firings}

-- ------------------------------------------------------------ the definitions, part by part

abbrev pub close_by : Cut ℕ → Option Rewrite → Option Close
close_by c o = and_then o λ r. some (record { closer = c.here.beside; rewrite = r })

abbrev pub close_at : ℕ → Option (Cut ℕ) → Option Close
close_at w o = and_then o λ c. close_by c (rewrite_of (wire w) (track w c.before))

abbrev pub fired : ℕ → ℕ → Cell ℕ → List (Cell ℕ) → Option Close → List Firing
fired w from e l o = try o (firings w from l) λ c. record { opener = e.beside; closer = c.closer } ∷ firings w (suc c.closer) l

pub closing-is : (w : ℕ) (l : List (Cell ℕ)) → closing_of w l ≡ close_at w (cut (is_h_on w) l)
unfolding closing_of
closing-is w l = refl

pub firings-if : (w from : ℕ) (e : Cell ℕ) (l : List (Cell ℕ)) (b : Bool) → is_h_on w e.gate && leb from e.beside ≡ b →
    firings w from (e ∷ l) ≡ cond b (fired w from e l (closing_of w l)) (firings w from l)
unfolding firings
firings-if w from e l b q = ap (λ (t : Bool). cond t (fired w from e l (closing_of w l)) (firings w from l)) q

pub and_none : (b : Bool) → b && false ≡ false
and_none true = refl
and_none false = refl

-- An h that has closed, and a cell before the slot, are not tried.
firings-past : (w from : ℕ) (e : Cell ℕ) (l : List (Cell ℕ)) → e.beside < from → firings w from (e ∷ l) ≡ firings w from l
firings-past w from e l p =
    firings-if w from e l false (ap (λ (t : Bool). is_h_on w e.gate && t) (lt-leb from e.beside p) ∙ and_none (is_h_on w e.gate))

pub firings-off : (w from : ℕ) (e : Cell ℕ) (l : List (Cell ℕ)) → is_h_on w e.gate ≡ false → firings w from (e ∷ l) ≡ firings w from l
firings-off w from e l q = firings-if w from e l false (ap (λ (t : Bool). t && leb from e.beside) q)

firings-free : (w from : ℕ) (m r : List (Cell ℕ)) → all (λ g. not (is_h_on w g)) m ≡ true → firings w from (m ++ r) ≡ firings w from r
firings-free w from [] r h = refl
firings-free w from (e ∷ m) r h =
    firings-off w from e (m ++ r) (not-true (is_h_on w e.gate) (and_left (not (is_h_on w e.gate)) _ h))
    ∙ firings-free w from m r (and_right (not (is_h_on w e.gate)) _ h)

next-if : (n w p : ℕ) (e : Cell ℕ) (l : List (Cell ℕ)) (b : Bool) → is_h_on w e.gate ≡ b →
    next_h_from (suc n) w p (e ∷ l) ≡ had_open (next_h_from n w) w p e l b
unfolding next_h_from
next-if n w p e l b q = ap (had_open (next_h_from n w) w p e l) q

-- Of two h on a wire only what stands between them decides.
change-is : (w : ℕ) (e : Cell ℕ) (m : List (Cell ℕ)) (f : Cell ℕ) → is_h_on w e.gate ≡ true → is_h_on w f.gate ≡ true →
    change3 e m f ≡ rewritten w e m f (rewrite_of (wire w) (track w m))
change-is w e m f p q =
    ap (λ (v : ℕ). when (is_h e.gate && is_h_on v f.gate) (rewritten v e m f (rewrite_of (wire v) (track v m)))) (h-wire w e.gate p)
    ∙ ap (λ (b : Bool). when b (rewritten w e m f (rewrite_of (wire w) (track w m)))) (ap₂ ◌&&◌ (and_left (is_h e.gate) _ p) q)

-- ------------------------------------------------------------ one cell: it is passed by both, or it fires in both

abbrev pub in_place : ℕ → Rewrite → Cell ℕ → List (Cell ℕ) → Cell ℕ → List (Cell ℕ)
in_place w r e m f = put r.ends e (put_first w r.first m ++ put r.ends f [])

record Shot (w from p n : ℕ) (e : Cell ℕ) (l : List (Cell ℕ)) : Type 0 where
  opens : is_h_on w e.gate ≡ true
  at : Cut ℕ
  rewrite : Rewrite
  parts : Parts (is_h_on w) l (some at)
  allowed : rewrite_of (wire w) (track w at.before) ≡ some rewrite
  closes : closing_of w l ≡ some (record { closer = at.here.beside; rewrite = rewrite })
  fires : firings w from (e ∷ l)
      ≡ record { opener = e.beside; closer = at.here.beside } ∷ firings w (suc at.here.beside) at.after
  goes : next_h_from (suc n) w p (e ∷ l)
      ≡ fire 3 p (suc p + length at.before)
      (stay (in_place w rewrite e at.before at.here) (next_h_from n w (p + length (in_place w rewrite e at.before at.here)) at.after))

data Tried (w from p n : ℕ) (e : Cell ℕ) (l : List (Cell ℕ)) : Type 0 where
  passed : firings w from (e ∷ l) ≡ firings w from l → next_h_from (suc n) w p (e ∷ l) ≡ kept (next_h_from n w) p e l → Tried w from p n e l
  shot : Shot w from p n e l → Tried w from p n e l

tried : (w from p n : ℕ) (e : Cell ℕ) (l : List (Cell ℕ)) → from ≤ e.beside → Tried w from p n e l
tried w from p n e l low = first (is_h_on w e.gate) refl
  where
    third : is_h_on w e.gate ≡ true → (c : Cut ℕ) → Parts (is_h_on w) l (some c) → (o : Option Rewrite) →
        rewrite_of (wire w) (track w c.before) ≡ o → closing_of w l ≡ close_by c o →
        firings w from (e ∷ l) ≡ fired w from e l (close_by c o) →
        next_h_from (suc n) w p (e ∷ l) ≡ had-new (next_h_from n w) p e l c (rewritten w e c.before c.here o) → Tried w from p n e l
    third q c s none u x f g = passed f g
    third q c s (some r) u x f g =
        shot (record {
          opens = q;
          at = c;
          rewrite = r;
          parts = s;
          allowed = u;
          closes = x;
          fires = f
              ∙ ap (◌∷◌ (record { opener = e.beside; closer = c.here.beside }))
              (ap (firings w (suc c.here.beside)) s.0
              ∙ firings-free w (suc c.here.beside) c.before (c.here ∷ c.after) s.2
              ∙ firings-past w (suc c.here.beside) c.here c.after (omega arith));
          goes = g;
        })

    second : is_h_on w e.gate ≡ true → (o : Option (Cut ℕ)) → Parts (is_h_on w) l o → closing_of w l ≡ close_at w o →
        firings w from (e ∷ l) ≡ fired w from e l (close_at w o) →
        next_h_from (suc n) w p (e ∷ l) ≡ had-close (next_h_from n w) p e l o → Tried w from p n e l
    second q none s x f g = passed f g
    second q (some c) s x f g =
        third q c s (rewrite_of (wire w) (track w c.before)) refl x f
        (g ∙ ap (had-new (next_h_from n w) p e l c) (change-is w e c.before c.here q s.1))

    first : (b : Bool) → is_h_on w e.gate ≡ b → Tried w from p n e l
    first true q =
        second q (cut (is_h_on w) l) (cut-is (is_h_on w) l) (closing-is w l)
        (firings-if w from e l true (ap₂ ◌&&◌ q (le-leb from e.beside low)) ∙ ap (fired w from e l) (closing-is w l))
        (next-if n w p e l true q)
    first false q = passed (firings-off w from e l q) (next-if n w p e l false q)

-- ------------------------------------------------------------ a list of cells

-- No slot is below the one from which an h is tried.
abbrev pub NoneBelow : ℕ → List (Cell ℕ) → Type 0
NoneBelow from l = All (λ (e : Cell ℕ). from ≤ e.beside) l

pub list-idle : (w from p n : ℕ) (l : List (Cell ℕ)) → NoneBelow from l → length l ≤ n → firings w from l ≡ [] → next_h_from n w p l ≡ idle l
unfolding next_h_from
list-idle w from p zero [] low fits h = refl
list-idle w from p (suc n) [] low fits h = refl
list-idle w from p zero (e ∷ l) low fits h = absurd (omega arith)
list-idle w from p (suc n) (e ∷ l) low fits h = go (tried w from p n e l low.0) (list-idle w from (suc p) n l low.1 (omega arith))
  where
    go : Tried w from p n e l → (firings w from l ≡ [] → next_h_from n w (suc p) l ≡ idle l) → next_h_from (suc n) w p (e ∷ l) ≡ idle (e ∷ l)
    go (passed f g) again = g ∙ ap (stay (e ∷ [])) (again (sym f ∙ h))
    go (shot s) again = absurd (nothing (sym s.fires ∙ h))
      where
        nothing : {x : Firing} {xs : List Firing} → x ∷ xs ≡ [] → ⊥
        nothing q = let z : ◌≡◌ {A = ℕ} 0 1 = cc in omega arith

-- The first pair that fires, the cells round it, and what the sweep does.
pub record Fires (w p n : ℕ) (l : List (Cell ℕ)) (f : Firing) (fs : List Firing) : Type 0 where
  pub ahead : List (Cell ℕ)
  pub opener : Cell ℕ
  pub between : List (Cell ℕ)
  pub closer : Cell ℕ
  pub after : List (Cell ℕ)
  pub rewrite : Rewrite
  pub parts : l ≡ ahead ++ (opener ∷ (between ++ (closer ∷ after)))
  pub is : f ≡ record { opener = opener.beside; closer = closer.beside }
  pub opens : is_h_on w opener.gate ≡ true
  pub shuts : is_h_on w closer.gate ≡ true
  pub allowed : rewrite_of (wire w) (track w between) ≡ some rewrite
  pub closes : closing_of w (between ++ (closer ∷ after)) ≡ some (record { closer = closer.beside; rewrite = rewrite })
  pub rest : fs ≡ firings w (suc closer.beside) after
  pub goes : next_h_from n w p l
      ≡ stay ahead (fire 3 (p + length ahead) (suc (p + length ahead) + length between)
      (stay (in_place w rewrite opener between closer)
      (next_h_from n w (p + length ahead + length (in_place w rewrite opener between closer)) after)))

pub cons-is : {A : Type 0} {x y : A} {xs ys : List A} → x ∷ xs ≡ y ∷ ys → (x ≡ y) × (xs ≡ ys)
cons-is q = (cc, cc)

pub list-fires : (w from p n : ℕ) (l : List (Cell ℕ)) (f : Firing) (fs : List Firing) → NoneBelow from l → length l ≤ n →
    firings w from l ≡ f ∷ fs → Fires w p n l f fs
unfolding firings
list-fires w from p n [] f fs low fits h = absurd (let z : ◌≡◌ {A = ℕ} 0 1 = cc in omega arith)
list-fires w from p zero (e ∷ l) f fs low fits h = absurd (omega arith)
list-fires w from p (suc n) (e ∷ l) f fs low fits h =
    go (tried w from p n e l low.0) (list-fires w from (suc p) n l f fs low.1 (omega arith))
  where
    new-fuel : (a : ℕ) (m : List (Cell ℕ)) (q j : ℕ) (k r : List (Cell ℕ)) → length r ≤ length l → j ≡ q →
        stay k (fire 3 j (suc j + a) (stay m (next_h_from n w (j + length m) r)))
        ≡ stay k (fire 3 q (suc q + a) (stay m (next_h_from (suc n) w (q + length m) r)))
    new-fuel a m q j k r short same =
        ap (λ (x : ℕ). stay k (fire 3 x (suc x + a) (stay m (next_h_from n w (x + length m) r)))) same
        ∙ ap (λ (d : Done ℕ). stay k (fire 3 q (suc q + a) (stay m d))) (enough n (suc n) w (q + length m) r (omega arith) (omega arith))

    go : Tried w from p n e l → (firings w from l ≡ f ∷ fs → Fires w (suc p) n l f fs) → Fires w p (suc n) (e ∷ l) f fs
    go (passed t g) again =
        let s = again (sym t ∙ h) in
        record {
          ahead = e ∷ s.ahead;
          opener = s.opener;
          between = s.between;
          closer = s.closer;
          after = s.after;
          rewrite = s.rewrite;
          parts = ap (◌∷◌ e) s.parts;
          is = s.is;
          opens = s.opens;
          shuts = s.shuts;
          allowed = s.allowed;
          closes = s.closes;
          rest = s.rest;
          goes = g ∙ ap (stay (e ∷ [])) s.goes
              ∙ new-fuel (length s.between) (in_place w s.rewrite s.opener s.between s.closer) (p + suc (length s.ahead)) (suc p + length s.ahead)
              (e ∷ s.ahead) s.after
              (omega (
                arith,
                ap length s.parts,
                length-append s.ahead (s.opener ∷ (s.between ++ (s.closer ∷ s.after))),
                length-append s.between (s.closer ∷ s.after),
              ))
              (omega arith);
        }
    go (shot s) again =
        record {
          ahead = [];
          opener = e;
          between = s.at.before;
          closer = s.at.here;
          after = s.at.after;
          rewrite = s.rewrite;
          parts = ap (◌∷◌ e) s.parts.0;
          is = (cons-is (sym h ∙ s.fires)).0;
          opens = s.opens;
          shuts = s.parts.1;
          allowed = s.allowed;
          closes = ap (closing_of w) (sym s.parts.0) ∙ s.closes;
          rest = (cons-is (sym h ∙ s.fires)).1;
          goes = s.goes
              ∙ new-fuel (length s.at.before) (in_place w s.rewrite e s.at.before s.at.here) (p + 0) p [] s.at.after
              (omega (arith, ap length s.parts.0, length-append s.at.before (s.at.here ∷ s.at.after))) (omega arith);
        }
