-- A slot's nodes go, one wire after another: passed by in the rings, or taken off the stacks.
use mathlib.Core.Path.{◌≡◌, refl, sym, ap, subst, ◌∙◌}
use mathlib.Core.Bool.{Bool, true, false, cond}
use mathlib.Core.List.{List, [], ◌∷◌}
use mathlib.Core.Option.{some}
use Prim.Native.Nat.{ℕ, suc, ◌+◌, ◌*◌, ◌-◌, ◌≤◌, ◌<◌}
use native.Mathlib.Omega.{arith}
use lib.Dec.{eqb}
use lib.ListN.{length, set, length-set}
use borrow.Author.Tests.{eqb-true, eqb-false, eq-eqb, ne_eqb}
use Rattle.gates.specs.declared.Gate.{Gate}
use Rattle.gates.specs.Gates.{has, touches}
use Rattle.links.specs.Words.{word, Within}
use Rattle.links.proofs.WordLaws.{within_none, within-then, within-set}
use Rattle.links.specs.Seek.{latest}
use Rattle.links.proofs.SeekLaws.{latest-one, without, without-itself, without_other}
use Rattle.links.proofs.RingLaws.{Passed, latest-small, earliest-small}
use Rattle.slots.specs.Nodes.{taken_off, joined_past, CanPass, passed_by, CanPassAll}
use Rattle.slots.proofs.WireLaws.{node, end, size, Touching, apart}
use Rattle.slots.proofs.RingsLaws.{Back, Ahead, passed-back, passed-ahead}
use Rattle.slots.proofs.PutLaws.{Off, off-back}
use Rattle.slots.proofs.RunLaws.{off-words, pass-words, just, first-once, has_first, has_other, has_rest, at_slot, Run, run-rest, run-node, w<, nd<}

module _ (gates : ℕ → Gate) (slots wires : ℕ) (s : ℕ) (s< : s < slots) (on : ℕ → ℕ → Bool) (touching : Touching gates slots wires on) where
  pub just-touching : (ws : List ℕ) → ((x : ℕ) → has x ws ≡ true → touches x (gates s) ≡ true) → Touching gates slots wires (just ws s on)
  just-touching ws touched x i m h = go (eqb i s) refl h
    where
      go : (b : Bool) → eqb i s ≡ b → cond b (has x ws) (on x i) ≡ true → touches x (gates i) ≡ true
      go true e k = subst (λ (j : ℕ). touches x (gates j) ≡ true) (sym (eqb-true i s e)) (touched x k)
      go false e k = touching x i m k

  -- ------------------------------------------------------------ from one wire more to one less

  module _ (w : ℕ) (ws : List ℕ) (nd : ℕ) (r : Run gates slots wires s (w ∷ ws) nd) where
    there : just (w ∷ ws) s on w s ≡ true
    there = ap (λ (b : Bool). cond b (has w (w ∷ ws)) (on w s)) (eq-eqb s s refl) ∙ has_first w ws

    gone : (i : ℕ) → i < slots → without (just (w ∷ ws) s on w) s i ≡ just ws s on w i
    gone i m = go (eqb i s) refl
      where
        go : (b : Bool) → eqb i s ≡ b → without (just (w ∷ ws) s on w) s i ≡ just ws s on w i
        go true e =
            ap (without (just (w ∷ ws) s on w) s) (eqb-true i s e) ∙ without-itself (just (w ∷ ws) s on w) s
            ∙ sym (ap (λ (b : Bool). cond b (has w ws) (on w i)) e ∙ first-once w ws r.once)
        go false e =
            sym (without_other (just (w ∷ ws) s on w) s i (eqb-false i s e))
            ∙ ap (λ (b : Bool). cond b (has w (w ∷ ws)) (on w i)) e ∙ sym (ap (λ (b : Bool). cond b (has w ws) (on w i)) e)

    others : (x i : ℕ) → (x ≡ w → ⊥) → i < slots → just (w ∷ ws) s on x i ≡ just ws s on x i
    others x i d m =
        at_slot (λ b. cond b (has x (w ∷ ws)) (on x i) ≡ cond b (has x ws) (on x i)) i s (λ e. has_other x w ws d) (λ n. refl)

    old-touching : Touching gates slots wires (just (w ∷ ws) s on)
    old-touching = just-touching (w ∷ ws) r.touched

    -- ---------------------------------------------------------- a node is passed by

    module _ (words : List ℕ) (room : 2 * size gates slots wires ≤ length words)
        (back : Back gates slots wires (word words (size gates slots wires)) (just (w ∷ ws) s on))
        (ahead : Ahead gates slots wires (word words 0) (just (w ∷ ws) s on)) where
      before_small : word words (size gates slots wires) (node gates slots wires w s) < size gates slots wires
      before_small =
          rw (back.each w (w< gates slots wires s s< w ws nd r) s s< there)
          (latest-small (node gates slots wires w) (end gates slots wires w) (size gates slots wires) (just (w ∷ ws) s on w) slots (apart gates slots wires (just (w ∷ ws) s on) old-touching w (w< gates slots wires s s< w ws nd r)) s (omega arith))

      after_small : word words 0 (node gates slots wires w s) < size gates slots wires
      after_small =
          rw (ahead.each w (w< gates slots wires s s< w ws nd r) s s< there)
          (earliest-small (node gates slots wires w) (end gates slots wires w) (size gates slots wires) (just (w ∷ ws) s on w) slots (apart gates slots wires (just (w ∷ ws) s on) old-touching w (w< gates slots wires s s< w ws nd r)) (suc s) (slots - suc s) (omega arith))

      pub can-pass : CanPass 0 (size gates slots wires) nd words
      can-pass =
          let is = run-node gates slots wires s w ws nd r in
          let p = subst (λ (x : ℕ). word words (size gates slots wires) x < size gates slots wires) (sym is) before_small in
          let q = subst (λ (x : ℕ). word words 0 x < size gates slots wires) (sym is) after_small in
          (omega (arith, nd< gates slots wires s s< w ws nd r), omega (arith, nd< gates slots wires s s< w ws nd r), omega (arith, p), omega (arith, q))

      pub joined-within : Within 0 (2 * size gates slots wires) words (joined_past 0 (size gates slots wires) nd words)
      joined-within =
          let is = run-node gates slots wires s w ws nd r in
          let p = subst (λ (x : ℕ). word words (size gates slots wires) x < size gates slots wires) (sym is) before_small in
          let q = subst (λ (x : ℕ). word words 0 x < size gates slots wires) (sym is) after_small in
          within-then 0 (2 * size gates slots wires) words (set words (0 + word words (size gates slots wires) nd) (word words 0 nd)) (joined_past 0 (size gates slots wires) nd words)
          (within-set 0 (2 * size gates slots wires) words (0 + word words (size gates slots wires) nd) (word words 0 nd) (omega arith) (omega (arith, p)))
          (within-set 0 (2 * size gates slots wires) (set words (0 + word words (size gates slots wires) nd) (word words 0 nd)) (size gates slots wires + word words 0 nd) (word words (size gates slots wires) nd) (omega arith) (omega (arith, q)))

      past : Passed (size gates slots wires) (word words (size gates slots wires) (node gates slots wires w s))
          (word words 0 (node gates slots wires w s)) (word words 0) (word words (size gates slots wires))
          (word (joined_past 0 (size gates slots wires) nd words) 0)
          (word (joined_past 0 (size gates slots wires) nd words) (size gates slots wires))
      past =
          subst
          (λ (x : ℕ). Passed (size gates slots wires) (word words (size gates slots wires) (node gates slots wires w s)) (word words 0 (node gates slots wires w s)) (word words 0) (word words (size gates slots wires)) (word (joined_past 0 (size gates slots wires) x words) 0) (word (joined_past 0 (size gates slots wires) x words) (size gates slots wires)))
          (sym (run-node gates slots wires s w ws nd r))
          (pass-words words 0 (size gates slots wires) (size gates slots wires) (word words (size gates slots wires) (node gates slots wires w s)) (word words 0 (node gates slots wires w s)) (omega arith) (omega arith) before_small after_small)

      pub one-back : Back gates slots wires (word (joined_past 0 (size gates slots wires) nd words) (size gates slots wires)) (just ws s on)
      one-back =
          passed-back gates slots wires (just (w ∷ ws) s on) (just ws s on) old-touching (word words 0) (word words (size gates slots wires)) (word (joined_past 0 (size gates slots wires) nd words) 0) (word (joined_past 0 (size gates slots wires) nd words) (size gates slots wires)) w (w< gates slots wires s s< w ws nd r) s s< there gone others past back ahead

      pub one-ahead : Ahead gates slots wires (word (joined_past 0 (size gates slots wires) nd words) 0) (just ws s on)
      one-ahead =
          passed-ahead gates slots wires (just (w ∷ ws) s on) (just ws s on) old-touching (word words 0) (word words (size gates slots wires)) (word (joined_past 0 (size gates slots wires) nd words) 0) (word (joined_past 0 (size gates slots wires) nd words) (size gates slots wires)) w (w< gates slots wires s s< w ws nd r) s s< there gone others past back ahead

    -- ---------------------------------------------------------- a node is taken off

    module _ (words : List ℕ) (side : ℕ) (room : side + size gates slots wires ≤ length words)
        (final : (i : ℕ) → i < slots → on w i ≡ true → i ≤ s)
        (back : Back gates slots wires (word words side) (just (w ∷ ws) s on)) where
      is_last : latest (just (w ∷ ws) s on w) slots ≡ some s
      is_last = latest-one (just (w ∷ ws) s on w) slots (some s) (s<, there, λ l m k. off l m k)
        where
          off : (l : ℕ) → s < l → l < slots → just (w ∷ ws) s on w l ≡ false
          off l m k =
              ap (λ (b : Bool). cond b (has w (w ∷ ws)) (on w l)) (ne_eqb l s (λ e. omega (arith, e))) ∙ go (on w l) (final l k)
            where
              go : (b : Bool) → (b ≡ true → l ≤ s) → b ≡ false
              go true f = absurd (too_far (f refl))
                where
                  too_far : l ≤ s → ⊥
                  too_far a = omega arith
              go false f = refl

      pub one-off : Back gates slots wires (word (set words (side + 3 * slots + w) (word words side nd)) side) (just ws s on)
      one-off =
          off-back gates slots wires (just (w ∷ ws) s on) (just ws s on) old-touching (word words side) (word (set words (side + 3 * slots + w) (word words side nd)) side) w (w< gates slots wires s s< w ws nd r) s s< there is_last gone others
          (subst (λ (x : ℕ). Off (size gates slots wires) x (end gates slots wires w) (word words side) (word (set words (side + 3 * slots + w) (word words side nd)) side))
          (run-node gates slots wires s w ws nd r)
          (off-words words side (size gates slots wires) nd (end gates slots wires w) (side + 3 * slots + w) (omega arith) room (omega (arith, w< gates slots wires s s< w ws nd r))))
          back

  -- ------------------------------------------------------------ all of them

  joined-long : (prev nd : ℕ) (words : List ℕ) → length (joined_past 0 prev nd words) ≡ length words
  joined-long prev nd words =
      length-set (set words (0 + word words prev nd) (word words 0 nd)) (prev + word words 0 nd) (word words prev nd)
      ∙ length-set words (0 + word words prev nd) (word words 0 nd)

  -- What is left when the nodes of these wires have been passed by.
  pub record PassedAll (ws : List ℕ) (nd : ℕ) (words : List ℕ) : Type 0 where
    pub can : CanPassAll (size gates slots wires) nd (length ws) words
    pub back : Back gates slots wires (word (passed_by (size gates slots wires) nd (length ws) words) (size gates slots wires)) (just [] s on)
    pub ahead : Ahead gates slots wires (word (passed_by (size gates slots wires) nd (length ws) words) 0) (just [] s on)
    pub kept : Within 0 (2 * size gates slots wires) words (passed_by (size gates slots wires) nd (length ws) words)

  pub pass_all : (ws : List ℕ) (nd : ℕ) (words : List ℕ) → 2 * size gates slots wires ≤ length words → Run gates slots wires s ws nd →
      Back gates slots wires (word words (size gates slots wires)) (just ws s on) →
      Ahead gates slots wires (word words 0) (just ws s on) → PassedAll ws nd words
  unfolding passed_by CanPassAll
  pass_all [] nd words room r back ahead = record { can = tt; back = back; ahead = ahead; kept = within_none 0 (2 * size gates slots wires) words }
  pass_all (w ∷ ws) nd words room r back ahead =
      let after = joined_past 0 (size gates slots wires) nd words in
      let rest =
      pass_all ws (suc nd) after (rw (joined-long (size gates slots wires) nd words) room) (run-rest gates slots wires s w ws nd r)
      (one-back w ws nd r words room back ahead) (one-ahead w ws nd r words room back ahead) in
      record {
        can = (can-pass w ws nd r words room back ahead, rest.can);
        back = rest.back;
        ahead = rest.ahead;
        kept = within-then 0 (2 * size gates slots wires) words after (passed_by (size gates slots wires) (suc nd) (length ws) after) (joined-within w ws nd r words room back ahead) rest.kept;
      }

  pub off-all : (side : ℕ) (ws : List ℕ) (nd : ℕ) (words : List ℕ) → side + size gates slots wires ≤ length words → Run gates slots wires s ws nd →
      ((x i : ℕ) → i < slots → has x ws ≡ true → on x i ≡ true → i ≤ s) →
      Back gates slots wires (word words side) (just ws s on) →
      Back gates slots wires (word (taken_off side (3 * slots) nd ws words) side) (just [] s on)
  unfolding taken_off
  off-all side [] nd words room r final back = back
  off-all side (w ∷ ws) nd words room r final back =
      off-all side ws (suc nd) (set words (side + 3 * slots + w) (word words side nd)) (rw (length-set words (side + 3 * slots + w) (word words side nd)) room)
      (run-rest gates slots wires s w ws nd r) (λ x i m h u. final x i m (has_rest x w ws h) u)
      (one-off w ws nd r words side room (λ i m u. final w i m (has_first w ws) u) back)
