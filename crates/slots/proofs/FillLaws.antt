-- Links forward are filled in: a slot's nodes are put in front on each of its wires.
use mathlib.Core.Path.{◌≡◌, refl, sym, ap, subst, ◌∙◌}
use mathlib.Core.Bool.{Bool, true, false, cond}
use mathlib.Core.List.{List, [], ◌∷◌}
use Prim.Native.Nat.{ℕ, suc, ◌+◌, ◌*◌, ◌≤◌, ◌<◌}
use lib.ListN.{length, set, length-set}
use Rattle.gates.specs.declared.Gate.{Gate}
use Rattle.gates.specs.Gates.{has}
use Rattle.links.specs.Words.{word}
use Rattle.links.proofs.StackLaws.{FilledFrom, FirstFrom, fill-past, first_past}
use Rattle.slots.specs.Nodes.{hung}
use Rattle.slots.proofs.WireLaws.{node, end, size, Touching}
use Rattle.slots.proofs.PutLaws.{Filling, put-filling}
use Rattle.slots.proofs.RunLaws.{on_stack, first-once, has-none, has_first, has_rest, has_other, Run, run-rest, put_one}

-- From which slot on a wire is linked forward, while slot u is put in front on some wires still to come.
abbrev pub level : List ℕ → ℕ → ℕ → ℕ
level ws u x = cond (has x ws) (suc u) u

module _ (gates : ℕ → Gate) (slots wires : ℕ) (on : ℕ → ℕ → Bool) (touching : Touching gates slots wires on) (u : ℕ) (u< : u < slots) where
  pub hung-filling : (ws : List ℕ) (nd : ℕ) (words : List ℕ) → 0 + size gates slots wires ≤ length words → Run gates slots wires u ws nd →
      ((x : ℕ) → has x ws ≡ true → on x u ≡ true) → Filling gates slots wires (word words 0) on (level ws u) →
      Filling gates slots wires (word (hung 0 (3 * slots) nd ws words) 0) on (level [] u)
  unfolding hung
  hung-filling [] nd words room r there filling = filling
  hung-filling (w ∷ ws) nd words room r there filling =
      hung-filling ws (suc nd) (on_stack 0 (3 * slots) nd w words) (rw long room) (run-rest gates slots wires u w ws nd r) (λ x h. there x (has_rest x w ws h))
      (put-filling gates slots wires on touching (word words 0) (word (on_stack 0 (3 * slots) nd w words) 0) (level (w ∷ ws) u) (level ws u) w (r.small w (has_first w ws)) u u< (there w (has_first w ws))
      (ap (λ (b : Bool). cond b (suc u) u) (has_first w ws)) (ap (λ (b : Bool). cond b (suc u) u) (first-once w ws r.once))
      (λ x d. ap (λ (b : Bool). cond b (suc u) u) (has_other x w ws d)) (put_one gates slots wires u u< w ws nd r words 0 room) filling)
    where
      long : length (on_stack 0 (3 * slots) nd w words) ≡ length words
      long = length-set (set words (0 + nd) (word words (0 + 3 * slots) w)) (0 + 3 * slots + w) nd ∙ length-set words (0 + nd) (word words (0 + 3 * slots) w)

  -- Wires without the slot are linked from it on too.
  pub level-start : (next : ℕ → ℕ) (ws : List ℕ) → ((x : ℕ) → has x ws ≡ false → on x u ≡ false) →
      Filling gates slots wires next on (λ x. suc u) → Filling gates slots wires next on (level ws u)
  level-start next ws off filling = record { each = λ x m. each x m (has x ws) refl; first = λ x m. first x m (has x ws) refl }
    where
      each : (x : ℕ) → x < wires → (b : Bool) → has x ws ≡ b →
          FilledFrom (node gates slots wires x) (end gates slots wires x) (size gates slots wires) slots (on x) next (cond (has x ws) (suc u) u)
      each x m true e = subst (λ (b : Bool). FilledFrom (node gates slots wires x) (end gates slots wires x) (size gates slots wires) slots (on x) next (cond b (suc u) u)) (sym e) (filling.each x m)
      each x m false e =
          subst (λ (b : Bool). FilledFrom (node gates slots wires x) (end gates slots wires x) (size gates slots wires) slots (on x) next (cond b (suc u) u)) (sym e)
          (fill-past (node gates slots wires x) (end gates slots wires x) (size gates slots wires) slots (on x) next next u u< (off x e) (filling.each x m))

      first : (x : ℕ) → x < wires → (b : Bool) → has x ws ≡ b →
          FirstFrom (node gates slots wires x) (end gates slots wires x) (size gates slots wires) slots (on x) next (cond (has x ws) (suc u) u)
      first x m true e = subst (λ (b : Bool). FirstFrom (node gates slots wires x) (end gates slots wires x) (size gates slots wires) slots (on x) next (cond b (suc u) u)) (sym e) (filling.first x m)
      first x m false e =
          subst (λ (b : Bool). FirstFrom (node gates slots wires x) (end gates slots wires x) (size gates slots wires) slots (on x) next (cond b (suc u) u)) (sym e)
          (first_past (node gates slots wires x) (end gates slots wires x) (size gates slots wires) slots (on x) next next u u< (off x e) (filling.first x m))

  pub level-end : (next : ℕ → ℕ) → Filling gates slots wires next on (level [] u) → Filling gates slots wires next on (λ x. u)
  level-end next filling =
      record {
        each = λ x m. subst (λ (b : Bool). FilledFrom (node gates slots wires x) (end gates slots wires x) (size gates slots wires) slots (on x) next (cond b (suc u) u)) (has-none x) (filling.each x m);
        first = λ x m. subst (λ (b : Bool). FirstFrom (node gates slots wires x) (end gates slots wires x) (size gates slots wires) slots (on x) next (cond b (suc u) u)) (has-none x) (filling.first x m);
      }
