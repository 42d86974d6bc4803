-- All wires at once: a slot's node on one wire is put on its stack, taken off it, or put in front of what is linked forward.
use mathlib.Core.Path.{◌≡◌, refl, sym, ap, subst, ◌∙◌}
use mathlib.Core.Bool.{Bool, true}
use mathlib.Core.Option.{some}
use Prim.Native.Nat.{ℕ, suc, ◌<◌}
use Rattle.gates.specs.declared.Gate.{Gate}
use Rattle.links.specs.Seek.{latest, node_at}
use Rattle.links.proofs.SeekLaws.{without}
use Rattle.links.proofs.StackLaws.{back-put, last-put, back-off, last_off, FilledFrom, FirstFrom, fill-put, first-put}
use Rattle.slots.proofs.WireLaws.{node, end, size, Touching, apart}
use Rattle.slots.proofs.RingsLaws.{Back, EachBack, LastBack, by-wire, kept_back, kept-last, not-node, not_end, ends-differ, end-not-node}

-- A word is put in at an end: a node's cell takes what the end held, and the end takes the node.
pub record Put (size node end : ℕ) (f g : ℕ → ℕ) : Type 0 where
  pub cell : g node ≡ f end
  pub head : g end ≡ node
  pub other : (x : ℕ) → x < size → (x ≡ node → ⊥) → (x ≡ end → ⊥) → g x ≡ f x

-- The end takes what the node held.
pub record Off (size node end : ℕ) (f g : ℕ → ℕ) : Type 0 where
  pub head : g end ≡ f node
  pub other : (x : ℕ) → x < size → (x ≡ end → ⊥) → g x ≡ f x

module _ (gates : ℕ → Gate) (slots wires : ℕ) where
  -- ------------------------------------------------------------ put on

  module _ (on on' : ℕ → ℕ → Bool) (touching : Touching gates slots wires on') (prev prev' : ℕ → ℕ)
      (v : ℕ) (v< : v < wires) (t : ℕ) (t< : t < slots) (there : on' v t ≡ true)
      (top : (i : ℕ) → i < slots → on v i ≡ true → i < t)
      (same : (i : ℕ) → (i ≡ t → ⊥) → on' v i ≡ on v i)
      (others : (w i : ℕ) → (w ≡ v → ⊥) → i < slots → on w i ≡ on' w i)
      (put : Put (size gates slots wires) (node gates slots wires v t) (end gates slots wires v) prev prev')
      (back : Back gates slots wires prev on) where
    prev-kept : (w i : ℕ) → (w ≡ v → ⊥) → w < wires → i < slots → on w i ≡ true →
        prev' (node gates slots wires w i) ≡ prev (node gates slots wires w i)
    prev-kept w i d m k u =
        let here = sym (others w i d k) ∙ u in
        put.other (node gates slots wires w i) ((apart gates slots wires on' touching w m).small i k here)
        (not-node gates slots wires on' touching v w d i t k t< here there) (not_end gates slots wires on' touching v w d i k here)

    last-kept : (w : ℕ) → (w ≡ v → ⊥) → w < wires → prev' (end gates slots wires w) ≡ prev (end gates slots wires w)
    last-kept w d m =
        put.other (end gates slots wires w) (apart gates slots wires on' touching w m).low
        (end-not-node gates slots wires on' touching v w d t t< there) (ends-differ gates slots wires on' touching v w d)

    pub put_back : Back gates slots wires prev' on'
    put_back =
        record {
          each = λ w m. by-wire gates slots wires (EachBack gates slots wires prev' on') v w
              (λ e. back-put (node gates slots wires v) (end gates slots wires v) (size gates slots wires) slots (on v) (on' v) prev prev' t t< (apart gates slots wires on' touching v v<) top there same put.cell put.other (back.last v v<) (back.each v v<))
              (λ d. kept_back gates slots wires on on' w (λ i k. others w i d k) prev prev' (λ i k u. prev-kept w i d m k u) (back.each w m));
          last = λ w m. by-wire gates slots wires (LastBack gates slots wires prev' on') v w
              (λ e. put.head ∙ sym (ap (node_at (node gates slots wires v) (end gates slots wires v))
              (last-put (node gates slots wires v) (end gates slots wires v) (size gates slots wires) slots (on v) (on' v) prev prev' t t< (apart gates slots wires on' touching v v<) top there same put.cell put.other)))
              (λ d. kept-last gates slots wires on on' w (λ i k. others w i d k) prev prev' (last-kept w d m) (back.last w m));
        }

  -- ------------------------------------------------------------ taken off

  module _ (on on' : ℕ → ℕ → Bool) (touching : Touching gates slots wires on) (prev prev' : ℕ → ℕ)
      (v : ℕ) (v< : v < wires) (s : ℕ) (s< : s < slots) (there : on v s ≡ true) (final : latest (on v) slots ≡ some s)
      (gone : (i : ℕ) → i < slots → without (on v) s i ≡ on' v i)
      (others : (w i : ℕ) → (w ≡ v → ⊥) → i < slots → on w i ≡ on' w i)
      (off : Off (size gates slots wires) (node gates slots wires v s) (end gates slots wires v) prev prev')
      (back : Back gates slots wires prev on) where
    pub off-back : Back gates slots wires prev' on'
    off-back =
        record {
          each = λ w m. by-wire gates slots wires (EachBack gates slots wires prev' on') v w
              (λ e. kept_back gates slots wires (λ x. without (on v) s) on' v gone prev' prev' (λ i k u. refl)
              (back-off (node gates slots wires v) (end gates slots wires v) (size gates slots wires) slots (on v) prev prev' s (apart gates slots wires on touching v v<) final off.other (back.each v v<)))
              (λ d. kept_back gates slots wires on on' w (λ i k. others w i d k) prev prev'
              (λ i k u. off.other (node gates slots wires w i) ((apart gates slots wires on touching w m).small i k u) (not_end gates slots wires on touching v w d i k u))
              (back.each w m));
          last = λ w m. by-wire gates slots wires (LastBack gates slots wires prev' on') v w
              (λ e. kept-last gates slots wires (λ x. without (on v) s) on' v gone prev' prev' refl
              (last_off (node gates slots wires v) (end gates slots wires v) (size gates slots wires) slots (on v) prev prev' s (apart gates slots wires on touching v v<) final off.other (off.head ∙ back.each v v< s s< there)))
              (λ d. kept-last gates slots wires on on' w (λ i k. others w i d k) prev prev'
              (off.other (end gates slots wires w) (apart gates slots wires on touching w m).low (ends-differ gates slots wires on touching v w d))
              (back.last w m));
        }

  -- ------------------------------------------------------------ linked forward from the last slot down

  -- From which slot on each wire is linked forward.
  pub record Filling (next : ℕ → ℕ) (on : ℕ → ℕ → Bool) (from : ℕ → ℕ) : Type 0 where
    pub each : (w : ℕ) → w < wires → FilledFrom (node gates slots wires w) (end gates slots wires w) (size gates slots wires) slots (on w) next (from w)
    pub first : (w : ℕ) → w < wires → FirstFrom (node gates slots wires w) (end gates slots wires w) (size gates slots wires) slots (on w) next (from w)

  abbrev EachFrom : (ℕ → ℕ) → (ℕ → ℕ → Bool) → (ℕ → ℕ) → ℕ → Type 0
  EachFrom next on from w = FilledFrom (node gates slots wires w) (end gates slots wires w) (size gates slots wires) slots (on w) next (from w)

  abbrev FirstFromOf : (ℕ → ℕ) → (ℕ → ℕ → Bool) → (ℕ → ℕ) → ℕ → Type 0
  FirstFromOf next on from w = FirstFrom (node gates slots wires w) (end gates slots wires w) (size gates slots wires) slots (on w) next (from w)

  module _ (on : ℕ → ℕ → Bool) (touching : Touching gates slots wires on) (next next' : ℕ → ℕ) (from from' : ℕ → ℕ)
      (v : ℕ) (v< : v < wires) (u : ℕ) (u< : u < slots) (there : on v u ≡ true)
      (was : from v ≡ suc u) (is : from' v ≡ u) (others : (w : ℕ) → (w ≡ v → ⊥) → from w ≡ from' w)
      (put : Put (size gates slots wires) (node gates slots wires v u) (end gates slots wires v) next next')
      (filling : Filling next on from) where
    here-each : EachFrom next on (λ x. suc u) v
    here-each = subst (λ (x : ℕ). EachFrom next on (λ y. x) v) was (filling.each v v<)

    here-first : FirstFromOf next on (λ x. suc u) v
    here-first = subst (λ (x : ℕ). FirstFromOf next on (λ y. x) v) was (filling.first v v<)

    pub put-filling : Filling next' on from'
    put-filling =
        record {
          each = λ w m. by-wire gates slots wires (EachFrom next' on from') v w
              (λ e. subst (λ (x : ℕ). EachFrom next' on (λ y. x) v) (sym is)
              (fill-put (node gates slots wires v) (end gates slots wires v) (size gates slots wires) slots (on v) next next' u u< (apart gates slots wires on touching v v<) there put.cell put.other here-first here-each))
              (λ d. subst (λ (x : ℕ). EachFrom next' on (λ y. x) w) (others w d)
              (λ i l k t. put.other (node gates slots wires w i) ((apart gates slots wires on touching w m).small i k t)
              (not-node gates slots wires on touching v w d i u k u< t there) (not_end gates slots wires on touching v w d i k t)
              ∙ filling.each w m i l k t));
          first = λ w m. by-wire gates slots wires (FirstFromOf next' on from') v w
              (λ e. subst (λ (x : ℕ). FirstFromOf next' on (λ y. x) v) (sym is)
              (first-put (node gates slots wires v) (end gates slots wires v) (size gates slots wires) slots (on v) next next' u u< there put.head))
              (λ d. subst (λ (x : ℕ). FirstFromOf next' on (λ y. x) w) (others w d)
              (put.other (end gates slots wires w) (apart gates slots wires on touching w m).low
              (end-not-node gates slots wires on touching v w d u u< there) (ends-differ gates slots wires on touching v w d)
              ∙ filling.first w m));
        }
