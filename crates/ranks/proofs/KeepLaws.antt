-- Ranks stay where the words of their region stay.
use mathlib.Core.Path.{◌≡◌, refl, sym, ap, subst, ◌∙◌}
use mathlib.Core.Bool.{Bool, true, false, cond}
use mathlib.Core.List.{List}
use Prim.Native.Nat.{ℕ, ◌+◌, ◌*◌, ◌/◌, ◌%◌, ◌≤◌, ◌<◌}
use native.Mathlib.Omega.{arith}
use lib.Dec.{ltb}
use lib.ListN.{length, get_or}
use borrow.Author.Tests.{ltb-true}
use Rattle.links.specs.Words.{word}
use Rattle.ranks.specs.Ranks.{bit, region, size_for, sums32_at, sums1024_at, sums32768_at, marks, sums32, sums1024, sums32768, SumsOf, Ranks}
use Rattle.ranks.proofs.SumLaws.{below-same}
use Rattle.ranks.proofs.RegionLaws.{marks-same}

region-same : (was now : List ℕ) (at size : ℕ) → ((x : ℕ) → at ≤ x → x < at + size → get_or now x 0 ≡ get_or was x 0) → (i : ℕ) →
    region now at size i ≡ region was at size i
region-same was now at size same i = go (ltb i size) refl
  where
    go : (b : Bool) → ltb i size ≡ b → cond b (word now at i) 0 ≡ cond b (word was at i) 0
    go true e = same (at + i) (omega arith) (omega (arith, ltb-true i size e))
    go false e = refl

sums_same : (low low' up up' : ℕ → ℕ) → ((i : ℕ) → low' i ≡ low i) → ((i : ℕ) → up' i ≡ up i) → SumsOf low up → SumsOf low' up'
sums_same low low' up up' e f h j = below-same up' up j (λ i m. f i) ∙ h j ∙ sym (below-same low' low (32 * j) (λ i m. e i))

pub ranks-same : (was now : List ℕ) (at slots : ℕ) → length now ≡ length was →
    ((x : ℕ) → at ≤ x → x < at + size_for slots → get_or now x 0 ≡ get_or was x 0) → Ranks was at slots → Ranks now at slots
unfolding sums32 sums1024 sums32768
ranks-same was now at slots long same r =
    record {
      within = subst (λ (x : ℕ). at + size_for slots ≤ x) (sym long) r.within;
      few = r.few;
      small = λ i. subst (λ (x : ℕ). x ≤ 1) (sym (by0 i)) (r.small i);
      by32 = sums_same (marks was at slots) (marks now at slots) (sums32 was at slots) (sums32 now at slots) by0 by1 r.by32;
      by1024 = sums_same (sums32 was at slots) (sums32 now at slots) (sums1024 was at slots) (sums1024 now at slots) by1 by2 r.by1024;
      by32768 = sums_same (sums1024 was at slots) (sums1024 now at slots) (sums32768 was at slots) (sums32768 now at slots) by2 by3 r.by32768;
    }
  where
    by0 : (i : ℕ) → marks now at slots i ≡ marks was at slots i
    by0 i = marks-same now was at slots i (λ l. ap (λ (x : ℕ). bit x (i % 32)) (same (at + i / 32) (omega arith) (omega (arith, l))))

    by1 : (i : ℕ) → sums32 now at slots i ≡ sums32 was at slots i
    by1 = region-same was now (at + sums32_at slots) (slots / 32 + 1) (λ x a b. same x (omega arith) (omega arith))

    by2 : (i : ℕ) → sums1024 now at slots i ≡ sums1024 was at slots i
    by2 = region-same was now (at + sums1024_at slots) (slots / 1024 + 1) (λ x a b. same x (omega arith) (omega arith))

    by3 : (i : ℕ) → sums32768 now at slots i ≡ sums32768 was at slots i
    by3 = region-same was now (at + sums32768_at slots) (slots / 32768 + 1) (λ x a b. same x (omega arith) (omega arith))
