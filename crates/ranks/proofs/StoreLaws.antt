-- Four stores at places that rise, a < b < c < d: a value at a, and then the words at b, c and d, changed by one operation.
use mathlib.Core.Path.{◌≡◌, ap, ◌∙◌}
use mathlib.Core.List.{List}
use Prim.Native.Nat.{ℕ, ◌<◌}
use native.Mathlib.Omega.{arith}
use lib.ListN.{length, get_or, set, length-set}
use lib.Seq.{get_or-set_same, get_or-set_other}

-- The word at a place becomes what an operation makes of it.
abbrev pub change : (ℕ → ℕ) → ℕ → List ℕ → List ℕ
change op x words = set words x (op (get_or words x 0))

-- What the words are in the end.
pub record Stored (op : ℕ → ℕ) (v a b c d : ℕ) (was now : List ℕ) : Type 0 where
  pub long : length now ≡ length was
  pub at_a : get_or now a 0 ≡ v
  pub at_b : get_or now b 0 ≡ op (get_or was b 0)
  pub at_c : get_or now c 0 ≡ op (get_or was c 0)
  pub at-d : get_or now d 0 ≡ op (get_or was d 0)
  pub other : (y : ℕ) → (y ≡ a → ⊥) → (y ≡ b → ⊥) → (y ≡ c → ⊥) → (y ≡ d → ⊥) → get_or now y 0 ≡ get_or was y 0

module _ (op : ℕ → ℕ) (v a b c d : ℕ) (words : List ℕ) where
  abbrev pub one : List ℕ
  one = set words a v

  abbrev pub two : List ℕ
  two = change op b one

  abbrev pub three : List ℕ
  three = change op c two

  abbrev pub four : List ℕ
  four = change op d three

  past_one : (y : ℕ) → (y ≡ a → ⊥) → get_or one y 0 ≡ get_or words y 0
  past_one y na = get_or-set_other words a y v 0 na

  past_two : (y : ℕ) → (y ≡ a → ⊥) → (y ≡ b → ⊥) → get_or two y 0 ≡ get_or words y 0
  past_two y na nb = get_or-set_other one b y (op (get_or one b 0)) 0 nb ∙ past_one y na

  past_three : (y : ℕ) → (y ≡ a → ⊥) → (y ≡ b → ⊥) → (y ≡ c → ⊥) → get_or three y 0 ≡ get_or words y 0
  past_three y na nb nc = get_or-set_other two c y (op (get_or two c 0)) 0 nc ∙ past_two y na nb

  -- The operation finds at its place what stood there before all of them.
  module _ (ab : a < b) (bc : b < c) (cd : c < d) where
    pub read-b : get_or one b 0 ≡ get_or words b 0
    read-b = past_one b (omega arith)

    pub read-c : get_or two c 0 ≡ get_or words c 0
    read-c = past_two c (omega arith) (omega arith)

    pub read-d : get_or three d 0 ≡ get_or words d 0
    read-d = past_three d (omega arith) (omega arith) (omega arith)

    pub stored : d < length words → Stored op v a b c d words four
    stored fits =
        record {
          long = simp length-set;
          at_a =
              before-d a (omega arith) ∙ before-c a (omega arith) ∙ before-b a (omega arith)
              ∙ get_or-set_same words a v 0 (omega arith);
          at_b =
              before-d b (omega arith) ∙ before-c b (omega arith)
              ∙ get_or-set_same one b (op (get_or one b 0)) 0 (simp length-set (omega arith))
              ∙ ap op read-b;
          at_c =
              before-d c (omega arith)
              ∙ get_or-set_same two c (op (get_or two c 0)) 0 (simp length-set (omega arith))
              ∙ ap op read-c;
          at-d = get_or-set_same three d (op (get_or three d 0)) 0 (simp length-set fits) ∙ ap op read-d;
          other = λ y na nb nc nd. get_or-set_other three d y (op (get_or three d 0)) 0 nd ∙ past_three y na nb nc;
        }
      where
        before-b : (y : ℕ) → y < b → get_or two y 0 ≡ get_or one y 0
        before-b y l = get_or-set_other one b y (op (get_or one b 0)) 0 (omega arith)

        before-c : (y : ℕ) → y < c → get_or three y 0 ≡ get_or two y 0
        before-c y l = get_or-set_other two c y (op (get_or two c 0)) 0 (omega arith)

        before-d : (y : ℕ) → y < d → get_or four y 0 ≡ get_or three y 0
        before-d y l = get_or-set_other three d y (op (get_or three d 0)) 0 (omega arith)
