-- The buffer that an order comes in  [02 order 5].
use Rattle.std.specs.Prelude.{true, false, List, [], ◌∷◌, ℕ, zero, suc, ◌+◌, ◌*◌, length, take, drop, leb}
use Rattle.std.proofs.Math.Option.{Option, none, some}
use Rattle.text.specs.Runs.{is_empty}
use Rattle.sheet.specs.Order.{Pair, pair, Order, OpenOrder}

-- pairs of an order
abbrev pub pair_limit : ℕ
pair_limit = 16

-- in how many bytes a title's or a value's length is given, and a key's
abbrev pub text_width : ℕ
text_width = 2

abbrev pub key_width : ℕ
key_width = 1

-- some bytes from a buffer's front, and what is left of it
pub record Cut : Type 0 where
  pub bytes : List ℕ
  pub rest : List ℕ

abbrev pub cut_as : List ℕ → List ℕ → Cut
cut_as x y = record { bytes = x; rest = y }

abbrev pub and_then : {A B : Type 0} → Option A → (A → Option B) → Option B
and_then none f = none
and_then (some a) f = f a

-- n bytes; none where the buffer is cut short
unfoldable pub cut : ℕ → List ℕ → Option Cut
cut n x = elim (leb n (length x)) [ true ↦ some (cut_as (take n x) (drop n x)) | false ↦ none ]

-- a number, its low byte first
unfoldable pub low_first : List ℕ → ℕ
low_first [] = 0
low_first (b ∷ x) = b + 256 * low_first x

-- some bytes after their length, which is given in n bytes
unfoldable pub sized : ℕ → List ℕ → Option Cut
unfolding cut low_first
sized n x = and_then (cut n x) (λ c. cut (low_first c.bytes) c.rest)

-- a pair from a buffer's front, and what is left of it
pub record PairCut : Type 0 where
  pub first : Pair
  pub rest : List ℕ

abbrev pub pair_cut : List ℕ → List ℕ → List ℕ → PairCut
pair_cut k v x = record { first = pair k v; rest = x }

-- Per pair key length (one byte), key, value length (as the title's), value.
unfoldable pub pair_in : List ℕ → Option PairCut
unfolding sized
pair_in x = and_then (sized key_width x) (λ k. and_then (sized text_width k.rest) (λ v. some (pair_cut k.bytes v.bytes v.rest)))

-- n pairs, and the buffer ends; none where it is cut short or long
unfoldable pub pairs_in : ℕ → List ℕ → Option (List Pair)
unfolding pair_in
pairs_in zero x = elim (is_empty x) [ true ↦ some [] | false ↦ none ]
pairs_in (suc n) x = and_then (pair_in x) (λ c. and_then (pairs_in n c.rest) (λ ps. some (c.first ∷ ps)))

-- at most 16
unfoldable pub few_pairs_in : ℕ → List ℕ → Option (List Pair)
unfolding pairs_in
few_pairs_in n x = elim (leb n pair_limit) [ true ↦ pairs_in n x | false ↦ none ]

-- Title length (two bytes, low first), title; pair count (one byte, at most 16); the pairs.
unfoldable pub order_in : List ℕ → Option Order
unfolding few_pairs_in
order_in x =
    and_then (sized text_width x) (λ t.
    and_then (cut 1 t.rest) (λ c.
    and_then (few_pairs_in (low_first c.bytes) c.rest) (λ ps. some (record { title = t.bytes; pairs = ps }))))

-- opens the definitions of this file and of those it stands on, for computed examples
unfoldable pub OpenBuffer : Type 1
unfolding OpenOrder cut low_first sized pair_in pairs_in few_pairs_in order_in
OpenBuffer = Type 0
